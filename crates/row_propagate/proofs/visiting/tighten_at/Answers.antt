use Rattle.std.proofs.Common.{◌≡◌, ◌∙◌, [], ◌∷◌, ◌≤ℤ◌, length, get_or, FitsSigned, w64, sym, ap, subst, arith}
use Rattle.std.proofs.lemmas.Int.{ints, to_z-of_z}
use Rattle.ip_core.specs.Numbers.{int_at}
use Rattle.ip_core.specs.Sides.{Sides}
use Rattle.row_propagate.specs.Kept.{AreColumns, IsMovable}
use Rattle.row_propagate.specs.Quiet.{HasQuietLeft, no_term}
use Rattle.row_propagate.specs.Rounding.{narrower_bound, narrower_box}
use Rattle.row_propagate.proofs.Going.{open_is}
use Rattle.row_propagate.proofs.Stepping.{narrower_box_within, ordered_at, step_replay}
use Rattle.row_propagate.proofs.VisitLaws.{visitable_at, sum_narrow, least_narrow, room_at, col_known, col_inside, made_columns, flags_known, passing_kept, move_of, passing_moved}
use Rattle.row_propagate.proofs.visiting.tighten_at.Goals as goal

pub room-room-requires-clause-sum : goal.room-room-requires-clause-sum
room-room-requires-clause-sum c = sum_narrow c.args.model.now c.args.cuts.now c.args.bounds.now c.args.visits.now c.args.place c.args.name c.args.row.now c.requires.passing c.requires.row

pub room-room-requires-clause-least : goal.room-room-requires-clause-least
room-room-requires-clause-least c = least_narrow c.args.model.now c.args.cuts.now c.args.bounds.now c.args.visits.now c.args.place c.args.name c.args.row.now c.requires.passing c.requires.row

pub narrower_at-requires-clause-row : goal.narrower_at-requires-clause-row
narrower_at-requires-clause-row c = visitable_at c.args.model.now c.args.cuts.now c.args.bounds.now c.args.visits.now c.args.place c.args.name c.args.row.now c.requires.passing c.requires.row

pub narrower_at-requires-clause-room : goal.narrower_at-requires-clause-room
narrower_at-requires-clause-room c =
    let fits : FitsSigned w64 c.room-room.result = record { sfits = c.room-room.type_inv } in
    rw (to_z-of_z w64 c.room-room.result fits) (room_at c.args.model.now c.args.cuts.now c.args.bounds.now c.args.visits.now c.args.place c.args.name c.args.row.now c.room-room.result c.requires.passing c.requires.row c.room-room.ensures)

pub get-old-requires : goal.get-old-requires
get-old-requires c = col_inside c.args.model.now c.args.cuts.now c.args.bounds.now c.args.visits.now c.args.place c.args.name c.args.row.now c.args.at c.column_at-col.result c.requires.passing c.requires.row c.requires.at c.column_at-col.ensures

pub apply-requires : goal.apply-requires
apply-requires c = col_inside c.args.model.now c.args.cuts.now c.args.bounds.now c.args.visits.now c.args.place c.args.name c.args.row.now c.args.at c.column_at-col.result c.requires.passing c.requires.row c.requires.at c.column_at-col.ensures

pub outcome_at-outcome-requires : goal.outcome_at-outcome-requires
outcome_at-outcome-requires c =
    let inside = col_inside c.args.model.now c.args.cuts.now c.args.bounds.now c.args.visits.now c.args.place c.args.name c.args.row.now c.args.at c.column_at-col.result c.requires.passing c.requires.row c.requires.at c.column_at-col.ensures in
    rw (c.apply.ensures, (narrower_box_within c.args.bounds.now c.column_at-col.result c.in-Some.bound).as_many_lows) inside

pub get-requires : goal.get-requires
get-requires c =
    let inside = col_inside c.args.model.now c.args.cuts.now c.args.bounds.now c.args.visits.now c.args.place c.args.name c.args.row.now c.args.at c.column_at-col.result c.requires.passing c.requires.row c.requires.at c.column_at-col.ensures in
    rw (c.apply.ensures, (narrower_box_within c.args.bounds.now c.column_at-col.result c.in-Some.bound).as_many_lows) inside

pub returns-then-not-is_open-clause-within : goal.returns-then-not-is_open-clause-within
returns-then-not-is_open-clause-within c = rw c.apply.ensures (narrower_box_within c.args.bounds.now c.column_at-col.result c.in-Some.bound)

pub returns-clause-within : goal.returns-clause-within
returns-clause-within c = rw c.apply.ensures (narrower_box_within c.args.bounds.now c.column_at-col.result c.in-Some.bound)

pub returns-then-not-is_open-clause-replays : goal.returns-then-not-is_open-clause-replays
returns-then-not-is_open-clause-replays c =
    let inside = col_inside c.args.model.now c.args.cuts.now c.args.bounds.now c.args.visits.now c.args.place c.args.name c.args.row.now c.args.at c.column_at-col.result c.requires.passing c.requires.row c.requires.at c.column_at-col.ensures in
    let some = ap (narrower_bound c.args.row.now c.args.bounds.now) c.column_at-col.ensures ∙ sym c.narrower_at.ensures ∙ c.in-Some.is in
    rw (c.apply.ensures, c.in_ok-push.ensures.ok, c.tightening.ensures) (step_replay c.args.model.now.rows c.args.cuts.now c.args.name c.args.row.now c.args.bounds.now c.args.steps.now c.column_at-col.result c.in-Some.bound c.requires.row.named c.requires.passing.solid inside some)

pub returns-clause-replays : goal.returns-clause-replays
returns-clause-replays c =
    let inside = col_inside c.args.model.now c.args.cuts.now c.args.bounds.now c.args.visits.now c.args.place c.args.name c.args.row.now c.args.at c.column_at-col.result c.requires.passing c.requires.row c.requires.at c.column_at-col.ensures in
    let some = ap (narrower_bound c.args.row.now c.args.bounds.now) c.column_at-col.ensures ∙ sym c.narrower_at.ensures ∙ c.in-Some.is in
    rw (c.apply.ensures, c.in_ok-push.ensures.ok, c.tightening.ensures) (step_replay c.args.model.now.rows c.args.cuts.now c.args.name c.args.row.now c.args.bounds.now c.args.steps.now c.column_at-col.result c.in-Some.bound c.requires.row.named c.requires.passing.solid inside some)

pub moved-requires-clause-kept : goal.moved-requires-clause-kept
moved-requires-clause-kept c =
    let m = c.args.model.now in
    let cuts = c.args.cuts.now in
    let s = c.args.bounds.now in
    let v = c.args.visits.now in
    let col = c.column_at-col.result in
    let bound = c.in-Some.bound in
    let passing = c.requires.passing in
    let kept_columns = c.index.new.self.activities.columns in
    let known = col_known m cuts s v c.args.place c.args.name c.args.row.now c.args.at col passing c.requires.row c.requires.at c.column_at-col.ensures in
    let made = made_columns m cuts _ c.rows.result.now v.activities.columns kept_columns (ap length c.cols.ensures) c.rows.ensures c.in_ok-index.ensures.ok passing.indexed in
    let to_low : c.get.result.0 ≡ int_at (narrower_box s col bound).lows col = c.get.ensures.low ∙ ap (λ (b : Sides). int_at b.lows col) c.apply.ensures in
    let to_high : c.get.result.1 ≡ int_at (narrower_box s col bound).highs col = c.get.ensures.high ∙ ap (λ (b : Sides). int_at b.highs col) c.apply.ensures in
    let still = open_is c.outcome_at-outcome.result (sym c.is_open.ensures ∙ c.if-not-is_open.false) in
    let ends = ordered_at c.apply.new.bounds col (sym c.outcome_at-outcome.ensures ∙ still) in
    let ordered : c.get.result.0 ≤ℤ c.get.result.1 = omega (arith, ints, c.get.ensures.low, c.get.ensures.high, ends) in
    let kept = passing_kept m cuts s v c.index.new.self.activities passing c.index.ensures.sums made in
    let move = move_of m cuts s v col bound c.get-old.result.0 c.get-old.result.1 c.get.result.0 c.get.result.1 passing known c.get-old.ensures.low c.get-old.ensures.high to_low to_high ordered in
    record { model = m; cuts = cuts; sides = s; kept = kept; move = move }

pub moved-requires-clause-known : goal.moved-requires-clause-known
moved-requires-clause-known c =
    let m = c.args.model.now in
    let cuts = c.args.cuts.now in
    let s = c.args.bounds.now in
    let v = c.args.visits.now in
    let col = c.column_at-col.result in
    let bound = c.in-Some.bound in
    let passing = c.requires.passing in
    let kept_columns = c.index.new.self.activities.columns in
    let known = col_known m cuts s v c.args.place c.args.name c.args.row.now c.args.at col passing c.requires.row c.requires.at c.column_at-col.ensures in
    let made = made_columns m cuts _ c.rows.result.now v.activities.columns kept_columns (ap length c.cols.ensures) c.rows.ensures c.in_ok-index.ensures.ok passing.indexed in
    flags_known m cuts s v kept_columns c.index.new.self.quiet col passing c.index.ensures.quiet made known

pub returns-clause-passing : goal.returns-clause-passing
returns-clause-passing c =
    let m = c.args.model.now in
    let cuts = c.args.cuts.now in
    let s = c.args.bounds.now in
    let v = c.args.visits.now in
    let col = c.column_at-col.result in
    let bound = c.in-Some.bound in
    let passing = c.requires.passing in
    let kept_columns = c.index.new.self.activities.columns in
    let known = col_known m cuts s v c.args.place c.args.name c.args.row.now c.args.at col passing c.requires.row c.requires.at c.column_at-col.ensures in
    let made = made_columns m cuts _ c.rows.result.now v.activities.columns kept_columns (ap length c.cols.ensures) c.rows.ensures c.in_ok-index.ensures.ok passing.indexed in
    let to_low : c.get.result.0 ≡ int_at (narrower_box s col bound).lows col = c.get.ensures.low ∙ ap (λ (b : Sides). int_at b.lows col) c.apply.ensures in
    let to_high : c.get.result.1 ≡ int_at (narrower_box s col bound).highs col = c.get.ensures.high ∙ ap (λ (b : Sides). int_at b.highs col) c.apply.ensures in
    let still = open_is c.outcome_at-outcome.result (sym c.is_open.ensures ∙ c.if-not-is_open.false) in
    let ends = ordered_at c.apply.new.bounds col (sym c.outcome_at-outcome.ensures ∙ still) in
    let ordered : c.get.result.0 ≤ℤ c.get.result.1 = omega (arith, ints, c.get.ensures.low, c.get.ensures.high, ends) in
    let kept = passing_kept m cuts s v c.index.new.self.activities passing c.index.ensures.sums made in
    let move = move_of m cuts s v col bound c.get-old.result.0 c.get-old.result.1 c.get.result.0 c.get.result.1 passing known c.get-old.ensures.low c.get-old.ensures.high to_low to_high ordered in
    let left = subst (λ q. HasQuietLeft (get_or kept_columns col []) q c.moved.new.self.quiet) c.index.ensures.quiet c.moved.ensures.quiet in
    λ same. rw c.apply.ensures (passing_moved m cuts s v c.moved.new.self kept_columns col bound c.get.result.0 c.get.result.1 passing known to_low to_high ordered made (c.moved.ensures.keeps m cuts s kept move) left)
