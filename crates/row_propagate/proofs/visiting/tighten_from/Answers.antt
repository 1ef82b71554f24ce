use Rattle.std.proofs.Common.{◌≡◌, ◌∙◌, ℕ, ◌+◌, ◌<◌, ◌≤◌, List, drop, length, get_or, FitsSigned, w64, sym, ap, subst, arith}
use Rattle.std.proofs.lemmas.Int.{to_z-of_z}
use Rattle.ip_core.specs.Rows.{AreTerms}
use Rattle.ip_core.specs.declared.row.Term.{Term}
use Rattle.ip_core.proofs.NarrowerBoxes.{within_both}
use Rattle.row_propagate.specs.Passes.{after_columns, open_run}
use Rattle.row_propagate.specs.Quiet.{AreNarrowTerms, IsLoose, no_term}
use Rattle.row_propagate.proofs.Going.{columns_next, go_open, open_is, replay_both}
use Rattle.row_propagate.proofs.Loose.{columns_to}
use Rattle.row_propagate.proofs.VisitLaws.{visitable_at, sum_narrow, least_narrow, room_at, none_before, terms_narrow}
use Rattle.row_propagate.proofs.visiting.tighten_from.Goals as goal

pub returns-in_err-outcome-clause-within : goal.returns-in_err-outcome-clause-within
returns-in_err-outcome-clause-within c = within_both _ _ _ c.loop-at.invariant.within c.tighten_at.ensures.within

pub returns-then-not-is_open-clause-within : goal.returns-then-not-is_open-clause-within
returns-then-not-is_open-clause-within c = within_both _ _ _ c.loop-at.invariant.within c.tighten_at.ensures.within

pub returns-then-not-is_open-clause-replays : goal.returns-then-not-is_open-clause-replays
returns-then-not-is_open-clause-replays c = replay_both c.args.model.now.rows c.args.cuts.now _ _ _ _ _ _ c.loop-at.invariant.replays c.tighten_at.ensures.replays

pub room-room-requires-clause-sum : goal.room-room-requires-clause-sum
room-room-requires-clause-sum c =
    let passing = c.in_ok-outcome.ensures.passing (open_is c.in_ok-outcome.outcome (sym c.is_open.ensures ∙ c.if-not-is_open.false)) in
    sum_narrow c.args.model.now c.args.cuts.now c.tighten_at.new.bounds c.tighten_at.new.visits c.args.place c.args.name c.args.row.now passing c.requires.row

pub room-room-requires-clause-least : goal.room-room-requires-clause-least
room-room-requires-clause-least c = least_narrow c.args.model.now c.args.cuts.now c.args.bounds.now c.args.visits.now c.args.place c.args.name c.args.row.now c.requires.passing c.requires.row

pub first_tight-at-requires-clause-known : goal.first_tight-at-requires-clause-known
first_tight-at-requires-clause-known c =
    let passing = c.in_ok-outcome.ensures.passing (open_is c.in_ok-outcome.outcome (sym c.is_open.ensures ∙ c.if-not-is_open.false)) in
    rw c.as_slice.ensures (visitable_at c.args.model.now c.args.cuts.now c.tighten_at.new.bounds c.tighten_at.new.visits c.args.place c.args.name c.args.row.now passing c.requires.row).ready.terms

pub first_tight-at-requires-clause-narrow : goal.first_tight-at-requires-clause-narrow
first_tight-at-requires-clause-narrow c =
    let passing = c.in_ok-outcome.ensures.passing (open_is c.in_ok-outcome.outcome (sym c.is_open.ensures ∙ c.if-not-is_open.false)) in
    rw c.as_slice.ensures (terms_narrow c.tighten_at.new.bounds c.args.row.now (visitable_at c.args.model.now c.args.cuts.now c.tighten_at.new.bounds c.tighten_at.new.visits c.args.place c.args.name c.args.row.now passing c.requires.row).ready)

pub loop-at-preserved : goal.loop-at-preserved
loop-at-preserved c =
    let name = c.args.name in
    let row = c.args.row.now in
    let s = c.tighten_at.new.bounds in
    let steps = c.tighten_at.new.steps in
    let at = c.loop-at.at in
    let next = c.first_tight-at.result in
    let open_outcome = sym c.is_open.ensures ∙ c.if-not-is_open.false in
    let passing = c.in_ok-outcome.ensures.passing (open_is c.in_ok-outcome.outcome open_outcome) in
    let visitable = visitable_at c.args.model.now c.args.cuts.now s c.tighten_at.new.visits c.args.place name row passing c.requires.row in
    let room = room_at c.args.model.now c.args.cuts.now s c.tighten_at.new.visits c.args.place name row c.room-room.result passing c.requires.row c.room-room.ensures in
    let start = open_run c.loop-at.bounds c.loop-at.steps in
    let fits : FitsSigned w64 c.room-room.result = record { sfits = c.room-room.type_inv } in
    let loose : (i : ℕ) → at + 1 ≤ i → i < next → IsLoose s c.room-room.result (get_or row.terms i no_term) = λ i from below.
    subst (λ (ts : List Term). IsLoose s c.room-room.result (get_or ts i no_term)) c.as_slice.ensures
    (subst (λ z. IsLoose s z (get_or c.as_slice.result.now i no_term)) (to_z-of_z w64 c.room-room.result fits) (c.first_tight-at.ensures.loose i from below)) in
    let within : at < length row.terms = omega (arith, c.loop-at-test.true, c.len.ensures) in
    let to : next ≤ length row.terms = omega (arith, c.first_tight-at.ensures.to, ap length c.as_slice.ensures) in
    record {
      whole = sym (columns_next name row row.terms at no_term start within ∙ go_open _ _ _ c.in_ok-outcome.outcome (after_columns name row (drop (at + 1) row.terms)) c.in_ok-outcome.ensures.whole open_outcome ∙ columns_to name row row.terms s steps (at + 1) next no_term c.first_tight-at.ensures.from to (none_before s row c.room-room.result (at + 1) next visitable room to loose)) ∙ c.loop-at.invariant.whole;
      within = within_both _ _ _ c.loop-at.invariant.within c.tighten_at.ensures.within;
      passing = passing;
      replays = replay_both c.args.model.now.rows c.args.cuts.now _ _ _ _ _ _ c.loop-at.invariant.replays c.tighten_at.ensures.replays;
      to = to;
    }
