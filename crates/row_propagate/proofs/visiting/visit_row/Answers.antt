use Rattle.std.proofs.Common.{◌≡◌, ◌∙◌, ℕ, ◌<◌, ◌≤◌, List, drop, get_or, pos, ◌≤ℤ◌, ◌<ℤ◌, length, FitsSigned, w64, sym, ap, subst, arith, IfOk}
use Rattle.std.proofs.lemmas.Int.{ints, to_z-of_z}
use Rattle.row_propagate.specs.Passes.{after_columns, after_row, open_run, run_of}
use Rattle.ip_core.specs.declared.row.Term.{Term}
use Rattle.row_propagate.specs.Quiet.{IsLoose, no_term}
use Rattle.row_propagate.proofs.Loose.{columns_to, quiet_row}
use Rattle.row_propagate.proofs.VisitLaws.{visitable_at, sum_narrow, least_narrow, room_at, quiet_at, row_conflicts, row_holds, row_open, none_before, all_loose, terms_narrow, passing_quiet}
use Rattle.row_propagate.proofs.visiting.visit_row.Goals as goal

pub returns-then-is_quiet-clause-whole : goal.returns-then-is_quiet-clause-whole
returns-then-is_quiet-clause-whole c = sym (quiet_row c.args.name c.args.row.now c.args.bounds.now c.args.steps.now no_term (quiet_at c.args.model.now c.args.cuts.now c.args.bounds.now c.args.visits.now c.args.place c.args.name c.args.row.now c.requires.passing c.requires.row (sym c.is_quiet.ensures ∙ c.if-is_quiet.true)))

pub room-room-requires-clause-sum : goal.room-room-requires-clause-sum
room-room-requires-clause-sum c = sum_narrow c.args.model.now c.args.cuts.now c.args.bounds.now c.args.visits.now c.args.place c.args.name c.args.row.now c.requires.passing c.requires.row

pub room-room-requires-clause-least : goal.room-room-requires-clause-least
room-room-requires-clause-least c = least_narrow c.args.model.now c.args.cuts.now c.args.bounds.now c.args.visits.now c.args.place c.args.name c.args.row.now c.requires.passing c.requires.row

pub returns-then-room-lt0-clause-whole : goal.returns-then-room-lt0-clause-whole
returns-then-room-lt0-clause-whole c =
    let below : c.room-room.result <ℤ pos 0 = omega (arith, ints, c.if-room-lt0.true) in
    row_conflicts c.args.name c.args.row.now c.args.bounds.now c.args.steps.now c.room-room.result (room_at c.args.model.now c.args.cuts.now c.args.bounds.now c.args.visits.now c.args.place c.args.name c.args.row.now c.room-room.result c.requires.passing c.requires.row c.room-room.ensures) below

pub first_tight-first-requires-clause-known : goal.first_tight-first-requires-clause-known
first_tight-first-requires-clause-known c = rw c.as_slice.ensures (visitable_at c.args.model.now c.args.cuts.now c.args.bounds.now c.args.visits.now c.args.place c.args.name c.args.row.now c.requires.passing c.requires.row).ready.terms

pub first_tight-first-requires-clause-narrow : goal.first_tight-first-requires-clause-narrow
first_tight-first-requires-clause-narrow c = rw c.as_slice.ensures (terms_narrow c.args.bounds.now c.args.row.now (visitable_at c.args.model.now c.args.cuts.now c.args.bounds.now c.args.visits.now c.args.place c.args.name c.args.row.now c.requires.passing c.requires.row).ready)

pub returns-then-first-len-clause-whole : goal.returns-then-first-len-clause-whole
returns-then-first-len-clause-whole c =
    let m = c.args.model.now in
    let cuts = c.args.cuts.now in
    let s = c.args.bounds.now in
    let v = c.args.visits.now in
    let name = c.args.name in
    let row = c.args.row.now in
    let room = c.room-room.result in
    let first = c.first_tight-first.result in
    let visitable = visitable_at m cuts s v c.args.place name row c.requires.passing c.requires.row in
    let same = room_at m cuts s v c.args.place name row room c.requires.passing c.requires.row c.room-room.ensures in
    let above : pos 0 ≤ℤ room = omega (arith, ints, c.if-room-lt0.false) in
    let fits : FitsSigned w64 room = record { sfits = c.room-room.type_inv } in
    let loose : (i : ℕ) → 0 ≤ i → i < first → IsLoose s room (get_or row.terms i no_term) = λ i from below.
    subst (λ (ts : List Term). IsLoose s room (get_or ts i no_term)) c.as_slice.ensures
    (subst (λ z. IsLoose s z (get_or c.as_slice.result.now i no_term)) (to_z-of_z w64 room fits) (c.first_tight-first.ensures.loose i from below)) in
    sym (quiet_row name row s c.args.steps.now no_term (all_loose s row room first visitable same above (c.if-first-len.true ∙ c.len.ensures) loose))

pub returns-then-first-len-clause-passing : goal.returns-then-first-len-clause-passing
returns-then-first-len-clause-passing c =
    let m = c.args.model.now in
    let cuts = c.args.cuts.now in
    let s = c.args.bounds.now in
    let v = c.args.visits.now in
    let name = c.args.name in
    let row = c.args.row.now in
    let room = c.room-room.result in
    let first = c.first_tight-first.result in
    let visitable = visitable_at m cuts s v c.args.place name row c.requires.passing c.requires.row in
    let same = room_at m cuts s v c.args.place name row room c.requires.passing c.requires.row c.room-room.ensures in
    let above : pos 0 ≤ℤ room = omega (arith, ints, c.if-room-lt0.false) in
    let fits : FitsSigned w64 room = record { sfits = c.room-room.type_inv } in
    let loose : (i : ℕ) → 0 ≤ i → i < first → IsLoose s room (get_or row.terms i no_term) = λ i from below.
    subst (λ (ts : List Term). IsLoose s room (get_or ts i no_term)) c.as_slice.ensures
    (subst (λ z. IsLoose s z (get_or c.as_slice.result.now i no_term)) (to_z-of_z w64 room fits) (c.first_tight-first.ensures.loose i from below)) in
    λ still. rw c.set_quiet.ensures (passing_quiet m cuts s v c.args.place name row c.requires.passing c.requires.row (all_loose s row room first visitable same above (c.if-first-len.true ∙ c.len.ensures) loose))

pub returns-clause-whole : goal.returns-clause-whole
returns-clause-whole c =
    let m = c.args.model.now in
    let cuts = c.args.cuts.now in
    let s = c.args.bounds.now in
    let v = c.args.visits.now in
    let name = c.args.name in
    let row = c.args.row.now in
    let room = c.room-room.result in
    let first = c.first_tight-first.result in
    let visitable = visitable_at m cuts s v c.args.place name row c.requires.passing c.requires.row in
    let same = room_at m cuts s v c.args.place name row room c.requires.passing c.requires.row c.room-room.ensures in
    let above : pos 0 ≤ℤ room = omega (arith, ints, c.if-room-lt0.false) in
    let fits : FitsSigned w64 room = record { sfits = c.room-room.type_inv } in
    let loose : (i : ℕ) → 0 ≤ i → i < first → IsLoose s room (get_or row.terms i no_term) = λ i from below.
    subst (λ (ts : List Term). IsLoose s room (get_or ts i no_term)) c.as_slice.ensures
    (subst (λ z. IsLoose s z (get_or c.as_slice.result.now i no_term)) (to_z-of_z w64 room fits) (c.first_tight-first.ensures.loose i from below)) in
    let to : first ≤ length row.terms = omega (arith, c.first_tight-first.ensures.to, ap length c.as_slice.ensures) in
    let whole : after_columns name row (drop first row.terms) (open_run s c.args.steps.now) ≡ after_row name row (open_run s c.args.steps.now) =
    sym (row_open name row s c.args.steps.now (row_holds s row room same above) ∙ columns_to name row row.terms s c.args.steps.now 0 first no_term (omega arith) to (none_before s row room 0 first visitable same to loose)) in
    subst (λ r. IfOk c.tighten_from.result (λ outcome. run_of c.tighten_from.new.bounds c.tighten_from.new.steps outcome ≡ r)) whole c.tighten_from.ensures.whole
