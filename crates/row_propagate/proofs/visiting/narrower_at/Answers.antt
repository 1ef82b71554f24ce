use Rattle.std.proofs.Common.{◌≡◌, ◌∙◌, ◌≤◌, ◌<◌, ◌^◌, List, length, get_or, ℤ, ◌-ℤ◌, unsigned_abs, FitsSigned, w64, sym, ap, ap₂, subst, arith}
use Rattle.std.proofs.lemmas.Int.{to_z-of_z}
use Rattle.ip_core.specs.Boxes.{greatest_part}
use Rattle.row_propagate.specs.Rounding.{rounded_bound}
use Rattle.ip_core.specs.Rows.{term_width}
use Rattle.ip_core.specs.declared.row.Term.{Term}
use Rattle.row_propagate.specs.Quiet.{no_term}
use Rattle.row_propagate.proofs.VisitLaws.{terms_narrow, room_narrow, left_narrow, coef_narrow, bound_at}
use Rattle.row_propagate.proofs.visiting.narrower_at.Goals as goal

pub left_of-left-requires-clause-known : goal.left_of-left-requires-clause-known
left_of-left-requires-clause-known c = subst (λ (ts : List Term). (get_or ts c.args.at no_term).col < length c.args.bounds.now.lows) (sym c.as_slice.ensures) (c.requires.row.ready.terms.each c.args.at no_term c.requires.known).known

pub left_of-left-requires-clause-narrow : goal.left_of-left-requires-clause-narrow
left_of-left-requires-clause-narrow c = subst (λ (ts : List Term). term_width c.args.bounds.now (get_or ts c.args.at no_term) ≤ 2 ^ 50) (sym c.as_slice.ensures) ((terms_narrow c.args.bounds.now c.args.row.now c.requires.row.ready).each c.args.at no_term c.requires.known)

pub left_of-left-requires-clause-room : goal.left_of-left-requires-clause-room
left_of-left-requires-clause-room c =
    let fits : FitsSigned w64 c.args.room = record { sfits = c.ranges.room.sfits } in
    rw (to_z-of_z w64 c.args.room fits) (subst (λ z. unsigned_abs z ≤ 2 ^ 50) (sym c.requires.room) (room_narrow c.args.bounds.now c.args.row.now c.requires.row.ready))

pub rounded_bound-requires-clause-known : goal.rounded_bound-requires-clause-known
rounded_bound-requires-clause-known c = rw c.column_at.ensures (c.requires.row.ready.terms.each c.args.at no_term c.requires.known).known

pub rounded_bound-requires-clause-left : goal.rounded_bound-requires-clause-left
rounded_bound-requires-clause-left c =
    let s = c.args.bounds.now in
    let room : FitsSigned w64 c.args.room = record { sfits = c.ranges.room.sfits } in
    let fits : FitsSigned w64 c.left_of-left.result = record { sfits = c.left_of-left.type_inv } in
    let same = c.left_of-left.ensures ∙ ap₂ (λ (ts : List Term) (z : ℤ). greatest_part s (get_or ts c.args.at no_term) -ℤ z) c.as_slice.ensures (to_z-of_z w64 c.args.room room ∙ c.requires.room) in
    rw (to_z-of_z w64 c.left_of-left.result fits) (left_narrow s c.args.row.now c.args.at no_term c.left_of-left.result c.requires.row c.requires.known same)

pub rounded_bound-requires-clause-coef : goal.rounded_bound-requires-clause-coef
rounded_bound-requires-clause-coef c =
    let fits : FitsSigned w64 c.coefficient_at-coef.result = record { sfits = c.coefficient_at-coef.type_inv } in
    rw (to_z-of_z w64 c.coefficient_at-coef.result fits, c.coefficient_at-coef.ensures) (coef_narrow c.args.bounds.now c.args.row.now c.args.at no_term c.requires.row c.requires.known)

pub returns : goal.returns
returns c =
    let s = c.args.bounds.now in
    let term = get_or c.args.row.now.terms c.args.at no_term in
    let left = c.left_of-left.result in
    let room : FitsSigned w64 c.args.room = record { sfits = c.ranges.room.sfits } in
    let left_fits : FitsSigned w64 left = record { sfits = c.left_of-left.type_inv } in
    let coef_fits : FitsSigned w64 c.coefficient_at-coef.result = record { sfits = c.coefficient_at-coef.type_inv } in
    let same = c.left_of-left.ensures ∙ ap₂ (λ (ts : List Term) (z : ℤ). greatest_part s (get_or ts c.args.at no_term) -ℤ z) c.as_slice.ensures (to_z-of_z w64 c.args.room room ∙ c.requires.room) in
    c.rounded_bound.ensures.value
    ∙ ap₂ (λ l k. rounded_bound s c.column_at.result l k) (to_z-of_z w64 left left_fits) (to_z-of_z w64 c.coefficient_at-coef.result coef_fits ∙ c.coefficient_at-coef.ensures)
    ∙ ap (λ j. rounded_bound s j left term.coef) c.column_at.ensures
    ∙ bound_at s c.args.row.now c.args.at no_term left c.requires.row c.requires.known same
