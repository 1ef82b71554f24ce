use Rattle.std.proofs.Common.{◌≡◌, w64, Some, true, FitsSigned}
use Rattle.std.proofs.lemmas.Int.{to_z-of_z}
use Rattle.width_admit.specs.Exact.{units, whole, are_whole}
use Rattle.width_admit.specs.Sides.{sides}
use Rattle.width_admit.proofs.SideNumbers.{range_is_whole, listed}
use Rattle.width_admit.proofs.HeldNumbers.{held_small}
use Rattle.width_admit.proofs.sides.scaled_sides.Goals as goal

pub scaled_value-requires-clause-whole : goal.scaled_value-requires-clause-whole
scaled_value-requires-clause-whole c =
    let row = c.args.row.now in
    let whole : are_whole (listed (sides row.kind (units row.rhs) (Some (units c.in-Some.range)))) c.args.exponent ≡ true = rw c.in-Some.is at c.requires.whole in
    range_is_whole c.args.exponent row.kind (units row.rhs) (units c.in-Some.range) whole

pub ranged_sides-requires-clause-side : goal.ranged_sides-requires-clause-side
ranged_sides-requires-clause-side c =
    let fits : FitsSigned w64 c.scaled_value-side.result = record { sfits = c.scaled_value-side.type_inv } in
    rw (to_z-of_z w64 c.scaled_value-side.result fits, c.scaled_value-side.ensures) (held_small (whole c.args.exponent (units c.args.row.now.rhs)))
