-- What the bound of an ascent is at least.
use Rattle.std.proofs.Common.{◌≡◌, ◌^◌, length, pos, neg_ℤ, ◌≤ℤ◌, refl, arith, List}
use Rattle.std.proofs.lemmas.Int.{ints}
use Rattle.ip_core.specs.Boxes.{IsWithinReach, least_value}
use Rattle.ip_core.specs.Models.{IsModel}
use Rattle.ip_core.specs.Sides.{Sides}
use Rattle.ip_core.specs.declared.model.ModelParts.{ModelParts}
use Rattle.ip_core.specs.declared.row.Row.{Row}
use Rattle.dual_ascent.specs.Laws.{ascent_bound}
use Rattle.dual_ascent.proofs.LeastBounds.{bound_is_above_least, bound_is_above_limit}

-- the bound of an ascent is not far below 0
pub ascent_low : (m : ModelParts) (cuts : List Row) (s : Sides) → IsModel m → IsWithinReach m.root s
    → neg_ℤ (pos (2 ^ 62)) ≤ℤ ascent_bound m cuts s
ascent_low m cuts s valid near = omega (arith, ints, bound_is_above_limit m cuts s valid near)

-- without columns the least value is 0, so that the bound isn't below 0
pub ascent_above : (m : ModelParts) (cuts : List Row) (s : Sides) → length m.costs ≡ 0
    → pos 0 ≤ℤ ascent_bound m cuts s
ascent_above m cuts s none =
    let least : least_value m s ≡ pos 0 = rw none refl in
    omega (arith, ints, least, bound_is_above_least m cuts s)
