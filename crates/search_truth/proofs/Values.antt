use Rattle.std.proofs.Common.{◌≡◌, ◌<◌, List, length, ℤ, ◌*ℤ◌, ◌≤ℤ◌, arith}
use Rattle.ip_core.specs.Numbers.{int_at}
use Rattle.ip_core.specs.Sides.{Sides, IsInside}
use Rattle.ip_core.specs.Models.{IsModel}
use Rattle.ip_core.specs.Truth.{value_at}
use Rattle.ip_core.specs.declared.model.ModelParts.{ModelParts}
use Rattle.ip_core.specs.Boxes.{least_share, greatest_share, least_value, greatest_value}
use Rattle.ip_core.proofs.Products.{least_product, greatest_product, int_sum_below-le}

-- a point of the box has at least the least value
pub least_value-le : (m : ModelParts) (s : Sides) (y : List ℤ) → IsModel m → length y ≡ length m.cols → IsInside s y → least_value m s ≤ℤ value_at m y
least_value-le m s y valid one_each inside = int_sum_below-le (length m.costs) (least_share m s) (λ j. int_at m.costs j *ℤ int_at y j) (λ j h.
    let known : j < length y = omega (arith, valid.bounds.costs, one_each) in
    least_product (int_at m.costs j) (int_at s.lows j) (int_at y j) (int_at s.highs j) (inside.above j known) (inside.below j known))

-- and at most the greatest value
pub value_at-le_greatest : (m : ModelParts) (s : Sides) (y : List ℤ) → IsModel m → length y ≡ length m.cols → IsInside s y → value_at m y ≤ℤ greatest_value m s
value_at-le_greatest m s y valid one_each inside = int_sum_below-le (length m.costs) (λ j. int_at m.costs j *ℤ int_at y j) (greatest_share m s) (λ j h.
    let known : j < length y = omega (arith, valid.bounds.costs, one_each) in
    greatest_product (int_at m.costs j) (int_at s.lows j) (int_at y j) (int_at s.highs j) (inside.above j known) (inside.below j known))
