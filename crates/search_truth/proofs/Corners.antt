use Rattle.std.proofs.Common.{◌≡◌, ℕ, ◌<◌, List, length, ℤ, pos, negsuc, ◌*ℤ◌, ◌≤ℤ◌, if◌then◌else◌, int_le, true, false, arith}
use Rattle.std.specs.Int.{int_min}
use Rattle.std.proofs.lemmas.Int.{ints, clamps}
use Rattle.std.proofs.lemmas.Bool.Decides.{nat_tests}
use Rattle.ip_core.specs.Numbers.{int_at}
use Rattle.ip_core.specs.Sides.{Sides, IsInside, HasNoEmpty}
use Rattle.ip_core.specs.Models.{IsModel}
use Rattle.ip_core.specs.Truth.{value_at}
use Rattle.ip_core.specs.declared.model.ModelParts.{ModelParts}
use Rattle.ip_core.specs.Boxes.{IsWithin, least_share, least_value}
use Rattle.search_truth.specs.Boxes.{IsCheapestCorner}
use Rattle.ip_core.proofs.ColumnSums.{int_sum_below-same}
use Rattle.ip_core.proofs.Products.{mul_pos-le, mul_negsuc-le}
use Rattle.search_truth.proofs.Within.{inside_root, within_columns}

at_least_zero : (n : ℕ) → int_le (pos 0) (pos n) ≡ true
at_least_zero n = grind (arith, ints, nat_tests)

int_min_left : (a b : ℤ) → a ≤ℤ b → a ≡ int_min a b
int_min_left a b le = omega (arith, ints, clamps)

int_min_right : (a b : ℤ) → b ≤ℤ a → b ≡ int_min a b
int_min_right a b le = omega (arith, ints, clamps)

-- at the cheapest end of an open column a cost costs its least
pub cheapest_product : (c low high : ℤ) → low ≤ℤ high → c *ℤ (if int_le (pos 0) c then low else high) ≡ int_min (c *ℤ low) (c *ℤ high)
cheapest_product (pos n) low high ordered = rw (at_least_zero n) (int_min_left (pos n *ℤ low) (pos n *ℤ high) (mul_pos-le n low high ordered))
cheapest_product (negsuc n) low high ordered = int_min_right (negsuc n *ℤ low) (negsuc n *ℤ high) (mul_negsuc-le n low high ordered)

end_inside : (c low high : ℤ) → low ≤ℤ high → (low ≤ℤ (if int_le (pos 0) c then low else high)) × ((if int_le (pos 0) c then low else high) ≤ℤ high)
end_inside c low high ordered = elim (int_le (pos 0) c) as (λ b. (low ≤ℤ (if b then low else high)) × ((if b then low else high) ≤ℤ high)) [ true ↦ (omega (arith, ints), ordered) | false ↦ (ordered, omega (arith, ints)) ]

open_at : (m : ModelParts) (s : Sides) (x : List ℤ) (j : ℕ) → IsModel m → IsWithin m.root s → HasNoEmpty s → length x ≡ length m.cols → j < length x → int_at s.lows j ≤ℤ int_at s.highs j
open_at m s x j valid within inhabited one_each known = (inhabited.all j (omega (arith, within_columns m s valid within))).ordered

-- the cheapest corner of a box without empty columns has the least value
pub corner_least : (m : ModelParts) (s : Sides) (x : List ℤ) → IsModel m → IsWithin m.root s → HasNoEmpty s → IsCheapestCorner m s x → value_at m x ≡ least_value m s
corner_least m s x valid within inhabited corner = int_sum_below-same (length m.costs) (λ j. int_at m.costs j *ℤ int_at x j) (least_share m s) (λ j h.
    let known : j < length x = omega (arith, valid.bounds.costs, corner.one_each) in
    rw (corner.ends j known) (cheapest_product (int_at m.costs j) (int_at s.lows j) (int_at s.highs j) (open_at m s x j valid within inhabited corner.one_each known)))

-- it is a point of the box
pub corner_inside : (m : ModelParts) (s : Sides) (x : List ℤ) → IsModel m → IsWithin m.root s → HasNoEmpty s → IsCheapestCorner m s x → IsInside s x
corner_inside m s x valid within inhabited corner = record {
  above = λ j h. rw (corner.ends j h) (end_inside (int_at m.costs j) (int_at s.lows j) (int_at s.highs j) (open_at m s x j valid within inhabited corner.one_each h)).0;
  below = λ j h. rw (corner.ends j h) (end_inside (int_at m.costs j) (int_at s.lows j) (int_at s.highs j) (open_at m s x j valid within inhabited corner.one_each h)).1;
}

-- and so a point of the root box
pub corner_inside_root : (m : ModelParts) (s : Sides) (x : List ℤ) → IsModel m → IsWithin m.root s → HasNoEmpty s → IsCheapestCorner m s x → IsInside m.root x
corner_inside_root m s x valid within inhabited corner =
    inside_root m.root s x within (omega (arith, within_columns m s valid within, corner.one_each)) (corner_inside m s x valid within inhabited corner)
