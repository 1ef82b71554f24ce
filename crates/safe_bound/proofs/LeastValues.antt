use Rattle.std.proofs.Common.{◌≡◌, ◌∙◌, ℕ, zero, suc, ◌*◌, ◌^◌, ◌<◌, ◌≤◌, List, length, replicate, ℤ, pos, negsuc, neg_ℤ, ◌+ℤ◌, ◌*ℤ◌, ◌≤ℤ◌, unsigned_abs, refl, arith, mul-le-mul_left}
use Rattle.std.specs.Int.{int_min}
use Rattle.std.proofs.lemmas.Int.{ints, clamps}
use Rattle.ip_core.specs.Numbers.{int_at, int_sum_below, sum_below}
use Rattle.ip_core.specs.Sides.{Sides, reach}
use Rattle.ip_core.specs.Rows.{coefficient, part_width}
use Rattle.ip_core.specs.Boxes.{least_share, least_value}
use Rattle.ip_core.specs.Models.{IsModel}
use Rattle.ip_core.specs.Quotients.{ceiling_quotient}
use Rattle.ip_core.specs.declared.model.ModelParts.{ModelParts}
use Rattle.ip_core.specs.declared.row.Row.{Row}
use Rattle.ip_core.proofs.IntProducts.{natural_mul_assoc}
use Rattle.ip_core.proofs.IntSums.{unsigned_abs-int_sum_below}
use Rattle.ip_core.proofs.ColumnSums.{int_sum_below-same, int_sum_below-scale, sum_below-le}
use Rattle.ip_core.proofs.Widths.{model_costs_narrow}
use Rattle.safe_bound.specs.Bounds.{all_rows, reduced_cost, share, numerator}
use Rattle.ip_core.specs.Boxes.{IsWithinReach}
use Rattle.safe_bound.proofs.Shares.{share_small}
use Rattle.safe_bound.proofs.Weighted.{weighted_sum-none}

-- a whole number whose multiple is at most a number is at most its quotient by 1,024, rounded up
pub le-ceiling : (a v : ℤ) → (pos 1024 *ℤ v) ≤ℤ a → v ≤ℤ ceiling_quotient a (pos 1024)
le-ceiling (pos zero) v le = omega (arith, ints)
le-ceiling (pos (suc n)) v le = omega (arith, ints)
le-ceiling (negsuc n) v le = omega (arith, ints)

-- with all multipliers 0 the reduced costs are 1,024 times the costs
pub reduced_cost-none : (m : ModelParts) (cuts : List Row) (n j : ℕ) → reduced_cost m cuts (replicate n 0) j ≡ pos 1024 *ℤ int_at m.costs j
unfolding reduced_cost
reduced_cost-none m cuts n j = omega (arith, ints, weighted_sum-none (λ row. coefficient j row.terms) (all_rows m cuts) n)

lesser_scaled : (a b : ℤ) → int_min (pos 1024 *ℤ a) (pos 1024 *ℤ b) ≡ pos 1024 *ℤ int_min a b
lesser_scaled a b = omega (arith, ints, clamps)

share_scaled : (m : ModelParts) (s : Sides) (c : ℤ) (j : ℕ) → c ≡ pos 1024 *ℤ int_at m.costs j → share s c j ≡ pos 1024 *ℤ least_share m s j
share_scaled m s c j same =
    rw (same, natural_mul_assoc 1024 (int_at m.costs j) (int_at s.lows j), natural_mul_assoc 1024 (int_at m.costs j) (int_at s.highs j)) (lesser_scaled (int_at m.costs j *ℤ int_at s.lows j) (int_at m.costs j *ℤ int_at s.highs j))

sum_alone : (a b c : ℤ) → a ≡ pos 0 → b ≡ c → a +ℤ b ≡ c
sum_alone a b c nothing same = omega (arith, ints)

-- and the numerator is 1,024 times the least value
pub numerator-none : (m : ModelParts) (cuts : List Row) (s : Sides) (n : ℕ) → numerator m cuts s (replicate n 0) ≡ pos 1024 *ℤ least_value m s
unfolding numerator
numerator-none m cuts s n =
    let shares : int_sum_below (length m.costs) (λ j. share s (reduced_cost m cuts (replicate n 0) j) j) ≡ pos 1024 *ℤ least_value m s =
    int_sum_below-same (length m.costs) (λ j. share s (reduced_cost m cuts (replicate n 0) j) j) (λ j. pos 1024 *ℤ least_share m s j) (λ j h. share_scaled m s (reduced_cost m cuts (replicate n 0) j) j (reduced_cost-none m cuts n j))
    ∙ int_sum_below-scale (length m.costs) (pos 1024) (least_share m s)
    in
    sum_alone _ _ _ (weighted_sum-none (λ row. row.least) (all_rows m cuts) n) shares
