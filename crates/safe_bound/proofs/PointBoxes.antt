use Rattle.std.proofs.Common.{◌≡◌, ◌∙◌, ℕ, List, length, ℤ, pos, ◌+ℤ◌, ◌-ℤ◌, ◌*ℤ◌, ap, arith}
use Rattle.std.specs.Int.{int_min}
use Rattle.std.proofs.lemmas.Int.{ints, clamps}
use Rattle.ip_core.specs.Numbers.{int_at, int_sum_below}
use Rattle.ip_core.specs.Sides.{Sides}
use Rattle.ip_core.specs.Rows.{activity}
use Rattle.ip_core.specs.Boxes.{least_share, least_value}
use Rattle.ip_core.specs.Truth.{value_at}
use Rattle.ip_core.specs.declared.model.ModelParts.{ModelParts}
use Rattle.ip_core.specs.declared.row.Row.{Row}
use Rattle.ip_core.proofs.ColumnSums.{int_sum_below-same}
use Rattle.safe_bound.specs.Weights.{weighted_sum, weighted_least}
use Rattle.safe_bound.specs.Bounds.{all_rows, reduced_cost, share, numerator}
use Rattle.safe_bound.proofs.Safety.{reduced_value}
use Rattle.safe_bound.proofs.Weighted.{AreKnown, weighted_sum-sub}

lesser_same : (a b : ℤ) → b ≡ a → int_min a b ≡ a
lesser_same a b same = omega (arith, ints, clamps)

-- on a box of one point a share is the cost times the value
share_of_point : (s : Sides) (c : ℤ) (j : ℕ) → s.highs ≡ s.lows → share s c j ≡ c *ℤ int_at s.lows j
share_of_point s c j fixed = lesser_same (c *ℤ int_at s.lows j) (c *ℤ int_at s.highs j) (ap (λ xs. c *ℤ int_at xs j) fixed)

-- so the least value is the point's
pub least_value_of_point : (m : ModelParts) (s : Sides) → s.highs ≡ s.lows → least_value m s ≡ value_at m s.lows
least_value_of_point m s fixed =
    int_sum_below-same (length m.costs) (least_share m s) (λ j. int_at m.costs j *ℤ int_at s.lows j) (λ j h. share_of_point s (int_at m.costs j) j fixed)

joined : (least shares value active : ℤ) → shares ≡ value -ℤ active → least +ℤ shares ≡ value +ℤ (least -ℤ active)
joined least shares value active same = omega (arith, ints)

-- and the numerator is 1,024 times the point's value and, for each row, the multiplier times what the point lacks there
pub numerator_of_point : (m : ModelParts) (cuts : List Row) (s : Sides) (ys : List ℕ) → s.highs ≡ s.lows → AreKnown (length m.costs) (all_rows m cuts) → numerator m cuts s ys ≡ (pos 1024 *ℤ value_at m s.lows) +ℤ weighted_sum (λ row. row.least -ℤ activity s.lows row.terms) (all_rows m cuts) ys
unfolding numerator
numerator_of_point m cuts s ys fixed known =
    let rows = all_rows m cuts in
    let shares : int_sum_below (length m.costs) (λ j. share s (reduced_cost m cuts ys j) j) ≡ (pos 1024 *ℤ value_at m s.lows) -ℤ weighted_sum (λ row. activity s.lows row.terms) rows ys =
    int_sum_below-same (length m.costs) (λ j. share s (reduced_cost m cuts ys j) j) (λ j. reduced_cost m cuts ys j *ℤ int_at s.lows j) (λ j h. share_of_point s (reduced_cost m cuts ys j) j fixed)
    ∙ reduced_value m cuts ys s.lows known
    in
    rw (weighted_sum-sub (λ (row : Row). row.least) (λ (row : Row). activity s.lows row.terms) rows ys) (joined (weighted_least rows ys) (int_sum_below (length m.costs) (λ j. share s (reduced_cost m cuts ys j) j)) (pos 1024 *ℤ value_at m s.lows) (weighted_sum (λ row. activity s.lows row.terms) rows ys) shares)
