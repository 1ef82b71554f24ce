use Rattle.std.proofs.Common.{◌≡◌, ◌∙◌, ℕ, ◌<◌, List, length, ℤ, pos, negsuc, ◌+ℤ◌, ◌-ℤ◌, ◌*ℤ◌, ◌≤ℤ◌, zero, suc, ap, arith}
use Rattle.std.proofs.lemmas.Int.{ints}
use Rattle.std.proofs.lemmas.List.Elements.{All-weaker, All-append}
use Rattle.ip_core.specs.Numbers.{int_at, int_sum_below}
use Rattle.ip_core.specs.Sides.{Sides, IsInside}
use Rattle.ip_core.specs.Rows.{activity, IsMet, AreMet, IsRow, AreRows, AreTerms}
use Rattle.ip_core.specs.Models.{IsModel}
use Rattle.ip_core.specs.Truth.{value_at}
use Rattle.ip_core.specs.declared.model.ModelParts.{ModelParts}
use Rattle.ip_core.specs.declared.row.Row.{Row}
use Rattle.ip_core.proofs.Products.{least_product, int_sum_below-le}
use Rattle.ip_core.specs.Quotients.{ceiling_quotient}
use Rattle.safe_bound.specs.Bounds.{all_rows, reduced_cost, share, numerator}
use Rattle.safe_bound.specs.Weights.{weighted_sum, weighted_coefficient, weighted_least}
use Rattle.safe_bound.specs.Laws.{BoundIsSafe}
use Rattle.ip_core.proofs.IntProducts.{sub_mul, natural_mul_assoc}
use Rattle.ip_core.proofs.ColumnSums.{int_sum_below-same, int_sum_below-sub, int_sum_below-scale}
use Rattle.safe_bound.proofs.Weighted.{AreKnown, rows_by_columns, weighted_sum-le}

-- the rows of a model, and cuts beside them, have its columns
pub rows_known : (m : ModelParts) (cuts : List Row) → IsModel m → AreRows (length m.cols) m.root cuts → AreKnown (length m.costs) (all_rows m cuts)
rows_known m cuts valid cut_rows =
    let Known : Row → Type 0 = λ row. AreTerms (length m.costs) row.terms in
    let known : (row : Row) → IsRow (length m.cols) m.root row → Known row = λ row is_row. rw valid.bounds.costs is_row.terms in
    record { each = All-append Known m.rows cuts (All-weaker (IsRow (length m.cols) m.root) Known known m.rows valid.rows.each) (All-weaker (IsRow (length m.cols) m.root) Known known cuts cut_rows.each) }

-- reduced costs times a point: 1,024 times its value, less the weighted activities of the rows
pub reduced_value : (m : ModelParts) (cuts : List Row) (ys : List ℕ) (x : List ℤ) → AreKnown (length m.costs) (all_rows m cuts) → int_sum_below (length m.costs) (λ j. reduced_cost m cuts ys j *ℤ int_at x j) ≡ (pos 1024 *ℤ value_at m x) -ℤ weighted_sum (λ row. activity x row.terms) (all_rows m cuts) ys
unfolding reduced_cost
reduced_value m cuts ys x known =
    let n = length m.costs in
    let scaled : ℕ → ℤ = λ j. pos 1024 *ℤ int_at m.costs j in
    let weighted : ℕ → ℤ = λ j. weighted_coefficient j (all_rows m cuts) ys in
    int_sum_below-same n (λ j. (scaled j -ℤ weighted j) *ℤ int_at x j) (λ j. (scaled j *ℤ int_at x j) -ℤ (weighted j *ℤ int_at x j)) (λ j h. sub_mul (scaled j) (weighted j) (int_at x j))
    ∙ int_sum_below-sub n (λ j. scaled j *ℤ int_at x j) (λ j. weighted j *ℤ int_at x j)
    ∙ ap (λ z. z -ℤ int_sum_below n (λ j. weighted j *ℤ int_at x j)) (int_sum_below-same n (λ j. scaled j *ℤ int_at x j) (λ j. pos 1024 *ℤ (int_at m.costs j *ℤ int_at x j)) (λ j h. natural_mul_assoc 1024 (int_at m.costs j) (int_at x j)) ∙ int_sum_below-scale n (pos 1024) (λ j. int_at m.costs j *ℤ int_at x j))
    ∙ ap (λ z. (pos 1024 *ℤ value_at m x) -ℤ z) (rows_by_columns n (int_at x) (all_rows m cuts) ys known)

joined : (a b c d e : ℤ) → a ≤ℤ c → b ≤ℤ d → d ≡ e -ℤ c → (a +ℤ b) ≤ℤ e
joined a b c d e first second same = omega (arith, ints)

-- no point of the box that meets the rows has 1,024 times its value below the numerator
pub numerator-le : (m : ModelParts) (cuts : List Row) (s : Sides) (ys : List ℕ) (x : List ℤ) → IsModel m → AreRows (length m.cols) m.root cuts → length x ≡ length m.cols → IsInside s x → AreMet x (all_rows m cuts) → numerator m cuts s ys ≤ℤ (pos 1024 *ℤ value_at m x)
unfolding numerator
numerator-le m cuts s ys x valid cut_rows one_each inside met =
    let n = length m.costs in
    let rows = all_rows m cuts in
    let sides : weighted_least rows ys ≤ℤ weighted_sum (λ row. activity x row.terms) rows ys =
    weighted_sum-le (λ row. row.least) (λ row. activity x row.terms) rows ys (All-weaker (IsMet x) (λ row. row.least ≤ℤ activity x row.terms) (λ row is_met. is_met.reached) rows met.each)
    in
    let shares : int_sum_below n (λ j. share s (reduced_cost m cuts ys j) j) ≤ℤ int_sum_below n (λ j. reduced_cost m cuts ys j *ℤ int_at x j) =
    int_sum_below-le n (λ j. share s (reduced_cost m cuts ys j) j) (λ j. reduced_cost m cuts ys j *ℤ int_at x j) (λ j h.
    let known : j < length x = omega (arith, valid.bounds.costs) in
    least_product (reduced_cost m cuts ys j) (int_at s.lows j) (int_at x j) (int_at s.highs j) (inside.above j known) (inside.below j known))
    in
    joined (weighted_least rows ys) (int_sum_below n (λ j. share s (reduced_cost m cuts ys j) j)) (weighted_sum (λ row. activity x row.terms) rows ys) (int_sum_below n (λ j. reduced_cost m cuts ys j *ℤ int_at x j)) (pos 1024 *ℤ value_at m x) sides shares (reduced_value m cuts ys x (rows_known m cuts valid cut_rows))

-- a quotient by 1,024 rounded up is no greater than a whole number that is no less than the quotient
pub ceiling-le : (a v : ℤ) → a ≤ℤ (pos 1024 *ℤ v) → ceiling_quotient a (pos 1024) ≤ℤ v
ceiling-le (pos zero) v le = omega (arith, ints)
ceiling-le (pos (suc n)) v le = omega (arith, ints)
ceiling-le (negsuc n) v le = omega (arith, ints)

-- so no such point has a value below the bound
pub bound_is_safe : BoundIsSafe
bound_is_safe m cuts s ys x valid cut_rows one_each inside met = ceiling-le (numerator m cuts s ys) (value_at m x) (numerator-le m cuts s ys x valid cut_rows one_each inside met)
