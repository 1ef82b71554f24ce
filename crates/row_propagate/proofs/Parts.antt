use Rattle.std.proofs.Common.{ℕ, ◌≤◌, ◌==◌, Bool, true, false, ℤ, pos, unsigned_abs, sum_by, cond, get_or, arith}
use Rattle.std.proofs.lemmas.List.Sums.{sum_by-le-sum_by}
use Rattle.std.proofs.lemmas.Int.{ints}
use Rattle.ip_core.specs.Sides.{Sides}
use Rattle.ip_core.specs.Rows.{term_width, row_width}
use Rattle.ip_core.specs.Boxes.{greatest_part}
use Rattle.ip_core.specs.declared.row.Row.{Row}
use Rattle.ip_core.specs.declared.row.Term.{Term}
use Rattle.ip_core.proofs.BoxParts.{greatest_part_small, coefficient_small}
use Rattle.ip_core.proofs.IntSums.{unsigned_abs-int_sum_by}
use Rattle.row_propagate.specs.Rounding.{other_part, others_activity, remainder}

either_small : (b : Bool) (z : ℤ) (n : ℕ) → unsigned_abs z ≤ n → unsigned_abs (cond b (pos 0) z) ≤ n
either_small true z n small = omega arith
either_small false z n small = small

-- what a term adds at another column is no larger than its part of the width
pub other_part_small : (s : Sides) (col : ℕ) (t : Term) → unsigned_abs (other_part s col t) ≤ term_width s t
other_part_small s col t = either_small (t.col == col) (greatest_part s t) (term_width s t) (greatest_part_small s t)

-- the coefficients of a row are together no larger than its width
pub coefficients_small : (s : Sides) (row : Row) → sum_by (λ t. unsigned_abs t.coef) row.terms ≤ row_width s row
coefficients_small s row = omega (arith, sum_by-le-sum_by (λ (t : Term). unsigned_abs t.coef) (term_width s) row.terms (coefficient_small s))

-- what a row leaves to a column is no larger than the row's width
pub remainder_small : (s : Sides) (row : Row) (col : ℕ) → unsigned_abs (remainder s row col) ≤ row_width s row
remainder_small s row col =
    let others : unsigned_abs (others_activity s row.terms col) ≤ sum_by (term_width s) row.terms = unsigned_abs-int_sum_by (other_part s col) (term_width s) row.terms (λ k d h. other_part_small s col (get_or row.terms k d)) in
    omega (arith, ints, others)
