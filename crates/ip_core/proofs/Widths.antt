use Rattle.std.proofs.Common.{◌≡◌, ℕ, suc, ◌<◌, ◌≤◌, ◌^◌, List, length, take, ℤ, ◌*ℤ◌, unsigned_abs, sum_by, All, FitsSigned, w64, arith}
use Rattle.std.proofs.lemmas.Int.{fits_signed_from_abs, unsigned_abs-mul}
use Rattle.std.proofs.lemmas.List.Elements.{All-take, All-weaker}
use Rattle.std.proofs.lemmas.List.Sums.{sum_by-take-le}
use Rattle.std.proofs.Math.Nat.{mul-le-mul_left}
use Rattle.ip_core.specs.Numbers.{int_at, int_sum_below, sum_below}
use Rattle.ip_core.specs.Sides.{Sides, IsInside, reach}
use Rattle.ip_core.specs.Rows.{IsTerm, IsRow, part_width, term_width, row_width, activity}
use Rattle.ip_core.specs.Models.{IsModel}
use Rattle.ip_core.specs.declared.model.ModelParts.{ModelParts}
use Rattle.ip_core.specs.declared.row.Term.{Term}
use Rattle.ip_core.specs.declared.row.Row.{Row}
use Rattle.ip_core.proofs.IntSums.{unsigned_abs_between, unsigned_abs-int_sum_by, unsigned_abs-int_sum_below, sum_below_front}

-- what keeps the greatest width fits 64 bits
pub narrow_fits : (z : ℤ) (n : ℕ) → unsigned_abs z ≤ n → n ≤ 2 ^ 50 → FitsSigned w64 z
narrow_fits z n small narrow = fits_signed_from_abs w64 z (omega arith)

-- a value of the box reaches no further than its column
pub value_within_reach : (s : Sides) (x : List ℤ) (j : ℕ) → IsInside s x → j < length x → unsigned_abs (int_at x j) ≤ reach s j
value_within_reach s x j inside known =
    omega (arith, unsigned_abs_between (int_at s.lows j) (int_at x j) (int_at s.highs j) (inside.above j known) (inside.below j known))

-- a coefficient times a value of the box is no larger than its part of the width
pub product_within_width : (s : Sides) (x : List ℤ) (coef : ℤ) (j : ℕ) → IsInside s x → j < length x → unsigned_abs (coef *ℤ int_at x j) ≤ part_width s coef j
product_within_width s x coef j inside known =
    rw unsigned_abs-mul (mul-le-mul_left (unsigned_abs coef) (value_within_reach s x j inside known))

-- a front of a row adds up to no more than the row's width
pub front_within_width : (s : Sides) (x : List ℤ) (row : Row) (n i : ℕ) → IsInside s x → length x ≡ n → IsRow n s row → unsigned_abs (activity x (take i row.terms)) ≤ row_width s row
front_within_width s x row n i inside long valid =
    let Small : Term → Type 0 = λ t. unsigned_abs (t.coef *ℤ int_at x t.col) ≤ term_width s t in
    let small : All Small row.terms =
    All-weaker (IsTerm n) Small (λ t known. product_within_width s x t.coef t.col inside (omega (arith, known.known))) row.terms valid.terms.each
    in
    let front : unsigned_abs (activity x (take i row.terms)) ≤ sum_by (term_width s) (take i row.terms) =
    unsigned_abs-int_sum_by (λ (t : Term). t.coef *ℤ int_at x t.col) (term_width s) (take i row.terms) (All-take Small i row.terms small)
    in
    omega (arith, front, sum_by-take-le (term_width s) row.terms i)

-- the first n products of costs and values add up to no more than the width of all
pub costs_within_width : (s : Sides) (x costs : List ℤ) (i n : ℕ) → IsInside s x → i ≤ n → n ≤ length x → unsigned_abs (int_sum_below i (λ j. int_at costs j *ℤ int_at x j)) ≤ sum_below n (λ j. part_width s (int_at costs j) j)
costs_within_width s x costs i n inside few long =
    let front = unsigned_abs-int_sum_below i (λ j. int_at costs j *ℤ int_at x j) (λ j. part_width s (int_at costs j) j) (λ j h. product_within_width s x (int_at costs j) j inside (omega arith)) in
    omega (arith, front, sum_below_front i n (λ j. part_width s (int_at costs j) j) few)

-- a column's part of the objective's width is at most all of it
pub part_within_width : (s : Sides) (costs : List ℤ) (j n : ℕ) → j < n → part_width s (int_at costs j) j ≤ sum_below n (λ k. part_width s (int_at costs k) k)
part_within_width s costs j n known = omega (arith, sum_below_front (suc j) n (λ k. part_width s (int_at costs k) k) (omega arith))

-- the parts of a model's costs add up to at most the greatest width
pub model_costs_narrow : (m parts : ModelParts) (costs : List ℤ) → parts ≡ m → costs ≡ parts.costs → IsModel m → sum_below (length costs) (λ k. part_width parts.root (int_at costs k) k) ≤ 2 ^ 50
model_costs_narrow m parts costs same_parts same_costs valid = rw (same_costs, same_parts) (omega (arith, valid.objective))
