use Rattle.std.proofs.Common.{ℕ, ◌+◌, ◌*◌, ◌^◌, ◌<◌, ◌≤◌, Bool, true, false, ◌==◌, if◌then◌else◌, List, [], ◌∷◌, length, take, get_or, ℤ, pos, negsuc, ◌-ℤ◌, ◌*ℤ◌, unsigned_abs, sum_by, All, FitsSigned, w64, arith}
use Rattle.std.specs.Int.{w128}
use Rattle.std.proofs.lemmas.Int.{ints, unsigned_abs-mul, fits_signed_from_abs}
use Rattle.std.proofs.lemmas.List.Sums.{sum_by-take-le}
use Rattle.std.proofs.lemmas.List.Elements.{All-head, All-tail, All-take}
use Rattle.std.proofs.lemmas.List.{length-take}
use Rattle.std.proofs.lemmas.Nat.{mul-le}
use Rattle.ip_core.specs.declared.row.Row.{Row}
use Rattle.ip_core.specs.declared.row.Term.{Term}
use Rattle.ip_core.proofs.IntSums.{unsigned_abs-int_sum_by, unsigned_abs-add_le}
use Rattle.ip_core.specs.Rows.{own_coefficient, coefficient}
use Rattle.safe_bound.specs.Weights.{weighted_sum, weighted_least}
use Rattle.safe_bound.specs.Premises.{AreSmall, HasNarrowLeasts}

-- a number that is small enough fits 128 bits
pub small_fits : (z : ℤ) (n : ℕ) → unsigned_abs z ≤ n → n < 2 ^ 127 → FitsSigned w128 z
small_fits z n small few = fits_signed_from_abs w128 z (omega arith)

-- a number of 64 bits is at most 2^63 in size
pub fits_narrow : (z : ℤ) → FitsSigned w64 z → unsigned_abs z ≤ 2 ^ 63
fits_narrow (pos n) fits = omega (arith, fits.sfits)
fits_narrow (negsuc n) fits = omega (arith, fits.sfits)

-- a difference is at most as large as both together
pub unsigned_abs-sub_le : (a b : ℤ) (m n : ℕ) → unsigned_abs a ≤ m → unsigned_abs b ≤ n → unsigned_abs (a -ℤ b) ≤ m + n
unsigned_abs-sub_le a b m n first second = omega (arith, ints)

own_choice : (b : Bool) (z : ℤ) → unsigned_abs (if b then z else pos 0) ≤ unsigned_abs z
own_choice true z = omega arith
own_choice false z = omega arith

-- what a term adds to a column is no larger than its coefficient
pub own_narrow : (j : ℕ) (t : Term) → unsigned_abs (own_coefficient j t) ≤ unsigned_abs t.coef
own_narrow j t = own_choice (t.col == j) t.coef

-- a column's coefficient is no larger than all coefficients together
pub coefficient_narrow : (j : ℕ) (terms : List Term) → unsigned_abs (coefficient j terms) ≤ sum_by (λ (t : Term). unsigned_abs t.coef) terms
coefficient_narrow j terms = unsigned_abs-int_sum_by (own_coefficient j) (λ (t : Term). unsigned_abs t.coef) terms (λ k d h. own_narrow j (get_or terms k d))

-- the same of a front of the terms
pub front_narrow : (j : ℕ) (terms : List Term) (i : ℕ) → unsigned_abs (coefficient j (take i terms)) ≤ sum_by (λ (t : Term). unsigned_abs t.coef) terms
front_narrow j terms i = omega (arith, coefficient_narrow j (take i terms), sum_by-take-le (λ (t : Term). unsigned_abs t.coef) terms i)

-- a multiplier times a number within the greatest width
pub times_narrow : (y : ℕ) (z : ℤ) → y ≤ 2 ^ 40 → unsigned_abs z ≤ 2 ^ 50 → unsigned_abs (pos y *ℤ z) ≤ 2 ^ 90
times_narrow y z small narrow = rw unsigned_abs-mul (omega (arith, mul-le y (unsigned_abs z) (2 ^ 40) (2 ^ 50) small narrow))

-- weighted rows are no larger than their number times the greatest multiplier times the greatest width
pub weighted_narrow : (f : Row → ℤ) (rows : List Row) (ys : List ℕ) → All (λ row. unsigned_abs (f row) ≤ 2 ^ 50) rows → All (λ y. y ≤ 2 ^ 40) ys → unsigned_abs (weighted_sum f rows ys) ≤ length rows * 2 ^ 90
weighted_narrow f [] ys narrow small = omega arith
weighted_narrow f (row ∷ rows) [] narrow small = omega arith
weighted_narrow f (row ∷ rows) (y ∷ ys) narrow small =
    let first = times_narrow y (f row) (All-head (λ (z : ℕ). z ≤ 2 ^ 40) y ys small) (All-head (λ (r : Row). unsigned_abs (f r) ≤ 2 ^ 50) row rows narrow) in
    let rest = weighted_narrow f rows ys (All-tail (λ (r : Row). unsigned_abs (f r) ≤ 2 ^ 50) row rows narrow) (All-tail (λ (z : ℕ). z ≤ 2 ^ 40) y ys small) in
    omega (arith, unsigned_abs-add_le (pos y *ℤ f row) (weighted_sum f rows ys) (2 ^ 90) (length rows * 2 ^ 90) first rest)

-- the weighted `least` of the first rows, where there are not too many
pub least_narrow : (rows : List Row) (ys : List ℕ) (i : ℕ) → HasNarrowLeasts rows → AreSmall ys → length rows ≤ 2 ^ 31 → unsigned_abs (weighted_least (take i rows) ys) ≤ 2 ^ 121
least_narrow rows ys i narrow small few =
    let Narrow : Row → Type 0 = λ row. unsigned_abs row.least ≤ 2 ^ 50 in
    let number : length (take i rows) ≤ length rows = rw length-take (omega arith) in
    omega (arith, weighted_narrow (λ row. row.least) (take i rows) ys (All-take Narrow i rows narrow.each) small.each)
