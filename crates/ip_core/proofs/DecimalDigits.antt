use Rattle.std.proofs.Common.{◌≡◌, ◌∙◌, ◌⊎◌, inl, inr, ◌≤◌, ◌<◌, ◌+◌, ◌-◌, ◌*◌, ◌^◌, min, ℕ, zero, suc, Bool, true, false, ◌&&◌, nat_le, List, [], ◌∷◌, length, get_or, refl, ap, arith}
use Rattle.std.specs.List.{list_all}
use Rattle.std.proofs.lemmas.Bool.{false≢true}
use Rattle.std.proofs.lemmas.Bool.Decides.{nat_tests}
use Rattle.std.proofs.Math.Nat.{pow-suc, pow-le-pow_right, min-eq_left}
use Rattle.ip_core.specs.Decimals.{is_digit, decimal}

pub and_true : (a b : Bool) → (a && b) ≡ true → (a ≡ true) × (b ≡ true)
and_true true b h = (refl, h)
and_true false b h = absurd (false≢true h)

pub le_of_test : (a b : ℕ) → nat_le a b ≡ true → a ≤ b
le_of_test a b h = grind (arith, nat_tests)

-- what a digit stands for is below ten
below_ten : (b : ℕ) → is_digit b ≡ true → b - 48 < 10
below_ten b h = let top = le_of_test b 57 (and_true (nat_le 48 b) (nat_le b 57) h).1 in omega arith

least_digit : (b : ℕ) → is_digit b ≡ true → 48 ≤ b
least_digit b h = le_of_test 48 b (and_true (nat_le 48 b) (nat_le b 57) h).0

pub digit_from : (ds : List ℕ) (i : ℕ) → list_all is_digit ds ≡ true → i < length ds → 48 ≤ get_or ds i 0
digit_from [] i h l = absurd (omega arith)
digit_from (d ∷ ds) zero h l = least_digit d (and_true (is_digit d) (list_all is_digit ds) h).0
digit_from (d ∷ ds) (suc i) h l = digit_from ds i (and_true (is_digit d) (list_all is_digit ds) h).1 (omega arith)

pub digit_below_ten : (ds : List ℕ) (i : ℕ) → list_all is_digit ds ≡ true → i < length ds → get_or ds i 0 - 48 < 10
digit_below_ten [] i h l = absurd (omega arith)
digit_below_ten (d ∷ ds) zero h l = below_ten d (and_true (is_digit d) (list_all is_digit ds) h).0
digit_below_ten (d ∷ ds) (suc i) h l = digit_below_ten ds i (and_true (is_digit d) (list_all is_digit ds) h).1 (omega arith)

-- one more digit gives one more power of ten
pub one_more : (n d k : ℕ) → n < 10 ^ k → d < 10 → n * 10 + d < 10 ^ suc k
one_more n d k small digit = let more = pow-suc 10 k in omega arith

-- numbers of few digits
pub few_digits : (n k most : ℕ) → n < 10 ^ k → k ≤ most → n < 10 ^ most
few_digits n k most small few =
    let wide : 10 ^ k ≤ 10 ^ most = pow-le-pow_right {n = 10} (omega arith) few in
    omega arith

pub zero_below : (k : ℕ) → 0 < 10 ^ k
zero_below zero = omega arith
zero_below (suc k) = let more = pow-suc 10 k in let before = zero_below k in omega arith

-- digits that follow make a number no less
pub grows : (n : ℕ) (ds : List ℕ) → n ≤ decimal n ds
grows n [] = omega arith
grows n (d ∷ ds) = let more = grows (n * 10 + (d - 48)) ds in omega arith

one_up : (n most : ℕ) → (n ≤ most) ⊎ (most ≤ n) → (suc n ≤ suc most) ⊎ (suc most ≤ suc n)
one_up n most (inl low) = inl (omega arith)
one_up n most (inr high) = inr (omega arith)

pub sides : (n most : ℕ) → (n ≤ most) ⊎ (most ≤ n)
sides zero most = inl (omega arith)
sides (suc n) zero = inr (omega arith)
sides (suc n) (suc most) = one_up n most (sides n most)

from_sides : (n most : ℕ) (ds : List ℕ) → (n ≤ most) ⊎ (most ≤ n) → min (decimal (min n most) ds) most ≡ min (decimal n ds) most
from_sides n most ds (inl low) = ap (λ k. min (decimal k ds) most) (min-eq_left low)
from_sides n most ds (inr high) =
    let same : min n most ≡ most = omega arith in
    let here : most ≤ decimal most ds = grows most ds in
    let there : n ≤ decimal n ds = grows n ds in
    let left : min (decimal most ds) most ≡ most = omega arith in
    let right : most ≡ min (decimal n ds) most = omega arith in
    ap (λ k. min (decimal k ds) most) same ∙ left ∙ right

-- a cap on what stands before digits is one on the whole
pub capped_before : (n most : ℕ) (ds : List ℕ) → min (decimal (min n most) ds) most ≡ min (decimal n ds) most
capped_before n most ds = from_sides n most ds (sides n most)
