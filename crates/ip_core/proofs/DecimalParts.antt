use Rattle.std.proofs.Common.{◌≡◌, ◌≤◌, ◌+◌, ℕ, Bool, true, false, cond, if◌then◌else◌, List, [], ◌∷◌, ◌++◌, length, drop, refl, arith}
use Rattle.std.specs.List.{list_all, prefix_len}
use Rattle.std.proofs.lemmas.List.{length-append, length-drop}
use Rattle.std.proofs.lemmas.List.Sums.{take_while-cons}
use Rattle.std.proofs.lemmas.List.Folds.{list_all-append}
use Rattle.ip_core.specs.Decimals.{Parts, AreParts, is_digit, is_sign, is_minus, is_point, is_exponent_letter, first_passes, after_one, digits, after_digits, with_exponent, with_fraction, parts}

-- what holds in both cases of a test
by_case : {A : Type 0} (P : A → Type 0) (b : Bool) (x y : A) → P x → P y → P (if b then x else y)
by_case P true x y here there = here
by_case P false x y here there = there

one_digit : (b : Bool) (d : ℕ) (ds : List ℕ) → is_digit d ≡ b → list_all is_digit ds ≡ true → list_all is_digit (cond b (d ∷ ds) []) ≡ true
one_digit true d ds here rest = rw (here, rest) refl
one_digit false d ds here rest = refl

all_digits : (bs : List ℕ) → list_all is_digit (digits bs) ≡ true
all_digits [] = refl
all_digits (b ∷ bs) = rw take_while-cons (one_digit (is_digit b) b (digits bs) refl (all_digits bs))

no_longer : (b : Bool) (d : ℕ) (ds bs : List ℕ) → length ds ≤ length bs → length (cond b (d ∷ ds) []) ≤ length (d ∷ bs)
no_longer true d ds bs few = omega (arith, few)
no_longer false d ds bs few = omega arith

few_digits : (bs : List ℕ) → length (digits bs) ≤ length bs
few_digits [] = omega arith
few_digits (b ∷ bs) = rw take_while-cons (no_longer (is_digit b) b (digits bs) bs (few_digits bs))

drop_few : (k : ℕ) (bs : List ℕ) → length (drop k bs) ≤ length bs
drop_few k bs = omega (arith, length-drop k bs)

after_one_few : (test : ℕ → Bool) (bs : List ℕ) → length (after_one test bs) ≤ length bs
after_one_few test bs = by_case (λ (rest : List ℕ). length rest ≤ length bs) (first_passes test bs) (drop 1 bs) bs (drop_few 1 bs) (omega arith)

pub both_digits : (xs ys : List ℕ) → list_all is_digit xs ≡ true → list_all is_digit ys ≡ true → list_all is_digit (xs ++ ys) ≡ true
both_digits xs ys first second = rw (list_all-append, first, second) refl

both_few : (n : ℕ) (xs ys : List ℕ) → length xs ≤ n → length ys ≤ n → length (xs ++ ys) ≤ n + n
both_few n xs ys first second = omega (arith, length-append xs ys)

exponent_parts : (n : ℕ) (negative : Bool) (whole fraction tail : List ℕ) → list_all is_digit whole ≡ true → list_all is_digit fraction ≡ true
    → length whole ≤ n → length fraction ≤ n → length tail ≤ n → AreParts n (with_exponent negative whole fraction tail)
exponent_parts n negative whole fraction tail first second few some rest =
    let power = drop 1 tail in
    let after = after_one is_sign power in
    by_case (λ (p : Parts). AreParts n p) (first_passes is_exponent_letter tail) _ _
    (record {
      digits = both_digits whole fraction first second;
      exponent_digits = all_digits after;
      short = both_few n whole fraction few some;
      left = omega (arith, drop_few (prefix_len is_digit after) after, after_one_few is_sign power, drop_few 1 tail, rest);
    })
    (record { digits = both_digits whole fraction first second; exponent_digits = refl; short = both_few n whole fraction few some; left = rest })

fraction_parts : (n : ℕ) (negative : Bool) (whole tail : List ℕ) → list_all is_digit whole ≡ true → length whole ≤ n → length tail ≤ n → AreParts n (with_fraction negative whole tail)
fraction_parts n negative whole tail first few rest =
    let after = drop 1 tail in
    by_case (λ (p : Parts). AreParts n p) (first_passes is_point tail) _ _
    (exponent_parts n negative whole (digits after) (after_digits after) first (all_digits after) few
    (omega (arith, few_digits after, drop_few 1 tail, rest))
    (omega (arith, drop_few (prefix_len is_digit after) after, drop_few 1 tail, rest)))
    (exponent_parts n negative whole [] tail first refl few (omega arith) rest)

-- the parts of a numeral are runs of digits, none longer than the numeral
pub are_parts : (bs : List ℕ) → AreParts (length bs) (parts bs)
are_parts bs =
    let after = after_one is_sign bs in
    fraction_parts (length bs) (first_passes is_minus bs) (digits after) (after_digits after) (all_digits after)
    (omega (arith, few_digits after, after_one_few is_sign bs))
    (omega (arith, drop_few (prefix_len is_digit after) after, after_one_few is_sign bs))
