use Rattle.std.proofs.Common.{◌≡◌, ◌≢◌, ◌∙◌, ◌≤◌, ◌<◌, ◌+◌, ◌-◌, ◌*◌, ◌/◌, ◌%◌, ◌^◌, ◌⊎◌, inl, inr, ℕ, zero, suc, Bool, true, false, nat_le, cond, List, [], ◌∷◌, ◌++◌, length, get_or, take, drop, refl, sym, ap, arith}
use Rattle.std.specs.List.{list_all, prefix_len}
use Rattle.std.specs.Fmt.{decimal as decimal_digits}
use Rattle.std.proofs.lemmas.Bool.{false≢true, ne_eqb, cases_lt}
use Rattle.std.proofs.lemmas.Bool.Decides.{nat_tests}
use Rattle.std.proofs.lemmas.Str.Parse.{IsDigitsTest, IsNumeralModel, numerals_by_fold}
use Rattle.std.proofs.lemmas.Fmt.{digits_decimal, digits_value-decimal}
use Rattle.std.proofs.lemmas.List.{length-append}
use Rattle.std.proofs.lemmas.List.Sums.{suffix_len-take_no, take_while-cons}
use Rattle.std.proofs.Math.Seq.{take-length, drop-append_seam}
use Rattle.std.proofs.Math.Nat.{mul-le-mul_right, mul_comm, mul_assoc, pow-le-pow_right, pow-suc, div-div-eq-div-mul}
use Rattle.ip_core.specs.Decimals.{first_passes, is_digit, is_zero, decimal, digits, after_digits, leading_zeros, trailing_zeros}
use Rattle.ip_core.specs.Texts.{last_digits}
use Rattle.ip_core.proofs.DecimalDigits.{and_true, le_of_test, digit_from}
use Rattle.ip_core.proofs.DecimalParts.{both_digits}
use Rattle.ip_core.proofs.DecimalReduced.{decimal_more, last_splits}

is_digit_of : (b : ℕ) → 48 ≤ b → b ≤ 57 → is_digit b ≡ true
is_digit_of b low high = grind (arith, nat_tests)

digits_test : IsDigitsTest (λ ds. list_all is_digit ds ≡ true)
digits_test = record {
  empty = refl;
  parts = λ c cs h. (let k = and_true (is_digit c) (list_all is_digit cs) h in let m = and_true (nat_le 48 c) (nat_le c 57) k.0 in ((le_of_test 48 c m.0, le_of_test c 57 m.1), k.1));
  more = λ c cs k h. (rw (is_digit_of c k.0 k.1, h) refl);
}

numerals : IsNumeralModel (λ ds. list_all is_digit ds ≡ true) (decimal 0)
numerals = numerals_by_fold (λ ds. list_all is_digit ds ≡ true) digits_test decimal (record { empty = λ n. refl; more = λ n c cs k. refl })

-- the digits of a number, as std writes it, are digits and stand for it
pub written_digits : (n : ℕ) → n < 2 ^ 64 → list_all is_digit (decimal_digits n) ≡ true
written_digits n small = digits_decimal numerals n small

pub written_value : (n : ℕ) → n < 2 ^ 64 → decimal 0 (decimal_digits n) ≡ n
written_value n small = digits_value-decimal numerals n small

one_more_digit : (xs : List ℕ) (d : ℕ) → d < 10 → list_all is_digit xs ≡ true → list_all is_digit (xs ++ (48 + d) ∷ []) ≡ true
one_more_digit xs d small all = both_digits xs ((48 + d) ∷ []) all (rw (is_digit_of (48 + d) (omega arith) (omega arith)) refl)

pub last_are_digits : (k n : ℕ) → list_all is_digit (last_digits k n) ≡ true
last_are_digits zero n = refl
last_are_digits (suc k) n = one_more_digit (last_digits k (n / 10)) (n % 10) (omega arith) (last_are_digits k (n / 10))

pub last_length : (k n : ℕ) → length (last_digits k n) ≡ k
last_length zero n = refl
last_length (suc k) n = omega (arith, length-append (last_digits k (n / 10)) ((48 + n % 10) ∷ []), last_length k (n / 10))

-- the last digits after what stands before them stand for the number
pub last_value : (k n : ℕ) → decimal (n / 10 ^ k) (last_digits k n) ≡ n
last_value zero n = omega arith
last_value (suc k) n =
    let power : 10 ^ suc k ≡ 10 * 10 ^ k = omega (arith, pow-suc 10 k) in
    let before : n / 10 ^ suc k ≡ n / 10 / 10 ^ k = ap (λ p. n / p) power ∙ sym (div-div-eq-div-mul n 10 (10 ^ k)) in
    let rest : decimal (n / 10 / 10 ^ k) (last_digits k (n / 10)) ≡ n / 10 = last_value k (n / 10) in
    rw (before, decimal_more, rest) (omega arith)

-- no zero stands at the end of digits of a number that isn't divisible by ten
pub no_trailing : (ds : List ℕ) → list_all is_digit ds ≡ true → ((k : ℕ) → decimal 0 ds ≡ k * 10 → ⊥) → trailing_zeros ds ≡ 0
no_trailing [] all other = refl
no_trailing (d ∷ ds) all other =
    let j : ℕ = length ds in
    let all_of : take (j + 1) (d ∷ ds) ≡ d ∷ ds = (let long : j + 1 ≡ length (d ∷ ds) = omega arith in rw long (take-length (d ∷ ds))) in
    let whole : decimal 0 (d ∷ ds) ≡ decimal 0 (take j (d ∷ ds)) * 10 + (get_or (d ∷ ds) j 0 - 48) = sym (ap (decimal 0) all_of) ∙ last_splits (d ∷ ds) 0 j (omega arith) (omega arith) in
    let last : is_zero (get_or (d ∷ ds) j 0) ≡ false = ne_eqb (get_or (d ∷ ds) j 0) 48 (λ same. other (decimal 0 (take j (d ∷ ds))) (omega (arith, whole, same))) in
    let back : length (d ∷ ds) - 1 ≡ j = omega arith in
    ap trailing_zeros (sym (take-length (d ∷ ds))) ∙ suffix_len-take_no is_zero (d ∷ ds) (length (d ∷ ds)) 0 (omega arith) (omega arith) (rw back last)

zero_is : (d : ℕ) → is_zero d ≡ true → d ≡ 48
zero_is d h = grind (arith, nat_tests)

nonzero_is : (d : ℕ) → is_zero d ≡ false → d ≢ 48
nonzero_is d h same = false≢true (sym h ∙ ap is_zero same)

prefix_by : (b : Bool) (d : ℕ) (ds : List ℕ) → is_zero d ≡ b → leading_zeros (d ∷ ds) ≡ cond b (1 + leading_zeros ds) 0
prefix_by true d ds h = rw h refl
prefix_by false d ds h = rw h refl

leading_yes : (d : ℕ) (ds : List ℕ) → is_zero d ≡ true → drop (leading_zeros (d ∷ ds)) (d ∷ ds) ≡ drop (leading_zeros ds) ds
leading_yes d ds h = let next : leading_zeros (d ∷ ds) ≡ suc (leading_zeros ds) = prefix_by true d ds h ∙ omega arith in rw next refl

leading_no : (d : ℕ) (ds : List ℕ) → is_zero d ≡ false → drop (leading_zeros (d ∷ ds)) (d ∷ ds) ≡ d ∷ ds
leading_no d ds h = let none : leading_zeros (d ∷ ds) ≡ 0 = prefix_by false d ds h in rw none refl

value_by : (b : Bool) (d : ℕ) (ds : List ℕ) → is_zero d ≡ b → decimal 0 (drop (leading_zeros ds) ds) ≡ decimal 0 ds → decimal 0 (drop (leading_zeros (d ∷ ds)) (d ∷ ds)) ≡ decimal 0 (d ∷ ds)
value_by true d ds h rest = let same : d ≡ 48 = zero_is d h in ap (decimal 0) (leading_yes d ds h) ∙ rest ∙ rw same refl
value_by false d ds h rest = ap (decimal 0) (leading_no d ds h)

-- zeros at the front change no number
pub value_kept : (ds : List ℕ) → decimal 0 (drop (leading_zeros ds) ds) ≡ decimal 0 ds
value_kept [] = refl
value_kept (d ∷ ds) = value_by (is_zero d) d ds refl (value_kept ds)

product : (a p : ℕ) → a * (p * 10) ≡ a * 10 * p
product a p = ap (λ q. a * q) (mul_comm p 10) ∙ sym (mul_assoc a 10 p)

-- digits after a number other than 0 make it at least as large as so many zeros would
grows_by : (a : ℕ) (ds : List ℕ) → a * 10 ^ length ds ≤ decimal a ds
grows_by a [] = omega arith
grows_by a (d ∷ ds) =
    let rest = grows_by (a * 10 + (d - 48)) ds in
    let more : a * 10 * 10 ^ length ds ≤ (a * 10 + (d - 48)) * 10 ^ length ds = mul-le-mul_right (10 ^ length ds) (omega arith) in
    let power : a * 10 ^ suc (length ds) ≡ a * 10 * 10 ^ length ds = ap (λ p. a * p) (pow-suc 10 (length ds)) ∙ product a (10 ^ length ds) in
    omega (arith, rest, more, power)

at_most : (n a v : ℕ) → 0 < a → v < 10 ^ 18 → a * 10 ^ n ≤ v → (n < 18) ⊎ (18 ≤ n) → n ≤ 17
at_most n a v some small grown (inl few) = omega (arith, few)
at_most n a v some small grown (inr many) =
    let wide : 10 ^ 18 ≤ 10 ^ n = pow-le-pow_right {n = 10} (omega arith) many in
    let one : 1 * 10 ^ n ≤ a * 10 ^ n = mul-le-mul_right (10 ^ n) some in
    absurd (omega (arith, wide, one, grown, small))

few_by : (b : Bool) (d : ℕ) (ds : List ℕ) → is_zero d ≡ b → 48 ≤ d → decimal 0 (d ∷ ds) < 10 ^ 18 → (decimal 0 ds < 10 ^ 18 → length (drop (leading_zeros ds) ds) ≤ 18) → length (drop (leading_zeros (d ∷ ds)) (d ∷ ds)) ≤ 18
few_by true d ds h least small rest =
    let same : d ≡ 48 = zero_is d h in
    let below : decimal 0 ds < 10 ^ 18 = rw same at small in
    rw (leading_yes d ds h) (rest below)
few_by false d ds h least small rest =
    let other = nonzero_is d h in
    let some : 0 < 0 * 10 + (d - 48) = omega (arith, least, other) in
    let few : length ds ≤ 17 = at_most (length ds) (0 * 10 + (d - 48)) (decimal (0 * 10 + (d - 48)) ds) some small (grows_by (0 * 10 + (d - 48)) ds) (cases_lt (length ds) 18) in
    rw (leading_no d ds h) (omega (arith, few))

-- a number below 10^18 has at most 18 digits without the zeros at the front
pub few_left : (ds : List ℕ) → list_all is_digit ds ≡ true → decimal 0 ds < 10 ^ 18 → length (drop (leading_zeros ds) ds) ≤ 18
few_left [] all small = omega arith
few_left (d ∷ ds) all small = few_by (is_zero d) d ds refl (digit_from (d ∷ ds) 0 all (omega arith)) small (few_left ds (and_true (is_digit d) (list_all is_digit ds) all).1)

none_first : (tail : List ℕ) → first_passes is_digit tail ≡ false → digits tail ≡ []
none_first [] none = refl
none_first (t ∷ tail) none = rw (take_while-cons, none) refl

-- the run of digits before bytes that don't begin with one
pub first_run : (ds tail : List ℕ) → list_all is_digit ds ≡ true → first_passes is_digit tail ≡ false → digits (ds ++ tail) ≡ ds
first_run [] tail all none = none_first tail none
first_run (d ∷ ds) tail all none =
    let k = and_true (is_digit d) (list_all is_digit ds) all in
    rw (take_while-cons, k.0, first_run ds tail k.1 none) refl

none_length : (tail : List ℕ) → first_passes is_digit tail ≡ false → prefix_len is_digit tail ≡ 0
none_length [] none = refl
none_length (t ∷ tail) none = rw none refl

run_length : (ds tail : List ℕ) → list_all is_digit ds ≡ true → first_passes is_digit tail ≡ false → prefix_len is_digit (ds ++ tail) ≡ length ds
run_length [] tail all none = none_length tail none
run_length (d ∷ ds) tail all none =
    let k = and_true (is_digit d) (list_all is_digit ds) all in
    rw (k.0, run_length ds tail k.1 none) (omega arith)

pub after_run : (ds tail : List ℕ) → list_all is_digit ds ≡ true → first_passes is_digit tail ≡ false → after_digits (ds ++ tail) ≡ tail
after_run ds tail all none = rw (run_length ds tail all none) (drop-append_seam ds tail)
