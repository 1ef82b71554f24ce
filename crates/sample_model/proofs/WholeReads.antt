use Rattle.std.proofs.Common.{◌≡◌, ◌≢◌, ◌∙◌, ◌≤◌, ◌<◌, ◌+◌, ◌-◌, ◌*◌, ◌/◌, ◌%◌, ◌^◌, ◌==◌, ◌⊎◌, inl, inr, ℕ, zero, suc, Bool, true, false, cond, List, [], ◌∷◌, ◌++◌, length, get_or, take, drop, ℤ, pos, neg_ℤ, ◌≤ℤ◌, int_le, nat_le, Some, Ok, refl, sym, ap, arith}
use Rattle.std.specs.Fmt.{decimal as digits_of, digits as digits_written}
use Rattle.std.specs.List.{list_all, prefix_len}
use Rattle.std.proofs.lemmas.Bool.{ne_eqb}
use Rattle.std.proofs.lemmas.Bool.Decides.{nat_tests}
use Rattle.std.proofs.lemmas.Fmt.{decimal_by_steps, decimal_nonempty, first_decimal, length-decimal-le}
use Rattle.std.proofs.lemmas.Int.{ints}
use Rattle.std.proofs.lemmas.List.{append-nil, length-append, reverse-append, take_all, take-append-le, length-take-le}
use Rattle.std.proofs.lemmas.List.Sums.{suffix_len-le-length}
use Rattle.std.proofs.Math.Nat.{pow-suc, mul_assoc}
use Rattle.std.proofs.lemmas.Nat.{div-mul-add}
use Rattle.ip_core.specs.Decimals.{Parts, IsDecimal, is_digit, is_sign, is_minus, is_zero, after_one, digits, after_digits, decimal, parts, with_fraction, leading_zeros, trailing_zeros, significant_digits, power, reduced_number, lacks_digits, read_parts, read_decimal, exponent_in_range}
use Rattle.ip_core.proofs.DecimalDigits.{and_true, le_of_test}
use Rattle.ip_core.proofs.DecimalPowers.{reduced_is}
use Rattle.ip_core.proofs.DecimalPrints.{written_digits, first_run, after_run}
use Rattle.ip_core.proofs.DecimalReads.{read_decimal_is}
use Rattle.ip_core.proofs.DecimalReduced.{decimal_more}
use Rattle.width_admit.proofs.Decimals.{ten_pow_pos}
use Rattle.sample_model.specs.Wholes.{zeros, whole_decimal}

-- the digits of a number are read as the number

tenfold : (v p q n : ℕ) → v * p ≡ q → q * 10 ≡ n → v * (p * 10) ≡ n
tenfold v p q n one sum = sym (mul_assoc v p 10) ∙ ap (λ k. k * 10) one ∙ sum

quotient_is : (v p n : ℕ) → 0 < p → v * p ≡ n → v ≡ n / p
quotient_is v p n some same = sym (div-mul-add v p 0 some) ∙ ap (λ k. k / p) (omega (arith, same))

nothing_left : (v p n : ℕ) → v ≡ 0 → 0 < n → v * p ≡ n → ⊥
nothing_left v p n none some same = let zero_times : v * p ≡ 0 * p = ap (λ k. k * p) none in omega (arith, some, same, zero_times)

-- digits without the zeros at their end
abbrev front : List ℕ → List ℕ
front ds = take (length ds - trailing_zeros ds) ds

-- digits that stand for n, and so do those before the zeros at their end under that power of ten
record StandFor (n : ℕ) (ds : List ℕ) : Type 0 where
  pub value : decimal 0 ds ≡ n
  pub parted : decimal 0 (front ds) * 10 ^ trailing_zeros ds ≡ n

trailing_more : (xs : List ℕ) (d : ℕ) → trailing_zeros (xs ++ d ∷ []) ≡ cond (is_zero d) (1 + trailing_zeros xs) 0
trailing_more xs d = ap (prefix_len is_zero) (reverse-append xs (d ∷ []))

zero_is : (d : ℕ) → is_zero d ≡ true → d ≡ 48
zero_is d h = grind (arith, nat_tests)

parted_more : (b : Bool) (n q d : ℕ) (xs : List ℕ) → is_zero d ≡ b → q * 10 + (d - 48) ≡ n → StandFor q xs → decimal 0 (front (xs ++ d ∷ [])) * 10 ^ trailing_zeros (xs ++ d ∷ []) ≡ n
parted_more true n q d xs h sum before =
    let zeros_are : trailing_zeros (xs ++ d ∷ []) ≡ suc (trailing_zeros xs) = trailing_more xs d ∙ ap (λ t. cond t (1 + trailing_zeros xs) 0) h ∙ omega arith in
    let long : length (xs ++ d ∷ []) ≡ suc (length xs) = length-append xs (d ∷ []) ∙ omega arith in
    let left : length (xs ++ d ∷ []) - trailing_zeros (xs ++ d ∷ []) ≡ length xs - trailing_zeros xs = omega (arith, zeros_are, long) in
    let same : front (xs ++ d ∷ []) ≡ front xs = ap (λ k. take k (xs ++ d ∷ [])) left ∙ take-append-le (length xs - trailing_zeros xs) xs (d ∷ []) (omega arith) in
    let power_is : 10 ^ suc (trailing_zeros xs) ≡ 10 ^ trailing_zeros xs * 10 = pow-suc 10 (trailing_zeros xs) in
    let digit : d ≡ 48 = zero_is d h in
    rw (same, zeros_are, power_is) (tenfold (decimal 0 (front xs)) (10 ^ trailing_zeros xs) q n before.parted (omega (arith, sum, digit)))
parted_more false n q d xs h sum before =
    let none : trailing_zeros (xs ++ d ∷ []) ≡ 0 = trailing_more xs d ∙ ap (λ t. cond t (1 + trailing_zeros xs) 0) h in
    let all : front (xs ++ d ∷ []) ≡ xs ++ d ∷ [] = ap (λ t. take (length (xs ++ d ∷ []) - t) (xs ++ d ∷ [])) none ∙ take_all (length (xs ++ d ∷ []) - 0) (xs ++ d ∷ []) (omega arith) in
    let value : decimal 0 (xs ++ d ∷ []) ≡ n = decimal_more 0 d xs ∙ ap (λ v. v * 10 + (d - 48)) before.value ∙ sum in
    rw (all, none) (omega (arith, value))

stand_more : (n : ℕ) (xs : List ℕ) → 10 ≤ n → StandFor (n / 10) xs → StandFor n (xs ++ (48 + n % 10) ∷ [])
stand_more n xs large before =
    let sum : n / 10 * 10 + (48 + n % 10 - 48) ≡ n = omega arith in
    record {
      value = decimal_more 0 (48 + n % 10) xs ∙ ap (λ v. v * 10 + (48 + n % 10 - 48)) before.value ∙ sum;
      parted = parted_more (is_zero (48 + n % 10)) n (n / 10) (48 + n % 10) xs refl sum before;
    }

stand_one : (n : ℕ) → n < 10 → StandFor n ((48 + n) ∷ [])
stand_one n small =
    let sum : 0 * 10 + (48 + n - 48) ≡ n = omega arith in
    record { value = sum; parted = parted_more (is_zero (48 + n)) n 0 (48 + n) [] refl sum (record { value = refl; parted = refl }) }

stand_for : (n : ℕ) → n < 2 ^ 64 → StandFor n (digits_of n)
stand_for n small = decimal_by_steps StandFor stand_one stand_more n small

whole_is : (n : ℕ) → n < 2 ^ 64 → decimal 0 (front (digits_of n)) ≡ n / 10 ^ zeros n
whole_is n small = quotient_is (decimal 0 (front (digits_of n))) (10 ^ zeros n) n (ten_pow_pos (zeros n)) (stand_for n small).parted

not_minus : (d : ℕ) → is_digit d ≡ true → is_minus d ≡ false
not_minus d h = let low = le_of_test 48 d (and_true (nat_le 48 d) (nat_le d 57) h).0 in ne_eqb d 45 (λ e. omega (arith, low, e))

not_sign : (d : ℕ) → is_digit d ≡ true → is_sign d ≡ false
not_sign d h = let low = le_of_test 48 d (and_true (nat_le 48 d) (nat_le d 57) h).0 in rw (ne_eqb d 43 (λ e. omega (arith, low, e)), ne_eqb d 45 (λ e. omega (arith, low, e))) refl

-- digits alone are the whole part
abbrev alone : List ℕ → Parts
alone ds = record { negative = false; whole = ds; fraction = []; has_exponent = false; exponent_negative = false; exponent = []; left = [] }

all_run : (ds : List ℕ) → list_all is_digit ds ≡ true → digits ds ≡ ds
all_run ds all = ap digits (sym (append-nil ds)) ∙ first_run ds [] all refl

none_after : (ds : List ℕ) → list_all is_digit ds ≡ true → after_digits ds ≡ []
none_after ds all = ap after_digits (sym (append-nil ds)) ∙ after_run ds [] all refl

parts_of : (ds : List ℕ) → 0 < length ds → list_all is_digit ds ≡ true → parts ds ≡ alone ds
parts_of [] some all = absurd (omega (arith, some))
parts_of (d ∷ ds) some all =
    let here = (and_true (is_digit d) (list_all is_digit ds) all).0 in
    let unsigned : after_one is_sign (d ∷ ds) ≡ d ∷ ds = rw (not_sign d here) refl in
    ap (λ b. with_fraction b (digits (after_one is_sign (d ∷ ds))) (after_digits (after_one is_sign (d ∷ ds)))) (not_minus d here)
    ∙ ap (λ r. with_fraction false (digits r) (after_digits r)) unsigned
    ∙ ap (λ w. with_fraction false w (after_digits (d ∷ ds))) (all_run (d ∷ ds) all)
    ∙ ap (with_fraction false (d ∷ ds)) (none_after (d ∷ ds) all)

read_of : (n : ℕ) (p : Parts) → p.left ≡ [] → lacks_digits p ≡ false
    → read_parts n p ≡ reduced_number p.negative (significant_digits (p.whole ++ p.fraction)) (power p.exponent_negative p.exponent (length p.fraction) (trailing_zeros (p.whole ++ p.fraction)))
read_of n p none some = rw (none, some) refl

read_alone : (n : ℕ) (ds : List ℕ) → 0 < length ds → read_parts n (alone ds) ≡ reduced_number false (significant_digits ds) (pos (trailing_zeros ds))
read_alone n ds some =
    let none : (length (ds ++ []) == 0) ≡ false = ne_eqb (length (ds ++ [])) 0 (λ e. omega (arith, some, e, length-append ds [])) in
    let some_digits : lacks_digits (alone ds) ≡ false = rw none refl in
    let power_is : power false [] 0 (trailing_zeros (ds ++ [])) ≡ pos (trailing_zeros (ds ++ [])) = omega (arith, ints) in
    read_of n (alone ds) refl some_digits ∙ ap (reduced_number false (significant_digits (ds ++ []))) power_is ∙ ap (λ xs. reduced_number false (significant_digits xs) (pos (trailing_zeros xs))) (append-nil ds)

leading_none : (ds : List ℕ) → 48 < get_or ds 0 0 → leading_zeros ds ≡ 0
leading_none [] large = refl
leading_none (d ∷ ds) large = rw (ne_eqb d 48 (λ e. omega (arith, large, e))) refl

range_is : (e : ℤ) → neg_ℤ (pos 18) ≤ℤ e → e ≤ℤ pos 400 → exponent_in_range e ≡ Some e
range_is e low high =
    let first : int_le (neg_ℤ (pos 18)) e ≡ true = grind (arith, ints) in
    let second : int_le e (pos 400) ≡ true = grind (arith, ints) in
    rw (first, second) refl

nonempty : (ds : List ℕ) → decimal 0 ds ≢ 0 → 0 < length ds
nonempty [] other = absurd (other refl)
nonempty (d ∷ ds) other = omega arith

-- digits of a number above 0 are read as it
positive_read : (n : ℕ) → n < 10 ^ 18 → 0 < n → read_decimal (digits_of n) ≡ Ok (record { mantissa = pos (n / 10 ^ zeros n); exponent = pos (zeros n) })
positive_read n small some =
    let ds = digits_of n in
    let word : n < 2 ^ 64 = omega (arith, small) in
    let few : length ds ≤ 18 = length-decimal-le 18 n (omega arith) small word in
    let stand = stand_for n word in
    let left : significant_digits ds ≡ front ds = ap (λ k. drop k (front ds)) (leading_none ds (first_decimal n some word)) in
    let short : length (front ds) ≤ 18 = omega (arith, few, length-take-le (length ds - trailing_zeros ds) ds (omega arith)) in
    let many : 0 < length (front ds) = nonempty (front ds) (λ none. nothing_left (decimal 0 (front ds)) (10 ^ trailing_zeros ds) n none some stand.parted) in
    let end : trailing_zeros ds ≤ 18 = omega (arith, few, suffix_len-le-length is_zero ds) in
    ap (read_parts (length ds)) (parts_of ds (decimal_nonempty n word) (written_digits n word))
    ∙ read_alone (length ds) ds (decimal_nonempty n word)
    ∙ ap (λ xs. reduced_number false xs (pos (trailing_zeros ds))) left
    ∙ reduced_is false (front ds) (pos (trailing_zeros ds)) (pos (trailing_zeros ds)) many short (range_is (pos (trailing_zeros ds)) (omega (arith, ints)) (omega (arith, ints, end)))
    ∙ ap (λ m. Ok (record { mantissa = pos m; exponent = pos (trailing_zeros ds) })) (whole_is n word)

zero_read : read_decimal (digits_of 0) ≡ Ok (record { mantissa = pos 0; exponent = pos 0 })
unfolding digits_written
zero_read = refl

pub whole_positive : (n : ℕ) → 0 < n → whole_decimal n ≡ record { mantissa = pos (n / 10 ^ zeros n); exponent = pos (zeros n) }
whole_positive n some = rw (ne_eqb n 0 (λ e. omega (arith, some, e))) refl

read_by : (n : ℕ) → n < 10 ^ 18 → (n ≡ 0) ⊎ (0 < n) → read_decimal (digits_of n) ≡ Ok (whole_decimal n)
read_by n small (inl none) = rw none zero_read
read_by n small (inr some) = positive_read n small some ∙ ap Ok (sym (whole_positive n some))

pub zero_or_more : (n : ℕ) → (n ≡ 0) ⊎ (0 < n)
zero_or_more zero = inl refl
zero_or_more (suc n) = inr (omega arith)

pub read_whole : (n : ℕ) → n < 10 ^ 18 → read_decimal (digits_of n) ≡ Ok (whole_decimal n)
read_whole n small = read_by n small (zero_or_more n)

pub whole_is_decimal : (n : ℕ) → n < 10 ^ 18 → IsDecimal (whole_decimal n)
whole_is_decimal n small = read_decimal_is (digits_of n) (whole_decimal n) (read_whole n small)

-- the number is its mantissa under its power of ten
pub whole_parted : (n : ℕ) → n < 2 ^ 64 → n / 10 ^ zeros n * 10 ^ zeros n ≡ n
whole_parted n small = ap (λ v. v * 10 ^ zeros n) (sym (whole_is n small)) ∙ (stand_for n small).parted
