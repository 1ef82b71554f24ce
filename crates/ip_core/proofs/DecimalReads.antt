use Rattle.std.proofs.Common.{◌≡◌, ◌≢◌, ◌∙◌, ◌≤◌, ◌<◌, ◌+◌, ◌-◌, ◌*◌, ◌^◌, ◌==◌, ℕ, zero, suc, Bool, true, false, not, ◌&&◌, nat_le, int_le, List, [], ◌∷◌, ◌++◌, length, get_or, take, drop, reverse, ℤ, pos, neg_ℤ, ◌≤ℤ◌, Result, Ok, Err, refl, sym, ap, subst, arith, if◌then◌else◌}
use Rattle.std.specs.List.{list_all, suffix_len}
use Rattle.std.proofs.lemmas.Bool.{false≢true}
use Rattle.std.proofs.lemmas.Bool.Decides.{nat_tests}
use Rattle.std.proofs.lemmas.Int.{ints}
use Rattle.std.proofs.lemmas.List.{length-drop, length-take-le, length-reverse, get_or-reverse}
use Rattle.std.proofs.lemmas.List.Sums.{prefix_len_stops}
use Rattle.ip_core.specs.Decimals.{Number, IsDecimal, is_digit, is_zero, decimal, signed_number, leading_zeros, trailing_zeros, significant_digits, power, parts, lacks_digits, reduced_number, is_in_range, read_decimal}
use Rattle.ip_core.specs.declared.decimal.NumeralError.{NumeralError}
use Rattle.ip_core.specs.declared.decimal.NumeralError.TheVariants.{BadByte, Empty}
use Rattle.ip_core.proofs.DecimalDigits.{and_true, digit_below_ten, one_more, few_digits}
use Rattle.ip_core.proofs.DecimalParts.{are_parts}
use Rattle.ip_core.proofs.DecimalReduced.{signed_decimal_is, signed_size}

-- what is read of bytes is a decimal

pub zero_is : IsDecimal (record { mantissa = pos 0; exponent = pos 0 })
zero_is = record { reduced = λ k same. refl; zero = λ none. refl; few = omega arith; least = omega (arith, ints); greatest = omega (arith, ints) }

-- the number of digits bounds what they stand for
decimal_few : (n k : ℕ) (ds : List ℕ) → list_all is_digit ds ≡ true → n < 10 ^ k → decimal n ds < 10 ^ (length ds + k)
decimal_few n k [] all small = let long : k ≡ 0 + k = omega arith in subst (λ (e : ℕ). n < 10 ^ e) long small
decimal_few n k (d ∷ ds) all small =
    let rest = (and_true (is_digit d) (list_all is_digit ds) all).1 in
    let next : n * 10 + (d - 48) < 10 ^ suc k = one_more n (d - 48) k small (digit_below_ten (d ∷ ds) zero all (omega arith)) in
    let long : length ds + suc k ≡ length (d ∷ ds) + k = omega arith in
    subst (λ (e : ℕ). decimal (n * 10 + (d - 48)) ds < 10 ^ e) long (decimal_few (n * 10 + (d - 48)) (suc k) ds rest next)

take_all_digits : (n : ℕ) (ds : List ℕ) → list_all is_digit ds ≡ true → list_all is_digit (take n ds) ≡ true
take_all_digits zero ds all = refl
take_all_digits (suc n) [] all = refl
take_all_digits (suc n) (d ∷ ds) all =
    let p = and_true (is_digit d) (list_all is_digit ds) all in
    ap (λ b. b && list_all is_digit (take n ds)) p.0 ∙ take_all_digits n ds p.1

drop_all_digits : (n : ℕ) (ds : List ℕ) → list_all is_digit ds ≡ true → list_all is_digit (drop n ds) ≡ true
drop_all_digits zero ds all = all
drop_all_digits (suc n) [] all = refl
drop_all_digits (suc n) (d ∷ ds) all = drop_all_digits n ds (and_true (is_digit d) (list_all is_digit ds) all).1

-- the digit before the zeros at the end isn't one
last_stops : (p : ℕ → Bool) (xs : List ℕ) → suffix_len p xs < length xs → p (get_or xs (length xs - suffix_len p xs - 1) 0) ≡ false
last_stops p xs some =
    let long : length (reverse xs) ≡ length xs = length-reverse xs in
    let at : length xs - 1 - suffix_len p xs ≡ length xs - suffix_len p xs - 1 = omega arith in
    ap (λ i. p (get_or xs i 0)) (sym at)
    ∙ ap p (sym (get_or-reverse xs (suffix_len p xs) 0 some))
    ∙ prefix_len_stops p (reverse xs) 0 (omega (arith, long, some))

not_zero_digit : (b : ℕ) → is_zero b ≡ false → b ≢ 48
not_zero_digit b h is = false≢true (sym h ∙ ap is_zero is)

in_range_least : (p : ℤ) → int_le (neg_ℤ (pos 18)) p ≡ true → neg_ℤ (pos 18) ≤ℤ p
in_range_least p h = grind (arith, ints)

in_range_greatest : (p : ℤ) → int_le p (pos 400) ≡ true → p ≤ℤ pos 400
in_range_greatest p h = grind (arith, ints)

some_left : (n : ℕ) → (n == 0) ≡ false → 0 < n
some_left n h = grind (arith, nat_tests)

at_most : (n : ℕ) → nat_le n 18 ≡ true → n ≤ 18
at_most n h = grind (arith, nat_tests)

-- the digits that remain, few enough, and a power in range make a decimal
significant_is : (negative : Bool) (ds : List ℕ) (p : ℤ) → list_all is_digit ds ≡ true → (length (significant_digits ds) == 0) ≡ false → nat_le (length (significant_digits ds)) 18 ≡ true
    → is_in_range p ≡ true → IsDecimal (record { mantissa = signed_number negative (decimal 0 (significant_digits ds)); exponent = p })
significant_is negative ds p all some few range =
    let to : ℕ = length ds - trailing_zeros ds in
    let within : to ≤ length ds = omega arith in
    let long : length (significant_digits ds) ≡ to - leading_zeros ds = length-drop (leading_zeros ds) (take to ds) ∙ ap (λ k. k - leading_zeros ds) (length-take-le to ds within) in
    let left : 0 < length (significant_digits ds) = some_left _ some in
    let order : leading_zeros ds < to = omega (arith, long, left) in
    let before : trailing_zeros ds < length ds = omega (arith, order) in
    let digits : list_all is_digit (significant_digits ds) ≡ true = drop_all_digits (leading_zeros ds) (take to ds) (take_all_digits to ds all) in
    let ends = and_true (int_le (neg_ℤ (pos 18)) p) (int_le p (pos 400)) range in
    signed_decimal_is ds (leading_zeros ds) to (decimal 0 (significant_digits ds)) (signed_number negative (decimal 0 (significant_digits ds))) p all order within
    (not_zero_digit _ (last_stops is_zero ds before)) refl (signed_size negative (decimal 0 (significant_digits ds)))
    (few_digits (decimal 0 (significant_digits ds)) (length (significant_digits ds) + 0) 18 (decimal_few 0 0 (significant_digits ds) digits (omega arith)) (omega (arith, at_most _ few)))
    (in_range_least p ends.0) (in_range_greatest p ends.1)

abbrev value_or : Number → Result Number NumeralError → Number
value_or d (Ok n) = n
value_or d (Err e) = d

-- what three tests in a row read
tested_by : (none few here : Bool) (e f : NumeralError) (z m n : Number) → (if none then Ok z else if not few then Err e else if not here then Err f else Ok m) ≡ Ok n
    → IsDecimal z → (none ≡ false → few ≡ true → here ≡ true → IsDecimal m) → IsDecimal n
tested_by true few here e f z m n h first rest = subst IsDecimal (ap (value_or z) h) first
tested_by false true true e f z m n h first rest = subst IsDecimal (ap (value_or z) h) (rest refl refl refl)
tested_by false true false e f z m n h first rest = cc
tested_by false false here e f z m n h first rest = cc

reduced_is_decimal : (negative : Bool) (ds : List ℕ) (p : ℤ) (n : Number) → list_all is_digit ds ≡ true → reduced_number negative (significant_digits ds) p ≡ Ok n → IsDecimal n
reduced_is_decimal negative ds p n all h =
    tested_by (length (significant_digits ds) == 0) (nat_le (length (significant_digits ds)) 18) (is_in_range p) _ _ _ _ n h zero_is
    (λ some few range. significant_is negative ds p all some few range)

read_by : (a b : Bool) (e f : NumeralError) (r : Result Number NumeralError) (n : Number) → (if not a then Err e else if b then Err f else r) ≡ Ok n → r ≡ Ok n
read_by true false e f r n h = h
read_by true true e f r n h = cc
read_by false b e f r n h = cc

pub read_decimal_is : (bytes : List ℕ) (n : Number) → read_decimal bytes ≡ Ok n → IsDecimal n
read_decimal_is bytes n h =
    let p = parts bytes in
    reduced_is_decimal p.negative (p.whole ++ p.fraction) (power p.exponent_negative p.exponent (length p.fraction) (trailing_zeros (p.whole ++ p.fraction))) n
    (are_parts bytes).digits (read_by (length p.left == 0) (lacks_digits p) (BadByte (length bytes - length p.left)) Empty _ n h)
