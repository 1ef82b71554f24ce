-- Canonical digits and the numbers that they stand for.
use Rattle.std.proofs.Common.{◌≡◌, ℕ, zero, suc, ◌<◌, ◌≤◌, ◌^◌, Bool, true, false, not, ◌&&◌, ◌||◌, nat_le, ◌==◌, List, [], ◌∷◌, refl, length, get_or, arith, ap, sym, Option, Some, None, cond}
use Rattle.std.specs.List.{list_all}
use Rattle.std.specs.Fmt.{decimal as numeral}
use Rattle.std.proofs.lemmas.Bool.{false≢true, ne_eqb, eqb-true, eq-eqb}
use Rattle.std.proofs.lemmas.Bool.Decides.{nat_tests}
use Rattle.std.proofs.lemmas.Str.Parse.{IsDigitsTest, IsNumeralModel, numerals_by_fold}
use Rattle.std.proofs.lemmas.Fmt.{decimal_digit, decimal_nonempty, first_decimal, digits_decimal, digits_value-decimal, decimal-digits_value}
use Rattle.ip_core.specs.Decimals.{is_digit, decimal}
use Rattle.ip_core.proofs.DecimalDigits.{and_true, grows, le_of_test}
use Rattle.cert_line.specs.Numerals.{is_canonical, natural_of}

-- canonical digits are digits
pub canonical_digits : (word : List ℕ) → is_canonical word ≡ true → list_all is_digit word ≡ true
canonical_digits [] h = absurd (false≢true h)
canonical_digits (d ∷ ds) h = (and_true (list_all is_digit (d ∷ ds)) (not (d == 48) || length ds == 0) h).0

too_great : (most n : ℕ) → most < n → nat_le n most ≡ false
too_great most n h = grind (arith, nat_tests)

within : (most n : ℕ) → n ≤ most → nat_le n most ≡ true
within most n h = grind (arith, nat_tests)

-- digits of which some at the front stand for too much have no number
pub too_great_before : (most n : ℕ) (word rest : List ℕ) → is_canonical word ≡ true → decimal n rest ≡ decimal 0 word → most < n → natural_of most word ≡ None
too_great_before most n word rest canonical same above =
    let more : n ≤ decimal n rest = grows n rest in
    let great : nat_le (decimal 0 word) most ≡ false = too_great most (decimal 0 word) (omega (arith, same)) in
    rw (canonical, great) refl

-- the number of canonical digits
natural_is : (most n : ℕ) (word : List ℕ) → is_canonical word ≡ true → n ≡ decimal 0 word → n ≤ most → natural_of most word ≡ Some n
natural_is most n word canonical same small =
    let fits : nat_le (decimal 0 word) most ≡ true = within most (decimal 0 word) (omega (arith, same)) in
    rw (canonical, fits) (ap Some (sym same))

is_digit_of : (b : ℕ) → 48 ≤ b → b ≤ 57 → is_digit b ≡ true
is_digit_of b low high = grind (arith, nat_tests)

digits_test : IsDigitsTest (λ ds. list_all is_digit ds ≡ true)
digits_test = record {
  empty = refl;
  parts = λ c cs h. (let k = and_true (is_digit c) (list_all is_digit cs) h in let m = and_true (nat_le 48 c) (nat_le c 57) k.0 in ((le_of_test 48 c m.0, le_of_test c 57 m.1), k.1));
  more = λ c cs k h. (rw (is_digit_of c k.0 k.1, h) refl);
}

numerals : IsNumeralModel (λ ds. list_all is_digit ds ≡ true) (decimal 0)
numerals = numerals_by_fold (λ ds. list_all is_digit ds ≡ true) digits_test decimal (record { empty = λ n. refl; more = λ n c cs k. refl })

second_holds : (p q : Bool) → p ≡ true → (not p || q) ≡ true → q ≡ true
second_holds true q h either = either
second_holds false q h either = absurd (false≢true h)

lone_zero : (d : ℕ) (ds : List ℕ) → is_canonical (d ∷ ds) ≡ true → d ≡ 48 → suc (length ds) ≡ 1
lone_zero d ds h at =
    let either = (and_true (list_all is_digit (d ∷ ds)) (not (d == 48) || length ds == 0) h).1 in
    let none : length ds ≡ 0 = eqb-true (length ds) 0 (second_holds (d == 48) (length ds == 0) (eq-eqb d 48 at) either) in
    omega (arith, none)

-- canonical digits are what is written for their number
canonical_text : (word : List ℕ) → is_canonical word ≡ true → decimal 0 word < 2 ^ 64 → numeral (decimal 0 word) ≡ word
canonical_text [] h small = absurd (false≢true h)
canonical_text (d ∷ ds) h small = decimal-digits_value numerals (d ∷ ds) (canonical_digits (d ∷ ds) h) (omega arith) (lone_zero d ds h) small

-- a word that has a number in a range is what is written for it
abbrev pub IsNaturalText : ℕ → List ℕ → Option ℕ → Type 0
IsNaturalText most word None = Unit {0}
IsNaturalText most word (Some n) = (word ≡ numeral n) × (n ≤ most)

text_by : (most : ℕ) (word : List ℕ) (b : Bool) → most < 2 ^ 64 → (is_canonical word && nat_le (decimal 0 word) most) ≡ b → IsNaturalText most word (cond b (Some (decimal 0 word)) None)
text_by most word false wide h = tt
text_by most word true wide h =
    let both = and_true (is_canonical word) (nat_le (decimal 0 word) most) h in
    let small : decimal 0 word ≤ most = le_of_test (decimal 0 word) most both.1 in
    (sym (canonical_text word both.0 (omega arith)), small)

pub natural_text : (most : ℕ) (word : List ℕ) → most < 2 ^ 64 → IsNaturalText most word (natural_of most word)
natural_text most word wide = text_by most word (is_canonical word && nat_le (decimal 0 word) most) wide refl

canonical_of : (ds : List ℕ) → list_all is_digit ds ≡ true → 0 < length ds → 48 < get_or ds 0 0 → is_canonical ds ≡ true
canonical_of [] all some first = absurd (omega arith)
canonical_of (d ∷ ds) all some first =
    let other : (d == 48) ≡ false = ne_eqb d 48 (λ same. omega (arith, first, same)) in
    rw (all, other) refl

decimal_canonical : (n : ℕ) → n < 2 ^ 64 → is_canonical (numeral n) ≡ true
decimal_canonical zero small = rw (decimal_digit 0 (omega arith)) refl
decimal_canonical (suc n) small = canonical_of (numeral (suc n)) (digits_decimal numerals (suc n) small) (decimal_nonempty (suc n) small) (first_decimal (suc n) (omega arith) small)

-- what is written for a number has this number
pub natural_again : (most n : ℕ) → most < 2 ^ 64 → n ≤ most → natural_of most (numeral n) ≡ Some n
natural_again most n wide small = natural_is most n (numeral n) (decimal_canonical n (omega arith)) (sym (digits_value-decimal numerals n (omega arith))) small

-- what is written for a number is digits, and not nothing
pub numeral_digits : (n : ℕ) → n < 2 ^ 64 → list_all is_digit (numeral n) ≡ true
numeral_digits n small = digits_decimal numerals n small
