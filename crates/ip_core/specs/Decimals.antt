-- Decimal numerals.
use Rattle.std.specs.Prelude.{ℕ, ◌≡◌, ◌≤◌, ◌<◌, ◌^◌, ◌≤ℤ◌, unsigned_abs, ◌+◌, ◌*◌, ◌-◌, Bool, true, false, not, ◌||◌, ◌&&◌, ◌==◌, nat_le, int_le, List, [], ◌∷◌, ◌++◌, length, take, drop, take_while, ℤ, pos, neg_ℤ, ◌+ℤ◌, ◌-ℤ◌, Option, Some, None, Result, Ok, Err, if◌then◌else◌}
use Rattle.std.specs.List.{suffix_len, prefix_len, list_all}
use Rattle.ip_core.specs.declared.numeral.Numeral.{Numeral}
use Rattle.ip_core.specs.declared.decimal.NumeralError.{NumeralError}
use Rattle.ip_core.specs.declared.decimal.NumeralError.TheVariants.{Empty, BadByte, TooLong, Range}

-- a number: mantissa times ten to the exponent
pub record Number : Type 0 where
  pub mantissa : ℤ
  pub exponent : ℤ

-- the number is reduced, with at most 18 digits and an exponent of -18 to 400: its mantissa isn't divisible by ten, or
-- both are 0
pub record IsDecimal (n : Number) : Type 0 where
  pub reduced : (k : ℕ) → unsigned_abs n.mantissa ≡ k * 10 → n.mantissa ≡ pos 0
  pub zero : n.mantissa ≡ pos 0 → n.exponent ≡ pos 0
  pub few : unsigned_abs n.mantissa < 10 ^ 18
  pub least : neg_ℤ (pos 18) ≤ℤ n.exponent
  pub greatest : n.exponent ≤ℤ pos 400

-- a digit: `0` to `9`
abbrev pub is_digit : ℕ → Bool
is_digit b = nat_le 48 b && nat_le b 57

-- a sign: `+` or `-`
abbrev pub is_sign : ℕ → Bool
is_sign b = b == 43 || b == 45

-- a letter that an exponent begins with: `D`, `E`, `d` or `e`
abbrev pub is_exponent_letter : ℕ → Bool
is_exponent_letter b = b == 68 || b == 69 || b == 100 || b == 101

-- whether there is a first byte, and it passes the test
abbrev pub first_passes : (ℕ → Bool) → List ℕ → Bool
first_passes test [] = false
first_passes test (b ∷ bs) = test b

-- what follows a first byte that passes the test, or all where none does
abbrev pub after_one : (ℕ → Bool) → List ℕ → List ℕ
after_one test bytes = if first_passes test bytes then drop 1 bytes else bytes

-- the run of digits at the front
abbrev pub digits : List ℕ → List ℕ
digits bytes = take_while is_digit bytes

-- what follows the run of digits at the front
abbrev pub after_digits : List ℕ → List ℕ
after_digits bytes = drop (prefix_len is_digit bytes) bytes

-- The parts of a numeral, each a run of digits that may be empty, and the bytes that continue it no more.
pub record Parts : Type 0 where
  pub negative : Bool
  pub whole : List ℕ
  pub fraction : List ℕ
  pub has_exponent : Bool
  pub exponent_negative : Bool
  pub exponent : List ℕ
  pub left : List ℕ

-- the parts of a numeral of n bytes at most: runs of digits, none longer than the numeral
pub record AreParts (n : ℕ) (p : Parts) : Type 0 where
  pub digits : list_all is_digit (p.whole ++ p.fraction) ≡ true
  pub exponent_digits : list_all is_digit p.exponent ≡ true
  pub short : length (p.whole ++ p.fraction) ≤ n + n
  pub left : length p.left ≤ n

-- the parts as values
abbrev pub parts_of : Numeral → Parts
parts_of n = record {
  negative = n.negative;
  whole = n.whole.now;
  fraction = n.fraction.now;
  has_exponent = n.has_exponent;
  exponent_negative = n.exponent_negative;
  exponent = n.exponent.now;
  left = n.left.now;
}

-- the number that decimal digits give after `so_far`
abbrev pub decimal : ℕ → List ℕ → ℕ
decimal so_far [] = so_far
decimal so_far (d ∷ ds) = decimal (so_far * 10 + (d - 48)) ds

-- the number under its sign
abbrev pub signed_number : Bool → ℕ → ℤ
signed_number negative n = if negative then neg_ℤ (pos n) else pos n

-- the sign `-`
abbrev pub is_minus : ℕ → Bool
is_minus b = b == 45

-- the point `.`
abbrev pub is_point : ℕ → Bool
is_point b = b == 46

-- the bytes from the exponent on: the letter, a sign or none, digits, and what is left
abbrev pub with_exponent : Bool → List ℕ → List ℕ → List ℕ → Parts
with_exponent negative whole fraction tail =
    if first_passes is_exponent_letter tail
    then (let power = drop 1 tail in
    record {
      negative = negative;
      whole = whole;
      fraction = fraction;
      has_exponent = true;
      exponent_negative = first_passes is_minus power;
      exponent = digits (after_one is_sign power);
      left = after_digits (after_one is_sign power);
    })
    else record {
      negative = negative;
      whole = whole;
      fraction = fraction;
      has_exponent = false;
      exponent_negative = false;
      exponent = [];
      left = tail;
    }

-- the bytes from the point on
abbrev pub with_fraction : Bool → List ℕ → List ℕ → Parts
with_fraction negative whole tail =
    if first_passes is_point tail
    then with_exponent negative whole (digits (drop 1 tail)) (after_digits (drop 1 tail))
    else with_exponent negative whole [] tail

-- the parts of a numeral, as its bytes say
abbrev pub parts : List ℕ → Parts
parts bytes =
    with_fraction (first_passes is_minus bytes) (digits (after_one is_sign bytes))
    (after_digits (after_one is_sign bytes))

-- the digit `0`
abbrev pub is_zero : ℕ → Bool
is_zero d = d == 48

-- the number of zeros at the front of digits
abbrev pub leading_zeros : List ℕ → ℕ
leading_zeros ds = prefix_len is_zero ds

-- the number of zeros at their end
abbrev pub trailing_zeros : List ℕ → ℕ
trailing_zeros ds = suffix_len is_zero ds

-- the digits that remain without the zeros at both ends
abbrev pub significant_digits : List ℕ → List ℕ
significant_digits ds = drop (leading_zeros ds) (take (length ds - trailing_zeros ds) ds)

-- the power of ten of the last digit that remains
abbrev pub power : Bool → List ℕ → ℕ → ℕ → ℤ
power negative exponent fraction_length zeros =
    signed_number negative (decimal 0 exponent) -ℤ pos fraction_length +ℤ pos zeros

-- a power of ten that a decimal may have: -18 to 400
abbrev pub is_in_range : ℤ → Bool
is_in_range n = int_le (neg_ℤ (pos 18)) n && int_le n (pos 400)

-- the power of ten, or None where it is out of range
abbrev pub exponent_in_range : ℤ → Option ℤ
exponent_in_range n = if is_in_range n then Some n else None

-- the decimal of a sign, the digits that remain and the power of ten of the last of them
abbrev pub reduced_number : Bool → List ℕ → ℤ → Result Number NumeralError
reduced_number negative ds power =
    if length ds == 0 then Ok (record { mantissa = pos 0; exponent = pos 0 })
    else if not (nat_le (length ds) 18) then Err TooLong
    else if not (is_in_range power) then Err Range
    else Ok (record { mantissa = signed_number negative (decimal 0 ds); exponent = power })

-- no digit stands before the exponent, or none in it
abbrev pub lacks_digits : Parts → Bool
lacks_digits p = length (p.whole ++ p.fraction) == 0 || (p.has_exponent && length p.exponent == 0)

-- the decimal of the parts of a numeral of n bytes, or why it is none
abbrev pub read_parts : ℕ → Parts → Result Number NumeralError
read_parts n p =
    if not (length p.left == 0) then Err (BadByte (n - length p.left))
    else if lacks_digits p then Err Empty
    else (let ds = p.whole ++ p.fraction in
    reduced_number p.negative (significant_digits ds)
    (power p.exponent_negative p.exponent (length p.fraction) (trailing_zeros ds)))

-- The decimal that bytes stand for: a sign or none, digits with at most one point, and perhaps an exponent. The first
-- cause that applies refuses the others: a byte that continues no numeral, no digits, more than 18 of them, a power
-- of ten out of range.
abbrev pub read_decimal : List ℕ → Result Number NumeralError
read_decimal bytes = read_parts (length bytes) (parts bytes)

-- the number under the other sign
abbrev pub negation : Number → Number
negation n = record { mantissa = neg_ℤ n.mantissa; exponent = n.exponent }
