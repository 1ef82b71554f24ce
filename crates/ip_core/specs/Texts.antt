-- Numbers with decimals, as text.
use Rattle.std.specs.Prelude.{ℕ, zero, suc, ◌+◌, ◌/◌, ◌%◌, ◌^◌, List, [], ◌∷◌, ◌++◌, ℤ, pos, int_lt, unsigned_abs}
use Rattle.std.specs.Fmt.{decimal, sign_text}

-- the last digits of a number, so many of them, with zeros in front where it has fewer
abbrev pub last_digits : ℕ → ℕ → List ℕ
last_digits zero n = []
last_digits (suc count) n = last_digits count (n / 10) ++ (48 + n % 10) ∷ []

-- a point and so many digits, or nothing where there are none
abbrev pub fraction_text : ℕ → ℕ → List ℕ
fraction_text zero n = []
fraction_text (suc count) n = 46 ∷ last_digits (suc count) n

-- the value divided by ten to the power of `decimals`: `-` where it is negative, the whole part, and the decimals
abbrev pub decimal_text : ℤ → ℕ → List ℕ
decimal_text value decimals =
    sign_text (int_lt value (pos 0)) ++ decimal (unsigned_abs value / 10 ^ decimals)
    ++ fraction_text decimals (unsigned_abs value)
