-- Whole numbers as decimals, and names that end with a number.
use Rattle.std.specs.Prelude.{ℕ, ◌/◌, ◌^◌, ◌==◌, if◌then◌else◌, List, ◌∷◌, pos}
use Rattle.std.specs.Fmt.{decimal}
use Rattle.ip_core.specs.Decimals.{Number, trailing_zeros}

-- how many zeros the digits of a number end with
abbrev pub zeros : ℕ → ℕ
zeros n = trailing_zeros (decimal n)

-- a whole number as a decimal: the zeros at its end are the power of ten
abbrev pub whole_decimal : ℕ → Number
whole_decimal n =
    if n == 0 then record { mantissa = pos 0; exponent = pos 0 }
    else record { mantissa = pos (n / 10 ^ zeros n); exponent = pos (zeros n) }

-- a letter and a number
abbrev pub numbered_name : ℕ → ℕ → List ℕ
numbered_name letter n = letter ∷ decimal n
