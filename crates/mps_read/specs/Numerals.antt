-- Numerals of a file as decimals.
use Rattle.std.specs.Prelude.{ℕ, Bool, true, false, List, pos, Result, Ok, Err}
use Rattle.ip_core.specs.Decimals.{Number, read_decimal}
use Rattle.mps_model.specs.Numbers.{zero_decimal}
use Rattle.ip_core.specs.declared.decimal.NumeralError.{NumeralError}

-- the number 1
abbrev pub one_decimal : Number
one_decimal = record { mantissa = pos 1; exponent = pos 0 }

-- whether the bytes were read
abbrev pub is_read : Result Number NumeralError → Bool
is_read (Ok d) = true
is_read (Err e) = false

-- whether bytes are a numeral
abbrev pub is_numeral : List ℕ → Bool
is_numeral bytes = is_read (read_decimal bytes)

-- what was read, or 0
abbrev pub or_zero : Result Number NumeralError → Number
or_zero (Ok d) = d
or_zero (Err e) = zero_decimal

-- the decimal that a numeral stands for
abbrev pub decimal_of : List ℕ → Number
decimal_of bytes = or_zero (read_decimal bytes)
