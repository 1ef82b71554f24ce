-- Decimals of a file: zero, and those that stand for no bound.
use Rattle.std.specs.Prelude.{◌+◌, ◌*◌, ◌^◌, Bool, false, ◌==◌, nat_le, ℤ, pos, negsuc}
use Rattle.ip_core.specs.Decimals.{Number}

-- the number 0
abbrev pub zero_decimal : Number
zero_decimal = record { mantissa = pos 0; exponent = pos 0 }

-- whether a whole number is 0
abbrev pub is_zero_int : ℤ → Bool
is_zero_int (pos n) = n == 0
is_zero_int (negsuc n) = false

-- whether a decimal is 0
abbrev pub is_zero : Number → Bool
is_zero d = is_zero_int d.mantissa

-- whether mantissa times ten to the exponent is 10^20 or more, which stands for no bound
abbrev pub reaches_infinity : ℤ → ℤ → Bool
reaches_infinity (pos m) (pos e) = nat_le (10 ^ 20) (m * 10 ^ e)
reaches_infinity (pos m) (negsuc e) = nat_le (10 ^ (21 + e)) m
reaches_infinity (negsuc m) exponent = false

-- the same of a decimal
abbrev pub is_infinite : Number → Bool
is_infinite d = reaches_infinity d.mantissa d.exponent
