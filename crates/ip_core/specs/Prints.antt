-- Decimals as text.
use Rattle.std.specs.Prelude.{ℕ, zero, suc, List, ◌∷◌, ◌++◌, ℤ, pos, negsuc}
use Rattle.std.specs.Fmt.{decimal, signed_decimal}
use Rattle.ip_core.specs.Decimals.{Number}
use Rattle.ip_core.specs.Texts.{decimal_text}

-- mantissa and exponent as a numeral: the exponent after an `e` where it is above 0, and as decimals where it is below
abbrev pub numeral_text : ℤ → ℤ → List ℕ
numeral_text mantissa (pos zero) = signed_decimal mantissa
numeral_text mantissa (pos (suc n)) = signed_decimal mantissa ++ 101 ∷ decimal (suc n)
numeral_text mantissa (negsuc n) = decimal_text mantissa (suc n)

-- a number as a numeral
abbrev pub number_text : Number → List ℕ
number_text n = numeral_text n.mantissa n.exponent
