use Rattle.std.proofs.Common.{◌≡◌, pos, neg_ℤ, Ok, Err, refl}
use Rattle.std.specs.Prelude.{codes}
use Rattle.ip_core.specs.Decimals.{read_decimal}
use Rattle.ip_core.specs.declared.decimal.NumeralError.TheVariants.{Empty, BadByte, TooLong, Range}

-- the worked numerals
hundred_and_half : read_decimal (codes "1.50D+2") ≡ Ok (record { mantissa = pos 15; exponent = pos 1 })
hundred_and_half = refl

half : read_decimal (codes ".5") ≡ Ok (record { mantissa = pos 5; exponent = neg_ℤ (pos 1) })
half = refl

nothing : read_decimal (codes "0.000") ≡ Ok (record { mantissa = pos 0; exponent = pos 0 })
nothing = refl

too_fine : read_decimal (codes "1e-19") ≡ Err Range
too_fine = refl

two_points : read_decimal (codes "1.2.3") ≡ Err (BadByte 3)
two_points = refl

sign_alone : read_decimal (codes "+") ≡ Err Empty
sign_alone = refl

no_power : read_decimal (codes "1e") ≡ Err Empty
no_power = refl

nineteen_digits : read_decimal (codes "-1234567890123456789") ≡ Err TooLong
nineteen_digits = refl
