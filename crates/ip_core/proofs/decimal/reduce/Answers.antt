use Rattle.std.proofs.Common.{◌≡◌, ◌++◌, Some, None, length, FitsSigned, w16, w64, to_z, of_z, sym, arith}
use Rattle.std.proofs.lemmas.Int.{ints, fits_signed_from_abs, to_z-of_z}
use Rattle.ip_core.specs.Decimals.{power, trailing_zeros, exponent_in_range}
use Rattle.ip_core.proofs.DecimalPowers.{reduced_as, refused_as, tested_power}
use Rattle.ip_core.proofs.DecimalReduced.{signed_decimal_is}
use Rattle.ip_core.proofs.decimal.reduce.Goals as goal

pub returns : goal.returns
returns c =
    let ds = c.args.whole.now ++ c.args.fraction.now in
    let mantissa = c.signed_number-mantissa.result in
    let exponent = c.in-Some.exponent in
    let q = to_z w64 (of_z w64 c.shifted_exponent-power.result) in
    let p = power c.args.exponent_negative c.args.exponent.now (length c.args.fraction.now) (trailing_zeros ds) in
    let mantissa_fits : FitsSigned w64 mantissa = fits_signed_from_abs w64 mantissa (omega (arith, c.signed_number-mantissa.ensures.small, c.number_between.ensures.small)) in
    let exponent_fits : FitsSigned w16 exponent = fits_signed_from_abs w16 exponent (omega (arith, ints, c.in-Some.ensures.least, c.in-Some.ensures.greatest)) in
    let here : exponent_in_range q ≡ Some exponent = sym c.in-Some.ensures.value in
    let same : exponent_in_range q ≡ exponent_in_range p =
    tested_power c.args.exponent_negative c.args.whole.now c.args.fraction.now c.args.exponent.now c.significant_end-to.result c.capped_number.result c.signed_number.result c.shifted_exponent-power.result c.requires.short
    c.significant_end-to.ensures.value c.capped_number.ensures.value c.signed_number.ensures.value c.signed_number.ensures.small c.shifted_exponent-power.ensures.value c.shifted_exponent-power.ensures.small
    in
    rw (to_z-of_z w64 mantissa mantissa_fits, to_z-of_z w16 exponent exponent_fits)
    (reduced_as c.args.negative ds c.leading_zeros-from.result c.significant_end-to.result c.number_between.result p q mantissa exponent c.leading_zeros-from.ensures.value c.significant_end-to.ensures.value
    c.significant_end-to.ensures.within (omega (arith, c.if-to-from.false)) (omega (arith, c.if-to-from-gt-MAX_DIGITS.false)) c.number_between.ensures.value c.signed_number-mantissa.ensures.value here same)

pub returns-in_default : goal.returns-in_default
returns-in_default c =
    let ds = c.args.whole.now ++ c.args.fraction.now in
    let q = to_z w64 (of_z w64 c.shifted_exponent-power.result) in
    let p = power c.args.exponent_negative c.args.exponent.now (length c.args.fraction.now) (trailing_zeros ds) in
    let here : exponent_in_range q ≡ None = sym c.in_default.ensures.value in
    let same : exponent_in_range q ≡ exponent_in_range p =
    tested_power c.args.exponent_negative c.args.whole.now c.args.fraction.now c.args.exponent.now c.significant_end-to.result c.capped_number.result c.signed_number.result c.shifted_exponent-power.result c.requires.short
    c.significant_end-to.ensures.value c.capped_number.ensures.value c.signed_number.ensures.value c.signed_number.ensures.small c.shifted_exponent-power.ensures.value c.shifted_exponent-power.ensures.small
    in
    refused_as c.args.negative ds c.leading_zeros-from.result c.significant_end-to.result p q c.leading_zeros-from.ensures.value c.significant_end-to.ensures.value
    c.significant_end-to.ensures.within (omega (arith, c.if-to-from.false)) (omega (arith, c.if-to-from-gt-MAX_DIGITS.false)) here same

pub invariant_of-result-2 : goal.invariant_of-result-2
invariant_of-result-2 c =
    let ds = c.args.whole.now ++ c.args.fraction.now in
    let mantissa = c.signed_number-mantissa.result in
    let exponent = c.in-Some.exponent in
    let mantissa_fits : FitsSigned w64 mantissa = fits_signed_from_abs w64 mantissa (omega (arith, c.signed_number-mantissa.ensures.small, c.number_between.ensures.small)) in
    let exponent_fits : FitsSigned w16 exponent = fits_signed_from_abs w16 exponent (omega (arith, ints, c.in-Some.ensures.least, c.in-Some.ensures.greatest)) in
    rw (to_z-of_z w64 mantissa mantissa_fits, to_z-of_z w16 exponent exponent_fits)
    (signed_decimal_is ds c.leading_zeros-from.result c.significant_end-to.result c.number_between.result mantissa exponent c.requires.digits (omega (arith, c.if-to-from.false)) c.significant_end-to.ensures.within
    (c.significant_end-to.ensures.last (omega (arith, c.if-to-from.false))) c.number_between.ensures.value c.signed_number-mantissa.ensures.small c.number_between.ensures.small c.in-Some.ensures.least c.in-Some.ensures.greatest)
