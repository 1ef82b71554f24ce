use Rattle.std.proofs.Common.{pos, ◌-ℤ◌, FitsSigned, w16, w64, arith}
use Rattle.std.proofs.lemmas.Int.{ints, fits_signed_from_abs, to_z-of_z}
use Rattle.ip_core.proofs.DecimalReduced.{negated_is}
use Rattle.ip_core.proofs.decimal.Decimal.negation.Goals as goal

pub invariant_of-result : goal.invariant_of-result
invariant_of-result c =
    let m = c.self.inside.mantissa in
    let e = c.self.inside.exponent in
    let given : FitsSigned w64 m = fits_signed_from_abs w64 m (omega (arith, c.self.invariant.few)) in
    let turned : FitsSigned w64 (pos 0 -ℤ m) = fits_signed_from_abs w64 (pos 0 -ℤ m) (omega (arith, ints, c.self.invariant.few)) in
    let small : FitsSigned w16 e = fits_signed_from_abs w16 e (omega (arith, ints, c.self.invariant.least, c.self.invariant.greatest)) in
    rw (to_z-of_z w64 m given, to_z-of_z w64 (pos 0 -ℤ m) turned, to_z-of_z w16 e small) (negated_is m e c.self.invariant)
