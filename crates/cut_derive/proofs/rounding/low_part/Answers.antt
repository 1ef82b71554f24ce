use Rattle.std.proofs.Common.{◌≤◌, unsigned_abs, arith, le_refl, FitsSigned, w64, rules}
use Rattle.std.specs.Int.{w128}
use Rattle.std.proofs.lemmas.Int.{to_z-of_z}
use Rattle.ip_core.specs.Numbers.{int_at}
use Rattle.ip_core.specs.Sides.{reach}
use Rattle.cut_derive.proofs.Sizes.{product_within}
use Rattle.cut_derive.proofs.rounding.low_part.Goals as goal

pub product-requires : goal.product-requires
product-requires c =
    let s = c.args.root.now in
    let coefs = c.args.coefs.now in
    let j = c.args.col in
    let near : unsigned_abs (int_at s.lows j) ≤ reach s j = omega arith in
    let first : FitsSigned w128 (int_at coefs j) = search rules in
    let second : FitsSigned w64 (int_at c.lows.result.now j) = search rules in
    rw (to_z-of_z w128 (int_at coefs j) first, to_z-of_z w64 (int_at c.lows.result.now j) second, c.lows.ensures.value)
    (omega (arith, c.requires.narrow, product_within s coefs (int_at coefs j) (int_at s.lows j) j c.requires.known (le_refl (unsigned_abs (int_at coefs j))) near))
