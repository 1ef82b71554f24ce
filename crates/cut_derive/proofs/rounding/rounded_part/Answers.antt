use Rattle.std.proofs.Common.{arith, FitsSigned, w64, rules}
use Rattle.std.specs.Int.{w128}
use Rattle.std.proofs.lemmas.Int.{to_z-of_z}
use Rattle.ip_core.specs.Numbers.{int_at}
use Rattle.cut_derive.proofs.Sizes.{product_within, coefficient_within}
use Rattle.cut_derive.proofs.rounding.rounded_part.Goals as goal

pub rounded_coefficient-requires-clause-narrow : goal.rounded_coefficient-requires-clause-narrow
rounded_coefficient-requires-clause-narrow c = omega (arith, c.requires.narrow, coefficient_within c.args.root.now c.args.coefs.now c.args.col c.requires.known)

pub product-requires : goal.product-requires
product-requires c =
    let s = c.args.root.now in
    let coefs = c.args.coefs.now in
    let j = c.args.col in
    let second : FitsSigned w64 (int_at c.args.values.now j) = search rules in
    rw (to_z-of_z w128 c.rounded_coefficient.result (record { sfits = c.rounded_coefficient.type_inv }), to_z-of_z w64 (int_at c.args.values.now j) second)
    (omega (arith, c.requires.narrow, product_within s coefs c.rounded_coefficient.result (int_at c.args.values.now j) j c.requires.known c.rounded_coefficient.ensures.small (c.requires.near.each j)))
