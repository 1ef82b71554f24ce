use Rattle.std.proofs.Common.{◌≤◌, ◌^◌, ◌∙◌, ◌*ℤ◌, unsigned_abs, arith}
use Rattle.std.proofs.lemmas.Int.{to_z-of_z}
use Rattle.std.proofs.Common.{w64}
use Rattle.cut_derive.proofs.Sizes.{product_fits, product_is}
use Rattle.cut_derive.proofs.rounding.product.Goals as goal

pub overflow_mul-result : goal.overflow_mul-result
overflow_mul-result c =
    let small : unsigned_abs (c.args.coef *ℤ c.args.value) ≤ 2 ^ 103 = omega (arith, c.requires) in
    product_fits c.args.coef c.args.value c.from.result c.ranges.coef (c.from.ensures ∙ to_z-of_z w64 c.args.value c.ranges.value) (record { sfits = c.from.type_inv }) small

pub returns : goal.returns
returns c =
    let small : unsigned_abs (c.args.coef *ℤ c.args.value) ≤ 2 ^ 103 = omega (arith, c.requires) in
    product_is c.args.coef c.args.value c.from.result c.ranges.coef (c.from.ensures ∙ to_z-of_z w64 c.args.value c.ranges.value) (record { sfits = c.from.type_inv }) small
