use Rattle.std.proofs.Common.{◌≡◌, ◌∙◌, ◌*◌, ◌≤◌, ◌^◌, arith, unsigned_abs}
use Rattle.std.specs.Int.{w128}
use Rattle.std.proofs.lemmas.Int.{to_z-of_z}
use Rattle.ip_core.specs.Sides.{reach}
use Rattle.cut_derive.proofs.Sizes.{coefficient_within, part_within}
use Rattle.cut_derive.proofs.rounding.rounded_part_width.Goals as goal

pub rounded_coefficient-coef-requires-clause-narrow : goal.rounded_coefficient-coef-requires-clause-narrow
rounded_coefficient-coef-requires-clause-narrow c = omega (arith, c.requires.narrow, coefficient_within c.args.root.now c.args.coefs.now c.args.col c.requires.known)

small : (c : goal.After-from) → c.unsigned_abs.result * c.from.result ≤ 2 ^ 98
small c =
    let first : c.unsigned_abs.result ≡ unsigned_abs c.rounded_coefficient-coef.result = rw (to_z-of_z w128 c.rounded_coefficient-coef.result (record { sfits = c.rounded_coefficient-coef.type_inv })) at c.unsigned_abs.ensures.value in
    let second : c.from.result ≡ reach c.args.root.now c.args.col = c.from.ensures ∙ c.reach.ensures in
    rw (first, second) (omega (arith, c.requires.narrow, part_within c.args.root.now c.args.coefs.now c.rounded_coefficient-coef.result c.args.col c.requires.known c.rounded_coefficient-coef.ensures.small))

pub overflow_mul-result : goal.overflow_mul-result
overflow_mul-result c = record { fits = omega (arith, small c) }

pub returns-clause-small : goal.returns-clause-small
returns-clause-small c = small c
