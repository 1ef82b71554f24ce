use Rattle.std.proofs.Common.{◌≡◌, ◌*ℤ◌, ℤ, FitsSigned, w64, to_z, of_z, rules}
use Rattle.std.proofs.lemmas.Int.{to_z-of_z}
use Rattle.ip_core.specs.Numbers.{int_at}
use Rattle.ip_core.proofs.Widths.{narrow_fits, product_within_width}
use Rattle.ip_core.proofs.feasible.product.Goals as goal

exact : (a b : ℤ) → FitsSigned w64 a → FitsSigned w64 b → to_z w64 (of_z w64 a) *ℤ to_z w64 (of_z w64 b) ≡ a *ℤ b
exact a b first second = rw (to_z-of_z w64 a first, to_z-of_z w64 b second)

pub overflow_mul-result : goal.overflow_mul-result
overflow_mul-result c =
    let x = int_at c.args.values.now c.args.col in
    let fits : FitsSigned w64 x = search rules in
    let small = product_within_width c.args.root.now c.args.values.now c.args.coef c.args.col c.requires.inside c.requires.known in
    rw (exact c.args.coef x c.ranges.coef fits) (narrow_fits _ _ small c.requires.narrow)

pub returns : goal.returns
returns c =
    let x = int_at c.args.values.now c.args.col in
    let fits : FitsSigned w64 x = search rules in
    let small = product_within_width c.args.root.now c.args.values.now c.args.coef c.args.col c.requires.inside c.requires.known in
    rw (exact c.args.coef x c.ranges.coef fits) (to_z-of_z w64 _ (narrow_fits _ _ small c.requires.narrow))
