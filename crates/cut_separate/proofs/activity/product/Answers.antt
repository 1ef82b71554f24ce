use Rattle.std.proofs.Common.{◌≡◌, ◌*ℤ◌, ℤ, w64, to_z, of_z, FitsSigned}
use Rattle.std.proofs.lemmas.Int.{to_z-of_z}
use Rattle.ip_core.proofs.Widths.{narrow_fits}
use Rattle.std.proofs.Common.{le_refl, ◌^◌}
use Rattle.cut_separate.proofs.activity.product.Goals as goal

exact : (a b : ℤ) → FitsSigned w64 a → FitsSigned w64 b → to_z w64 (of_z w64 a) *ℤ to_z w64 (of_z w64 b) ≡ a *ℤ b
exact a b first second = rw (to_z-of_z w64 a first, to_z-of_z w64 b second)

pub overflow_mul-result : goal.overflow_mul-result
overflow_mul-result c = rw (exact c.args.coef c.args.value c.ranges.coef c.ranges.value) (narrow_fits _ (2 ^ 50) c.requires (le_refl (2 ^ 50)))

pub returns : goal.returns
returns c = rw (exact c.args.coef c.args.value c.ranges.coef c.ranges.value) (to_z-of_z w64 _ (narrow_fits _ (2 ^ 50) c.requires (le_refl (2 ^ 50))))
