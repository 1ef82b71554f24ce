use Rattle.std.proofs.Common.{◌≡◌, ℤ, ◌+ℤ◌, FitsSigned, to_z, of_z}
use Rattle.std.specs.Int.{Width}
use Rattle.std.proofs.lemmas.Int.{to_z-of_z}

-- a part added to a running sum fits, and gives the next sum
pub sum_fits : (w : Width) (sum part next : ℤ) → FitsSigned w part → sum +ℤ part ≡ next → FitsSigned w next → FitsSigned w (sum +ℤ to_z w (of_z w part))
sum_fits w sum part next small same fits = rw (to_z-of_z w part small, same) fits

pub sum_is : (w : Width) (sum part next : ℤ) → FitsSigned w part → sum +ℤ part ≡ next → FitsSigned w next → to_z w (of_z w (sum +ℤ to_z w (of_z w part))) ≡ next
sum_is w sum part next small same fits = rw (to_z-of_z w part small, same) (to_z-of_z w next fits)

-- the sum of two numbers fits, and is held exactly
pub both_fit : (w : Width) (a b next : ℤ) → FitsSigned w a → FitsSigned w b → a +ℤ b ≡ next → FitsSigned w next → FitsSigned w (to_z w (of_z w a) +ℤ to_z w (of_z w b))
both_fit w a b next first second same fits = rw (to_z-of_z w a first, to_z-of_z w b second, same) fits

pub both_are : (w : Width) (a b next : ℤ) → FitsSigned w a → FitsSigned w b → a +ℤ b ≡ next → FitsSigned w next → to_z w (of_z w (to_z w (of_z w a) +ℤ to_z w (of_z w b))) ≡ next
both_are w a b next first second same fits = rw (to_z-of_z w a first, to_z-of_z w b second, same) (to_z-of_z w next fits)
