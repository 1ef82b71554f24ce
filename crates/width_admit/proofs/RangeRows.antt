use Rattle.std.specs.Prelude.{◌≡◌, pos, negsuc, Some, None, refl}
use Rattle.mps_model.specs.declared.model.RowKind.TheVariants.{Less, Greater, Equal}
use Rattle.width_admit.specs.Sides.{sides}

-- the sides of rows with right-hand side 5, without a range and with ranges of either sign and 0

pub at_most : sides Less (pos 5) None ≡ record { lower = None; upper = Some (pos 5) }
at_most = refl

pub at_least : sides Greater (pos 5) None ≡ record { lower = Some (pos 5); upper = None }
at_least = refl

pub equal : sides Equal (pos 5) None ≡ record { lower = Some (pos 5); upper = Some (pos 5) }
equal = refl

pub at_most-range : sides Less (pos 5) (Some (pos 7)) ≡ record { lower = Some (negsuc 1); upper = Some (pos 5) }
at_most-range = refl

pub at_most-negative : sides Less (pos 5) (Some (negsuc 6)) ≡ record { lower = Some (negsuc 1); upper = Some (pos 5) }
at_most-negative = refl

pub at_most-zero : sides Less (pos 5) (Some (pos 0)) ≡ record { lower = Some (pos 5); upper = Some (pos 5) }
at_most-zero = refl

pub at_least-range : sides Greater (pos 5) (Some (pos 7)) ≡ record { lower = Some (pos 5); upper = Some (pos 12) }
at_least-range = refl

pub at_least-negative : sides Greater (pos 5) (Some (negsuc 6)) ≡ record { lower = Some (pos 5); upper = Some (pos 12) }
at_least-negative = refl

pub equal-range : sides Equal (pos 5) (Some (pos 2)) ≡ record { lower = Some (pos 5); upper = Some (pos 7) }
equal-range = refl

pub equal-negative : sides Equal (pos 5) (Some (negsuc 1)) ≡ record { lower = Some (pos 3); upper = Some (pos 5) }
equal-negative = refl

pub equal-zero : sides Equal (pos 5) (Some (pos 0)) ≡ record { lower = Some (pos 5); upper = Some (pos 5) }
equal-zero = refl
