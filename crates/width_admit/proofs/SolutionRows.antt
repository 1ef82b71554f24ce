use Rattle.std.proofs.Common.{◌≡◌, ◌+◌, ◌-◌, ◌*◌, ◌^◌, true, false, List, [], ◌∷◌, ℤ, pos, negsuc, Some, None, refl, arith, codes}
use Rattle.std.proofs.lemmas.Int.{ints}
use Rattle.ip_core.specs.Decimals.{Number}
use Rattle.mps_model.specs.declared.model.MpsModel.{MpsModel}
use Rattle.mps_model.specs.declared.model.MpsRow.{MpsRow}
use Rattle.mps_model.specs.declared.model.MpsCol.{MpsCol}
use Rattle.mps_model.specs.declared.model.RowKind.TheVariants.{Less, Greater, Equal}
use Rattle.mps_model.specs.declared.model.Limit.TheVariants.{Unset, At}
use Rattle.width_admit.specs.FilePoints.{IsAllowed, IsBelowHigh, IsAboveLow, IsSolution, row_sum, file_objective}

-- what a small file says of points: 0.5 x + y from 0.5 to 1.25, x from 0 to 2.5 and y from -1.5 to a given 9, at costs of 1.5
-- and -1 and a constant of -10

abbrev decimal : ℤ → ℤ → Number
decimal mantissa exponent = record { mantissa = mantissa; exponent = exponent }

abbrev between : MpsRow
between = record { name = codes "a"; kind = Less; rhs = decimal (pos 125) (negsuc 1); range = Some (decimal (pos 75) (negsuc 1)) }

abbrev columns : List MpsCol
columns =
    record { name = codes "x"; integer = true; cost = decimal (pos 15) (negsuc 0); entries = record { row = 0; value = decimal (pos 5) (negsuc 0) } ∷ []; low = Unset; high = At (decimal (pos 25) (negsuc 0)) }
    ∷ record { name = codes "y"; integer = true; cost = decimal (negsuc 0) (pos 0); entries = record { row = 0; value = decimal (pos 1) (pos 0) } ∷ []; low = At (decimal (negsuc 14) (negsuc 0)); high = Unset }
    ∷ []

abbrev file : MpsModel
file = record { name = codes "T"; maximise = false; objective = codes "c"; constant = decimal (negsuc 0) (pos 1); rows = between ∷ []; cols = columns }

-- at x = 1 and y = 0 the row adds up to 0.5 and the objective to -8.5; at x = 2 and y = -1 to 0 and -6
pub first_sum : row_sum columns (pos 1 ∷ pos 0 ∷ []) 0 ≡ pos (5 * 10 ^ 17)
first_sum = refl

pub first_objective : file_objective file (pos 1 ∷ pos 0 ∷ []) ≡ negsuc (84 * 10 ^ 17 + 10 ^ 17 - 1)
first_objective = refl

pub second_sum : row_sum columns (pos 2 ∷ negsuc 0 ∷ []) 0 ≡ pos 0
second_sum = refl

pub second_objective : file_objective file (pos 2 ∷ negsuc 0 ∷ []) ≡ negsuc (6 * 10 ^ 18 - 1)
second_objective = refl

-- the first of them is a solution, the second doesn't meet the row
pub is_solution : IsSolution file (Some 9) (pos 1 ∷ pos 0 ∷ [])
is_solution = record {
  one_each = refl;
  inside = (record { above = omega (arith, ints); below = omega (arith, ints) }, (record { above = omega (arith, ints); below = omega (arith, ints) }, tt));
  rows_met = (record { allowed = (omega (arith, ints), omega (arith, ints)) }, tt);
}

pub is_no_solution : IsSolution file (Some 9) (pos 2 ∷ negsuc 0 ∷ []) → ⊥
is_no_solution h = let low = h.rows_met.0.allowed.0 in omega (arith, ints, low)

-- 2 is at most 2.5 and 3 isn't; -1 is at least -1.5 and -2 isn't; y may be 9 and not 10
pub below : IsBelowHigh (Some 9) (At (decimal (pos 25) (negsuc 0))) (pos 2)
below = omega (arith, ints)

pub past_high : IsBelowHigh (Some 9) (At (decimal (pos 25) (negsuc 0))) (pos 3) → ⊥
past_high h = omega (arith, ints, h)

pub above : IsAboveLow (At (decimal (negsuc 14) (negsuc 0))) (negsuc 0)
above = omega (arith, ints)

pub past_low : IsAboveLow (At (decimal (negsuc 14) (negsuc 0))) (negsuc 1) → ⊥
past_low h = omega (arith, ints, h)

pub past_given : IsBelowHigh (Some 9) Unset (pos 10) → ⊥
past_given h = omega (arith, ints, h)

-- an equality with right-hand side 5: 5 alone, and 3 to 5 or 5 to 7 with a range
pub equal : IsAllowed Equal (pos 5) None (pos 5)
equal = refl

pub from_three : IsAllowed Equal (pos 5) (Some (negsuc 1)) (pos 3)
from_three = (omega (arith, ints), omega (arith, ints))

pub not_six : IsAllowed Equal (pos 5) (Some (negsuc 1)) (pos 6) → ⊥
not_six h = let high = h.1 in omega (arith, ints, high)

pub to_seven : IsAllowed Equal (pos 5) (Some (pos 2)) (pos 7)
to_seven = (omega (arith, ints), omega (arith, ints))

pub not_four : IsAllowed Equal (pos 5) (Some (pos 2)) (pos 4) → ⊥
not_four h = let low = h.0 in omega (arith, ints, low)

-- of at most and at least the sign of a range says nothing
pub at_most : IsAllowed Less (pos 5) (Some (negsuc 1)) (pos 3)
at_most = (omega (arith, ints), omega (arith, ints))

pub at_least : IsAllowed Greater (pos 5) (Some (negsuc 1)) (pos 7)
at_least = (omega (arith, ints), omega (arith, ints))
