-- The sides of a row of a file.
use Rattle.std.specs.Prelude.{ℕ, List, ℤ, pos, negsuc, ◌+ℤ◌, ◌-ℤ◌, unsigned_abs, Option, Some, None, option_map, option_to_list, length, ◌++◌}
use Rattle.mps_model.specs.declared.model.RowKind.{RowKind}
use Rattle.mps_model.specs.declared.model.RowKind.TheVariants.{Less, Greater, Equal}
use Rattle.mps_model.specs.declared.model.MpsRow.{MpsRow}
use Rattle.width_admit.specs.declared.sides.RowSides.{RowSides}
use Rattle.width_admit.specs.Exact.{units}

-- a range and its right-hand side as the two sides of an equality: the range adds upward or downward by its sign
abbrev pub equal_sides : ℤ → ℤ → RowSides
equal_sides b (pos r) = record { lower = Some b; upper = Some (b +ℤ pos r) }
equal_sides b (negsuc r) = record { lower = Some (b +ℤ negsuc r); upper = Some b }

-- the sides of a kind of row with right-hand side `b` and a range or none
abbrev pub sides : RowKind → ℤ → Option ℤ → RowSides
sides Less b None = record { lower = None; upper = Some b }
sides Less b (Some r) = record { lower = Some (b -ℤ pos (unsigned_abs r)); upper = Some b }
sides Greater b None = record { lower = Some b; upper = None }
sides Greater b (Some r) = record { lower = Some b; upper = Some (b +ℤ pos (unsigned_abs r)) }
sides Equal b None = record { lower = Some b; upper = Some b }
sides Equal b (Some r) = equal_sides b r

-- the sides of a row in units
abbrev pub exact_sides : MpsRow → RowSides
exact_sides row = sides row.kind (units row.rhs) (option_map units row.range)

-- the sides that there are, the lower first
abbrev pub side_list : RowSides → List ℤ
side_list s = option_to_list s.lower ++ option_to_list s.upper

-- how many sides a row has
abbrev pub side_count : MpsRow → ℕ
side_count row = length (side_list (exact_sides row))
