-- Worked rows: which leaves hold, and why others don't.
use Rattle.std.proofs.Common.{◌≡◌, [], ◌∷◌, ℤ, pos, negsuc, true, false, Some, None, refl}
use Rattle.ip_core.specs.Sides.{Sides}
use Rattle.ip_core.specs.declared.model.ModelParts.{ModelParts}
use Rattle.ip_core.specs.declared.row.Row.{Row}
use Rattle.ip_core.specs.declared.row_ref.RowRef.TheVariants.{Model, Cut}
use Rattle.ip_core.specs.declared.leaf.Closing.TheVariants.{Conflict, Empty, Bound}
use Rattle.ip_core.proofs.SmallModels.{box, double, least_x, single}
use Rattle.search_truth.specs.Boxes.{low_child, high_child}
use Rattle.safe_bound.specs.Bounds.{reduced_cost, numerator}
use Rattle.leaf_truth.specs.declared.reason.LeafReason.TheVariants.{BadStep, BadConflict, BadBound}
use Rattle.leaf_truth.specs.Multipliers.{multipliers, pairs_of}
use Rattle.leaf_truth.specs.Leaves.{leaf_reason}
use Rattle.leaf_truth.specs.Laws.{leaf_of}

-- -2x >= -3, which with 2x >= 3 no whole number meets
abbrev at_most : Row
at_most = record { terms = record { col = 0; coef = negsuc 1 } ∷ []; least = negsuc 2 }

-- the least of x in 0 to 5 with 2x = 3
abbrev odd : ModelParts
odd = least_x (box (pos 0) (pos 5)) (double ∷ at_most ∷ [])

-- row 0 raises x to 2, and row 1 conflicts then, at one more than the greatest value
closed_odd : leaf_reason odd [] (pos 6) odd.root (leaf_of (record { row = Model 0; col = 0; low = true } ∷ []) (Conflict (Model 1))) ≡ None
closed_odd = refl

-- the other way round
closed_other : leaf_reason odd [] (pos 6) odd.root (leaf_of (record { row = Model 1; col = 0; low = false } ∷ []) (Conflict (Model 0))) ≡ None
closed_other = refl

-- the same where the second row is a cut
closed_by_cut : leaf_reason single (at_most ∷ []) (pos 6) single.root (leaf_of (record { row = Model 0; col = 0; low = true } ∷ []) (Conflict (Cut 0))) ≡ None
closed_by_cut = refl

-- without the step row 1 doesn't conflict, and row 0 doesn't after it
no_conflict : leaf_reason odd [] (pos 6) odd.root (leaf_of [] (Conflict (Model 1))) ≡ Some BadConflict
no_conflict = refl

met_row : leaf_reason odd [] (pos 6) odd.root (leaf_of (record { row = Model 0; col = 0; low = true } ∷ []) (Conflict (Model 0))) ≡ Some BadConflict
met_row = refl

unknown_conflict : leaf_reason odd [] (pos 6) odd.root (leaf_of (record { row = Model 0; col = 0; low = true } ∷ []) (Conflict (Model 2))) ≡ Some BadConflict
unknown_conflict = refl

-- a step of an unknown row, of a cut that isn't there, of an unknown column, and on the wrong side
unknown_row : leaf_reason odd [] (pos 6) odd.root (leaf_of (record { row = Model 2; col = 0; low = true } ∷ []) (Conflict (Model 1))) ≡ Some BadStep
unknown_row = refl

unknown_cut : leaf_reason odd [] (pos 6) odd.root (leaf_of (record { row = Cut 0; col = 0; low = true } ∷ []) (Conflict (Model 1))) ≡ Some BadStep
unknown_cut = refl

unknown_column : leaf_reason odd [] (pos 6) odd.root (leaf_of (record { row = Model 0; col = 1; low = true } ∷ []) (Conflict (Model 1))) ≡ Some BadStep
unknown_column = refl

wrong_side : leaf_reason odd [] (pos 6) odd.root (leaf_of (record { row = Model 0; col = 0; low = false } ∷ []) (Conflict (Model 1))) ≡ Some BadStep
wrong_side = refl

wrong_side_high : leaf_reason odd [] (pos 6) odd.root (leaf_of (record { row = Model 1; col = 0; low = true } ∷ []) (Conflict (Model 0))) ≡ Some BadStep
wrong_side_high = refl

-- a step before which a column is empty, and a conflict there; the empty column itself closes the box, with no step
step_on_empty : leaf_reason odd [] (pos 6) (box (pos 5) (pos 4)) (leaf_of (record { row = Model 0; col = 0; low = true } ∷ []) (Conflict (Model 1))) ≡ Some BadStep
step_on_empty = refl

conflict_on_empty : leaf_reason odd [] (pos 6) (box (pos 5) (pos 4)) (leaf_of [] (Conflict (Model 1))) ≡ Some BadConflict
conflict_on_empty = refl

closed_empty : leaf_reason odd [] (pos 6) (box (pos 5) (pos 4)) (leaf_of [] (Empty 0)) ≡ None
closed_empty = refl

no_empty : leaf_reason odd [] (pos 6) odd.root (leaf_of [] (Empty 0)) ≡ Some BadConflict
no_empty = refl

unknown_empty : leaf_reason odd [] (pos 6) (box (pos 5) (pos 4)) (leaf_of [] (Empty 1)) ≡ Some BadConflict
unknown_empty = refl

-- a step raises the low above the high, and the column is empty then
emptied : leaf_reason odd [] (pos 6) (box (pos 0) (pos 1)) (leaf_of (record { row = Model 0; col = 0; low = true } ∷ []) (Empty 0)) ≡ None
emptied = refl

-- three columns of 0 to 1 without costs, and 2x + 2y + 2z = 3 as two rows
abbrev three : ℤ → ℤ → Row
three c asks = record { terms = record { col = 0; coef = c } ∷ record { col = 1; coef = c } ∷ record { col = 2; coef = c } ∷ []; least = asks }

abbrev unit : Sides
unit = record { lows = pos 0 ∷ pos 0 ∷ pos 0 ∷ []; highs = pos 1 ∷ pos 1 ∷ pos 1 ∷ [] }

abbrev parity : ModelParts
parity = record single { cols = (120 ∷ []) ∷ (121 ∷ []) ∷ (122 ∷ []) ∷ []; costs = pos 0 ∷ pos 0 ∷ pos 0 ∷ []; root = unit; rows = three (pos 2) (pos 3) ∷ three (negsuc 1) (negsuc 2) ∷ [] }

-- where x is 0, row 0 raises y and z to 1, and row 1 conflicts
low_half : leaf_reason parity [] (pos 1) (low_child unit 0 (pos 0)) (leaf_of (record { row = Model 0; col = 1; low = true } ∷ record { row = Model 0; col = 2; low = true } ∷ []) (Conflict (Model 1))) ≡ None
low_half = refl

-- where x is 1, row 1 lowers y and z to 0, and row 0 conflicts
high_half : leaf_reason parity [] (pos 1) (high_child unit 0 (pos 0)) (leaf_of (record { row = Model 1; col = 1; low = false } ∷ record { row = Model 1; col = 2; low = false } ∷ []) (Conflict (Model 0))) ≡ None
high_half = refl

-- neither closes the other half, nor the whole box
wrong_half : leaf_reason parity [] (pos 1) (high_child unit 0 (pos 0)) (leaf_of (record { row = Model 0; col = 1; low = true } ∷ record { row = Model 0; col = 2; low = true } ∷ []) (Conflict (Model 1))) ≡ Some BadConflict
wrong_half = refl

whole_box : leaf_reason parity [] (pos 1) unit (leaf_of (record { row = Model 0; col = 1; low = true } ∷ record { row = Model 0; col = 2; low = true } ∷ []) (Conflict (Model 1))) ≡ Some BadConflict
whole_box = refl

-- the least of x in 0 to 5 with 2x >= 3: a multiplier of 342 bounds it by 2, and one of 341 by 1
bound_342 : leaf_reason single [] (pos 2) single.root (leaf_of [] (Bound (record { row = Model 0; weight = 342 } ∷ []))) ≡ None
unfolding numerator reduced_cost
bound_342 = refl

bound_341 : leaf_reason single [] (pos 2) single.root (leaf_of [] (Bound (record { row = Model 0; weight = 341 } ∷ []))) ≡ Some BadBound
unfolding numerator reduced_cost
bound_341 = refl

bound_341_below : leaf_reason single [] (pos 1) single.root (leaf_of [] (Bound (record { row = Model 0; weight = 341 } ∷ []))) ≡ None
unfolding numerator reduced_cost
bound_341_below = refl

-- no multiplier is needed after the row has raised x to 2
bound_of_none : leaf_reason single [] (pos 2) single.root (leaf_of (record { row = Model 0; col = 0; low = true } ∷ []) (Bound [])) ≡ None
unfolding numerator reduced_cost
bound_of_none = refl

-- rows that are unknown, come twice or come in the wrong order, and a multiplier above 2^40
bound_unknown : leaf_reason single [] (pos 0) single.root (leaf_of [] (Bound (record { row = Cut 0; weight = 1 } ∷ []))) ≡ Some BadBound
bound_unknown = refl

bound_twice : leaf_reason single [] (pos 0) single.root (leaf_of [] (Bound (record { row = Model 0; weight = 1 } ∷ record { row = Model 0; weight = 1 } ∷ []))) ≡ Some BadBound
bound_twice = refl

bound_falling : leaf_reason single (at_most ∷ []) (pos 0) single.root (leaf_of [] (Bound (record { row = Cut 0; weight = 0 } ∷ record { row = Model 0; weight = 0 } ∷ []))) ≡ Some BadBound
bound_falling = refl

bound_heavy : leaf_reason single [] (negsuc 99) single.root (leaf_of [] (Bound (record { row = Model 0; weight = 1099511627777 } ∷ []))) ≡ Some BadBound
bound_heavy = refl

-- a column that is empty closes no box by a bound
bound_on_empty : leaf_reason single [] (pos 0) (box (pos 5) (pos 4)) (leaf_of [] (Bound [])) ≡ Some BadBound
bound_on_empty = refl

-- pairs and the multipliers that they stand for
some_multipliers : multipliers odd.rows (double ∷ at_most ∷ []) (record { row = Model 1; weight = 7 } ∷ record { row = Cut 0; weight = 9 } ∷ []) ≡ 0 ∷ 7 ∷ 9 ∷ 0 ∷ []
some_multipliers = refl

some_pairs : pairs_of 2 (0 ∷ 7 ∷ 9 ∷ 0 ∷ []) ≡ record { row = Model 1; weight = 7 } ∷ record { row = Cut 0; weight = 9 } ∷ []
some_pairs = refl
