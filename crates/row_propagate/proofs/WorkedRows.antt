use Rattle.std.proofs.Common.{◌≡◌, [], ◌∷◌, length, ℤ, pos, negsuc, true, false, Some, None, refl}
use Rattle.ip_core.specs.Sides.{Sides}
use Rattle.ip_core.specs.Boxes.{greatest_activity}
use Rattle.ip_core.specs.declared.row.Row.{Row}
use Rattle.ip_core.specs.declared.row_ref.RowRef.TheVariants.{Model, Cut}
use Rattle.row_propagate.specs.declared.outcome.Outcome.TheVariants.{Open, Conflict, Empty}
use Rattle.row_propagate.specs.Rounding.{tight_box, tightening}
use Rattle.row_propagate.specs.Passes.{propagation_of, Propagation}
use Rattle.row_propagate.specs.Replay.{replay, row_named}

-- the box of one column from `low` to `high`
abbrev box : ℤ → ℤ → Sides
box low high = record { lows = low ∷ []; highs = high ∷ [] }

-- 2x >= 3 and -2x >= -3, which no whole number meets
abbrev at_least : Row
at_least = record { terms = record { col = 0; coef = pos 2 } ∷ []; least = pos 3 }

abbrev at_most : Row
at_most = record { terms = record { col = 0; coef = negsuc 1 } ∷ []; least = negsuc 2 }

-- the low is raised to 2, rounded up
raised : tight_box at_least (box (pos 0) (pos 5)) 0 ≡ box (pos 2) (pos 5)
raised = refl

-- the high is lowered to 1, rounded down
lowered : tight_box at_most (box (pos 0) (pos 5)) 0 ≡ box (pos 0) (pos 1)
lowered = refl

raising : tightening (Model 0) at_least (box (pos 0) (pos 5)) 0 ≡ Some (record { row = Model 0; col = 0; low = true })
raising = refl

lowering : tightening (Cut 3) at_most (box (pos 0) (pos 5)) 0 ≡ Some (record { row = Cut 3; col = 0; low = false })
lowering = refl

-- a low that isn't raised is no tightening
no_raising : tightening (Model 0) at_least (box (pos 2) (pos 5)) 0 ≡ None
no_raising = refl

-- the first row raises the low to 2, and then the second asks for too much
crossed : propagation_of (at_least ∷ at_most ∷ []) [] (box (pos 0) (pos 5)) ≡ record { sides = box (pos 2) (pos 5); steps = record { row = Model 0; col = 0; low = true } ∷ []; run = record { outcome = Conflict (Model 1); passes = 1; work = 3 } }
unfolding Rattle.row_propagate.specs.Passes.after_passes
crossed = refl

-- the same where the second row is a cut
crossed_by_cut : propagation_of (at_least ∷ []) (at_most ∷ []) (box (pos 0) (pos 5)) ≡ record { sides = box (pos 2) (pos 5); steps = record { row = Model 0; col = 0; low = true } ∷ []; run = record { outcome = Conflict (Cut 0); passes = 1; work = 3 } }
unfolding Rattle.row_propagate.specs.Passes.after_passes
crossed_by_cut = refl

-- the listed step leads to the last box
replays : replay (row_named (at_least ∷ []) (at_most ∷ [])) (box (pos 0) (pos 5)) (record { row = Model 0; col = 0; low = true } ∷ []) ≡ box (pos 2) (pos 5)
replays = refl

-- a column that is empty at the start
empty_start : propagation_of (at_least ∷ []) [] (box (pos 5) (pos 4)) ≡ record { sides = box (pos 5) (pos 4); steps = []; run = record { outcome = Empty 0; passes = 0; work = 0 } }
empty_start = refl

-- 2x + 2y + 2z >= 3 and its other side, all columns 0 to 1: one pass that changes nothing
abbrev three : ℤ → Row
three c = record { terms = record { col = 0; coef = c } ∷ record { col = 1; coef = c } ∷ record { col = 2; coef = c } ∷ []; least = pos 3 }

abbrev unit : Sides
unit = record { lows = pos 0 ∷ pos 0 ∷ pos 0 ∷ []; highs = pos 1 ∷ pos 1 ∷ pos 1 ∷ [] }

greatest : greatest_activity unit (three (pos 2)).terms ≡ pos 6
greatest = refl

unchanged : propagation_of (three (pos 2) ∷ []) [] unit ≡ record { sides = unit; steps = []; run = record { outcome = Open; passes = 1; work = 4 } }
unfolding Rattle.row_propagate.specs.Passes.after_passes
unchanged = refl

-- x >= y + 1 and y >= x + 1 raise both lows and lower both highs by 2 in each pass, until the tenth is over
abbrev above_by : ℤ → ℤ → Row
above_by first second = record { terms = record { col = 0; coef = first } ∷ record { col = 1; coef = second } ∷ []; least = pos 1 }

abbrev ten_passes : Propagation
ten_passes = propagation_of (above_by (pos 1) (negsuc 0) ∷ above_by (negsuc 0) (pos 1) ∷ []) [] (record { lows = pos 0 ∷ pos 0 ∷ []; highs = pos 100 ∷ pos 100 ∷ [] })

ten_boxes : ten_passes.sides ≡ record { lows = pos 19 ∷ pos 20 ∷ []; highs = pos 80 ∷ pos 81 ∷ [] }
unfolding Rattle.row_propagate.specs.Passes.after_passes
ten_boxes = refl

ten_runs : ten_passes.run ≡ record { outcome = Open; passes = 10; work = 50 }
unfolding Rattle.row_propagate.specs.Passes.after_passes
ten_runs = refl

forty_steps : length ten_passes.steps ≡ 40
unfolding Rattle.row_propagate.specs.Passes.after_passes
forty_steps = refl
