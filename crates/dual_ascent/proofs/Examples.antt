use Rattle.std.proofs.Common.{◌≡◌, ℕ, ◌+◌, List, [], ◌∷◌, pos, negsuc, false, refl}
use Rattle.ip_core.specs.Sides.{Sides}
use Rattle.ip_core.specs.declared.model.ModelParts.{ModelParts}
use Rattle.ip_core.specs.declared.row.Row.{Row}
use Rattle.safe_bound.specs.Bounds.{reduced_cost, numerator}
use Rattle.dual_ascent.specs.Climbs.{first_greatest, changes, after_rows, after_round, after_rounds}
use Rattle.dual_ascent.specs.Ascents.{first_step_size, ascent, ascent_work}

-- the box of one column from 0 to `high`
abbrev box : ℕ → Sides
box high = record { lows = pos 0 ∷ []; highs = pos high ∷ [] }

-- 2x >= 3
abbrev double : Row
double = record { terms = record { col = 0; coef = pos 2 } ∷ []; least = pos 3 }

-- the least of x in a box, with these rows
abbrev least_x : ℕ → List Row → ModelParts
least_x high rows = record { name = 109 ∷ []; cols = (120 ∷ []) ∷ []; costs = pos 1 ∷ []; constant = pos 0; decimals = 0; maximise = false; root = box high; rows = rows }

-- the first of the greatest is kept on a tie
tied : first_greatest (λ y. pos 7) 4 (9 ∷ 2 ∷ 0 ∷ []) ≡ 4
tied = refl

later_greater : first_greatest (λ y. pos y) 4 (9 ∷ 2 ∷ 11 ∷ []) ≡ 11
later_greater = refl

first_of_two : first_greatest (λ y. pos (y + 1)) 4 (9 ∷ 9 ∷ 0 ∷ []) ≡ 9
first_of_two = refl

held_in : changes 1000 1099511627000 ≡ 1099511627776 ∷ 1099511626000 ∷ 0 ∷ []
held_in = refl

held_at_zero : changes 1000 4 ≡ 1004 ∷ 0 ∷ 0 ∷ []
held_at_zero = refl

step_size_of : first_step_size (pos 3 ∷ negsuc 8 ∷ pos 2 ∷ []) ≡ 10240
step_size_of = refl

step_size_of_none : first_step_size [] ≡ 1024
step_size_of_none = refl

step_size_held : first_step_size (negsuc 1125899906842623 ∷ []) ≡ 1099511627776
step_size_held = refl

-- no row: the step size falls from 2,048 to 0 in twelve rounds
twelve_rounds : ascent (least_x 1 []) [] (box 1) ≡ record { mults = []; step_size = 0; rounds = 12 }
unfolding ascent after_rounds after_round after_rows
twelve_rounds = refl

-- the least of x in 0 to 5 with 2x >= 3: at 512 the reduced cost is 0
one_row : ascent (least_x 5 (double ∷ [])) [] (box 5) ≡ record { mults = 512 ∷ []; step_size = 0; rounds = 13 }
unfolding ascent after_rounds after_round after_rows numerator reduced_cost
one_row = refl

one_row_work : ascent_work (least_x 5 (double ∷ [])) [] (box 5) ≡ 52
unfolding ascent after_rounds after_round after_rows numerator reduced_cost
one_row_work = refl
