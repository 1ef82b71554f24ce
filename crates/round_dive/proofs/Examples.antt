-- Worked rows: a dive of two steps, a value that is moved into its range, and a step that is stuck.
use Rattle.std.proofs.Common.{◌≡◌, [], ◌∷◌, ℤ, pos, negsuc, false, Some, None, refl}
use Rattle.ip_core.specs.Sides.{Sides}
use Rattle.ip_core.specs.declared.model.ModelParts.{ModelParts}
use Rattle.ip_core.specs.declared.row.Row.{Row}
use Rattle.ip_core.proofs.SmallModels.{box, single}
use Rattle.row_propagate.specs.Passes.{after_passes}
use Rattle.round_dive.specs.declared.dive.DiveEnd.TheVariants.{On, Found, Stuck}
use Rattle.round_dive.specs.Rounds.{feasible_point}
use Rattle.round_dive.specs.Dives.{dive_of, next_box}
use Rattle.round_dive.specs.Laws.{free_count}

-- two columns from 0 to 1, and no row
abbrev pair_box : ℤ → ℤ → Sides
pair_box first second = record { lows = pos 0 ∷ pos 0 ∷ []; highs = first ∷ second ∷ [] }

abbrev pair : ModelParts
pair = record {
  name = 109 ∷ [];
  cols = (120 ∷ []) ∷ (121 ∷ []) ∷ [];
  costs = pos 0 ∷ pos 0 ∷ [];
  constant = pos 0;
  decimals = 0;
  maximise = false;
  root = pair_box (pos 1) (pos 1);
  rows = [];
}

-- the first step fixes x, and the second finds both at 0
first_step : dive_of pair [] pair.root (pos 0 ∷ pos 0 ∷ []) ≡ record { sides = pair_box (pos 0) (pos 1); run = record { end = On; work = 1 } }
unfolding Rattle.row_propagate.specs.Passes.after_passes
first_step = refl

second_step : dive_of pair [] (pair_box (pos 0) (pos 1)) (pos 0 ∷ pos 0 ∷ []) ≡ record { sides = pair_box (pos 0) (pos 0); run = record { end = Found (pos 0 ∷ pos 0 ∷ []); work = 1 } }
unfolding Rattle.row_propagate.specs.Passes.after_passes
second_step = refl

-- a fixed box stays
fixed_stays : next_box (pair_box (pos 0) (pos 0)) (pos 1 ∷ pos 1 ∷ []) ≡ pair_box (pos 0) (pos 0)
fixed_stays = refl

-- a value above its range becomes the high, and one below it the low
moved_down : next_box (box (pos 0) (pos 5)) (pos 9 ∷ []) ≡ box (pos 5) (pos 5)
moved_down = refl

moved_up : next_box (box (pos 2) (pos 5)) (negsuc 0 ∷ []) ≡ box (pos 2) (pos 2)
moved_up = refl

-- 2x >= 3 at x = 0 conflicts, in one pass of two
stuck : dive_of single [] single.root (pos 0 ∷ []) ≡ record { sides = box (pos 0) (pos 0); run = record { end = Stuck; work = 2 } }
unfolding Rattle.row_propagate.specs.Passes.after_passes
stuck = refl

-- at x = 2 the row is met
met : dive_of single [] single.root (pos 2 ∷ []) ≡ record { sides = box (pos 2) (pos 2); run = record { end = Found (pos 2 ∷ []); work = 2 } }
unfolding Rattle.row_propagate.specs.Passes.after_passes
met = refl

-- a point that fails the row isn't feasible, nor is one outside the root box
failing : feasible_point single (pos 0 ∷ []) ≡ None
failing = refl

outside : feasible_point single (pos 6 ∷ []) ≡ None
outside = refl

meeting : feasible_point single (pos 2 ∷ []) ≡ Some (pos 2 ∷ [])
meeting = refl

-- x >= y + 1 and y >= x: each pass takes one value off both ends of x and of y
abbrev slow_row : ℤ → ℤ → ℤ → Row
slow_row x y least = record { terms = record { col = 1; coef = x } ∷ record { col = 2; coef = y } ∷ []; least = least }

abbrev slow_box : ℤ → ℤ → ℤ → Sides
slow_box z low high = record { lows = pos 0 ∷ low ∷ low ∷ []; highs = z ∷ high ∷ high ∷ [] }

abbrev slow : ModelParts
slow = record {
  name = 109 ∷ [];
  cols = (122 ∷ []) ∷ (120 ∷ []) ∷ (121 ∷ []) ∷ [];
  costs = pos 0 ∷ pos 0 ∷ pos 0 ∷ [];
  constant = pos 0;
  decimals = 0;
  maximise = false;
  root = slow_box (pos 1) (pos 0) (pos 20);
  rows = slow_row (pos 1) (negsuc 0) (pos 1) ∷ slow_row (negsuc 0) (pos 1) (pos 0) ∷ [];
}

-- the tenth pass fixes both at 10, where x >= y + 1 isn't met, and the next step is stuck
tenth_pass : dive_of slow [] slow.root (pos 0 ∷ pos 0 ∷ pos 0 ∷ []) ≡ record { sides = slow_box (pos 0) (pos 10) (pos 10); run = record { end = On; work = 50 } }
unfolding Rattle.row_propagate.specs.Passes.after_passes
tenth_pass = refl

after_tenth_pass : dive_of slow [] (slow_box (pos 0) (pos 10) (pos 10)) (pos 0 ∷ pos 0 ∷ pos 0 ∷ []) ≡ record { sides = slow_box (pos 0) (pos 10) (pos 10); run = record { end = Stuck; work = 5 } }
unfolding Rattle.row_propagate.specs.Passes.after_passes
after_tenth_pass = refl

-- of two columns one is left to fix after the first step
left_free : free_count (pair_box (pos 0) (pos 1)) ≡ 1
left_free = refl
