-- Chunks that look for cuts, worked out by hand.
use Rattle.std.proofs.Common.{◌≡◌, ℕ, [], ◌∷◌, false, Some, None, ℤ, pos, refl}
use Rattle.ip_core.specs.declared.derivation.Derivation.TheVariants.{Gomory}
use Rattle.ip_core.specs.declared.model.ModelParts.{ModelParts}
use Rattle.ip_core.specs.declared.row.Row.{Row}
use Rattle.ip_core.specs.declared.row_ref.RowRef.TheVariants.{Model}
use Rattle.work_stamp.specs.declared.entry.Entry.{Entry}
use Rattle.work_stamp.specs.declared.entry.Entry.TheVariants.{Cut, Done}
use Rattle.task_steps.specs.CutTasks.{cut_chunk}

-- the least x in 0 to 5 with 2x at least 3
abbrev row_of : ℤ → ℤ → Row
row_of coef least = record { terms = record { col = 0; coef = coef } ∷ []; least = least }

abbrev pub doubled : ModelParts
doubled = record {
  name = [];
  cols = (120 ∷ []) ∷ [];
  costs = pos 1 ∷ [];
  constant = pos 0;
  decimals = 0;
  maximise = false;
  root = record { lows = pos 0 ∷ []; highs = pos 5 ∷ [] };
  rows = row_of (pos 2) (pos 3) ∷ [];
}

abbrev alone : ℕ → ℕ → Entry
alone divisor weight = Cut (Gomory (record { row = Model 0; weight = weight } ∷ []) divisor)

-- thirteen rounds of 4, and 16 for the one term: the row divided by 2, and by the multiplier that
-- the ascent gives it
pub two_cuts : cut_chunk doubled [] 1 ≡ record {
  entries = alone 2 1 ∷ alone 2048 512 ∷ [];
  cuts = row_of (pos 1) (pos 2) ∷ row_of (pos 1) (pos 1) ∷ [];
  work = 69;
  task = Some (record { chunks = 2 });
}
unfolding Rattle.dual_ascent.specs.Ascents.ascent Rattle.dual_ascent.specs.Climbs.after_rounds
    Rattle.dual_ascent.specs.Climbs.after_round Rattle.dual_ascent.specs.Climbs.after_rows
    Rattle.safe_bound.specs.Bounds.numerator Rattle.safe_bound.specs.Bounds.reduced_cost
two_cuts = refl

-- thirteen rounds of 10, and 16 for each of the three terms: no row is violated, and the task ends
pub no_more : cut_chunk doubled (row_of (pos 1) (pos 2) ∷ row_of (pos 1) (pos 1) ∷ []) 2
    ≡ record { entries = Done ∷ []; cuts = []; work = 179; task = None }
unfolding Rattle.dual_ascent.specs.Ascents.ascent Rattle.dual_ascent.specs.Climbs.after_rounds
    Rattle.dual_ascent.specs.Climbs.after_round Rattle.dual_ascent.specs.Climbs.after_rows
    Rattle.safe_bound.specs.Bounds.numerator Rattle.safe_bound.specs.Bounds.reduced_cost
no_more = refl
