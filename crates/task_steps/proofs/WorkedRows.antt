-- Chunks worked out by hand.
use Rattle.std.proofs.Common.{◌≡◌, ℕ, List, [], ◌∷◌, ℤ, Some, None, pos, negsuc, true, false, refl}
use Rattle.ip_core.specs.Sides.{Sides}
use Rattle.ip_core.specs.declared.leaf.Closing.{Closing}
use Rattle.ip_core.specs.declared.leaf.Closing.TheVariants.{Conflict, Bound}
use Rattle.ip_core.specs.declared.leaf.Record.{Record}
use Rattle.ip_core.specs.declared.leaf.Tighten.{Tighten}
use Rattle.ip_core.specs.declared.model.ModelParts.{ModelParts}
use Rattle.ip_core.specs.declared.row.Row.{Row}
use Rattle.ip_core.specs.declared.row_ref.RowRef.TheVariants.{Model}
use Rattle.leaf_truth.specs.Laws.{leaf_of}
use Rattle.work_stamp.specs.declared.entry.Entry.TheVariants.{Found, Split, Closed, Done}
use Rattle.task_steps.specs.Tasks.{child_name, next_ordinal, node_chunk}
use Rattle.task_steps.specs.declared.local.NodeTask.{NodeTask}
use Rattle.task_steps.specs.declared.task_chunk.Worker.{Worker}
use Rattle.task_steps.specs.declared.local.Task.TheVariants.{Nodes}

-- a closed node with the tightenings of its box, and what then closes it
abbrev pub record_of : ℕ → List Tighten → Closing → Record
record_of node steps why = record { node = node; leaf = leaf_of steps why }

-- the first slot, after so many splits
abbrev worker : ℕ → Worker
worker splits = record { slot = 0; splits = splits }

-- a task on the node of a name and a box, with these many nodes begun
abbrev task : ℕ → Sides → ℤ → ℕ → NodeTask
task node s cutoff nodes = record { node = node; bounds = s; cutoff = cutoff; nodes = nodes }

-- the least of x in 0 to 1, with no rows
abbrev pub unit : Sides
unit = record { lows = pos 0 ∷ []; highs = pos 1 ∷ [] }

abbrev pub free : ModelParts
free = record {
  name = [];
  cols = (120 ∷ []) ∷ [];
  costs = pos 1 ∷ [];
  constant = pos 0;
  decimals = 0;
  maximise = false;
  root = unit;
  rows = [];
}

-- one pass and twelve rounds; the ends are a point that is found, and its value closes the node
pub found_at_once : node_chunk free [] (worker 0) (task 0 unit (pos 2) 1) ≡ record {
  entries = Found (pos 0) (pos 0 ∷ []) ∷ Closed 0 ∷ Done ∷ [];
  records = record_of 0 [] (Bound []) ∷ [];
  work = 14;
  task = None;
  splits = 0;
}
unfolding Rattle.row_propagate.specs.Passes.after_passes Rattle.dual_ascent.specs.Ascents.ascent
    Rattle.dual_ascent.specs.Climbs.after_rounds Rattle.dual_ascent.specs.Climbs.after_round
    Rattle.dual_ascent.specs.Climbs.after_rows Rattle.safe_bound.specs.Bounds.numerator
    Rattle.safe_bound.specs.Bounds.reduced_cost
found_at_once = refl

-- 2x + 2y + 2z = 3 in 0 to 1, as two rows, without costs
abbrev sum_row : ℤ → ℤ → Row
sum_row c least =
    record {
      terms = record { col = 0; coef = c } ∷ record { col = 1; coef = c }
          ∷ record { col = 2; coef = c } ∷ [];
      least = least;
    }

abbrev units : Sides
units = record { lows = pos 0 ∷ pos 0 ∷ pos 0 ∷ []; highs = pos 1 ∷ pos 1 ∷ pos 1 ∷ [] }

abbrev pub odd : ModelParts
odd = record {
  name = [];
  cols = (120 ∷ []) ∷ (121 ∷ []) ∷ (122 ∷ []) ∷ [];
  costs = pos 0 ∷ pos 0 ∷ pos 0 ∷ [];
  constant = pos 0;
  decimals = 0;
  maximise = false;
  root = units;
  rows = sum_row (pos 2) (pos 3) ∷ sum_row (negsuc 1) (negsuc 2) ∷ [];
}

-- one pass of 7 and eleven rounds of 19: the first column is split, and the task goes on with its
-- low child
pub first_split : node_chunk odd [] (worker 0) (task 0 units (pos 1) 1) ≡ record {
  entries = Split 0 0 (pos 0) 4 0 (pos 0) ∷ [];
  records = [];
  work = 217;
  task = Some (Nodes (task 4
      (record { lows = pos 0 ∷ pos 0 ∷ pos 0 ∷ []; highs = pos 0 ∷ pos 1 ∷ pos 1 ∷ [] })
      (pos 1) 2));
  splits = 1;
}
unfolding Rattle.row_propagate.specs.Passes.after_passes Rattle.dual_ascent.specs.Ascents.ascent
    Rattle.dual_ascent.specs.Climbs.after_rounds Rattle.dual_ascent.specs.Climbs.after_round
    Rattle.dual_ascent.specs.Climbs.after_rows Rattle.safe_bound.specs.Bounds.numerator
    Rattle.safe_bound.specs.Bounds.reduced_cost
first_split = refl

-- there the first row raises two lows, and the second then asks for too much: the passes close the
-- node
pub low_child_closed : node_chunk odd [] (worker 1)
    (task 4 (record { lows = pos 0 ∷ pos 0 ∷ pos 0 ∷ []; highs = pos 0 ∷ pos 1 ∷ pos 1 ∷ [] })
    (pos 1) 2) ≡ record {
      entries = Closed 4 ∷ Done ∷ [];
      records = record_of 4
          (record { row = Model 0; col = 1; low = true }
          ∷ record { row = Model 0; col = 2; low = true } ∷ []) (Conflict (Model 1)) ∷ [];
      work = 8;
      task = None;
      splits = 1;
    }
unfolding Rattle.row_propagate.specs.Passes.after_passes
low_child_closed = refl

-- names of splits: those of slot 1 begin at 2^40 + 4
pub first_names : child_name 0 (next_ordinal 0) ≡ 4
first_names = refl

pub second_slot : child_name 1 (next_ordinal 0) ≡ 1099511627780
second_slot = refl

-- an ordinal stays at 2^37
pub last_ordinal : next_ordinal 137438953472 ≡ 137438953472
last_ordinal = refl
