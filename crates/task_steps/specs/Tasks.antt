-- What a chunk of a task does.
use Rattle.std.specs.Prelude.{ℕ, ◌+◌, ◌*◌, ◌^◌, min, Bool, ◌&&◌, ◌==◌, if◌then◌else◌, List, [], ◌∷◌, ◌++◌, length, Option, Some, None, ℤ, int_lt, int_le}
use Rattle.ip_core.specs.Numbers.{int_at}
use Rattle.ip_core.specs.Sides.{Sides}
use Rattle.ip_core.specs.Truth.{value_at}
use Rattle.ip_core.specs.declared.leaf.Closing.{Closing}
use Rattle.ip_core.specs.declared.leaf.Closing.TheVariants.{Conflict, Empty, Bound}
use Rattle.ip_core.specs.declared.model.ModelParts.{ModelParts}
use Rattle.ip_core.specs.declared.row.Row.{Row}
use Rattle.search_truth.specs.Boxes.{low_child, high_child}
use Rattle.row_propagate.specs.Passes.{propagation_of, Propagation}
use Rattle.row_propagate.specs.declared.outcome.Outcome.{Outcome as Ended}
use Rattle.row_propagate.specs.declared.outcome.Outcome.TheVariants as ended
use Rattle.safe_bound.specs.Bounds.{lagrangian_bound, bound_point}
use Rattle.dual_ascent.specs.Ascents.{ascent, ascent_work}
use Rattle.dual_ascent.specs.declared.ascent.Ascent.{Ascent}
use Rattle.leaf_truth.specs.Laws.{leaf_of}
use Rattle.leaf_truth.specs.Multipliers.{pairs_of}
use Rattle.work_stamp.specs.declared.entry.Entry.{Entry}
use Rattle.work_stamp.specs.declared.entry.Entry.TheVariants.{Found, Split, Closed, Done}
use Rattle.task_steps.specs.Columns.{widest, middle}
use Rattle.task_steps.specs.Keeps.{number_of}
use Rattle.round_dive.specs.Feasible.{is_feasible_at}
use Rattle.task_steps.specs.declared.keep.Keep.{Keep}
use Rattle.task_steps.specs.declared.keep.Keep.TheVariants.{Low, High, Neither}
use Rattle.task_steps.specs.declared.local.NodeTask.{NodeTask}
use Rattle.task_steps.specs.declared.local.Task.{Task}
use Rattle.task_steps.specs.declared.task_chunk.TaskChunk.{TaskChunk}
use Rattle.task_steps.specs.declared.task_chunk.Progress.{Progress}
use Rattle.task_steps.specs.declared.task_chunk.Worker.{Worker}
use Rattle.task_steps.specs.declared.local.Task.TheVariants.{Nodes}

-- the ordinal of a slot's next split: splits are counted from 1, and the count stays at 2^37 once
-- it is there
abbrev pub next_ordinal : ℕ → ℕ
next_ordinal splits = min (splits + 1) (2 ^ 37)

-- the name that a slot gives to the first child of the split of an ordinal; the second child has
-- the next name
abbrev pub child_name : ℕ → ℕ → ℕ
child_name slot ordinal = slot * 2 ^ 40 + 4 * ordinal

-- the node is done with for a reason that is kept, and the task ends
abbrev pub closing_chunk : ℕ → ℕ → List Entry → Progress → Closing → TaskChunk
closing_chunk node splits found p why = record {
  entries = found ++ Closed node ∷ [] ++ Done ∷ [];
  records = record { node = node; leaf = leaf_of p.steps why } ∷ [];
  work = p.work;
  task = None;
  splits = splits;
}

-- a task ends with its eighth node; before that it goes on with the child that holds the point
abbrev pub kept_child : ℕ → ℤ → ℤ → Keep
kept_child nodes value at = if nodes == 8 then Neither else (if int_le value at then Low else High)

-- the task on the child that is kept: its box is the node's, cut by the split
abbrev pub task_after : NodeTask → ℕ → ℤ → ℕ → ℤ → Keep → Option Task
task_after task col at first cutoff Low =
    Some (Nodes (record {
      node = first;
      bounds = low_child task.bounds col at;
      cutoff = cutoff;
      nodes = task.nodes + 1;
    }))
task_after task col at first cutoff High =
    Some (Nodes (record {
      node = first + 1;
      bounds = high_child task.bounds col at;
      cutoff = cutoff;
      nodes = task.nodes + 1;
    }))
task_after task col at first cutoff Neither = None

-- a task that keeps no child has ended
abbrev pub end_entries : Keep → List Entry
end_entries Neither = Done ∷ []
end_entries _ = []

-- the node is split, and the task goes on with the child that it keeps
abbrev pub splitting_chunk : NodeTask → Worker → List Entry → ℤ → ℕ → ℕ → ℤ → Keep → ℤ → TaskChunk
splitting_chunk task worker found cutoff work col at keep bound =
    let ordinal = next_ordinal worker.splits in
    let first = child_name worker.slot ordinal in
    record {
      entries =
          found ++ Split task.node col at first (number_of keep) bound ∷ [] ++ end_entries keep;
      records = [];
      work = work;
      task = task_after task col at first cutoff keep;
      splits = ordinal;
    }

-- after the point was tried: the node is closed where its bound is no longer below the cutoff, else
-- split in the widest column of the box after the passes
abbrev pub after_point : ModelParts → NodeTask → Worker → Progress → Ascent → ℤ → List Entry
    → TaskChunk
after_point m task worker p a cutoff found =
    let col = widest p.bounds in
    let at = middle p.bounds col in
    if int_le cutoff a.bound
    then closing_chunk task.node worker.splits found p
    (Bound (pairs_of (length m.rows) a.mults))
    else splitting_chunk task worker found cutoff p.work col at
    (kept_child task.nodes (int_at a.point col) at) a.bound

-- whether the point is found: the bound is below the cutoff, and the point is feasible with a value
-- below it
abbrev pub is_found : ModelParts → ℤ → Ascent → Bool
is_found m cutoff a =
    int_lt a.bound cutoff && (is_feasible_at m a.point && int_lt (value_at m a.point) cutoff)

-- a point that is found lowers the task's cutoff
abbrev pub on_point : ModelParts → NodeTask → Worker → Progress → Ascent → Bool → TaskChunk
on_point m task worker p a found =
    if found
    then after_point m task worker p a (value_at m a.point)
    (Found (value_at m a.point) a.point ∷ [])
    else after_point m task worker p a task.cutoff []

-- the ascent over a box, with cuts
abbrev pub ascent_of : ModelParts → List Row → Sides → Ascent
ascent_of m cuts s =
    let ys = (ascent m cuts s).mults in
    record {
      mults = ys;
      bound = lagrangian_bound m cuts s ys;
      point = bound_point m cuts s ys;
      work = ascent_work m cuts s;
    }

-- a chunk after its passes, with the work of its ascent counted where there was one
abbrev pub progress_of : Propagation → ℕ → Progress
progress_of p work = record { bounds = p.sides; steps = p.steps; work = 1 + p.run.work + work }

-- after the passes: a box that they closed has no ascent
abbrev pub after_passes : ModelParts → List Row → NodeTask → Worker → Propagation → Ended
    → TaskChunk
after_passes m cuts task worker p ended.Open =
    on_point m task worker (progress_of p (ascent_of m cuts p.sides).work)
    (ascent_of m cuts p.sides)
    (is_found m task.cutoff (ascent_of m cuts p.sides))
after_passes m cuts task worker p (ended.Conflict row) =
    closing_chunk task.node worker.splits [] (progress_of p 0) (Conflict row)
after_passes m cuts task worker p (ended.Empty col) =
    closing_chunk task.node worker.splits [] (progress_of p 0) (Empty col)

-- one chunk of a task, on its node, over the model's rows and cuts
abbrev pub node_chunk : ModelParts → List Row → Worker → NodeTask → TaskChunk
node_chunk m cuts worker task =
    let p = propagation_of m.rows cuts task.bounds in
    after_passes m cuts task worker p p.run.outcome
