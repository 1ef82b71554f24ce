-- How many steps the leaves of a chunk's records have.
use Rattle.std.proofs.Common.{◌≡◌, ◌^◌, ℕ, zero, suc, ◌≤◌, Bool, true, false, [], ◌∷◌, List, length, ℤ, int_le, Some, refl, subst, sym, ap}
use Rattle.ip_core.specs.Models.{IsModel}
use Rattle.ip_core.specs.Numbers.{int_at}
use Rattle.ip_core.specs.Truth.{value_at}
use Rattle.ip_core.specs.declared.leaf.Closing.{Closing}
use Rattle.ip_core.specs.declared.leaf.Closing.TheVariants.{Bound, Conflict, Empty}
use Rattle.ip_core.specs.declared.leaf.Record.{Record}
use Rattle.ip_core.specs.declared.leaf.Tighten.{Tighten}
use Rattle.ip_core.specs.declared.model.ModelParts.{ModelParts}
use Rattle.ip_core.specs.declared.row.Row.{Row}
use Rattle.row_propagate.specs.Passes.{Propagation, propagation_of}
use Rattle.row_propagate.specs.declared.outcome.Outcome.{Outcome as Ended}
use Rattle.row_propagate.specs.declared.outcome.Outcome.TheVariants as ended
use Rattle.dual_ascent.specs.declared.ascent.Ascent.{Ascent}
use Rattle.leaf_truth.specs.Multipliers.{pairs_of}
use Rattle.work_stamp.specs.declared.entry.Entry.{Entry}
use Rattle.work_stamp.specs.declared.entry.Entry.TheVariants.{Found}
use Rattle.stamp_machine.specs.Slots.{at}
use Rattle.stamp_machine.proofs.Choices.{by_test}
use Rattle.stamp_machine.proofs.Places.{none_is_no_some, same_some}
use Rattle.task_steps.specs.Columns.{middle, widest}
use Rattle.task_steps.specs.Fits.{AreFewDerived}
use Rattle.task_steps.specs.Tasks.{after_passes, after_point, ascent_of, closing_chunk, is_found, kept_child, node_chunk, on_point, progress_of, splitting_chunk}
use Rattle.task_steps.specs.declared.local.NodeTask.{NodeTask}
use Rattle.task_steps.specs.declared.task_chunk.Progress.{Progress}
use Rattle.task_steps.specs.declared.task_chunk.TaskChunk.{TaskChunk}
use Rattle.task_steps.specs.declared.task_chunk.Worker.{Worker}
use Rattle.task_steps.proofs.PassSteps.{passes_steps}

-- each record of a chunk has a leaf of these steps
abbrev HaveSteps : List Tighten → TaskChunk → Type 0
HaveSteps steps chunk = (place : ℕ) (item : Record) → at chunk.records place ≡ Some item
    → item.leaf.steps ≡ steps

closing_steps : (node splits : ℕ) (found : List Entry) (p : Progress) (why : Closing)
    → HaveSteps p.steps (closing_chunk node splits found p why)
closing_steps node splits found p why zero item there =
    sym (ap (λ (r : Record). r.leaf.steps) (same_some _ item there))
closing_steps node splits found p why (suc place) item there = absurd (none_is_no_some item there)

point_steps : (m : ModelParts) (task : NodeTask) (worker : Worker) (p : Progress) (a : Ascent)
    (cutoff : ℤ) (found : List Entry) → HaveSteps p.steps (after_point m task worker p a cutoff found)
point_steps m task worker p a cutoff found =
    let col = widest p.bounds in
    let mid = middle p.bounds col in
    by_test (HaveSteps p.steps) (int_le cutoff a.bound)
    (closing_chunk task.node worker.splits found p (Bound (pairs_of (length m.rows) a.mults)))
    (splitting_chunk task worker found cutoff p.work col mid
    (kept_child task.nodes (int_at a.point col) mid) a.bound)
    (λ t. closing_steps task.node worker.splits found p
    (Bound (pairs_of (length m.rows) a.mults)))
    (λ t place item there. absurd (none_is_no_some item there))

found_steps : (m : ModelParts) (task : NodeTask) (worker : Worker) (p : Progress) (a : Ascent)
    (found : Bool) → HaveSteps p.steps (on_point m task worker p a found)
found_steps m task worker p a true =
    point_steps m task worker p a (value_at m a.point) (Found (value_at m a.point) a.point ∷ [])
found_steps m task worker p a false = point_steps m task worker p a task.cutoff []

outcome_steps : (m : ModelParts) (cuts : List Row) (worker : Worker) (task : NodeTask)
    (p : Propagation) (o : Ended) → HaveSteps p.steps (after_passes m cuts task worker p o)
outcome_steps m cuts worker task p ended.Open =
    let a = ascent_of m cuts p.sides in
    found_steps m task worker (progress_of p a.work) a (is_found m task.cutoff a)
outcome_steps m cuts worker task p (ended.Conflict row) =
    closing_steps task.node worker.splits [] (progress_of p 0) (Conflict row)
outcome_steps m cuts worker task p (ended.Empty col) =
    closing_steps task.node worker.splits [] (progress_of p 0) (Empty col)

-- the leaf of each record has few steps
pub record_steps : (m : ModelParts) (cuts : List Row) (worker : Worker) (task : NodeTask)
    (place : ℕ) (item : Record) → IsModel m → AreFewDerived m cuts
    → at (node_chunk m cuts worker task).records place ≡ Some item
    → length item.leaf.steps ≤ 2 ^ 21
record_steps m cuts worker task place item valid own there =
    let p = propagation_of m.rows cuts task.bounds in
    subst (λ (steps : List Tighten). length steps ≤ 2 ^ 21)
    (sym (outcome_steps m cuts worker task p p.run.outcome place item there))
    (passes_steps m cuts task.bounds valid own)
