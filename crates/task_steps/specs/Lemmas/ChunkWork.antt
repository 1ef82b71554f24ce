-- What a chunk counts is 1, its passes and its ascent.
use Rattle.std.proofs.Common.{◌≡◌, ◌∙◌, ◌+◌, ◌^◌, ℕ, ◌≤◌, Bool, true, false, if◌then◌else◌, List, [], ◌∷◌, length, ℤ, int_le, refl, ap, sym, arith, le_trans}
use Rattle.ip_core.specs.Numbers.{int_at}
use Rattle.ip_core.specs.Sides.{Sides}
use Rattle.ip_core.specs.Truth.{value_at}
use Rattle.ip_core.specs.declared.leaf.Closing.TheVariants.{Bound}
use Rattle.ip_core.specs.declared.model.ModelParts.{ModelParts}
use Rattle.ip_core.specs.declared.row.Row.{Row}
use Rattle.row_propagate.specs.Passes.{propagation_of, Propagation}
use Rattle.row_propagate.specs.declared.outcome.Outcome.{Outcome as Ended}
use Rattle.row_propagate.specs.declared.outcome.Outcome.TheVariants as ended
use Rattle.row_propagate.specs.declared.outcome.PassRun.{PassRun}
use Rattle.dual_ascent.specs.Ascents.{ascent_work}
use Rattle.dual_ascent.specs.declared.ascent.Ascent.{Ascent}
use Rattle.leaf_truth.specs.Multipliers.{pairs_of}
use Rattle.work_stamp.specs.declared.entry.Entry.{Entry}
use Rattle.work_stamp.specs.declared.entry.Entry.TheVariants.{Found}
use Rattle.task_steps.specs.Columns.{middle, widest}
use Rattle.task_steps.specs.Tasks.{after_passes, after_point, ascent_of, closing_chunk, is_found, kept_child, node_chunk, on_point, progress_of, splitting_chunk}
use Rattle.ip_core.specs.Models.{IsModel}
use Rattle.task_steps.specs.Fits.{AreFewDerived}
use Rattle.task_steps.specs.Lemmas.Counts.{climb_little, passes_work}
use Rattle.task_steps.specs.declared.local.NodeTask.{NodeTask}
use Rattle.task_steps.specs.declared.task_chunk.TaskChunk.{TaskChunk}
use Rattle.task_steps.specs.declared.task_chunk.Progress.{Progress}
use Rattle.task_steps.specs.declared.task_chunk.Worker.{Worker}

choice_work : (b : Bool) (x y : TaskChunk) (n : ℕ) → x.work ≡ n → y.work ≡ n
    → (if b then x else y).work ≡ n
choice_work true x y n first second = first
choice_work false x y n first second = second

after_point_work : (m : ModelParts) (task : NodeTask) (worker : Worker) (p : Progress) (a : Ascent)
    (cutoff : ℤ) (found : List Entry) → (after_point m task worker p a cutoff found).work ≡ p.work
after_point_work m task worker p a cutoff found =
    let col = widest p.bounds in
    let at = middle p.bounds col in
    choice_work (int_le cutoff a.bound)
    (closing_chunk task.node worker.splits found p (Bound (pairs_of (length m.rows) a.mults)))
    (splitting_chunk task worker found cutoff p.work col at
    (kept_child task.nodes (int_at a.point col) at) a.bound) p.work refl refl

on_point_work : (m : ModelParts) (task : NodeTask) (worker : Worker) (p : Progress) (a : Ascent)
    (found : Bool) → (on_point m task worker p a found).work ≡ p.work
on_point_work m task worker p a true = after_point_work m task worker p a (value_at m a.point)
    (Found (value_at m a.point) a.point ∷ [])
on_point_work m task worker p a false = after_point_work m task worker p a task.cutoff []

open_work : (m : ModelParts) (cuts : List Row) (task : NodeTask) (worker : Worker) (p : Propagation)
    (o : Ended)
    → o ≡ ended.Open → ascent_work m cuts p.sides ≤ (after_passes m cuts task worker p o).work
open_work m cuts task worker p o is =
    let a = ascent_of m cuts p.sides in
    let same = on_point_work m task worker (progress_of p a.work) a (is_found m task.cutoff a) in
    rw is (omega (arith, same))

-- where the passes from the task's box leave it open, the chunk counts the ascent
pub counts_ascent : (m : ModelParts) (cuts : List Row) (worker : Worker) (task : NodeTask)
    (start s : Sides)
    (run : PassRun) → start ≡ task.bounds → s ≡ (propagation_of m.rows cuts start).sides
    → run ≡ (propagation_of m.rows cuts start).run → run.outcome ≡ ended.Open
    → ascent_work m cuts s ≤ (node_chunk m cuts worker task).work
counts_ascent m cuts worker task start s run start_is sides run_is goes =
    let p = propagation_of m.rows cuts task.bounds in
    let passed : propagation_of m.rows cuts start ≡ p =
    ap (λ (b : Sides). propagation_of m.rows cuts b) start_is in
    let ended_open : p.run.outcome ≡ ended.Open =
    ap (λ (q : Propagation). q.run.outcome) (sym passed)
    ∙ sym (ap (λ (r : PassRun). r.outcome) run_is) ∙ goes in
    let counted = open_work m cuts task worker p p.run.outcome ended_open in
    rw (sides ∙ ap (λ (q : Propagation). q.sides) passed) counted

-- so a pulse that allows the chunk allows the ascent
pub ascent_allowed : (m : ModelParts) (cuts : List Row) (worker : Worker) (task : NodeTask)
    (start s : Sides)
    (run : PassRun) (n : ℕ) → start ≡ task.bounds → s ≡ (propagation_of m.rows cuts start).sides
    → run ≡ (propagation_of m.rows cuts start).run → run.outcome ≡ ended.Open
    → (node_chunk m cuts worker task).work ≤ n → ascent_work m cuts s ≤ n
ascent_allowed m cuts worker task start s run n start_is sides run_is goes allowed =
    le_trans (counts_ascent m cuts worker task start s run start_is sides run_is goes) allowed

work_cases : (m : ModelParts) (cuts : List Row) (task : NodeTask) (worker : Worker)
    (p : Propagation) (o : Ended)
    → (1 ≤ (after_passes m cuts task worker p o).work)
    × ((after_passes m cuts task worker p o).work ≤ 1 + p.run.work + ascent_work m cuts p.sides)
work_cases m cuts task worker p ended.Open =
    let a = ascent_of m cuts p.sides in
    let same = on_point_work m task worker (progress_of p a.work) a (is_found m task.cutoff a) in
    (omega (arith, same), omega (arith, same))
work_cases m cuts task worker p (ended.Conflict row) = (omega arith, omega arith)
work_cases m cuts task worker p (ended.Empty col) = (omega arith, omega arith)

-- a chunk counts some work, and not too much
pub chunk_counts : (m : ModelParts) (cuts : List Row) (worker : Worker) (task : NodeTask)
    → IsModel m → AreFewDerived m cuts
    → (1 ≤ (node_chunk m cuts worker task).work)
    × ((node_chunk m cuts worker task).work ≤ 2 ^ 40)
chunk_counts m cuts worker task valid own =
    let p = propagation_of m.rows cuts task.bounds in
    let parts = work_cases m cuts task worker p p.run.outcome in
    let passes = passes_work m cuts task.bounds valid own in
    (parts.0, omega (arith, parts.1, passes, climb_little m cuts p.sides valid own))
