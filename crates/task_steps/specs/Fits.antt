-- Which tasks the calls take.
use Rattle.std.specs.Prelude.{ℕ, ◌≡◌, ◌≤◌, ◌<◌, ◌^◌, true, ℤ, pos, ◌≤ℤ◌, unsigned_abs, List, length, Option, Some, None}
use Rattle.ip_core.specs.Numbers.{int_at}
use Rattle.ip_core.specs.Sides.{Sides, HasNoEmpty, IsPaired}
use Rattle.ip_core.specs.Boxes.{IsWithin}
use Rattle.ip_core.specs.declared.model.ModelParts.{ModelParts}
use Rattle.ip_core.specs.declared.row.Row.{Row}
use Rattle.cut_derive.specs.Laws.{AreDerived}
use Rattle.cut_derive.specs.declared.limits.TheConstants.{MAX_CUTS}
use Rattle.node_pool.specs.Branchings.{box_of}
use Rattle.node_pool.specs.Laws.{AreKnown}
use Rattle.node_pool.specs.Views.{View, is_known}
use Rattle.task_steps.specs.declared.local.Local.{Local}
use Rattle.task_steps.specs.declared.local.NodeTask.{NodeTask}
use Rattle.task_steps.specs.declared.local.Task.{Task}
use Rattle.task_steps.specs.declared.task_chunk.Worker.{Worker}
use Rattle.task_steps.specs.declared.local.CutTask.{CutTask}
use Rattle.task_steps.specs.declared.local.DiveTask.{DiveTask}
use Rattle.task_steps.specs.declared.local.Task.TheVariants.{Nodes, Cuts, Dive}

-- both ends of each column lie within the limit of bounds
pub record IsSmall (s : Sides) : Type 0 where
  pub lows : (j : ℕ) → unsigned_abs (int_at s.lows j) ≤ 2 ^ 31
  pub highs : (j : ℕ) → unsigned_abs (int_at s.highs j) ≤ 2 ^ 31

-- a task whose box lies in the root box, at one of its eight nodes; its cutoff is at most 2^51
pub record IsTask (m : ModelParts) (task : NodeTask) : Type 0 where
  pub word : task.node < 2 ^ 64
  pub within : IsWithin m.root task.bounds
  pub paired : IsPaired task.bounds
  pub begun : 1 ≤ task.nodes
  pub nodes : task.nodes ≤ 8
  pub cutoff : task.cutoff ≤ℤ pos (2 ^ 51)

-- one of at most 64 slots, with a count of splits that stays at 2^37 once it is there
pub record IsWorker (worker : Worker) : Type 0 where
  pub slot : worker.slot < 64
  pub few : worker.splits ≤ 2 ^ 37

-- at most 512 cuts, each derived from the model's rows and the cuts before it
pub record AreFewDerived (m : ModelParts) (cuts : List Row) : Type 0 where
  pub derived : AreDerived m cuts
  pub few : length cuts ≤ MAX_CUTS

-- one of the eight chunks of a task that looks for cuts
pub record IsCutTask (task : CutTask) : Type 0 where
  pub few : task.chunks ≤ 8

-- a dive goes on in a box without empty columns, towards a point with one value for each column
pub record IsTowards (m : ModelParts) (s : Sides) (x : List ℤ) : Type 0 where
  pub solid : HasNoEmpty s
  pub one_each : length x ≡ length m.cols

-- before its first chunk a dive has no point
abbrev pub FitsPoint : ModelParts → Sides → Option (List ℤ) → Type 0
FitsPoint m s None = Unit {0}
FitsPoint m s (Some x) = IsTowards m s x

-- a dive whose box lies in the root box
pub record IsDive (m : ModelParts) (task : DiveTask) : Type 0 where
  pub within : IsWithin m.root task.bounds
  pub paired : IsPaired task.bounds
  pub point : FitsPoint m task.bounds task.point

-- a task that fits, with nothing to say where there is none
abbrev pub FitsTask : ModelParts → Option Task → Type 0
FitsTask m None = Unit {0}
FitsTask m (Some (Nodes task)) = IsTask m task
FitsTask m (Some (Cuts task)) = IsCutTask task
FitsTask m (Some (Dive task)) = IsDive m task

-- a local whose cuts and task fit
pub record FitsLocal (m : ModelParts) (l : Local) : Type 0 where
  pub slot : l.slot < 64
  pub few : l.splits ≤ 2 ^ 37
  pub cuts : AreFewDerived m l.cuts
  pub task : FitsTask m l.task

-- a node with a name of one word, whose box lies in the root box
pub record IsBoxed (m : ModelParts) (v : View) (name : ℕ) : Type 0 where
  pub word : name < 2 ^ 64
  pub within : IsWithin m.root (box_of m.root v.branches name)
  pub paired : IsPaired (box_of m.root v.branches name)

-- a view whose open and held nodes have known names, and in which each known name has a box in
-- the root box; its cutoff is at most 2^51, and its cuts are derived
pub record FitsView (m : ModelParts) (v : View) : Type 0 where
  pub known : AreKnown v
  pub boxed : (name : ℕ) → is_known v name ≡ true → IsBoxed m v name
  pub cutoff : v.cutoff ≤ℤ pos (2 ^ 51)
  pub cuts : AreFewDerived m v.cuts
