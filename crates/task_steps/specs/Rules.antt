-- The search with bounds, cuts and dives as a system of tasks.
use Rattle.std.specs.Prelude.{ℕ, List, [], ◌∷◌, ◌++◌, Option, Some, None, is_none}
use Rattle.ip_core.specs.declared.model.ModelParts.{ModelParts}
use Rattle.node_pool.specs.Branchings.{box_of}
use Rattle.node_pool.specs.Picks.{pick_of}
use Rattle.node_pool.specs.Views.{View, fresh_view, after_entry}
use Rattle.node_pool.specs.declared.pick.Pick.{Pick}
use Rattle.node_pool.specs.declared.pick.Pick.TheVariants.{CutLoop, Heuristic, Node, Nothing, Over}
use Rattle.node_pool.specs.declared.settings.SearchSettings.{SearchSettings}
use Rattle.work_stamp.specs.Taskers.{AfterBegin, Rules, AfterChunk, view_of}
use Rattle.work_stamp.specs.declared.entry.Entry.TheVariants.{CutStart, HeurStart, Start}
use Rattle.work_stamp.specs.declared.stamped.KeyedEntry.{KeyedEntry}
use Rattle.work_stamp.specs.declared.task.Begin.TheVariants.{Take, Idle, End}
use Rattle.task_steps.specs.CutTasks.{cut_chunk, cut_task}
use Rattle.task_steps.specs.DiveTasks.{dive_chunk, dive_task}
use Rattle.task_steps.specs.Tasks.{node_chunk}
use Rattle.task_steps.specs.declared.dive_chunk.DiveChunk.{DiveChunk}
use Rattle.task_steps.specs.declared.local.DiveTask.{DiveTask}
use Rattle.task_steps.specs.declared.cut_chunk.CutChunk.{CutChunk}
use Rattle.task_steps.specs.declared.local.Local.{Local}
use Rattle.task_steps.specs.declared.local.NodeTask.{NodeTask}
use Rattle.task_steps.specs.declared.local.Task.{Task}
use Rattle.task_steps.specs.declared.task_chunk.TaskChunk.{TaskChunk}
use Rattle.task_steps.specs.declared.local.Task.TheVariants.{Nodes, Cuts, Dive}

-- a slot that has split nothing, between tasks
abbrev pub fresh_local : ℕ → Local
fresh_local slot = record { slot = slot; splits = 0; cuts = []; task = None }

-- a task on a node of the view, with the node's box and the cutoff of the view at its start
abbrev pub task_on : ModelParts → View → ℕ → NodeTask
task_on m v node =
    record { node = node; bounds = box_of m.root v.branches node; cutoff = v.cutoff; nodes = 1 }

-- a slot that takes a task, with the cuts of the view
abbrev pub local_with : View → Local → Task → Local
local_with v l task = record l { cuts = v.cuts; task = Some task }

abbrev pub local_on : ModelParts → View → Local → ℕ → Local
local_on m v l node = local_with v l (Nodes (task_on m v node))

-- the first chunk of a task that looks for cuts
abbrev pub first_cuts : Task
first_cuts = Cuts (record { chunks = 1 })

-- a dive from a node of the view, with the node's box and the cutoff of the view at its start
abbrev pub dive_on : ModelParts → View → ℕ → DiveTask
dive_on m v node =
    record { bounds = box_of m.root v.branches node; cutoff = v.cutoff; point = None }

abbrev pub local_diving : ModelParts → View → Local → ℕ → Local
local_diving m v l node = local_with v l (Dive (dive_on m v node))

-- what a slot does for its pick: it looks for cuts, dives from the node or takes it, waits where
-- nothing is open, and is over where the search is
abbrev pub begin_by : ModelParts → View → Local → Pick → AfterBegin Local
begin_by m v l Over = record { does = End; local = l }
begin_by m v l (Node node) =
    record { does = Take (Start node ∷ []); local = local_on m v l node }
begin_by m v l Nothing = record { does = Idle; local = l }
begin_by m v l CutLoop =
    record { does = Take (CutStart ∷ []); local = local_with v l first_cuts }
begin_by m v l (Heuristic node) =
    record { does = Take (HeurStart node ∷ []); local = local_diving m v l node }

-- what a slot between tasks does
abbrev pub begin_of : ModelParts → View → Local → AfterBegin Local
begin_of m v l = begin_by m v l (pick_of v)

-- what a chunk leaves
abbrev pub after_chunk : Local → TaskChunk → AfterChunk Local
after_chunk l chunk = record {
  gives = record { entries = chunk.entries; records = chunk.records; work = chunk.work };
  local = record l { splits = chunk.splits; task = chunk.task };
}

-- what a chunk that looks for cuts leaves: its cuts stand behind those of the slot
abbrev pub after_cut_chunk : Local → CutChunk → AfterChunk Local
after_cut_chunk l chunk = record {
  gives = record { entries = chunk.entries; records = []; work = chunk.work };
  local = record l { cuts = l.cuts ++ chunk.cuts; task = cut_task chunk.task };
}

-- what a chunk of a dive leaves
abbrev pub after_dive_chunk : Local → DiveChunk → AfterChunk Local
after_dive_chunk l chunk = record {
  gives = record { entries = chunk.entries; records = []; work = chunk.work };
  local = record l { task = dive_task chunk.task };
}

-- a chunk of the slot's task; without a task nothing happens
abbrev pub chunk_of : ModelParts → Local → Option Task → AfterChunk Local
chunk_of m l None =
    after_chunk l (record { entries = []; records = []; work = 0; task = None; splits = l.splits })
chunk_of m l (Some (Nodes task)) =
    after_chunk l (node_chunk m l.cuts (record { slot = l.slot; splits = l.splits }) task)
chunk_of m l (Some (Cuts task)) = after_cut_chunk l (cut_chunk m l.cuts task.chunks)
chunk_of m l (Some (Dive task)) = after_dive_chunk l (dive_chunk m l.cuts task)

-- the definitions of the search
abbrev pub rules : ModelParts → SearchSettings → Rules View Local
rules m settings = record {
  fresh_view = fresh_view m settings;
  fresh_local = fresh_local;
  absorb = λ v key entry. after_entry m v entry;
  at_start = λ l. is_none l.task;
  begin = begin_of m;
  chunk = λ l. chunk_of m l l.task;
}

-- the view of a history
abbrev pub search_view : ModelParts → SearchSettings → List KeyedEntry → View
search_view m settings history = view_of (rules m settings) history
