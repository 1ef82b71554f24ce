-- Which open node a slot takes.
use Rattle.std.specs.Prelude.{◌≡◌, true, List, [], ◌∷◌, ℕ}
use Rattle.ip_core.specs.declared.model.ModelParts.{ModelParts}
use Rattle.work_stamp.specs.declared.entry.Entry.{Entry}
use Rattle.work_stamp.specs.declared.entry.Entry.TheVariants.{CutStart, HeurStart, Start}
use Rattle.work_stamp.specs.declared.stamped.KeyedEntry.{KeyedEntry}
use Rattle.work_stamp.specs.declared.task.Begin.TheVariants.{Take}
use Rattle.node_pool.specs.Laws.{IsBestOpen}
use Rattle.node_pool.specs.Picks.{wants_cuts, wants_heuristic}
use Rattle.node_pool.specs.Views.{View, view_of}
use Rattle.node_pool.specs.declared.settings.SearchSettings.{SearchSettings}
use Rattle.task_steps.specs.Rules.{begin_of}
use Rattle.task_steps.specs.declared.local.Local.{Local}

-- what a task publishes at its begin is the Start of the best open node, or that it dives from that
-- node where a dive is due, or that it looks for cuts where none has
pub data TakesBest (v : View) : List Entry → Type 0 where
  BestNode : (name : ℕ) → IsBestOpen v name → TakesBest v (Start name ∷ [])
  BestDive : (name : ℕ) → IsBestOpen v name → wants_heuristic v ≡ true
      → TakesBest v (HeurStart name ∷ [])
  CutsFirst : wants_cuts v ≡ true → TakesBest v (CutStart ∷ [])

-- at every history
abbrev pub BestIsTaken : Type 0
BestIsTaken = (m : ModelParts) (settings : SearchSettings) (history : List KeyedEntry) (l : Local)
    (entries : List Entry) → (begin_of m (view_of m settings history) l).does ≡ Take entries
    → TakesBest (view_of m settings history) entries
