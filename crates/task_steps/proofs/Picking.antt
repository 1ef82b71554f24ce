-- A task takes the best open node, dives from it, or looks for cuts where none has.
use Rattle.std.proofs.Common.{List}
use Rattle.work_stamp.specs.Taskers.{AfterBegin}
use Rattle.work_stamp.specs.declared.entry.Entry.{Entry}
use Rattle.work_stamp.specs.declared.stamped.KeyedEntry.{KeyedEntry}
use Rattle.ip_core.specs.declared.model.ModelParts.{ModelParts}
use Rattle.node_pool.specs.Lemmas.Orders.{best_is_least}
use Rattle.node_pool.specs.Views.{view_of}
use Rattle.node_pool.specs.declared.settings.SearchSettings.{SearchSettings}
use Rattle.task_steps.specs.Picks.{BestDive, BestIsTaken, BestNode, CutsFirst, TakesBest}
use Rattle.task_steps.specs.Rules.{begin_of}
use Rattle.task_steps.specs.declared.local.Local.{Local}
use Rattle.task_steps.specs.Lemmas.Beginning.{IsTaken, OfCuts, OfDive, OfNode, pick_best, pick_cuts, pick_dive, taken_is}

taken_best : (m : ModelParts) (settings : SearchSettings) (history : List KeyedEntry) (l : Local)
    (es : List Entry) (after : AfterBegin Local) → IsTaken m (view_of m settings history) l es after
    → TakesBest (view_of m settings history) es
taken_best m settings history l _ _ (OfNode node is) =
    BestNode node
    (best_is_least m settings history node (pick_best (view_of m settings history) node is))
taken_best m settings history l _ _ (OfDive node is) =
    let dived = pick_dive (view_of m settings history) node is in
    BestDive node (best_is_least m settings history node dived.1) dived.0
taken_best m settings history l _ _ (OfCuts is) =
    CutsFirst (pick_cuts (view_of m settings history) is)

pub best_taken : BestIsTaken
best_taken m settings history l entries does =
    taken_best m settings history l entries (begin_of m (view_of m settings history) l)
    (taken_is m (view_of m settings history) l entries does)
