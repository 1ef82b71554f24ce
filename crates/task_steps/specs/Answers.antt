-- The answer that a history gives.
use Rattle.std.specs.Prelude.{Bool, true, false, if◌then◌else◌, List, [], ◌∷◌, ℤ, int_lt, Option, Some, None}
use Rattle.ip_core.specs.declared.model.ModelParts.{ModelParts}
use Rattle.work_stamp.specs.declared.entry.Entry.{Entry}
use Rattle.work_stamp.specs.declared.entry.Entry.TheVariants.{Start, CutStart, HeurStart, Done, Found, Cut, Split, Closed, Halt}
use Rattle.work_stamp.specs.declared.stamped.KeyedEntry.{KeyedEntry}
use Rattle.node_pool.specs.Views.{View, is_finished, view_of}
use Rattle.node_pool.specs.declared.settings.SearchSettings.{SearchSettings}
use Rattle.task_steps.specs.declared.answer.Answer.{Answer}
use Rattle.task_steps.specs.declared.answer.Best.{Best}
use Rattle.task_steps.specs.declared.answer.Status.{Status}
use Rattle.task_steps.specs.declared.answer.Status.TheVariants.{Optimal, Infeasible, StoreLimit, WorkLimit}

-- whether a value is below that of the best point, or there is none
abbrev pub is_better : Option Best → ℤ → Bool
is_better None value = true
is_better (Some best) value = int_lt value best.value

-- the best point after one more is found
abbrev pub with_found : Option Best → ℤ → List ℤ → Option Best
with_found best value point = if is_better best value
    then Some (record { value = value; point = point }) else best

-- the best point after one more entry
abbrev pub best_after : Option Best → Entry → Option Best
best_after best (Start node) = best
best_after best CutStart = best
best_after best (HeurStart node) = best
best_after best Done = best
best_after best (Found value point) = with_found best value point
best_after best (Cut derivation) = best
best_after best (Split node col at first keep bound) = best
best_after best (Closed node) = best
best_after best Halt = best

-- the best point after further entries
abbrev pub best_from : Option Best → List KeyedEntry → Option Best
best_from best [] = best
best_from best (e ∷ es) = best_from (best_after best e.entry) es

-- the first found point of least value
abbrev pub best_found : List KeyedEntry → Option Best
best_found history = best_from None history

-- with nothing open or held
abbrev pub finished_status : Option Best → Status
finished_status None = Infeasible
finished_status (Some best) = Optimal

-- how a search ended: with nothing open or held it has a best point or shows that there is none,
-- else a limit ended it, that of the store where a Halt stands
abbrev pub view_status : View → Option Best → Status
view_status v best = if is_finished v then finished_status best
    else (if v.has_halt then StoreLimit else WorkLimit)

-- a search by splits alone; which nodes are left doesn't depend on the settings
abbrev pub splits_alone : SearchSettings
splits_alone = record { cuts = false; heuristics = false }

-- how the search of a history ended
abbrev pub status_of : ModelParts → List KeyedEntry → Status
status_of m history = view_status (view_of m splits_alone history) (best_found history)

-- the answer of a history
abbrev pub answer_of : ModelParts → List KeyedEntry → Answer
answer_of m history = record { status = status_of m history; best = best_found history }
