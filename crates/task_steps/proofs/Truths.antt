-- Answers are true.
use Rattle.std.proofs.Common.{◌≡◌, ◌∙◌, ℕ, Bool, true, false, nat_eq, if◌then◌else◌, List, [], ◌∷◌, ◌++◌, length, map, Option, Some, None, refl, sym, ap, subst, arith}
use Rattle.std.proofs.lemmas.Bool.{and_parts}
use Rattle.ip_core.specs.Sides.{IsPaired}
use Rattle.ip_core.specs.Models.{IsModel}
use Rattle.ip_core.specs.declared.model.ModelParts.{ModelParts}
use Rattle.search_truth.specs.Search.{IsTrueAnswer}
use Rattle.search_truth.proofs.Covers.{search_is_true}
use Rattle.stamp_machine.specs.Laws.{IsLawfulAfter}
use Rattle.stamp_machine.specs.Limits.{AreLimits}
use Rattle.stamp_machine.specs.Machine.{history, last}
use Rattle.stamp_machine.specs.declared.limits.Limits.{Limits}
use Rattle.stamp_machine.proofs.Keeping.{keeps}
use Rattle.work_stamp.specs.declared.stamped.KeyedEntry.{KeyedEntry}
use Rattle.node_pool.specs.Branchings.{box_of}
use Rattle.node_pool.specs.Views.{View, is_finished, view_of}
use Rattle.node_pool.specs.declared.node.OpenNode.{OpenNode}
use Rattle.node_pool.specs.declared.settings.SearchSettings.{SearchSettings}
use Rattle.task_steps.specs.Agrees.{Agrees, MayFollowIn}
use Rattle.task_steps.specs.Answers.{answer_of, best_found, finished_status, splits_alone, status_of, view_status}
use Rattle.task_steps.specs.Fits.{FitsLocal, FitsView}
use Rattle.task_steps.specs.Lawful.{search_law}
use Rattle.task_steps.specs.Rules.{rules}
use Rattle.task_steps.specs.Sound.{IsFound, IsSound, best_point, boxes_of, searched_of}
use Rattle.task_steps.specs.Truth.{IsHistory, IsTrueAnswer as IsTrueOf, IsTrueStatus}
use Rattle.task_steps.specs.declared.answer.Best.{Best}
use Rattle.task_steps.specs.declared.answer.Status.{Status}
use Rattle.task_steps.specs.declared.answer.Status.TheVariants.{StoreLimit, WorkLimit}
use Rattle.task_steps.specs.declared.local.Local.{Local}
use Rattle.task_steps.specs.Lemmas.NameCounts.{eq_from_test}
use Rattle.task_steps.specs.Lemmas.Histories.{follow_with, view_with}

nothing_in : {A : Type 0} (xs : List A) → nat_eq (length xs) 0 ≡ true → xs ≡ []
nothing_in [] h = refl
nothing_in (x ∷ xs) h =
    let none = eq_from_test (length (x ∷ xs)) 0 h in absurd (omega (arith, none))

nothing_left : (m : ModelParts) (v : View) → is_finished v ≡ true → boxes_of m v ≡ []
nothing_left m v h =
    let parts = and_parts (nat_eq (length v.open_nodes) 0) (nat_eq (length v.held_nodes) 0) h in
    ap (λ (nodes : List OpenNode). map (λ (name : ℕ). box_of m.root v.branches name)
    (map (λ (node : OpenNode). node.name) nodes ++ v.held_nodes))
    (nothing_in v.open_nodes parts.0)
    ∙ ap (λ (names : List ℕ). map (λ (name : ℕ). box_of m.root v.branches name) names)
    (nothing_in v.held_nodes parts.1)

best_cases : (m : ModelParts) (best : Option Best) → IsFound m best
    → IsTrueAnswer m (best_point best) → IsTrueStatus m (finished_status best) best
best_cases m None found answer = (answer, refl)
best_cases m (Some best) found answer = (answer, found.1)

limit_cases : (m : ModelParts) (best : Option Best) (halted : Bool) → IsFound m best
    → IsTrueStatus m (if halted then StoreLimit else WorkLimit) best
limit_cases m best true found = found
limit_cases m best false found = found

status_cases : (m : ModelParts) (v : View) (best : Option Best) (finished : Bool)
    → is_finished v ≡ finished → IsModel m → IsSound m v best
    → IsTrueStatus m (if finished then finished_status best
    else (if v.has_halt then StoreLimit else WorkLimit)) best
status_cases m v best true is valid sound =
    best_cases m best sound.found
    (search_is_true m (searched_of m v best) valid sound.steps (nothing_left m v is))
status_cases m v best false is valid sound = limit_cases m best v.has_halt sound.found

-- the status of a view that a search comes to
status_true : (m : ModelParts) (v : View) (best : Option Best) → IsModel m → IsSound m v best
    → IsTrueStatus m (view_status v best) best
status_true m v best valid sound = status_cases m v best (is_finished v) refl valid sound

-- the status doesn't depend on the settings
pub same_status : (m : ModelParts) (settings : SearchSettings) (history : List KeyedEntry)
    → view_status (view_of m settings history) (best_found history) ≡ status_of m history
same_status m settings history =
    sym (ap (λ (v : View). view_status v (best_found history))
    (view_with m splits_alone settings history))

module _ (m : ModelParts) (settings : SearchSettings) (valid : IsModel m) (paired : IsPaired m.root)
    (limits : Limits) (ranges : AreLimits limits) where
  pub law : (n : ℕ) → IsLawfulAfter (rules m settings) (FitsView m) (FitsLocal m)
      (MayFollowIn m settings) (Agrees m settings) limits n
  law n = keeps View Local (rules m settings) (FitsView m) (FitsLocal m) (MayFollowIn m settings)
      (Agrees m settings) (search_law m settings valid paired) limits ranges n

  pub history_is_read : IsHistory m (history (rules m settings) limits).entries
  history_is_read = record {
    follow = follow_with m splits_alone settings [] _ (law (last limits)).follow;
  }

  pub answer_is_true : IsTrueOf m (answer_of m (history (rules m settings) limits).entries)
  answer_is_true =
      let es = (history (rules m settings) limits).entries in
      record {
        told = subst (λ (s : Status). IsTrueStatus m s (best_found es)) (same_status m settings es)
            (status_true m (view_of m settings es) (best_found es) valid
            (law (last limits)).stands.agrees.meets.sound);
      }
