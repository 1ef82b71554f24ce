-- Views and best points of histories that grow.
use Rattle.std.proofs.Common.{◌≡◌, ◌∙◌, ℕ, zero, suc, ◌+◌, List, [], ◌∷◌, ◌++◌, Option, None, refl, sym, ap, subst}
use Rattle.ip_core.specs.declared.model.ModelParts.{ModelParts}
use Rattle.work_stamp.specs.Histories.{FollowInTurn, keyed_entry}
use Rattle.work_stamp.specs.Taskers as tasks
use Rattle.work_stamp.specs.declared.entry.Entry.{Entry}
use Rattle.work_stamp.specs.declared.entry.Entry.TheVariants.{Start, CutStart, HeurStart, Done, Found, Cut, Split, Closed, Halt}
use Rattle.work_stamp.specs.declared.key.Key.{Key}
use Rattle.work_stamp.specs.declared.stamped.KeyedEntry.{KeyedEntry}
use Rattle.node_pool.specs.Follows.{MayFollow, MayJoin}
use Rattle.node_pool.specs.Lemmas.Joining.{view_next}
use Rattle.node_pool.specs.Views.{View, after_entry, fresh_view, open_node, view_after, view_of, with_children}
use Rattle.node_pool.specs.declared.node.OpenNode.{OpenNode}
use Rattle.node_pool.specs.declared.settings.SearchSettings.{SearchSettings}
use Rattle.task_steps.specs.Agrees.{MayFollowIn}
use Rattle.task_steps.specs.Answers.{best_after, best_found, best_from}
use Rattle.task_steps.specs.Rules.{rules}
use Rattle.task_steps.specs.declared.answer.Best.{Best}
use Rattle.task_steps.specs.Lemmas.Entries.{base_of}

-- the view by the rules of the search is that of the pool

same_after : (m : ModelParts) (settings : SearchSettings) (v : View) (es : List KeyedEntry)
    → tasks.view_after (rules m settings) v es ≡ view_after m v es
same_after m settings v [] = refl
same_after m settings v (e ∷ es) = same_after m settings (after_entry m v e.entry) es

pub same_view : (m : ModelParts) (settings : SearchSettings) (history : List KeyedEntry)
    → tasks.view_of (rules m settings) history ≡ view_of m settings history
same_view m settings history = same_after m settings (fresh_view m settings) history

-- one more entry

pub seen_next : (m : ModelParts) (settings : SearchSettings) (history : List KeyedEntry) (k : Key)
    (e : Entry) → view_of m settings (history ++ keyed_entry k e ∷ [])
    ≡ after_entry m (view_of m settings history) e
seen_next m settings history k e = view_next m (fresh_view m settings) history (keyed_entry k e)

best_more : (best : Option Best) (history : List KeyedEntry) (e : KeyedEntry)
    → best_from best (history ++ e ∷ []) ≡ best_after (best_from best history) e.entry
best_more best [] e = refl
best_more best (x ∷ xs) e = best_more (best_after best x.entry) xs e

pub best_next : (history : List KeyedEntry) (k : Key) (e : Entry)
    → best_found (history ++ keyed_entry k e ∷ []) ≡ best_after (best_found history) e
best_next history k e = best_more None history (keyed_entry k e)

-- the same search with other settings

abbrev pub with_settings : View → SearchSettings → View
with_settings v s = record v { settings = s }

children_with : (v : View) (s : SearchSettings) (low high : OpenNode) (keep : ℕ)
    → with_children (with_settings v s) low high keep
    ≡ with_settings (with_children v low high keep) s
children_with v s low high zero = refl
children_with v s low high (suc zero) = refl
children_with v s low high (suc (suc more)) = refl

entry_with : (m : ModelParts) (v : View) (s : SearchSettings) (e : Entry)
    → after_entry m (with_settings v s) e ≡ with_settings (after_entry m v e) s
entry_with m v s (Start node) = refl
entry_with m v s CutStart = refl
entry_with m v s (HeurStart node) = refl
entry_with m v s Done = refl
entry_with m v s (Found value point) = refl
entry_with m v s (Cut derivation) = refl
entry_with m v s (Split node col at first keep bound) =
    ap (λ (w : View). record w { entries = v.entries + 1 })
    (children_with (base_of v node col at first bound) s (open_node first bound)
    (open_node (first + 1) bound) keep)
entry_with m v s (Closed node) = refl
entry_with m v s Halt = refl

after_with : (m : ModelParts) (v : View) (s : SearchSettings) (es : List KeyedEntry)
    → view_after m (with_settings v s) es ≡ with_settings (view_after m v es) s
after_with m v s [] = refl
after_with m v s (e ∷ es) =
    ap (λ (w : View). view_after m w es) (entry_with m v s e.entry)
    ∙ after_with m (after_entry m v e.entry) s es

-- only the settings of the view differ
pub view_with : (m : ModelParts) (s t : SearchSettings) (history : List KeyedEntry)
    → view_of m s history ≡ with_settings (view_of m t history) s
view_with m s t history = after_with m (fresh_view m t) s history

joins_with : (m : ModelParts) (v : View) (s : SearchSettings) (e : Entry) → MayJoin m v e
    → MayJoin m (with_settings v s) e
joins_with m v s (Start node) may = record { node = may.node; first = may.first }
joins_with m v s CutStart may = tt
joins_with m v s (HeurStart node) may = record { node = may.node; first = may.first }
joins_with m v s Done may = tt
joins_with m v s (Found value point) may = may
joins_with m v s (Cut derivation) may =
    record { few = may.few; row = may.row; derived = may.derived }
joins_with m v s (Split node col at first keep bound) may = record {
  held = record { among = may.held.among };
  cut = may.cut;
  room = may.room;
  first_new = may.first_new;
  second_new = may.second_new;
}
joins_with m v s (Closed node) may = record { among = may.among }
joins_with m v s Halt may = tt

follows_with : (m : ModelParts) (s t : SearchSettings) (history : List KeyedEntry) (e : Entry)
    → MayFollowIn m t history e → MayFollowIn m s history e
follows_with m s t history e follows =
    subst (λ (v : View). MayFollow m v e) (sym (view_with m s t history)) (record {
      short = follows.short;
      joins = joins_with m (view_of m t history) s e follows.joins;
    })

-- so the same entries may follow
pub follow_with : (m : ModelParts) (s t : SearchSettings) (history es : List KeyedEntry)
    → FollowInTurn (MayFollowIn m t) history es → FollowInTurn (MayFollowIn m s) history es
follow_with m s t history [] follow = tt
follow_with m s t history (e ∷ es) follow =
    (follows_with m s t history e.entry follow.0, follow_with m s t (history ++ e ∷ []) es follow.1)
