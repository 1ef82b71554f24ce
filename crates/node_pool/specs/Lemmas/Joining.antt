-- Views of histories that grow by an entry.
use Rattle.std.proofs.Common.{◌≡◌, ◌∙◌, ℕ, zero, suc, ◌+◌, List, [], ◌∷◌, ◌++◌, length, refl, sym, ap, subst, arith}
use Rattle.ip_core.specs.declared.model.ModelParts.{ModelParts}
use Rattle.work_stamp.specs.declared.entry.Entry.{Entry}
use Rattle.work_stamp.specs.declared.entry.Entry.TheVariants.{Start, CutStart, HeurStart, Done, Found, Cut, Split, Closed, Halt}
use Rattle.work_stamp.specs.declared.stamped.KeyedEntry.{KeyedEntry}
use Rattle.node_pool.specs.Follows.{CanJoin, MayFollow}
use Rattle.node_pool.specs.Laws.{EntriesAreCounted}
use Rattle.node_pool.specs.Views.{View, fresh_view, without_held, open_node, after_entry, view_after, view_of, with_branch, with_children}
use Rattle.node_pool.specs.declared.node.OpenNode.{OpenNode}
use Rattle.node_pool.specs.declared.settings.SearchSettings.{SearchSettings}

-- the view of a history with one entry more
pub view_next : (m : ModelParts) (v : View) (es : List KeyedEntry) (e : KeyedEntry)
    → view_after m v (es ++ e ∷ []) ≡ after_entry m (view_after m v es) e.entry
view_next m v [] e = refl
view_next m v (x ∷ xs) e = view_next m (after_entry m v x.entry) xs e

children_settings : (v : View) (low high : OpenNode) (keep : ℕ)
    → (with_children v low high keep).settings ≡ v.settings
children_settings v low high zero = refl
children_settings v low high (suc zero) = refl
children_settings v low high (suc (suc more)) = refl

entry_settings : (m : ModelParts) (v : View) (e : Entry) → (after_entry m v e).settings ≡ v.settings
entry_settings m v (Start node) = refl
entry_settings m v CutStart = refl
entry_settings m v (HeurStart node) = refl
entry_settings m v Done = refl
entry_settings m v (Found value point) = refl
entry_settings m v (Cut derivation) = refl
entry_settings m v (Split node col at first keep bound) =
    children_settings (with_branch (without_held v node)
    (record { node = node; col = col; at = at; first = first; bound = bound }))
    (open_node first bound) (open_node (first + 1) bound) keep
entry_settings m v (Closed node) = refl
entry_settings m v Halt = refl

-- the settings stay
pub settings_stay : (m : ModelParts) (v : View) (es : List KeyedEntry) → (view_after m v es).settings ≡ v.settings
settings_stay m v [] = refl
settings_stay m v (e ∷ es) = settings_stay m (after_entry m v e.entry) es ∙ entry_settings m v e.entry

-- an entry that may follow may join the view of a history
pub can_join : (m : ModelParts) (settings : SearchSettings) (history : List KeyedEntry) (v : View)
    (e : Entry) → v ≡ view_of m settings history → MayFollow m v e → CanJoin m v e
can_join m settings history v e is follows =
    let same : v.settings ≡ settings = ap (λ (w : View). w.settings) is
    ∙ settings_stay m (fresh_view m settings) history in
    record {
      history = history;
      is = subst (λ (s : SearchSettings). v ≡ view_of m s history) (sym same) is;
      follows = follows;
    }

-- the same where the view is that of a history with an entry more, for a view that is worked out
pub joins_at : (m : ModelParts) (settings : SearchSettings) (history : List KeyedEntry) (v : View)
    (e : Entry) → v ≡ view_of m settings history → MayFollow m (view_of m settings history) e
    → CanJoin m v e
joins_at m settings history v e is follows =
    can_join m settings history v e is (subst (λ (w : View). MayFollow m w e) (sym is) follows)

next_count : (a b c : ℕ) → a ≡ b + 1 + c → a ≡ b + suc c
next_count a b c h = omega (arith, h)

entries_after : (m : ModelParts) (v : View) (es : List KeyedEntry)
    → (view_after m v es).entries ≡ v.entries + length es
entries_after m v [] = omega arith
entries_after m v (e ∷ es) =
    next_count (view_after m (after_entry m v e.entry) es).entries v.entries (length es)
    (entries_after m (after_entry m v e.entry) es)

from_none : (a b : ℕ) → a ≡ 0 + b → a ≡ b
from_none a b h = omega (arith, h)

pub entries_are_counted : EntriesAreCounted
entries_are_counted m settings history =
    from_none _ (length history) (entries_after m (fresh_view m settings) history)
