-- Laws of every search's history.
use Rattle.std.specs.Prelude.{ℕ, ◌≡◌, ◌++◌, length, ◌+◌, ◌≤◌, ◌⊎◌, true, List, Some, All, Contains, ℤ, ◌<ℤ◌}
use Rattle.ip_core.specs.Sides.{Sides}
use Rattle.ip_core.specs.declared.model.ModelParts.{ModelParts}
use Rattle.ip_core.specs.declared.row.Row.{Row}
use Rattle.search_truth.specs.Boxes.{low_child, high_child}
use Rattle.cut_derive.specs.Laws.{AreDerived}
use Rattle.cut_derive.specs.declared.limits.TheConstants.{MAX_CUTS}
use Rattle.work_stamp.specs.declared.entry.Entry.{Entry}
use Rattle.work_stamp.specs.declared.entry.Entry.TheVariants.{Split}
use Rattle.work_stamp.specs.declared.stamped.KeyedEntry.{KeyedEntry}
use Rattle.node_pool.specs.Branchings.{box_of}
use Rattle.node_pool.specs.Follows.{MayFollow}
use Rattle.node_pool.specs.Picks.{best_open}
use Rattle.node_pool.specs.Views.{View, fresh_view, is_known, after_entry, view_of}
use Rattle.node_pool.specs.declared.node.OpenNode.{OpenNode}
use Rattle.node_pool.specs.declared.settings.SearchSettings.{SearchSettings}

-- a node comes no later than another: its bound is less, or the bounds are equal and its name is
-- not greater
abbrev pub IsNoLater : OpenNode → OpenNode → Type 0
IsNoLater a b = (a.bound <ℤ b.bound) ⊎ ((a.bound ≡ b.bound) × (a.name ≤ b.name))

-- the name is that of an open node, and no open node comes before it
pub record IsBestOpen (v : View) (name : ℕ) : Type 0 where
  pub node : OpenNode
  pub named : node.name ≡ name
  pub among : Contains v.open_nodes node
  pub best : All (IsNoLater node) v.open_nodes

-- at every history the best open node has the least bound, and of those the least name
abbrev pub BestIsLeast : Type 0
BestIsLeast = (m : ModelParts) (settings : SearchSettings) (history : List KeyedEntry) (name : ℕ)
    → best_open (view_of m settings history) ≡ Some name
    → IsBestOpen (view_of m settings history) name

-- every node that is open or held has a known name
pub record AreKnown (v : View) : Type 0 where
  pub opened : All (λ node. is_known v node.name ≡ true) v.open_nodes
  pub held : All (λ name. is_known v name ≡ true) v.held_nodes

-- The names of nodes are known at first and after each entry that may follow. The root has the root
-- box, a split gives its children the two parts of its node's box, and the box of a name that is
-- known never changes.
pub record BoxesAreParts : Type 0 where
  pub known_at_first : (m : ModelParts) (settings : SearchSettings)
      → AreKnown (fresh_view m settings)
  pub known_after : (m : ModelParts) (v : View) (e : Entry) → AreKnown v → MayFollow m v e
      → AreKnown (after_entry m v e)
  pub root : (m : ModelParts) (settings : SearchSettings) (root : Sides)
      → box_of root (fresh_view m settings).branches 0 ≡ root
  pub low : (m : ModelParts) (v : View) (root : Sides) (node col : ℕ) (at : ℤ)
      (first keep : ℕ) (bound : ℤ)
      → box_of root (after_entry m v (Split node col at first keep bound)).branches first
      ≡ low_child (box_of root v.branches node) col at
  pub high : (m : ModelParts) (v : View) (root : Sides) (node col : ℕ) (at : ℤ)
      (first keep : ℕ) (bound : ℤ)
      → box_of root (after_entry m v (Split node col at first keep bound)).branches (first + 1)
      ≡ high_child (box_of root v.branches node) col at
  pub stays : (m : ModelParts) (v : View) (e : Entry) (root : Sides) (name : ℕ) → MayFollow m v e
      → is_known v name ≡ true → box_of root (after_entry m v e).branches name
      ≡ box_of root v.branches name

-- a view counts each entry of its history
abbrev pub EntriesAreCounted : Type 0
EntriesAreCounted = (m : ModelParts) (settings : SearchSettings) (history : List KeyedEntry)
    → (view_of m settings history).entries ≡ length history

-- further cuts stand behind those of before
pub record HasCutsOf (before after : List Row) : Type 0 where
  pub more : List Row
  pub whole : after ≡ before ++ more

-- At every history each cut of the view was derived from the model's rows and the cuts before it.
-- An entry leaves the cuts that there are, and one that may follow leaves at most 512.
pub record CutsAreDerived : Type 0 where
  pub of_history : (m : ModelParts) (settings : SearchSettings) (history : List KeyedEntry)
      → AreDerived m (view_of m settings history).cuts
  pub after : (m : ModelParts) (v : View) (e : Entry) → AreDerived m v.cuts
      → AreDerived m (after_entry m v e).cuts
  pub stay : (m : ModelParts) (v : View) (e : Entry) → HasCutsOf v.cuts (after_entry m v e).cuts
  pub few : (m : ModelParts) (v : View) (e : Entry) → MayFollow m v e → length v.cuts ≤ MAX_CUTS
      → length (after_entry m v e).cuts ≤ MAX_CUTS
