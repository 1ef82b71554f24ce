-- Which entries may follow a history.
use Rattle.std.specs.Prelude.{ℕ, ◌≡◌, ◌≤◌, ◌<◌, ◌+◌, ◌-◌, ◌^◌, true, false, nat_eq, List, length, ℤ, pos, ◌≤ℤ◌, neg_ℤ, Some, None, Ok}
use Rattle.std.specs.List.{list_any}
use Rattle.ip_core.specs.Truth.{IsFeasible, value_at}
use Rattle.ip_core.specs.declared.model.ModelParts.{ModelParts}
use Rattle.ip_core.specs.declared.derivation.Derivation.{Derivation}
use Rattle.ip_core.specs.declared.row.Row.{Row}
use Rattle.safe_bound.specs.Premises.{AreCuts}
use Rattle.cut_derive.specs.Derivations.{derived_row}
use Rattle.cut_derive.specs.declared.limits.TheConstants.{MAX_CUTS}
use Rattle.work_stamp.specs.declared.entry.Entry.{Entry}
use Rattle.work_stamp.specs.declared.entry.Entry.TheVariants.{Start, CutStart, HeurStart, Done, Found, Cut, Split, Closed, Halt}
use Rattle.work_stamp.specs.declared.stamped.KeyedEntry.{KeyedEntry}
use Rattle.node_pool.specs.Branchings.{HasSuccessors}
use Rattle.node_pool.specs.Nodes.{first_named}
use Rattle.node_pool.specs.Trees.{child_bound, branch_of}
use Rattle.node_pool.specs.Views.{View, is_known, view_of}
use Rattle.node_pool.specs.declared.node.OpenNode.{OpenNode}

-- an open node has the name
pub record IsOpen (v : View) (name : ℕ) : Type 0 where
  pub node : OpenNode
  pub first : first_named name v.open_nodes ≡ Some node

-- a held node has the name
pub record IsHeld (v : View) (name : ℕ) : Type 0 where
  pub among : list_any (λ held. nat_eq held name) v.held_nodes ≡ true

-- a feasible point with its value
pub record IsValued (m : ModelParts) (value : ℤ) (point : List ℤ) : Type 0 where
  pub feasible : IsFeasible m point
  pub told : value ≡ value_at m point

-- a column of the model, a value from -2^31 to 2^31, and a child to keep that is one of three
pub record IsSplitPoint (m : ModelParts) (col : ℕ) (at : ℤ) (keep : ℕ) : Type 0 where
  pub known : col < length m.cols
  pub above : neg_ℤ (pos (2 ^ 31)) ≤ℤ at
  pub below : at ≤ℤ pos (2 ^ 31)
  pub keeps : keep ≤ 2

-- a held node may be split at a column of the model, into children whose names are new
pub record MaySplit (m : ModelParts) (v : View) (node col : ℕ) (at : ℤ) (first keep : ℕ) : Type 0
  where
    pub held : IsHeld v node
    pub cut : IsSplitPoint m col at keep
    pub room : first < 2 ^ 64 - 1
    pub first_new : is_known v first ≡ false
    pub second_new : is_known v (first + 1) ≡ false

-- a derivation may give a cut more while there are fewer than 512, where it gives a row from the
-- model's rows and the cuts
pub record MayCut (m : ModelParts) (v : View) (derivation : Derivation) : Type 0 where
  pub few : length v.cuts < MAX_CUTS
  pub row : Row
  pub derived : derived_row m v.cuts derivation ≡ Ok row

-- by the kind of entry
abbrev pub MayJoin : ModelParts → View → Entry → Type 0
MayJoin m v (Start node) = IsOpen v node
MayJoin m v CutStart = Unit {0}
MayJoin m v (HeurStart node) = IsOpen v node
MayJoin m v Done = Unit {0}
MayJoin m v (Found value point) = IsValued m value point
MayJoin m v (Cut derivation) = MayCut m v derivation
MayJoin m v (Split node col at first keep bound) = MaySplit m v node col at first keep
MayJoin m v (Closed node) = IsHeld v node
MayJoin m v Halt = Unit {0}

-- the entry may follow a history of this view, which has fewer than 2^32 entries
pub record MayFollow (m : ModelParts) (v : View) (entry : Entry) : Type 0 where
  pub short : v.entries < 2 ^ 32
  pub joins : MayJoin m v entry

-- the view is that of a history of the model's search, and the entry may follow it
pub record CanJoin (m : ModelParts) (v : View) (entry : Entry) : Type 0 where
  pub history : List KeyedEntry
  pub is : v ≡ view_of m v.settings history
  pub follows : MayFollow m v entry

-- the numbers of a split leave room for one more, and the names of its children are new
pub record IsNewSplit (v : View) (at : ℤ) (first : ℕ) : Type 0 where
  pub successors : HasSuccessors at first
  pub first_new : is_known v first ≡ false
  pub second_new : is_known v (first + 1) ≡ false

-- cuts like the model's rows, and a row that the derivation gives from them
pub record HasRow (m : ModelParts) (v : View) (derivation : Derivation) : Type 0 where
  pub cuts : AreCuts m v.cuts
  pub row : Row
  pub derived : derived_row m v.cuts derivation ≡ Ok row

-- what the entry's effect relies on: a split is new, and a cut has a row
abbrev pub HasGround : ModelParts → View → Entry → Type 0
HasGround m v (Start node) = Unit {0}
HasGround m v CutStart = Unit {0}
HasGround m v (HeurStart node) = Unit {0}
HasGround m v Done = Unit {0}
HasGround m v (Found value point) = Unit {0}
HasGround m v (Cut derivation) = HasRow m v derivation
HasGround m v (Split node col at first keep bound) = IsNewSplit v at first
HasGround m v (Closed node) = Unit {0}
HasGround m v Halt = Unit {0}

-- a node that may be opened: no open node has its name, which isn't 0, and a split gives it its
-- bound
pub record IsFresh (v : View) (node : OpenNode) : Type 0 where
  pub apart : first_named node.name v.open_nodes ≡ None
  pub named : nat_eq node.name 0 ≡ false
  pub bound : child_bound (branch_of v.branches node.name) ≡ Some node.bound

-- no count of entries of one kind is above that of all
pub record AreCounted (v : View) : Type 0 where
  pub starts : v.starts ≤ v.entries
  pub cut_starts : v.cut_starts ≤ v.entries
  pub heuristic_starts : v.heuristic_starts ≤ v.entries

-- each count leaves room for one more
pub record HasRoom (v : View) : Type 0 where
  pub counts : AreCounted v
  pub short : v.entries < 2 ^ 32
