-- How nodes are split, and the box of each node.
use Rattle.std.specs.Prelude.{ℕ, ◌≡◌, ◌+◌, ◌<◌, ◌^◌, Bool, ◌||◌, nat_eq, if◌then◌else◌, List, [], ◌∷◌, Option, Some, None, ℤ, pos, ◌+ℤ◌, ◌<ℤ◌}
use Rattle.ip_core.specs.Sides.{Sides}
use Rattle.node_pool.specs.BoundChanges.{with_changes, with_change}
use Rattle.node_pool.specs.declared.bound_change.BoundChange.{BoundChange}
use Rattle.node_pool.specs.declared.bound_change.BoundChange.TheVariants.{High, Low}

-- A node is split in two: `first` with the column at most `at`, and the next name with it at least
-- `at + 1`.
pub record Branch : Type 0 where
  pub node : ℕ
  pub col : ℕ
  pub at : ℤ
  pub first : ℕ
  -- that of both children
  pub bound : ℤ

-- the number above `at` and the name after `first` fit their types
pub record HasSuccessors (at : ℤ) (first : ℕ) : Type 0 where
  pub number : at <ℤ pos (2 ^ 62)
  pub name : first + 1 < 2 ^ 64

-- whether one of the children has the name
abbrev pub is_child : Branch → ℕ → Bool
is_child b name = nat_eq b.first name || nat_eq (b.first + 1) name

-- the change that makes the box of the child of this name, if there is one
abbrev pub change_for : Branch → ℕ → Option BoundChange
change_for b name = if nat_eq b.first name then Some (High b.col b.at)
    else if nat_eq (b.first + 1) name then Some (Low b.col (b.at +ℤ pos 1)) else None

-- a box that stays, or is made from that of the parent
abbrev pub box_by : Option BoundChange → Sides → Sides → Sides
box_by None own parent = own
box_by (Some c) own parent = with_change c parent

-- the boxes of all names after one more node is split: each child's is that of its parent with one
-- end changed
abbrev pub boxes_with : (ℕ → Sides) → Branch → ℕ → Sides
boxes_with boxes b name = box_by (change_for b name) (boxes name) (boxes b.node)

abbrev pub boxes_after : (ℕ → Sides) → List Branch → ℕ → Sides
boxes_after boxes [] = boxes
boxes_after boxes (b ∷ bs) = boxes_after (boxes_with boxes b) bs

-- the box of a name: the root box, cut along the way from the root to it
abbrev pub box_of : Sides → List Branch → ℕ → Sides
box_of root branches name = boxes_after (λ other. root) branches name

-- changes, the last first, that make the box of a name from the root box
pub record IsPath (branches : List Branch) (name : ℕ) (path : List BoundChange) : Type 0 where
  pub box : (root : Sides) → box_of root branches name ≡ with_changes path root
