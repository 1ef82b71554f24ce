-- The tree of a search: how each node came to be, and its bound.
use Rattle.std.specs.Prelude.{ℕ, ◌≡◌, ◌<◌, ◌+◌, false, true, nat_eq, if◌then◌else◌, List, [], ◌∷◌, length, take, slice_get, Option, Some, None, All, ℤ}
use Rattle.std.specs.List.{list_any}
use Rattle.std.specs.BTreeMap.{BTreeMap, get}
use Rattle.std.specs.Ordering.{nat_cmp}
use Rattle.ip_core.specs.Sides.{Sides}
use Rattle.node_pool.specs.BoundChanges.{with_change}
use Rattle.node_pool.specs.Branchings.{Branch, box_of, is_child}
use Rattle.node_pool.specs.declared.node.OpenNode.{OpenNode}
use Rattle.node_pool.specs.declared.origin.Origin.{Origin}

-- the bound of the root, and each node that is split, in order
pub record Tree : Type 0 where
  pub root_bound : ℤ
  pub branches : List Branch

-- the first branching that makes the name
abbrev pub branch_of : List Branch → ℕ → Option Branch
branch_of [] name = None
branch_of (b ∷ bs) name = if is_child b name then Some b else branch_of bs name

-- the bound of the children of a branching
abbrev pub child_bound : Option Branch → Option ℤ
child_bound None = None
child_bound (Some b) = Some b.bound

-- the bound of a node, where there is one of the name
abbrev pub bound_of : Tree → ℕ → Option ℤ
bound_of t name = if nat_eq name 0 then Some t.root_bound
    else child_bound (branch_of t.branches name)

abbrev pub with_name : ℕ → Option ℤ → Option OpenNode
with_name name None = None
with_name name (Some bound) = Some (record { bound = bound; name = name })

-- a node as it stands among open ones, where there is one of the name
abbrev pub node_of : Tree → ℕ → Option OpenNode
node_of t name = with_name name (bound_of t name)

-- the tree has the node's bound
pub record HasBound (t : Tree) (node : OpenNode) : Type 0 where
  pub is : bound_of t node.name ≡ Some node.bound

-- the tree has the bound of each node
pub record HasOpenBounds (t : Tree) (nodes : List OpenNode) : Type 0 where
  pub each : All (HasBound t) nodes

-- neither child of the branching has a name that an earlier one makes
pub record IsNewBranch (bs : List Branch) (b : Branch) : Type 0 where
  pub first : list_any (λ c. is_child c b.first) bs ≡ false
  pub second : list_any (λ c. is_child c (b.first + 1)) bs ≡ false

-- the branching at this place alone has the first child of this name
pub record IsFirstAt (bs : List Branch) (first place : ℕ) : Type 0 where
  pub branch : Branch
  pub at : slice_get bs place ≡ Some branch
  pub named : branch.first ≡ first
  pub alone : (j : ℕ) (b : Branch) → slice_get bs j ≡ Some b → b.first ≡ first → j ≡ place

-- no branching has the first child of this name
pub record HasNoFirst (bs : List Branch) (first : ℕ) : Type 0 where
  pub none : (j : ℕ) (b : Branch) → slice_get bs j ≡ Some b → b.first ≡ first → ⊥

-- the second child of a branching is the first child of none
pub record AreApart (bs : List Branch) : Type 0 where
  pub each : (j k : ℕ) (b c : Branch) → slice_get bs j ≡ Some b → slice_get bs k ≡ Some c
      → b.first + 1 ≡ c.first → ⊥

-- the map has the place of each branching under the name of its first child
pub record IsIndexed (bs : List Branch) (places : BTreeMap ℕ ℕ) : Type 0 where
  pub found : (first place : ℕ) → get nat_cmp places first ≡ Some place → IsFirstAt bs first place
  pub missed : (first : ℕ) → get nat_cmp places first ≡ None → HasNoFirst bs first
  pub apart : AreApart bs

-- the branching at this place alone makes the name
pub record IsMadeAt (bs : List Branch) (name place : ℕ) : Type 0 where
  pub within : place < length bs
  pub branch : Branch
  pub at : slice_get bs place ≡ Some branch
  pub child : is_child branch name ≡ true
  pub alone : (j : ℕ) (b : Branch) → slice_get bs j ≡ Some b → is_child b name ≡ true → j ≡ place

-- no branching makes the name
pub record IsUnmade (bs : List Branch) (name : ℕ) : Type 0 where
  pub none : (j : ℕ) (b : Branch) → slice_get bs j ≡ Some b → is_child b name ≡ false

-- after the first branchings the name has the box of its parent after fewer, with one end changed
pub record IsOriginBefore (bs : List Branch) (name left : ℕ) (o : Origin) : Type 0 where
  pub before : o.place < left
  pub box : (root : Sides) → box_of root (take left bs) name
      ≡ with_change o.change (box_of root (take o.place bs) o.parent)

-- after the first branchings the name has the root box
pub record IsRootBefore (bs : List Branch) (name left : ℕ) : Type 0 where
  pub box : (root : Sides) → box_of root (take left bs) name ≡ root
