-- When the nodes of a certificate are one tree in preorder.
use Rattle.std.specs.Prelude.{ℕ, zero, suc, ◌≡◌, ◌↔◌, List, [], ◌∷◌, ◌++◌, Option, Some, None, ℤ}
use Rattle.ip_core.specs.declared.leaf.Leaf.{Leaf}
use Rattle.tree_cert.specs.declared.node.CertNode.{CertNode}
use Rattle.tree_cert.specs.declared.node.CertNode.TheVariants.{Split, Leaf as Ends}

-- a binary tree of leaves, parted at columns
pub data Tree : Type 0 where
  End : Leaf → Tree
  Parted : ℕ → ℤ → ℤ → Tree → Tree → Tree

-- the nodes of a tree in preorder: a node before its low child's tree, this before the high one's
abbrev pub preorder : Tree → List CertNode
preorder (End leaf) = Ends leaf ∷ []
preorder (Parted col at next low high) = Split col at next ∷ (preorder low ++ preorder high)

-- how many trees are still due after nodes, before which some were due; none where a node comes
-- when no tree is due
abbrev pub due_after : ℕ → List CertNode → Option ℕ
due_after due [] = Some due
due_after zero (node ∷ nodes) = None
due_after (suc due) (Split col at next ∷ nodes) = due_after (suc (suc due)) nodes
due_after (suc due) (Ends leaf ∷ nodes) = due_after due nodes

-- the nodes are those of one tree in preorder
pub record IsTree (nodes : List CertNode) : Type 0 where
  pub whole : due_after 1 nodes ≡ Some 0

-- there is a tree whose nodes in preorder are these
pub record IsPreorder (nodes : List CertNode) : Type 0 where
  pub tree : Tree
  pub is : nodes ≡ preorder tree

-- nodes are counted as one tree exactly where they are those of a tree in preorder
abbrev pub TreesAreCounted : Type 0
TreesAreCounted = (nodes : List CertNode) → IsTree nodes ↔ IsPreorder nodes
