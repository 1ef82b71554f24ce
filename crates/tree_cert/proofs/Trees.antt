-- Counting the trees that are due, and the trees themselves.
use Rattle.std.proofs.Common.{◌≡◌, ◌∙◌, ℕ, zero, suc, ℤ, List, [], ◌∷◌, ◌++◌, length, Some, refl, sym, ap}
use Rattle.std.proofs.lemmas.List.{append_assoc, append-nil}
use Rattle.tree_cert.specs.Trees.{Tree, End, Parted, preorder, due_after, IsPreorder, TreesAreCounted}
use Rattle.tree_cert.specs.declared.node.CertNode.{CertNode}
use Rattle.tree_cert.specs.declared.node.CertNode.TheVariants.{Split, Leaf as Ends}

-- the nodes of a tree are one tree less that is due
counted : (t : Tree) (due : ℕ) (rest : List CertNode) → due_after (suc due) (preorder t ++ rest) ≡ due_after due rest
counted (End leaf) due rest = refl
counted (Parted col at next low high) due rest =
    ap (due_after (suc (suc due))) (append_assoc (preorder low) (preorder high) rest)
    ∙ counted low (suc due) (preorder high ++ rest) ∙ counted high due rest

-- the nodes of trees, one tree after the other
abbrev preorders : List Tree → List CertNode
preorders [] = []
preorders (t ∷ ts) = preorder t ++ preorders ts

-- nodes that are those of so many trees
record HasTrees (count : ℕ) (nodes : List CertNode) : Type 0 where
  trees : List Tree
  many : length trees ≡ count
  are : nodes ≡ preorders trees

-- one leaf more in front
with_leaf : (leaf : _) (count : ℕ) (nodes : List CertNode) → HasTrees count nodes → HasTrees (suc count) (Ends leaf ∷ nodes)
with_leaf leaf count nodes found = record {
  trees = End leaf ∷ found.trees;
  many = ap suc found.many;
  are = ap (λ rest. Ends leaf ∷ rest) found.are;
}

no_tree : (A : Type 0) (count : ℕ) → suc count ≡ 0 → A
no_tree A count e = cc

-- the first two of several trees become the children of one more node
with_split : (col : ℕ) (at next : ℤ) (count : ℕ) (nodes : List CertNode) (trees : List Tree)
    → length trees ≡ suc (suc count) → nodes ≡ preorders trees → HasTrees (suc count) (Split col at next ∷ nodes)
with_split col at next count nodes [] many are = no_tree _ (suc count) (sym many)
with_split col at next count nodes (low ∷ []) many are = cc
with_split col at next count nodes (low ∷ high ∷ trees) many are = record {
  trees = Parted col at next low high ∷ trees;
  many = cc;
  are = ap (λ rest. Split col at next ∷ rest) (are ∙ sym (append_assoc (preorder low) (preorder high) (preorders trees)));
}

-- nodes after which no tree is due are those of as many trees as were due
parsed : (due : ℕ) (nodes : List CertNode) → due_after due nodes ≡ Some 0 → HasTrees due nodes
parsed zero [] over = record { trees = []; many = refl; are = refl }
parsed (suc due) [] over = cc
parsed zero (node ∷ nodes) over = cc
parsed (suc due) (Split col at next ∷ nodes) over =
    let below = parsed (suc (suc due)) nodes over in
    with_split col at next due nodes below.trees below.many below.are
parsed (suc due) (Ends leaf ∷ nodes) over = with_leaf leaf due nodes (parsed due nodes over)

single : (nodes : List CertNode) (trees : List Tree) → length trees ≡ 1 → nodes ≡ preorders trees → IsPreorder nodes
single nodes [] many are = cc
single nodes (t ∷ []) many are = record { tree = t; is = are ∙ append-nil (preorder t) }
single nodes (t ∷ u ∷ ts) many are = cc

-- nodes are counted as one tree exactly where they are those of a tree in preorder
pub trees_are_counted : TreesAreCounted
trees_are_counted nodes = (
  (λ one. let found = parsed 1 nodes one.whole in single nodes found.trees found.many found.are),
  (λ one. record {
    whole = ap (due_after 1) (one.is ∙ sym (append-nil (preorder one.tree))) ∙ counted one.tree 0 [];
  }),
)
