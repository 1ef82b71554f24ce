-- The trees of nodes that are due, of which the last is next.
use Rattle.std.proofs.Common.{◌≡◌, ◌∙◌, ℕ, ◌+◌, ◌<◌, List, [], ◌∷◌, ◌++◌, length, Some, None, sym, ap, append_assoc, arith}
use Rattle.std.specs.BTreeMap.{BTreeMap, get}
use Rattle.std.specs.Ordering.{nat_cmp}
use Rattle.std.proofs.lemmas.List.{append-nil}
use Rattle.ip_core.specs.declared.leaf.Leaf.{Leaf}
use Rattle.ip_core.specs.declared.leaf.Record.{Record}
use Rattle.ip_core.specs.declared.model.ModelParts.{ModelParts}
use Rattle.work_stamp.specs.declared.stamped.KeyedEntry.{KeyedEntry}
use Rattle.node_pool.specs.Branchings.{HasSuccessors}
use Rattle.node_pool.specs.Lemmas.Boxes.{boxes_are_parts}
use Rattle.node_pool.specs.Views.{fresh_view}
use Rattle.task_steps.specs.Answers.{splits_alone}
use Rattle.task_steps.specs.Truth.{IsHistory}
use Rattle.tree_cert.specs.declared.node.CertNode.{CertNode}
use Rattle.tree_cert.specs.declared.node.CertNode.TheVariants.{Leaf as Ends}
use Rattle.tree_build.specs.FirstRecords.{HasFirstPartings}
use Rattle.tree_build.specs.Partings.{first_parting}
use Rattle.tree_build.specs.ProofTrees.{all_records, leaf_named, split_node, tree_of}
use Rattle.tree_build.specs.declared.parting.Parting.{Parting}
use Rattle.tree_build.proofs.Partings.{first_new, follows_first, leaf_tree, parted_tree, split_tree}

abbrev pub stacked : List Record → List KeyedEntry → List ℕ → List CertNode
stacked records es [] = []
stacked records es (name ∷ names) = stacked records es names ++ tree_of records es name

-- the tree of the last name comes first
pub stacked_last : (records : List Record) (es : List KeyedEntry) (names : List ℕ) (name : ℕ)
    → stacked records es (names ++ name ∷ [])
    ≡ tree_of records es name ++ stacked records es names
stacked_last records es [] name = sym (append-nil (tree_of records es name))
stacked_last records es (x ∷ xs) name =
    ap (λ (nodes : List CertNode). nodes ++ tree_of records es x)
    (stacked_last records es xs name)
    ∙ append_assoc (tree_of records es name) (stacked records es xs) (tree_of records es x)

-- ---- one step: the last name is taken off

-- a node that is parted, before the trees of its children
split_stacked : (records : List Record) (es : List KeyedEntry) (stack : List ℕ) (name : ℕ)
    (p : Parting) → tree_of records es name ≡ parted_tree records es p
    → stacked records es (stack ++ name ∷ [])
    ≡ split_node p ∷ stacked records es ((stack ++ (p.first + 1) ∷ []) ++ p.first ∷ [])
split_stacked records es stack name p tree =
    let low = tree_of records es p.first in
    let high = tree_of records es (p.first + 1) in
    let rest = stacked records es stack in
    let after : stacked records es ((stack ++ (p.first + 1) ∷ []) ++ p.first ∷ [])
    ≡ (low ++ high) ++ rest =
    stacked_last records es (stack ++ (p.first + 1) ∷ []) p.first
    ∙ ap (λ (nodes : List CertNode). low ++ nodes) (stacked_last records es stack (p.first + 1))
    ∙ sym (append_assoc low high rest) in
    stacked_last records es stack name ∙ ap (λ (nodes : List CertNode). nodes ++ rest) tree
    ∙ ap (λ (nodes : List CertNode). split_node p ∷ nodes) (sym after)

-- a node that is a leaf
leaf_stacked : (records : List Record) (es : List KeyedEntry) (stack : List ℕ) (name : ℕ)
    (node : CertNode) → tree_of records es name ≡ node ∷ []
    → stacked records es (stack ++ name ∷ []) ≡ node ∷ stacked records es stack
leaf_stacked records es stack name node tree =
    stacked_last records es stack name
    ∙ ap (λ (nodes : List CertNode). nodes ++ stacked records es stack) tree

-- what stood first among the trees that are due now stands last among the nodes
pub moved : (whole nodes more due left : List CertNode) (node : CertNode) → due ≡ node ∷ left
    → more ≡ nodes ++ node ∷ [] → nodes ++ due ≡ whole → more ++ left ≡ whole
moved whole nodes more due left node first next so_far =
    ap (λ (xs : List CertNode). xs ++ left) next ∙ append_assoc nodes (node ∷ []) left
    ∙ ap (λ (xs : List CertNode). nodes ++ xs) (sym first) ∙ so_far

pub fewer : (due left : List CertNode) (node : CertNode) → due ≡ node ∷ left → length left < length due
fewer due left node first = rw first (omega arith)

module _ (m : ModelParts) (lists : List (List Record)) (es : List KeyedEntry) where
  abbrev records : List Record
  records = all_records lists

  -- the first of the trees that are due, where its node is parted
  pub split_due : (slice : List KeyedEntry) (partings : BTreeMap ℕ Parting) (name : ℕ) (p : Parting)
      (old popped next : List ℕ) → IsHistory m es → slice ≡ es
      → HasFirstPartings slice partings → Some p ≡ get nat_cmp partings name
      → old ≡ popped ++ name ∷ [] → next ≡ (popped ++ (p.first + 1) ∷ []) ++ p.first ∷ []
      → stacked records es old ≡ split_node p ∷ stacked records es next
  split_due slice partings name p old popped next history read has found pop pushed =
      let here : first_parting es name ≡ Some p =
      ap (λ (entries : List KeyedEntry). first_parting entries name) (sym read)
      ∙ sym (has.each name) ∙ sym found in
      ap (stacked records es) pop
      ∙ split_stacked records es popped name p
      (split_tree m (fresh_view m splits_alone) records es name p
      (boxes_are_parts.known_at_first m splits_alone) (follows_first m es history) here)
      ∙ ap (λ (stack : List ℕ). split_node p ∷ stacked records es stack) (sym pushed)

  -- and where it isn't
  pub leaf_due : (slice : List KeyedEntry) (partings : BTreeMap ℕ Parting) (name : ℕ) (leaf : Leaf)
      (old popped : List ℕ) → slice ≡ es → HasFirstPartings slice partings
      → None ≡ get nat_cmp partings name → old ≡ popped ++ name ∷ []
      → leaf ≡ leaf_named records name
      → stacked records es old ≡ Ends leaf ∷ stacked records es popped
  leaf_due slice partings name leaf old popped read has found pop is =
      let here : first_parting es name ≡ None =
      ap (λ (entries : List KeyedEntry). first_parting entries name) (sym read)
      ∙ sym (has.each name) ∙ sym found in
      ap (stacked records es) pop
      ∙ leaf_stacked records es popped name (Ends (leaf_named records name))
      (leaf_tree records es name here)
      ∙ ap (λ (l : Leaf). Ends l ∷ stacked records es popped) (sym is)

  -- the numbers of a parting have successors
  pub successors : (slice : List KeyedEntry) (partings : BTreeMap ℕ Parting) (name : ℕ)
      (p : Parting) → IsHistory m es → slice ≡ es → HasFirstPartings slice partings
      → Some p ≡ get nat_cmp partings name → HasSuccessors p.at p.first
  successors slice partings name p history read has found =
      let here : first_parting es name ≡ Some p =
      ap (λ (entries : List KeyedEntry). first_parting entries name) (sym read)
      ∙ sym (has.each name) ∙ sym found in
      (first_new m (fresh_view m splits_alone) es name p (follows_first m es history) here).successors
