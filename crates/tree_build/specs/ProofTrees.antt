-- The tree that a history and its records make.
use Rattle.std.specs.Prelude.{ℕ, ◌+◌, nat_eq, if◌then◌else◌, List, [], ◌∷◌, ◌++◌, pos, ◌+ℤ◌, Option, Some, None}
use Rattle.ip_core.specs.declared.leaf.Leaf.{Leaf}
use Rattle.ip_core.specs.declared.leaf.Record.{Record}
use Rattle.ip_core.specs.declared.leaf.Closing.TheVariants.{Bound}
use Rattle.work_stamp.specs.declared.stamped.KeyedEntry.{KeyedEntry}
use Rattle.tree_cert.specs.declared.node.CertNode.{CertNode}
use Rattle.tree_cert.specs.declared.node.CertNode.TheVariants.{Split, Leaf as Ends}
use Rattle.tree_build.specs.Partings.{of_node, parting_of}
use Rattle.tree_build.specs.declared.parting.Parting.{Parting}

-- the records of all slots, in the order of the slots
abbrev pub all_records : List (List Record) → List Record
all_records [] = []
all_records (records ∷ lists) = records ++ all_records lists

-- the first record of this name
abbrev pub first_record : List Record → ℕ → Option Record
first_record [] name = None
first_record (r ∷ rs) name = if nat_eq r.node name then Some r else first_record rs name

-- a leaf that says nothing: no steps, and no multiplier above 0
abbrev pub empty_leaf : Leaf
empty_leaf = record { steps = []; closing = Bound [] }

-- the leaf of a record, and where there is none, one that says nothing
abbrev pub leaf_or_empty : Option Record → Leaf
leaf_or_empty None = empty_leaf
leaf_or_empty (Some r) = r.leaf

-- the leaf of the first record of this name
abbrev pub leaf_named : List Record → ℕ → Leaf
leaf_named records name = leaf_or_empty (first_record records name)

-- the node of a certificate for a node that is parted: at most `at`, or at least `at + 1`
abbrev pub split_node : Parting → CertNode
split_node p = Split p.col p.at (p.at +ℤ pos 1)

-- the tree of a node that is parted, before the trees of its children, the low one first; and where
-- it isn't, the tree that it has by itself
abbrev pub parted : Option Parting → ℕ → (ℕ → List CertNode) → List CertNode
parted None name tree = tree name
parted (Some p) name tree = split_node p ∷ (tree p.first ++ tree (p.first + 1))

-- The tree of the node of a name, in preorder. A split of it gives an inner node, and its children
-- are parted by later entries alone. A node without a split is a leaf, and has that of its record.
abbrev pub tree_of : List Record → List KeyedEntry → ℕ → List CertNode
tree_of records [] name = Ends (leaf_named records name) ∷ []
tree_of records (e ∷ es) name =
    parted (of_node name (parting_of e.entry)) name (tree_of records es)

-- the tree of the root
abbrev pub proof_tree : List (List Record) → List KeyedEntry → List CertNode
proof_tree lists entries = tree_of (all_records lists) entries 0
