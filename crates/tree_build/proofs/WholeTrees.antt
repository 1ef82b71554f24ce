-- The nodes that a history makes are one tree.
use Rattle.std.proofs.Common.{◌≡◌, ◌∙◌, ℕ, suc, ◌+◌, List, [], ◌∷◌, ◌++◌, Option, Some, None, refl, sym, ap, append_assoc}
use Rattle.std.proofs.lemmas.List.{append-nil}
use Rattle.ip_core.specs.declared.leaf.Record.{Record}
use Rattle.work_stamp.specs.declared.stamped.KeyedEntry.{KeyedEntry}
use Rattle.tree_cert.specs.Trees.{due_after}
use Rattle.tree_cert.specs.declared.node.CertNode.{CertNode}
use Rattle.tree_build.specs.Laws.{TreesAreWhole}
use Rattle.tree_build.specs.Partings.{of_node, parting_of}
use Rattle.tree_build.specs.ProofTrees.{all_records, parted, proof_tree, tree_of}
use Rattle.tree_build.specs.declared.parting.Parting.{Parting}

-- before other nodes a tree takes one from those that are due
abbrev IsOneTree : List CertNode → Type 0
IsOneTree nodes =
    (due : ℕ) (rest : List CertNode) → due_after (suc due) (nodes ++ rest) ≡ due_after due rest

parted_cases : (records : List Record) (es : List KeyedEntry) (name : ℕ) (o : Option Parting)
    → ((child : ℕ) → IsOneTree (tree_of records es child))
    → IsOneTree (parted o name (tree_of records es))
parted_cases records es name None children due rest = children name due rest
parted_cases records es name (Some p) children due rest =
    let low = tree_of records es p.first in
    let high = tree_of records es (p.first + 1) in
    ap (due_after (suc (suc due))) (append_assoc low high rest)
    ∙ children p.first (suc due) (high ++ rest) ∙ children (p.first + 1) due rest

one_tree : (records : List Record) (es : List KeyedEntry) (name : ℕ)
    → IsOneTree (tree_of records es name)
one_tree records [] name due rest = refl
one_tree records (e ∷ es) name due rest =
    parted_cases records es name (of_node name (parting_of e.entry)) (one_tree records es) due rest

pub trees_are_whole : TreesAreWhole
trees_are_whole lists entries = record {
  whole =
      ap (due_after 1) (sym (append-nil (proof_tree lists entries)))
      ∙ one_tree (all_records lists) entries 0 0 [];
}
