-- The numbers of the nodes of a history's tree are in the ranges of their text.
use Rattle.std.proofs.Common.{◌≡◌, ◌∙◌, ℕ, ◌+◌, ◌≤◌, ◌<◌, ◌^◌, Bool, true, false, cond, nat_eq, List, [], ◌∷◌, ◌++◌, length, ℤ, pos, neg_ℤ, ◌+ℤ◌, ◌≤ℤ◌, unsigned_abs, Option, Some, None, refl, subst, arith}
use Rattle.std.specs.List.{AllByRecursion}
use Rattle.std.proofs.lemmas.Int.{ints}
use Rattle.std.proofs.lemmas.Option.{none-some, same_Some}
use Rattle.ip_core.specs.Models.{IsModel}
use Rattle.ip_core.specs.declared.leaf.Record.{Record}
use Rattle.ip_core.specs.declared.model.ModelParts.{ModelParts}
use Rattle.work_stamp.specs.declared.entry.Entry.{Entry}
use Rattle.work_stamp.specs.declared.entry.Entry.TheVariants.{Start, CutStart, HeurStart, Done, Found, Cut, Split, Closed, Halt}
use Rattle.work_stamp.specs.declared.stamped.KeyedEntry.{KeyedEntry}
use Rattle.node_pool.specs.Follows.{IsSplitPoint, MayFollow}
use Rattle.node_pool.specs.Views.{View, after_entry}
use Rattle.tree_cert.specs.declared.node.CertNode.{CertNode}
use Rattle.cert_line.specs.Lines.{IsLeaf, IsNode}
use Rattle.tree_build.specs.Partings.{of_node, parting_of}
use Rattle.tree_build.specs.ProofTrees.{leaf_named, parted, split_node, tree_of}
use Rattle.tree_build.specs.declared.parting.Parting.{Parting}
use Rattle.tree_build.proofs.AllItems.{all_append}
use Rattle.tree_build.proofs.Partings.{Follows}

-- ---- splits

middle_small : (z : ℤ) → neg_ℤ (pos (2 ^ 31)) ≤ℤ z → z ≤ℤ pos (2 ^ 31)
    → (unsigned_abs z ≤ 2 ^ 62) × (unsigned_abs (z +ℤ pos 1) ≤ 2 ^ 62)
middle_small z above below = (omega (arith, ints, above, below), omega (arith, ints, above, below))

split_range : (m : ModelParts) (p : Parting) (keep : ℕ) → IsModel m
    → IsSplitPoint m p.col p.at keep → IsNode (split_node p)
split_range m p keep valid cut =
    let small = middle_small p.at cut.above cut.below in (
      record { small = omega (arith, cut.known, valid.bounds.columns) },
      record { small = omega (arith, small.0) },
      record { small = omega (arith, small.1) },
    )

node_cases : (q p : Parting) (t : Bool) → IsNode (split_node q) → cond t (Some q) None ≡ Some p
    → IsNode (split_node p)
node_cases q p true range is = subst (λ (x : Parting). IsNode (split_node x)) (same_Some q p is) range
node_cases q p false range is = absurd (none-some p is)

-- an entry that parts a node
parting_range : (m : ModelParts) (v : View) (e : Entry) (name : ℕ) (p : Parting) → IsModel m
    → MayFollow m v e → of_node name (parting_of e) ≡ Some p → IsNode (split_node p)
parting_range m v (Start node) name p valid may is = absurd (none-some p is)
parting_range m v CutStart name p valid may is = absurd (none-some p is)
parting_range m v (HeurStart node) name p valid may is = absurd (none-some p is)
parting_range m v Done name p valid may is = absurd (none-some p is)
parting_range m v (Found value point) name p valid may is = absurd (none-some p is)
parting_range m v (Cut derivation) name p valid may is = absurd (none-some p is)
parting_range m v (Split node col at first keep bound) name p valid may is =
    let q : Parting = record { node = node; col = col; at = at; first = first } in
    node_cases q p (nat_eq node name) (split_range m q keep valid may.joins.cut) is
parting_range m v (Closed node) name p valid may is = absurd (none-some p is)
parting_range m v Halt name p valid may is = absurd (none-some p is)

-- ---- trees

module _ (m : ModelParts) (valid : IsModel m) (records : List Record)
    (leaves : (name : ℕ) → IsLeaf (leaf_named records name)) where
  parted_range : (v : View) (e : Entry) (es : List KeyedEntry) (name : ℕ) (o : Option Parting)
      → of_node name (parting_of e) ≡ o → MayFollow m v e
      → ((child : ℕ) → AllByRecursion IsNode (tree_of records es child))
      → AllByRecursion IsNode (parted o name (tree_of records es))
  parted_range v e es name None is may children = children name
  parted_range v e es name (Some p) is may children = (
    parting_range m v e name p valid may is,
    all_append IsNode (tree_of records es p.first) (tree_of records es (p.first + 1))
        (children p.first) (children (p.first + 1)),
  )

  -- the nodes of the tree of a name
  pub tree_range : (v : View) (es : List KeyedEntry) (name : ℕ) → Follows m v es
      → AllByRecursion IsNode (tree_of records es name)
  tree_range v [] name follow = (leaves name, tt)
  tree_range v (e ∷ es) name follow =
      parted_range v e.entry es name (of_node name (parting_of e.entry)) refl follow.0
      (λ child. tree_range (after_entry m v e.entry) es child follow.1)
