-- The leaves of a finished search's tree hold on the boxes that the splits before them leave.
use Rattle.std.proofs.Common.{◌≡◌, ◌∙◌, ℕ, suc, ◌+◌, ◌<◌, ◌≤◌, ◌⊎◌, inl, inr, Bool, true, false, cond, nat_eq, nat_lt, List, [], ◌∷◌, ◌++◌, length, ℤ, pos, ◌+ℤ◌, Option, Some, None, refl, sym, ap, subst, append_assoc, arith}
use Rattle.std.specs.Ordering.{int_eq}
use Rattle.std.proofs.lemmas.Bool.Decides.{nat_tests}
use Rattle.std.proofs.lemmas.Int.{ints}
use Rattle.std.proofs.lemmas.Option.{none-some, same_Some}
use Rattle.ip_core.specs.Sides.{Sides, with_high, with_low}
use Rattle.ip_core.specs.declared.leaf.Leaf.{Leaf}
use Rattle.ip_core.specs.declared.leaf.Record.{Record}
use Rattle.ip_core.specs.declared.model.ModelParts.{ModelParts}
use Rattle.leaf_truth.specs.Leaves.{IsValidLeaf, leaf_reason}
use Rattle.leaf_truth.specs.declared.reason.LeafReason.{LeafReason}
use Rattle.work_stamp.specs.Histories.{keyed_entry}
use Rattle.work_stamp.specs.declared.entry.Entry.{Entry}
use Rattle.work_stamp.specs.declared.entry.Entry.TheVariants.{Start, CutStart, HeurStart, Done, Found, Cut, Split, Closed, Halt}
use Rattle.work_stamp.specs.declared.key.Key.{Key}
use Rattle.work_stamp.specs.declared.stamped.KeyedEntry.{KeyedEntry}
use Rattle.stamp_machine.specs.Slots.{at}
use Rattle.node_pool.specs.Branchings.{box_of}
use Rattle.node_pool.specs.Follows.{MayFollow}
use Rattle.node_pool.specs.Laws.{AreKnown}
use Rattle.node_pool.specs.Lemmas.Boxes.{boxes_are_parts, or_first}
use Rattle.node_pool.specs.Views.{View, after_entry, is_known, view_after}
use Rattle.task_steps.specs.Claims.{count_left, one_if}
use Rattle.task_steps.specs.Lemmas.Entries.{IsNext, gone, made, makes, next_of}
use Rattle.task_steps.specs.Lemmas.Fitting.{held_known, left_known}
use Rattle.task_steps.specs.Lemmas.NameCounts.{eq_from_test, one_false, one_true, test_itself}
use Rattle.task_steps.specs.Lemmas.Sounds.{new_differs}
use Rattle.tree_cert.specs.declared.node.CertNode.{CertNode}
use Rattle.cert_check.specs.Nodes.{nodes_fault, on_line, or_else, reason_unless, split_reason, why_of}
use Rattle.cert_check.specs.declared.verdict.Why.{Why}
use Rattle.cert_check.specs.declared.verdict.Why.TheVariants.{SplitColumn, SplitGap}
use Rattle.tree_build.specs.Partings.{of_node, parting_of}
use Rattle.tree_build.specs.ProofTrees.{leaf_named, parted, split_node, tree_of}
use Rattle.tree_build.specs.declared.parting.Parting.{Parting}
use Rattle.tree_build.proofs.Partings.{Follows}

-- ---- what a parting leaves

-- The parting of a node is at a column of the model. After it both children are left, and their
-- boxes are the two parts of the node's box.
record HasChildren (m : ModelParts) (v w : View) (p : Parting) (name : ℕ) : Type 0 where
  column : p.col < length m.cols
  low : box_of m.root w.branches p.first ≡ with_high (box_of m.root v.branches name) p.col p.at
  high : box_of m.root w.branches (p.first + 1)
      ≡ with_low (box_of m.root v.branches name) p.col (p.at +ℤ pos 1)
  low_left : 1 ≤ count_left w p.first
  high_left : 1 ≤ count_left w (p.first + 1)

child_left : (m : ModelParts) (v w : View) (e : Entry) (name : ℕ) → IsNext m v w e
    → gone e name ≡ 0 → 1 ≤ made e name → 1 ≤ count_left w name
child_left m v w e name next none some =
    let left = next.left name in omega (arith, left, none, some)

split_children : (m : ModelParts) (v : View) (node col : ℕ) (mid : ℤ) (first keep : ℕ) (bound : ℤ)
    → AreKnown v → MayFollow m v (Split node col mid first keep bound)
    → HasChildren m v (after_entry m v (Split node col mid first keep bound))
    (record { node = node; col = col; at = mid; first = first }) node
split_children m v node col mid first keep bound known may =
    let e = Split node col mid first keep bound in
    let w = after_entry m v e in
    let next : IsNext m v w e = next_of m v e may in
    let parent = held_known v node known may.joins.held in
    let one = new_differs v first node may.joins.first_new parent in
    let two = new_differs v (first + 1) node may.joins.second_new parent in
    record {
      column = may.joins.cut.known;
      low = boxes_are_parts.low m v m.root node col mid first keep bound;
      high = boxes_are_parts.high m v m.root node col mid first keep bound;
      low_left = child_left m v w e first next (one_false (nat_eq node first) one)
          (omega (arith, one_true (nat_eq first first) (test_itself first)));
      high_left = child_left m v w e (first + 1) next (one_false (nat_eq node (first + 1)) two)
          (omega (arith, one_true (nat_eq (first + 1) (first + 1)) (test_itself (first + 1))));
    }

children_cases : (m : ModelParts) (v w : View) (q p : Parting) (name : ℕ) (t : Bool)
    → nat_eq q.node name ≡ t → HasChildren m v w q q.node → cond t (Some q) None ≡ Some p
    → HasChildren m v w p name
children_cases m v w q p name true is has parts =
    subst (λ (x : Parting). HasChildren m v w x name) (same_Some q p parts)
    (subst (HasChildren m v w q) (eq_from_test q.node name is) has)
children_cases m v w q p name false is has parts = absurd (none-some p parts)

-- an entry that parts the node of a name
children_of : (m : ModelParts) (v : View) (e : Entry) (name : ℕ) (p : Parting) → AreKnown v
    → MayFollow m v e → of_node name (parting_of e) ≡ Some p
    → HasChildren m v (after_entry m v e) p name
children_of m v (Start node) name p known may parts = absurd (none-some p parts)
children_of m v CutStart name p known may parts = absurd (none-some p parts)
children_of m v (HeurStart node) name p known may parts = absurd (none-some p parts)
children_of m v Done name p known may parts = absurd (none-some p parts)
children_of m v (Found value point) name p known may parts = absurd (none-some p parts)
children_of m v (Cut derivation) name p known may parts = absurd (none-some p parts)
children_of m v (Split node col mid first keep bound) name p known may parts =
    children_cases m v (after_entry m v (Split node col mid first keep bound))
    (record { node = node; col = col; at = mid; first = first }) p name (nat_eq node name) refl
    (split_children m v node col mid first keep bound known may) parts
children_of m v (Closed node) name p known may parts = absurd (none-some p parts)
children_of m v Halt name p known may parts = absurd (none-some p parts)

-- ---- what another entry leaves

-- an entry is done with no node of the name, or closes it
abbrev Stays : Entry → ℕ → Type 0
Stays e name = (gone e name ≡ 0) ⊎ (e ≡ Closed name)

closed_cases : (node name : ℕ) (t : Bool) → nat_eq node name ≡ t
    → (one_if t ≡ 0) ⊎ (Closed node ≡ Closed name)
closed_cases node name true is = inr (ap Closed (eq_from_test node name is))
closed_cases node name false is = inl refl

split_cases : (p : Parting) (t : Bool) → cond t (Some p) None ≡ None → one_if t ≡ 0
split_cases p true parts = absurd (none-some p (sym parts))
split_cases p false parts = refl

stays : (e : Entry) (name : ℕ) → of_node name (parting_of e) ≡ None → Stays e name
stays (Start node) name parts = inl refl
stays CutStart name parts = inl refl
stays (HeurStart node) name parts = inl refl
stays Done name parts = inl refl
stays (Found value point) name parts = inl refl
stays (Cut derivation) name parts = inl refl
stays (Split node col mid first keep bound) name parts =
    inl (split_cases (record { node = node; col = col; at = mid; first = first }) (nat_eq node name)
    parts)
stays (Closed node) name parts = closed_cases node name (nat_eq node name) refl
stays Halt name parts = inl refl

known_next : (m : ModelParts) (v : View) (e : Entry) (name : ℕ) → MayFollow m v e
    → is_known v name ≡ true → is_known (after_entry m v e) name ≡ true
known_next m v e name may known =
    (next_of m v e may).names name ∙ or_first (is_known v name) (makes e name) known

-- ---- the checker's tests

column_passes : (col n : ℕ) → col < n → nat_lt col n ≡ true
column_passes col n below = grind (arith, nat_tests)

gap_passes : (z : ℤ) → int_eq z z ≡ true
gap_passes z = grind (arith, ints)

split_passes : (m : ModelParts) (p : Parting) → p.col < length m.cols
    → split_reason m p.col p.at (p.at +ℤ pos 1) ≡ None
split_passes m p column =
    ap (λ (t : Bool). or_else (reason_unless SplitColumn t)
    (reason_unless SplitGap (int_eq (p.at +ℤ pos 1) (p.at +ℤ pos 1))))
    (column_passes p.col (length m.cols) column)
    ∙ ap (reason_unless SplitGap) (gap_passes (p.at +ℤ pos 1))

module _ (m : ModelParts) (records : List Record) (v_end : View) (value : ℤ) where
  -- nodes have no fault, on whatever line they begin
  abbrev Holds : List Sides → List CertNode → Type 0
  Holds boxes nodes = (line : ℕ) → nodes_fault m v_end.cuts value line boxes nodes ≡ None

  -- the leaf of a name holds on its last box
  pub record HasLeaf (name : ℕ) : Type 0 where
    pub valid : IsValidLeaf m v_end.cuts value (box_of m.root v_end.branches name) (leaf_named records name)

  -- the node of a name is left, or closed
  abbrev pub IsDue : View → ℕ → Type 0
  IsDue v name = (1 ≤ count_left v name) ⊎ HasLeaf name

  -- each node that these entries close has a leaf that holds
  abbrev pub Close : List KeyedEntry → Type 0
  Close es = (place name : ℕ) (key : Key) → at es place ≡ Some (keyed_entry key (Closed name))
      → HasLeaf name

  leaf_holds : (s : Sides) (leaf : Leaf) (boxes : List Sides) (rest : List CertNode)
      → IsValidLeaf m v_end.cuts value s leaf → Holds boxes rest
      → (line : ℕ) → or_else (on_line line (why_of (leaf_reason m v_end.cuts value s leaf)))
      (nodes_fault m v_end.cuts value (suc line) boxes rest) ≡ None
  leaf_holds s leaf boxes rest valid after line =
      ap (λ (why : Option LeafReason). or_else (on_line line (why_of why))
      (nodes_fault m v_end.cuts value (suc line) boxes rest)) valid.no_reason
      ∙ after (suc line)

  due_leaf : (v : View) (name : ℕ) → count_left v name ≡ 0 → IsDue v name → HasLeaf name
  due_leaf v name none (inl left) = absurd (omega (arith, none, left))
  due_leaf v name none (inr leaf) = leaf

  -- after an entry that doesn't part the node
  due_cases : (v w : View) (e : KeyedEntry) (name : ℕ) → IsNext m v w e.entry
      → (e.entry ≡ Closed name → HasLeaf name) → Stays e.entry name → IsDue v name → IsDue w name
  due_cases v w e name next closes stay (inr leaf) = inr leaf
  due_cases v w e name next closes (inl none) (inl left) =
      let count = next.left name in inl (omega (arith, count, none, left))
  due_cases v w e name next closes (inr is) (inl left) = inr (closes is)

  first_closes : (e : KeyedEntry) (es : List KeyedEntry) (name : ℕ) → Close (e ∷ es)
      → e.entry ≡ Closed name → HasLeaf name
  first_closes e es name close is =
      close 0 name e.key (ap (λ (entry : Entry). Some (keyed_entry e.key entry)) is)

  split_holds : (s : Sides) (p : Parting) (low high : Sides) (boxes : List Sides)
      (one two rest : List CertNode) → p.col < length m.cols → low ≡ with_high s p.col p.at
      → high ≡ with_low s p.col (p.at +ℤ pos 1)
      → Holds (low ∷ high ∷ boxes) (one ++ (two ++ rest))
      → Holds (s ∷ boxes) ((split_node p ∷ (one ++ two)) ++ rest)
  split_holds s p low high boxes one two rest column is_low is_high holds line =
      ap (λ (why : Option Why). or_else (on_line line why)
      (nodes_fault m v_end.cuts value (suc line)
      (with_high s p.col p.at ∷ with_low s p.col (p.at +ℤ pos 1) ∷ boxes) ((one ++ two) ++ rest)))
      (split_passes m p column)
      ∙ ap (λ (nodes : List CertNode). nodes_fault m v_end.cuts value (suc line)
      (with_high s p.col p.at ∷ with_low s p.col (p.at +ℤ pos 1) ∷ boxes) nodes)
      (append_assoc one two rest)
      ∙ subst (λ (b : Sides). nodes_fault m v_end.cuts value (suc line)
      (with_high s p.col p.at ∷ b ∷ boxes) (one ++ (two ++ rest)) ≡ None) is_high
      (subst (λ (a : Sides). nodes_fault m v_end.cuts value (suc line)
      (a ∷ high ∷ boxes) (one ++ (two ++ rest)) ≡ None) is_low (holds (suc line)))

  -- the trees of all nodes that are due hold after an entry
  abbrev HoldsAfter : View → List KeyedEntry → Type 0
  HoldsAfter v es = (name : ℕ) (boxes : List Sides) (rest : List CertNode)
      → is_known v name ≡ true → IsDue v name → Holds boxes rest
      → Holds (box_of m.root v.branches name ∷ boxes) (tree_of records es name ++ rest)

  step_cases : (v : View) (e : KeyedEntry) (es : List KeyedEntry) (name : ℕ) (boxes : List Sides)
      (rest : List CertNode) (o : Option Parting) → of_node name (parting_of e.entry) ≡ o
      → AreKnown v → MayFollow m v e.entry → Close (e ∷ es)
      → HoldsAfter (after_entry m v e.entry) es → is_known v name ≡ true → IsDue v name
      → Holds boxes rest
      → Holds (box_of m.root v.branches name ∷ boxes) (parted o name (tree_of records es) ++ rest)
  step_cases v e es name boxes rest None parts known may close later is_name due holds =
      let w = after_entry m v e.entry in
      let next : IsNext m v w e.entry = next_of m v e.entry may in
      subst (λ (s : Sides). Holds (s ∷ boxes) (tree_of records es name ++ rest))
      (next.boxes name is_name)
      (later name boxes rest (known_next m v e.entry name may is_name)
      (due_cases v w e name next (first_closes e es name close) (stays e.entry name parts) due)
      holds)
  step_cases v e es name boxes rest (Some p) parts known may close later is_name due holds =
      let w = after_entry m v e.entry in
      let has : HasChildren m v w p name = children_of m v e.entry name p known may parts in
      let after : AreKnown w = boxes_are_parts.known_after m v e.entry known may in
      let low = box_of m.root w.branches p.first in
      let high = box_of m.root w.branches (p.first + 1) in
      split_holds (box_of m.root v.branches name) p low high boxes (tree_of records es p.first)
      (tree_of records es (p.first + 1)) rest has.column has.low has.high
      (later p.first (high ∷ boxes) (tree_of records es (p.first + 1) ++ rest)
      (left_known w p.first after has.low_left) (inl has.low_left)
      (later (p.first + 1) boxes rest (left_known w (p.first + 1) after has.high_left)
      (inl has.high_left) holds))

  -- the tree of a node that is due, where nothing is left at the end
  pub tree_holds : (v : View) (es : List KeyedEntry) → AreKnown v → Follows m v es
      → view_after m v es ≡ v_end → ((name : ℕ) → count_left v_end name ≡ 0) → Close es
      → HoldsAfter v es
  tree_holds v [] known follow same none close name boxes rest is_name due holds =
      let leaf = due_leaf v name (ap (λ (u : View). count_left u name) same ∙ none name) due in
      leaf_holds (box_of m.root v.branches name) (leaf_named records name) boxes rest
      (subst (λ (u : View). IsValidLeaf m v_end.cuts value (box_of m.root u.branches name)
      (leaf_named records name)) (sym same) leaf.valid) holds
  tree_holds v (e ∷ es) known follow same none close name boxes rest is_name due holds =
      step_cases v e es name boxes rest (of_node name (parting_of e.entry)) refl known follow.0
      close
      (tree_holds (after_entry m v e.entry) es
      (boxes_are_parts.known_after m v e.entry known follow.0) follow.1 same none
      (λ place n key there. close (suc place) n key there)) is_name due holds
