-- The nodes of a certificate, judged one after the other.
use Rattle.std.proofs.Common.{◌≡◌, ◌∙◌, ℕ, suc, ◌+◌, ◌<◌, List, [], ◌∷◌, length, get_or, drop, nat_lt, ℤ, pos, ◌+ℤ◌, Option, Some, None, refl, sym, ap, arith}
use Rattle.std.specs.Ordering.{int_eq}
use Rattle.std.proofs.lemmas.Bool.{ltb-true}
use Rattle.std.proofs.lemmas.List.{drop_more}
use Rattle.std.proofs.lemmas.List.Elements.{All-cons}
use Rattle.ip_core.specs.Sides.{Sides, with_high, with_low}
use Rattle.ip_core.specs.Boxes.{IsWithin}
use Rattle.ip_core.specs.Models.{IsModel}
use Rattle.ip_core.specs.declared.model.ModelParts.{ModelParts}
use Rattle.ip_core.specs.declared.row.Row.{Row}
use Rattle.ip_core.proofs.NarrowerBoxes.{within_itself}
use Rattle.search_truth.proofs.Within.{within_with_high, within_with_low, within_columns}
use Rattle.tree_cert.specs.declared.node.CertNode.{CertNode}
use Rattle.tree_cert.specs.declared.node.CertNode.TheVariants.{Split, Leaf as Ends}
use Rattle.cert_check.specs.Nodes.{Fault, reason_unless, or_else, on_line, nodes_fault}
use Rattle.cert_check.specs.Verdicts.{verdict_of}
use Rattle.cert_check.specs.Walks.{Due, AreWithin, HasColumn, boxes_after, node_reason}
use Rattle.cert_check.specs.declared.verdict.Why.{Why}
use Rattle.cert_check.specs.declared.verdict.Why.TheVariants.{SplitColumn, SplitGap}
use Rattle.cert_check.specs.declared.verdict.Verdict.TheVariants.{Accepted, Rejected}
use Rattle.cert_check.proofs.Faultless.{both_none, unless-true}

first_node : (m : ModelParts) (cuts : List Row) (v : ℤ) (line : ℕ) (due : Due) (node : CertNode) (nodes : List CertNode) → nodes_fault m cuts v line (due.here ∷ due.later) (node ∷ nodes) ≡ or_else (on_line line (node_reason m cuts v due.here node)) (nodes_fault m cuts v (suc line) (boxes_after due node) nodes)
first_node m cuts v line due (Split col at next) nodes = refl
first_node m cuts v line due (Ends leaf) nodes = refl

none_due : (m : ModelParts) (cuts : List Row) (v : ℤ) (line : ℕ) (nodes : List CertNode) → nodes_fault m cuts v line [] nodes ≡ None
none_due m cuts v line [] = refl
none_due m cuts v line (node ∷ nodes) = refl

module _ (m : ModelParts) (cuts : List Row) (v : ℤ) (line : ℕ) (due : Due) (nodes : List CertNode) (i : ℕ) (node : CertNode) (known : i < length nodes) (is : node ≡ get_or nodes i node) where
  -- the fault of the nodes from one on
  pub from_node : nodes_fault m cuts v line (due.here ∷ due.later) (drop i nodes) ≡ or_else (on_line line (node_reason m cuts v due.here node)) (nodes_fault m cuts v (suc line) (boxes_after due node) (drop (i + 1) nodes))
  from_node =
      ap (nodes_fault m cuts v line (due.here ∷ due.later)) (drop_more nodes i node known)
      ∙ ap (λ (n : CertNode). nodes_fault m cuts v line (due.here ∷ due.later) (n ∷ drop (i + 1) nodes)) (sym is)
      ∙ first_node m cuts v line due node (drop (i + 1) nodes)

  -- a node with a reason has the first fault
  pub rejected : (whole : Option Fault) (why : Why) → nodes_fault m cuts v line (due.here ∷ due.later) (drop i nodes) ≡ whole → node_reason m cuts v due.here node ≡ Some why → Rejected line why ≡ verdict_of whole
  rejected whole why fault reason =
      ap verdict_of (sym (ap (λ (o : Option Why). or_else (on_line line o) (nodes_fault m cuts v (suc line) (boxes_after due node) (drop (i + 1) nodes))) reason) ∙ sym from_node ∙ fault)

  -- without a reason the later nodes decide
  pub passed : (whole : Option Fault) → nodes_fault m cuts v line (due.here ∷ due.later) (drop i nodes) ≡ whole → node_reason m cuts v due.here node ≡ None → nodes_fault m cuts v (suc line) (boxes_after due node) (drop (i + 1) nodes) ≡ whole
  passed whole fault reason =
      sym (ap (λ (o : Option Why). or_else (on_line line o) (nodes_fault m cuts v (suc line) (boxes_after due node) (drop (i + 1) nodes))) reason) ∙ sym from_node ∙ fault

  -- so on the next line, where the boxes that are due are known
  pub goes_on : (whole : Option Fault) (next : Due) → nodes_fault m cuts v line (due.here ∷ due.later) (drop i nodes) ≡ whole → node_reason m cuts v due.here node ≡ None → next.here ∷ next.later ≡ boxes_after due node → nodes_fault m cuts v (line + 1) (next.here ∷ next.later) (drop (i + 1) nodes) ≡ whole
  goes_on whole next fault reason boxes =
      let one : line + 1 ≡ suc line = omega arith in
      ap (λ (k : ℕ). nodes_fault m cuts v k (next.here ∷ next.later) (drop (i + 1) nodes)) one
      ∙ ap (λ (b : List Sides). nodes_fault m cuts v (suc line) b (drop (i + 1) nodes)) boxes ∙ passed whole fault reason

  -- where no tree is due any more, nothing is rejected
  pub accepted : (whole : Option Fault) → nodes_fault m cuts v line (due.here ∷ due.later) (drop i nodes) ≡ whole → node_reason m cuts v due.here node ≡ None → [] ≡ boxes_after due node → Accepted ≡ verdict_of whole
  accepted whole fault reason none =
      ap verdict_of (sym (none_due m cuts v (suc line) (drop (i + 1) nodes)) ∙ ap (λ (boxes : List Sides). nodes_fault m cuts v (suc line) boxes (drop (i + 1) nodes)) none ∙ passed whole fault reason)

-- the first of boxes within the root box, and the others
pub first_within : (root : Sides) (s : Sides) (boxes : List Sides) → AreWithin root (s ∷ boxes) → IsWithin root s
first_within root s boxes within = within.each 0 s (omega arith)

others_within : (root : Sides) (s : Sides) (boxes : List Sides) → AreWithin root (s ∷ boxes) → AreWithin root boxes
others_within root s boxes within = record { each = λ k d h. within.each (suc k) d (omega (arith, h)) }

one_more_within : (root : Sides) (s : Sides) (boxes : List Sides) → IsWithin root s → AreWithin root boxes → AreWithin root (s ∷ boxes)
one_more_within root s boxes here others = record { each = All-cons (IsWithin root) s boxes here others.each }

-- the root box is within itself
pub root_within : (root : Sides) → AreWithin root (root ∷ [])
root_within root = one_more_within root root [] (within_itself root) (record { each = λ k d h. absurd (omega (arith, h)) })

-- the boxes after a node are within the root box
pub after_within : (root : Sides) (due : Due) (node : CertNode) → AreWithin root (due.here ∷ due.later) → AreWithin root (boxes_after due node)
after_within root due (Split col at next) within =
    let here = first_within root due.here due.later within in
    let later = others_within root due.here due.later within in
    one_more_within root (with_high due.here col at) (with_low due.here col next ∷ due.later) (within_with_high root due.here col at here)
    (one_more_within root (with_low due.here col next) due.later (within_with_low root due.here col next here) later)
after_within root due (Ends leaf) within = others_within root due.here due.later within

-- the column of a split without a reason is one of the box
pub column_known : (m : ModelParts) (cuts : List Row) (v : ℤ) (s : Sides) (node : CertNode) → IsModel m → IsWithin m.root s → node_reason m cuts v s node ≡ None → HasColumn s node
column_known m cuts v s (Split col at next) valid within none =
    let both = both_none (reason_unless SplitColumn (nat_lt col (length m.cols))) (reason_unless SplitGap (int_eq next (at +ℤ pos 1))) none in
    let known : col < length m.cols = ltb-true col (length m.cols) (unless-true SplitColumn (nat_lt col (length m.cols)) both.0) in
    omega (arith, known, within_columns m s valid within)
column_known m cuts v s (Ends leaf) valid within none = tt
