-- What is wrong with the nodes of a certificate, on whose lines they stand one after the other.
use Rattle.std.specs.Prelude.{ℕ, suc, List, [], ◌∷◌, length, nat_lt, if◌then◌else◌, Bool, ℤ, pos, ◌+ℤ◌, Option, Some, None}
use Rattle.std.specs.Ordering.{int_eq}
use Rattle.ip_core.specs.Sides.{Sides, with_high, with_low}
use Rattle.ip_core.specs.declared.model.ModelParts.{ModelParts}
use Rattle.ip_core.specs.declared.row.Row.{Row}
use Rattle.leaf_truth.specs.Leaves.{leaf_reason}
use Rattle.leaf_truth.specs.declared.reason.LeafReason.{LeafReason}
use Rattle.leaf_truth.specs.declared.reason.LeafReason.TheVariants.{BadStep, BadConflict, BadBound}
use Rattle.tree_cert.specs.declared.node.CertNode.{CertNode}
use Rattle.tree_cert.specs.declared.node.CertNode.TheVariants.{Split, Leaf as Ends}
use Rattle.cert_check.specs.declared.verdict.Why.{Why}
use Rattle.cert_check.specs.declared.verdict.Why.TheVariants.{SplitColumn, SplitGap, Step, Conflict, Bound}

-- a line of a certificate, and why it is rejected
pub record Fault : Type 0 where
  pub line : ℕ
  pub why : Why

-- the reason, unless a test passes
abbrev pub reason_unless : Why → Bool → Option Why
reason_unless why passes = if passes then None else Some why

-- the first of two, where there is one, and else the second
abbrev pub or_else : {A : Type 0} → Option A → Option A → Option A
or_else None second = second
or_else (Some a) second = Some a

-- the fault of a line that has a reason
abbrev pub on_line : ℕ → Option Why → Option Fault
on_line line None = None
on_line line (Some why) = Some (record { line = line; why = why })

-- why a box can't be parted so: the column doesn't exist, or the high child doesn't begin one above
-- the low one's end
abbrev pub split_reason : ModelParts → ℕ → ℤ → ℤ → Option Why
split_reason m col at next = or_else (reason_unless SplitColumn (nat_lt col (length m.cols)))
    (reason_unless SplitGap (int_eq next (at +ℤ pos 1)))

-- the checker's reason for what a leaf lacks
abbrev pub why_of : Option LeafReason → Option Why
why_of None = None
why_of (Some BadStep) = Some Step
why_of (Some BadConflict) = Some Conflict
why_of (Some BadBound) = Some Bound

-- The first fault of nodes over rows of cuts, where the first node stands on this line. The boxes
-- are those of the trees that are due, in order. A split's box gives way to those of its children,
-- with the column at most `at` and at least `next`, and a leaf's box is done with.
abbrev pub nodes_fault :
    ModelParts → List Row → ℤ → ℕ → List Sides → List CertNode → Option Fault
nodes_fault m cuts v line boxes [] = None
nodes_fault m cuts v line [] (node ∷ nodes) = None
nodes_fault m cuts v line (s ∷ boxes) (Split col at next ∷ nodes) =
    or_else (on_line line (split_reason m col at next))
    (nodes_fault m cuts v (suc line) (with_high s col at ∷ with_low s col next ∷ boxes) nodes)
nodes_fault m cuts v line (s ∷ boxes) (Ends leaf ∷ nodes) =
    or_else (on_line line (why_of (leaf_reason m cuts v s leaf)))
    (nodes_fault m cuts v (suc line) boxes nodes)
