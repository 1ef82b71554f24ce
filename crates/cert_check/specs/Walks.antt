-- The boxes that are due on a way through the tree of a certificate, and how a walk keeps them.
use Rattle.std.specs.Prelude.{ℕ, ◌<◌, Bool, List, [], ◌∷◌, length, if◌then◌else◌, reverse, slice_set, ℤ, All, Option}
use Rattle.ip_core.specs.Sides.{Sides, IsPaired, with_high, with_low}
use Rattle.ip_core.specs.Boxes.{IsWithin}
use Rattle.ip_core.specs.declared.model.ModelParts.{ModelParts}
use Rattle.ip_core.specs.declared.row.Row.{Row}
use Rattle.leaf_truth.specs.Leaves.{leaf_reason}
use Rattle.tree_cert.specs.declared.node.CertNode.{CertNode}
use Rattle.tree_cert.specs.declared.node.CertNode.TheVariants.{Split, Leaf as Ends}
use Rattle.cert_check.specs.Nodes.{split_reason, why_of}
use Rattle.cert_check.specs.declared.branch.Branch.{Branch}
use Rattle.cert_check.specs.declared.branch.Branch.TheVariants.{Low, High}
use Rattle.cert_check.specs.declared.verdict.Why.{Why}

-- the boxes of the trees that are due: that of the next node, and those of the trees after its own;
-- and how many splits lead to the next node
pub record Due : Type 0 where
  pub here : Sides
  pub later : List Sides
  pub depth : ℕ

-- each box lies in the root box
pub record AreWithin (root : Sides) (boxes : List Sides) : Type 0 where
  pub each : All (IsWithin root) boxes

-- the column of a branch
abbrev pub column_of : Branch → ℕ
column_of (Low col high next) = col
column_of (High col low) = col

-- the box of a split, from that of its child on the path
abbrev pub outer_box : Sides → Branch → Sides
outer_box s (Low col high next) = record s { highs = slice_set s.highs col high }
outer_box s (High col low) = record s { lows = slice_set s.lows col low }

-- the boxes of the high children to come, from a box and the branches that lead to it, the last
-- branch first
abbrev pub later_boxes : Sides → List Branch → List Sides
later_boxes s [] = []
later_boxes s (Low col high next ∷ path) =
    with_low (outer_box s (Low col high next)) col next
    ∷ later_boxes (outer_box s (Low col high next)) path
later_boxes s (High col low ∷ path) = later_boxes (outer_box s (High col low)) path

-- the boxes that are due at a box to which branches lead
abbrev pub due_at : Sides → List Branch → Due
due_at s path =
    record { here = s; later = later_boxes s (reverse path); depth = length path }

-- branches at columns of a box
pub record IsPath (s : Sides) (path : List Branch) : Type 0 where
  pub paired : IsPaired s
  pub known : All (λ b. column_of b < length s.lows) path

-- all boxes that are due, and none where none is left
abbrev pub boxes_if : Bool → Due → List Sides
boxes_if left due = if left then due.here ∷ due.later else []

-- the boxes that are due after a node
abbrev pub boxes_after : Due → CertNode → List Sides
boxes_after due (Split col at next) =
    with_high due.here col at ∷ with_low due.here col next ∷ due.later
boxes_after due (Ends leaf) = due.later

-- why a node is rejected over the rows of the cuts, where it has this box
abbrev pub node_reason : ModelParts → List Row → ℤ → Sides → CertNode → Option Why
node_reason m cuts v s (Split col at next) = split_reason m col at next
node_reason m cuts v s (Ends leaf) = why_of (leaf_reason m cuts v s leaf)

-- the column of a node, if it is a split, is one of the box
abbrev pub HasColumn : Sides → CertNode → Type 0
HasColumn s (Split col at next) = col < length s.lows
HasColumn s (Ends leaf) = Unit
