-- The order of the lines of a certificate.
use Rattle.std.specs.Prelude.{ℕ, zero, suc, ◌+◌, ◌≤◌, ◌^◌, ⊤, Bool, true, false, Option, Some, None}
use Rattle.cert_line.specs.declared.line.Line.{Line}
use Rattle.cert_line.specs.declared.line.Line.TheVariants as lines
use Rattle.cert_text.specs.declared.place.Place.{Place}
use Rattle.cert_text.specs.declared.place.Place.TheVariants.{Header, Size, Value, Point, Cuts, Cut, Node, End, Nothing}
use Rattle.tree_cert.specs.declared.node.CertNode.{CertNode}
use Rattle.tree_cert.specs.declared.node.CertNode.TheVariants.{Split, Leaf as Ends}

-- the trees that are due after a node, where so many were due behind it
abbrev pub trees_due : CertNode → ℕ → ℕ
trees_due (Split col at next) due = suc (suc due)
trees_due (Ends leaf) due = due

-- the place of a node where so many are left and so many trees are due in them: both end together
abbrev pub node_place : ℕ → ℕ → Option Place
node_place zero zero = Some End
node_place zero (suc due) = None
node_place (suc left) zero = None
node_place (suc left) (suc due) = Some (Node (suc left) (suc due))

-- the place after a line, or None where the line can't stand at its place
abbrev pub next_place : Place → Line → Option Place
next_place Header lines.Header = Some Size
next_place Size (lines.Size cols rows) = Some Value
next_place Value (lines.Value value) = Some Point
next_place Point (lines.Point point) = Some Cuts
next_place Cuts (lines.Cuts number) = Some (Cut number)
next_place (Cut (suc left)) (lines.Cut cut) = Some (Cut left)
next_place (Cut zero) (lines.Tree number) = node_place number 1
next_place (Node (suc left) (suc due)) (lines.Node node) = node_place left (trees_due node due)
next_place End lines.End = Some Nothing
next_place place line = None

-- whether no line may come
abbrev pub is_over : Place → Bool
is_over Nothing = true
is_over place = false

-- nodes and trees that are due aren't too many for their types
abbrev pub IsPlace : Place → Type 0
IsPlace (Node left due) = left + due ≤ 2 ^ 32
IsPlace place = ⊤
