-- The text of a certificate, line by line.
use Rattle.std.specs.Prelude.{ℕ, List, [], ◌∷◌, ◌++◌, map, length, ℤ, Option}
use Rattle.std.specs.List.{AllByRecursion}
use Rattle.cert_line.specs.Lines.{line_text, IsLine}
use Rattle.cert_line.specs.declared.line.Line.{Line}
use Rattle.cert_line.specs.declared.line.Line.TheVariants.{Header, Size, Value, Point, Cuts, Cut, Tree, Node, End}
use Rattle.ip_core.specs.declared.derivation.Derivation.{Derivation}
use Rattle.tree_cert.specs.declared.node.CertNode.{CertNode}
use Rattle.tree_cert.specs.declared.certificate.Certificate.{Certificate}
use Rattle.tree_cert.specs.Trees.{IsTree}

-- the sizes and the value, and the point or that there is none
abbrev pub size_lines : ℕ → ℕ → List Line
size_lines cols rows = Header ∷ Size cols rows ∷ []

abbrev pub point_lines : ℤ → Option (List ℤ) → List Line
point_lines value point = Value value ∷ Point point ∷ []

-- the number of cuts, and each cut
abbrev pub cut_lines : List Derivation → List Line
cut_lines cuts = Cuts (length cuts) ∷ map Cut cuts

-- the number of nodes, and each node
abbrev pub tree_lines : List CertNode → List Line
tree_lines nodes = Tree (length nodes) ∷ map Node nodes

-- the lines of a certificate
abbrev pub lines_of : Certificate → List Line
lines_of c = size_lines c.cols c.rows ++ (point_lines c.value c.point
    ++ (cut_lines c.cuts ++ (tree_lines c.nodes ++ (End ∷ []))))

-- lines as text, each with a line feed at its end
abbrev pub text_of : List Line → List ℕ
text_of [] = []
text_of (line ∷ lines) = line_text line ++ (10 ∷ text_of lines)

-- the text of a certificate
unfoldable pub certificate_text : Certificate → List ℕ
certificate_text c = text_of (lines_of c)

-- what has a text that is read: its numbers are in range, those of its cuts and nodes too, and its
-- nodes are one tree in preorder
pub record IsCertificate (c : Certificate) : Type 0 where
  pub lines : AllByRecursion IsLine (lines_of c)
  pub tree : IsTree c.nodes
