-- The words of lines, from which their texts are joined.
use Rattle.std.proofs.Common.{◌≡◌, ℕ, Bool, true, false, List, [], ◌∷◌, ◌++◌, length, map, ℤ, Option, Some, None, codes}
use Rattle.std.specs.Fmt.{decimal as numeral, signed_decimal}
use Rattle.ip_core.specs.declared.derivation.Derivation.{Derivation}
use Rattle.ip_core.specs.declared.derivation.Derivation.TheVariants.{Gomory, Cover}
use Rattle.ip_core.specs.declared.leaf.Pair.{Pair}
use Rattle.ip_core.specs.declared.leaf.Tighten.{Tighten}
use Rattle.ip_core.specs.declared.leaf.Closing.{Closing}
use Rattle.ip_core.specs.declared.leaf.Closing.TheVariants.{Conflict, Empty, Bound}
use Rattle.ip_core.specs.declared.leaf.Leaf.{Leaf}
use Rattle.ip_core.specs.declared.row_ref.RowRef.{RowRef}
use Rattle.ip_core.specs.declared.row_ref.RowRef.TheVariants.{Model as ModelRow, Cut as CutRow}
use Rattle.tree_cert.specs.declared.node.CertNode.{CertNode}
use Rattle.tree_cert.specs.declared.node.CertNode.TheVariants.{Split, Leaf as Ends}
use Rattle.cert_line.specs.declared.closing.ClosingReading.{ClosingReading}
use Rattle.cert_line.specs.declared.closing.ClosingReading.TheVariants.{NoForm as NoClosing, BadNumber as BadClosing, Is as Closes}
use Rattle.cert_line.specs.declared.line.Line.{Line}
use Rattle.cert_line.specs.declared.line.Line.TheVariants.{Header, Size, Value, Point, Cuts, Cut, Tree, Node, End}
use Rattle.cert_line.specs.declared.line.LineReading.{LineReading}
use Rattle.cert_line.specs.declared.line.LineReading.TheVariants.{NoForm, BadNumber, Is}
use Rattle.cert_line.specs.Lines.{IsLine, IsClosing}

abbrev pub row_word : RowRef → List ℕ
row_word (ModelRow row) = 114 ∷ numeral row
row_word (CutRow cut) = 107 ∷ numeral cut

abbrev pub pair_words : List Pair → List (List ℕ)
pair_words [] = []
pair_words (pair ∷ pairs) = row_word pair.row ∷ numeral pair.weight ∷ pair_words pairs

abbrev pub side_word : Bool → List ℕ
side_word true = codes "L"
side_word false = codes "H"

abbrev pub step_words : List Tighten → List (List ℕ)
step_words [] = []
step_words (s ∷ ss) = row_word s.row ∷ numeral s.col ∷ side_word s.low ∷ step_words ss

abbrev pub closing_words : Closing → List (List ℕ)
closing_words (Conflict row) = codes "conflict" ∷ row_word row ∷ []
closing_words (Empty col) = codes "empty" ∷ numeral col ∷ []
closing_words (Bound pairs) = codes "bound" ∷ numeral (length pairs) ∷ pair_words pairs

abbrev pub leaf_words : Leaf → List (List ℕ)
leaf_words leaf = codes "leaf" ∷ numeral (length leaf.steps) ∷ (step_words leaf.steps ++ closing_words leaf.closing)

abbrev pub derivation_words : Derivation → List (List ℕ)
derivation_words (Gomory parts divisor) = codes "gomory" ∷ numeral divisor ∷ numeral (length parts) ∷ pair_words parts
derivation_words (Cover row cols) = codes "cover" ∷ row_word row ∷ numeral (length cols) ∷ map numeral cols

abbrev pub node_words : CertNode → List (List ℕ)
node_words (Split col at next) = codes "split" ∷ numeral col ∷ signed_decimal at ∷ signed_decimal next ∷ []
node_words (Ends leaf) = leaf_words leaf

abbrev pub point_words : Option (List ℤ) → List (List ℕ)
point_words None = codes "none" ∷ []
point_words (Some values) = codes "point" ∷ map signed_decimal values

-- the words of a line
abbrev pub words_of : Line → List (List ℕ)
words_of Header = codes "xsearch" ∷ codes "certificate" ∷ codes "1" ∷ []
words_of (Size cols rows) = codes "size" ∷ numeral cols ∷ numeral rows ∷ []
words_of (Value value) = codes "value" ∷ signed_decimal value ∷ []
words_of (Point point) = point_words point
words_of (Cuts count) = codes "cuts" ∷ numeral count ∷ []
words_of (Cut derivation) = derivation_words derivation
words_of (Tree count) = codes "tree" ∷ numeral count ∷ []
words_of (Node node) = node_words node
words_of End = codes "end" ∷ []

-- where a closing is read from words, they are its words and its numbers are in their ranges
abbrev pub AreClosing : List (List ℕ) → ClosingReading → Type 0
AreClosing words NoClosing = Unit {0}
AreClosing words BadClosing = Unit {0}
AreClosing words (Closes closing) = (words ≡ closing_words closing) × IsClosing closing

-- and so of a line
abbrev pub AreLine : List (List ℕ) → LineReading → Type 0
AreLine words NoForm = Unit {0}
AreLine words BadNumber = Unit {0}
AreLine words (Is l) = (words ≡ words_of l) × IsLine l
