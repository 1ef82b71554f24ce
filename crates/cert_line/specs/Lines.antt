-- Lines as text, and which numbers they may have.
use Rattle.std.specs.Prelude.{ℕ, ◌≡◌, ◌≤◌, ◌↔◌, ◌==◌, false, true, Bool, List, [], ◌∷◌, ◌++◌, length, ℤ, unsigned_abs, Option, Some, None, codes}
use Rattle.std.specs.List.{AllByRecursion, list_any}
use Rattle.ip_core.specs.declared.derivation.Derivation.{Derivation}
use Rattle.ip_core.specs.declared.derivation.Derivation.TheVariants.{Gomory, Cover}
use Rattle.ip_core.specs.declared.leaf.Pair.{Pair}
use Rattle.ip_core.specs.declared.leaf.Tighten.{Tighten}
use Rattle.ip_core.specs.declared.leaf.Closing.{Closing}
use Rattle.ip_core.specs.declared.leaf.Closing.TheVariants.{Conflict, Empty, Bound}
use Rattle.ip_core.specs.declared.leaf.Leaf.{Leaf}
use Rattle.ip_core.specs.declared.row_ref.RowRef.{RowRef}
use Rattle.ip_core.specs.declared.row_ref.RowRef.TheVariants.{Model as ModelRow, Cut as CutRow}
use Rattle.tree_cert.specs.declared.node.CertNode.{CertNode}
use Rattle.tree_cert.specs.declared.node.CertNode.TheVariants.{Split, Leaf as Ends}
use Rattle.entry_text.specs.Fields.{number_field, signed_field, signed_fields, row_field, pair_fields}
use Rattle.entry_text.specs.Entries.{derivation_text}
use Rattle.cert_line.specs.declared.line.Line.{Line}
use Rattle.cert_line.specs.declared.line.Line.TheVariants.{Header, Size, Value, Point, Cuts, Cut, Tree, Node, End}
use Rattle.cert_line.specs.declared.line.LineReading.TheVariants.{Is}
use Rattle.cert_line.specs.declared.numeral.TheConstants.{MAX_COUNT, MAX_WEIGHT, MAX_NUMBER}
use Rattle.cert_line.specs.Readings.{reading_of}

-- a blank, and which side of a column a step narrows
abbrev pub side_field : Bool → List ℕ
side_field true = codes " L"
side_field false = codes " H"

-- steps in order: a row, a column and its side
abbrev pub step_fields : List Tighten → List ℕ
step_fields [] = []
step_fields (s ∷ ss) =
    row_field s.row ++ number_field s.col ++ side_field s.low ++ step_fields ss

-- what closes a box
abbrev pub closing_fields : Closing → List ℕ
closing_fields (Conflict row) = codes " conflict" ++ row_field row
closing_fields (Empty col) = codes " empty" ++ number_field col
closing_fields (Bound pairs) =
    codes " bound" ++ number_field (length pairs) ++ pair_fields pairs

-- a leaf: its steps after their count, and what closes the box after them
abbrev pub leaf_text : Leaf → List ℕ
leaf_text leaf = codes "leaf" ++ number_field (length leaf.steps) ++ step_fields leaf.steps
    ++ closing_fields leaf.closing

-- a node
abbrev pub node_text : CertNode → List ℕ
node_text (Split col at next) =
    codes "split" ++ number_field col ++ signed_field at ++ signed_field next
node_text (Ends leaf) = leaf_text leaf

-- a point by its values, or that there is none
abbrev pub point_text : Option (List ℤ) → List ℕ
point_text None = codes "none"
point_text (Some values) = codes "point" ++ signed_fields values

-- a line, its line feed aside
abbrev pub line_text : Line → List ℕ
line_text Header = codes "xsearch certificate 1"
line_text (Size cols rows) = codes "size" ++ number_field cols ++ number_field rows
line_text (Value value) = codes "value" ++ signed_field value
line_text (Point point) = point_text point
line_text (Cuts count) = codes "cuts" ++ number_field count
line_text (Cut derivation) = derivation_text derivation
line_text (Tree count) = codes "tree" ++ number_field count
line_text (Node node) = node_text node
line_text End = codes "end"

-- a number of a row of the model or of a cut
abbrev pub row_number : RowRef → ℕ
row_number (ModelRow row) = row
row_number (CutRow cut) = cut

-- a count, a column or the number of a row, in its range
pub record IsCount (n : ℕ) : Type 0 where
  pub small : n ≤ MAX_COUNT

-- the name of a row whose number is in its range
pub record IsRow (row : RowRef) : Type 0 where
  pub small : row_number row ≤ MAX_COUNT

-- a weight, a divisor or a multiplier, in its range
pub record IsWeight (n : ℕ) : Type 0 where
  pub small : n ≤ MAX_WEIGHT

-- a number that may have a sign, in its range
pub record IsNumber (z : ℤ) : Type 0 where
  pub small : unsigned_abs z ≤ MAX_NUMBER

-- a row and its weight, in their ranges
pub record IsPair (pair : Pair) : Type 0 where
  pub row : IsRow pair.row
  pub weight : IsWeight pair.weight

-- a step whose row and column are in their ranges
pub record IsStep (s : Tighten) : Type 0 where
  pub row : IsRow s.row
  pub col : IsCount s.col

-- items that each keep their ranges, and few enough to be counted on a line
pub record AreItems {A : Type 0} (IsItem : A → Type 0) (items : List A) : Type 0 where
  pub each : AllByRecursion IsItem items
  pub few : IsCount (length items)

-- a derivation whose numbers are in their ranges
abbrev pub IsDerivation : Derivation → Type 0
IsDerivation (Gomory parts divisor) = AreItems IsPair parts × IsWeight divisor
IsDerivation (Cover row cols) = IsRow row × AreItems IsCount cols

-- what closes a box, with numbers in their ranges
abbrev pub IsClosing : Closing → Type 0
IsClosing (Conflict row) = IsRow row
IsClosing (Empty col) = IsCount col
IsClosing (Bound pairs) = AreItems IsPair pairs

-- a leaf whose numbers are in their ranges
pub record IsLeaf (leaf : Leaf) : Type 0 where
  pub steps : AreItems IsStep leaf.steps
  pub closing : IsClosing leaf.closing

-- a node whose numbers are in their ranges
abbrev pub IsNode : CertNode → Type 0
IsNode (Split col at next) = IsCount col × IsNumber at × IsNumber next
IsNode (Ends leaf) = IsLeaf leaf

-- a point whose values are in their range, or none
abbrev pub IsPoint : Option (List ℤ) → Type 0
IsPoint None = Unit {0}
IsPoint (Some values) = AllByRecursion IsNumber values

-- a line whose numbers are in their ranges, and whose lists have few enough items
abbrev pub IsLine : Line → Type 0
IsLine Header = Unit {0}
IsLine (Size cols rows) = IsCount cols × IsCount rows
IsLine (Value value) = IsNumber value
IsLine (Point point) = IsPoint point
IsLine (Cuts count) = IsCount count
IsLine (Cut derivation) = IsDerivation derivation
IsLine (Tree count) = IsCount count
IsLine (Node node) = IsNode node
IsLine End = Unit {0}

-- bytes are read as a line exactly where they are the text of this line and its numbers are in
-- their ranges
abbrev pub ReadingIsExact : Type 0
ReadingIsExact =
    (bytes : List ℕ) (l : Line) → (reading_of bytes ≡ Is l) ↔ ((bytes ≡ line_text l) × IsLine l)

-- no text of a line has a line feed
abbrev pub LineHasNoFeed : Type 0
LineHasNoFeed =
    (l : Line) → IsLine l → list_any (λ b. b == 10) (line_text l) ≡ false
