-- What one line says.
use Rattle.std.specs.Prelude.{ℕ, Bool, true, false, not, List, [], Option, Some, None, if◌then◌else◌, codes, ◌||◌}
use Rattle.std.specs.List.{list_all}
use Rattle.std.specs.Str.{bytes_eq}
use Rattle.mps_lines.specs.Lines.{Words, Zero, One, Two, Three, Four, Five, Many, words_of, fields, has_none, first_word, is_comment, is_data, is_line_byte}
use Rattle.mps_model.specs.declared.model.RowKind.{RowKind}
use Rattle.mps_model.specs.declared.model.RowKind.TheVariants.{Less, Greater, Equal}
use Rattle.mps_lines.specs.declared.section.Section.{Section}
use Rattle.mps_lines.specs.declared.section.Section.TheVariants.{Name, Objsense, Rows, Columns, Rhs, Ranges, Bounds, Endata}
use Rattle.mps_lines.specs.declared.section.ValueKind.{ValueKind}
use Rattle.mps_lines.specs.declared.section.ValueKind.TheVariants.{Side, Range}
use Rattle.mps_lines.specs.declared.section.BoundKind.{BoundKind}
use Rattle.mps_lines.specs.declared.section.BoundKind.TheVariants.{Lower, Upper, Fixed, IntegerLower, IntegerUpper, Free, NoLower, NoUpper, Binary}

-- a row's name and a numeral, as they stand
pub record Pair : Type 0 where
  pub row : List ℕ
  pub numeral : List ℕ

-- what one line says, by the section that it stands in
pub data Form : Type 0 where
  -- a comment, or a line without fields
  Blank : Form
  -- a byte that no line may hold
  Spoilt : Form
  -- a section line, with its second field or the empty text
  Head : (section : Section) (word : List ℕ) → Form
  UnknownHead : Form
  -- a data line where none may stand
  Stray : Form
  -- a data line of another number of fields
  Miscounted : Form
  SenseLine : (word : List ℕ) → Form
  -- a row without right-hand side: the objective is the first of these
  FreeRow : (name : List ℕ) → Form
  KeptRow : (kind : RowKind) (name : List ℕ) → Form
  UntypedRow : Form
  -- new columns are integer from here on, or no more
  Marker : (is_integer : Bool) → Form
  UnknownMarker : Form
  Entries : (column : List ℕ) (first : Pair) (second : Option Pair) → Form
  Values : (kind : ValueKind) (set : List ℕ) (first : Pair) (second : Option Pair) → Form
  -- a bound, with the empty text as numeral where its type has none
  BoundLine : (kind : BoundKind) (set column numeral : List ℕ) → Form
  UntypedBound : Form

-- the section of a name
abbrev pub section_named : List ℕ → Option Section
section_named word =
    if bytes_eq word (codes "NAME") then Some Name
    else if bytes_eq word (codes "OBJSENSE") then Some Objsense
    else if bytes_eq word (codes "ROWS") then Some Rows
    else if bytes_eq word (codes "COLUMNS") then Some Columns
    else if bytes_eq word (codes "RHS") then Some Rhs
    else if bytes_eq word (codes "RANGES") then Some Ranges
    else if bytes_eq word (codes "BOUNDS") then Some Bounds
    else if bytes_eq word (codes "ENDATA") then Some Endata
    else None

-- a section line, if its name is known
abbrev pub known_head : Option Section → List ℕ → Form
known_head None word = UnknownHead
known_head (Some section) word = Head section word

-- the second field of a line, or the empty text
abbrev pub second_word : Words → List ℕ
second_word Zero = []
second_word (One a) = []
second_word (Two a b) = b
second_word (Three a b c) = b
second_word (Four a b c d) = b
second_word (Five a b c d e) = b
second_word (Many a b) = b

-- a section line
abbrev pub head_form : Words → Form
head_form words = known_head (section_named (first_word words)) (second_word words)

-- whether a word says to maximise or to minimise
abbrev pub sense_named : List ℕ → Option Bool
sense_named word =
    if bytes_eq word (codes "MAX") || bytes_eq word (codes "MAXIMIZE") then Some true
    else if bytes_eq word (codes "MIN") || bytes_eq word (codes "MINIMIZE") then Some false
    else None

-- the data line of the sense: one word
abbrev pub sense_form : Words → Form
sense_form (One word) = SenseLine word
sense_form _ = Miscounted

-- the kind of a row of the model
abbrev pub row_kind_named : List ℕ → Option RowKind
row_kind_named word =
    if bytes_eq word (codes "L") then Some Less
    else if bytes_eq word (codes "G") then Some Greater
    else if bytes_eq word (codes "E") then Some Equal
    else None

-- a row of the model, if its type is known
abbrev pub kept_row : Option RowKind → List ℕ → Form
kept_row None name = UntypedRow
kept_row (Some kind) name = KeptRow kind name

-- a row: its type and its name
abbrev pub row_form : List ℕ → List ℕ → Form
row_form kind name = if bytes_eq kind (codes "N") then FreeRow name
    else kept_row (row_kind_named kind) name

-- a line of rows: a type and a name
abbrev pub rows_form : Words → Form
rows_form (Two kind name) = row_form kind name
rows_form _ = Miscounted

-- the word that makes a line of columns a marker
abbrev pub marker_word : List ℕ
marker_word = codes "'MARKER'"

-- a marker of either kind
abbrev pub marker_form : List ℕ → Form
marker_form word =
    if bytes_eq word (codes "'INTORG'") then Marker true
    else if bytes_eq word (codes "'INTEND'") then Marker false
    else UnknownMarker

-- a marker of three fields, or a column with one or two pairs
abbrev pub columns_form : Words → Form
columns_form (Three column row numeral) =
    if bytes_eq row marker_word then marker_form numeral
    else Entries column (record { row = row; numeral = numeral }) None
columns_form (Five column row numeral row2 numeral2) =
    if bytes_eq row marker_word then Miscounted
    else Entries column (record { row = row; numeral = numeral })
    (Some (record { row = row2; numeral = numeral2 }))
columns_form _ = Miscounted

-- one or two pairs, after the name of a set or without one
abbrev pub values_form : ValueKind → Words → Form
values_form kind (Two row numeral) = Values kind [] (record { row = row; numeral = numeral }) None
values_form kind (Three set row numeral) =
    Values kind set (record { row = row; numeral = numeral }) None
values_form kind (Four row numeral row2 numeral2) =
    Values kind [] (record { row = row; numeral = numeral })
    (Some (record { row = row2; numeral = numeral2 }))
values_form kind (Five set row numeral row2 numeral2) =
    Values kind set (record { row = row; numeral = numeral })
    (Some (record { row = row2; numeral = numeral2 }))
values_form kind _ = Miscounted

-- the bound of a type
abbrev pub bound_named : List ℕ → Option BoundKind
bound_named word =
    if bytes_eq word (codes "LO") then Some Lower
    else if bytes_eq word (codes "UP") then Some Upper
    else if bytes_eq word (codes "FX") then Some Fixed
    else if bytes_eq word (codes "LI") then Some IntegerLower
    else if bytes_eq word (codes "UI") then Some IntegerUpper
    else if bytes_eq word (codes "FR") then Some Free
    else if bytes_eq word (codes "MI") then Some NoLower
    else if bytes_eq word (codes "PL") then Some NoUpper
    else if bytes_eq word (codes "BV") then Some Binary
    else None

-- whether a bound has a numeral
abbrev pub has_numeral : BoundKind → Bool
has_numeral Lower = true
has_numeral Upper = true
has_numeral Fixed = true
has_numeral IntegerLower = true
has_numeral IntegerUpper = true
has_numeral Free = false
has_numeral NoLower = false
has_numeral NoUpper = false
has_numeral Binary = false

-- a bound with a numeral: a set or none, a column and the numeral
abbrev pub numeral_bound : BoundKind → Words → Form
numeral_bound kind (Three type column numeral) = BoundLine kind [] column numeral
numeral_bound kind (Four type set column numeral) = BoundLine kind set column numeral
numeral_bound kind _ = Miscounted

-- a bound without one: a set or none, and a column; a field after them is skipped
abbrev pub plain_bound : BoundKind → Words → Form
plain_bound kind (Two type column) = BoundLine kind [] column []
plain_bound kind (Three type set column) = BoundLine kind set column []
plain_bound kind (Four type set column skipped) = BoundLine kind set column []
plain_bound kind _ = Miscounted

-- a bound, if its type is known
abbrev pub typed_bound : Option BoundKind → Words → Form
typed_bound None words = UntypedBound
typed_bound (Some kind) words = if has_numeral kind then numeral_bound kind words
    else plain_bound kind words

-- a line of bounds
abbrev pub bounds_form : Words → Form
bounds_form words = typed_bound (bound_named (first_word words)) words

-- a data line in a section; under OBJSENSE there is one
abbrev pub data_form : Option Section → Bool → Words → Form
data_form None has_sense_line words = Stray
data_form (Some Name) has_sense_line words = Stray
data_form (Some Objsense) has_sense_line words = if has_sense_line then Stray else sense_form words
data_form (Some Rows) has_sense_line words = rows_form words
data_form (Some Columns) has_sense_line words = columns_form words
data_form (Some Rhs) has_sense_line words = values_form Side words
data_form (Some Ranges) has_sense_line words = values_form Range words
data_form (Some Bounds) has_sense_line words = bounds_form words
data_form (Some Endata) has_sense_line words = Stray

-- what fields say
abbrev pub words_form : Option Section → Bool → Bool → Words → Form
words_form section has_sense_line data_line words =
    if has_none words then Blank
    else if data_line then data_form section has_sense_line words
    else head_form words

-- what a line says in a section
abbrev pub form_of : Option Section → Bool → List ℕ → Form
form_of section has_sense_line line =
    if is_comment line then Blank
    else if not (list_all is_line_byte line) then Spoilt
    else words_form section has_sense_line (is_data line) (words_of (fields line))

-- whether a line ends the file
abbrev pub is_end : Form → Bool
is_end (Head Endata word) = true
is_end _ = false
