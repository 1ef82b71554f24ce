-- The canonical text of a model: one text for each model, with one pair on a line.
use Rattle.std.specs.Prelude.{ℕ, Bool, true, false, not, ◌&&◌, ◌==◌, List, [], ◌∷◌, ◌++◌, length, slice_index_or, Option, Some, None, if◌then◌else◌, codes}
use Rattle.ip_core.specs.Decimals.{Number, negation}
use Rattle.ip_core.specs.Prints.{number_text}
use Rattle.mps_model.specs.Numbers.{zero_decimal, is_zero}
use Rattle.mps_model.specs.declared.model.RowKind.{RowKind}
use Rattle.mps_model.specs.declared.model.RowKind.TheVariants.{Less, Greater, Equal}
use Rattle.mps_model.specs.declared.model.Limit.{Limit}
use Rattle.mps_model.specs.declared.model.Limit.TheVariants.{Unset, Free, At}
use Rattle.mps_model.specs.declared.model.MpsRow.{MpsRow}
use Rattle.mps_model.specs.declared.model.MpsEntry.{MpsEntry}
use Rattle.mps_model.specs.declared.model.MpsCol.{MpsCol}
use Rattle.mps_model.specs.declared.model.MpsModel.{MpsModel}

-- fields, each after a blank
abbrev pub fields_text : List (List ℕ) → List ℕ
fields_text [] = []
fields_text (word ∷ more) = 32 ∷ (word ++ fields_text more)

-- a data line, with its line feed
abbrev pub data_line : List (List ℕ) → List ℕ
data_line words = fields_text words ++ codes "\n"

-- a line of a column or a set: its name, a row's name and a number
abbrev pub pair_line : List ℕ → List ℕ → Number → List ℕ
pair_line name row value = data_line (name ∷ row ∷ number_text value ∷ [])

-- the same line, left out where the number is zero
abbrev pub nonzero_line : List ℕ → List ℕ → Number → List ℕ
nonzero_line name row value = if is_zero value then [] else pair_line name row value

-- The header.

-- the model's name, unless it is empty
abbrev pub name_line : List ℕ → List ℕ
name_line name = if length name == 0 then [] else codes "NAME" ++ data_line (name ∷ [])

-- that the sense is to maximise
abbrev pub sense_lines : Bool → List ℕ
sense_lines maximise = if maximise then codes "OBJSENSE\n MAX\n" else []

-- Rows.

-- the letter of a kind of row
abbrev pub kind_word : RowKind → List ℕ
kind_word Less = codes "L"
kind_word Greater = codes "G"
kind_word Equal = codes "E"

-- the line of a row
abbrev pub row_line : MpsRow → List ℕ
row_line row = data_line (kind_word row.kind ∷ row.name ∷ [])

-- the rows in order
abbrev pub row_lines : List MpsRow → List ℕ
row_lines [] = []
row_lines (row ∷ rows) = row_line row ++ row_lines rows

-- Columns.

-- the marker between a column and the next one, where one of them is integer and the other isn't
abbrev pub marker_line : Bool → Bool → List ℕ
marker_line false false = []
marker_line false true = codes " M 'MARKER' 'INTORG'\n"
marker_line true false = codes " M 'MARKER' 'INTEND'\n"
marker_line true true = []

-- a row without values
abbrev pub fresh_row : RowKind → List ℕ → MpsRow
fresh_row kind name = record { name = name; kind = kind; rhs = zero_decimal; range = None }

-- the name of the row of a number
abbrev pub row_name : List MpsRow → ℕ → List ℕ
row_name rows row = (slice_index_or rows row (fresh_row Less [])).name

-- whether a column's cost is on no line: it is zero, and the column has entries
abbrev pub omits_cost : MpsCol → Bool
omits_cost col = is_zero col.cost && not (length col.entries == 0)

-- the line of a column's cost
abbrev pub cost_line : List ℕ → MpsCol → List ℕ
cost_line objective col = if omits_cost col then [] else pair_line col.name objective col.cost

-- the entries of a column of this name, in order
abbrev pub entry_lines : List MpsRow → List ℕ → List MpsEntry → List ℕ
entry_lines rows name [] = []
entry_lines rows name (entry ∷ entries) =
    pair_line name (row_name rows entry.row) entry.value ++ entry_lines rows name entries

-- the lines of a column: its cost, then its entries
abbrev pub column_lines : List ℕ → List MpsRow → MpsCol → List ℕ
column_lines objective rows col = cost_line objective col ++ entry_lines rows col.name col.entries

-- the columns after one that is integer or isn't, with markers around each run of integer columns
abbrev pub columns_lines : List ℕ → List MpsRow → Bool → List MpsCol → List ℕ
columns_lines objective rows integer [] = marker_line integer false
columns_lines objective rows integer (col ∷ cols) =
    marker_line integer col.integer ++ column_lines objective rows col ++ columns_lines objective
    rows col.integer cols

-- Sections that are left out where they are empty.

-- a section's line and its data lines, or nothing where there are none
abbrev pub section_lines : List ℕ → List ℕ → List ℕ
section_lines head lines = if length lines == 0 then [] else head ++ codes "\n" ++ lines

-- the right-hand sides of rows that aren't zero
abbrev pub side_lines : List MpsRow → List ℕ
side_lines [] = []
side_lines (row ∷ rows) = nonzero_line (codes "RHS") row.name row.rhs ++ side_lines rows

-- the right-hand sides: first that of the objective, the negated constant
abbrev pub sides_lines : MpsModel → List ℕ
sides_lines m = nonzero_line (codes "RHS") m.objective (negation m.constant) ++ side_lines m.rows

-- the range of a row of this name, zero or not
abbrev pub range_line : List ℕ → Option Number → List ℕ
range_line name None = []
range_line name (Some range) = pair_line (codes "RNG") name range

-- the ranges of rows that have one
abbrev pub range_lines : List MpsRow → List ℕ
range_lines [] = []
range_lines (row ∷ rows) = range_line row.name row.range ++ range_lines rows

-- the low of a column of this name
abbrev pub low_line : List ℕ → Limit → List ℕ
low_line name Unset = []
low_line name Free = data_line (codes "MI" ∷ codes "BND" ∷ name ∷ [])
low_line name (At value) = data_line (codes "LO" ∷ codes "BND" ∷ name ∷ number_text value ∷ [])

-- the high of a column of this name
abbrev pub high_line : List ℕ → Limit → List ℕ
high_line name Unset = []
high_line name Free = data_line (codes "PL" ∷ codes "BND" ∷ name ∷ [])
high_line name (At value) = data_line (codes "UP" ∷ codes "BND" ∷ name ∷ number_text value ∷ [])

-- the bounds of columns: the low of each, then its high
abbrev pub bound_lines : List MpsCol → List ℕ
bound_lines [] = []
bound_lines (col ∷ cols) = low_line col.name col.low ++ high_line col.name col.high ++ bound_lines
    cols

-- the canonical text of a model
abbrev pub canonical_text : MpsModel → List ℕ
canonical_text m =
    name_line m.name
    ++ sense_lines m.maximise
    ++ codes "ROWS\n"
    ++ data_line (codes "N" ∷ m.objective ∷ [])
    ++ row_lines m.rows
    ++ codes "COLUMNS\n"
    ++ columns_lines m.objective m.rows false m.cols
    ++ section_lines (codes "RHS") (sides_lines m)
    ++ section_lines (codes "RANGES") (range_lines m.rows)
    ++ section_lines (codes "BOUNDS") (bound_lines m.cols)
    ++ codes "ENDATA\n"
