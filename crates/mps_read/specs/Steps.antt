-- The reader's own way over the lines: it keeps a draft in place of the lines.
use Rattle.std.specs.Prelude.{ℕ, ◌+◌, true, List, [], ◌∷◌, Option, Some, None, if◌then◌else◌}
use Rattle.ip_core.specs.Decimals.{Number}
use Rattle.mps_read.specs.Names.{is_among, place_among, with_item, with_name}
use Rattle.mps_read.specs.Numerals.{decimal_of}
use Rattle.mps_lines.specs.Forms.{Form, Pair, Blank, Spoilt, Head, UnknownHead, Stray, Miscounted, SenseLine, FreeRow, KeptRow, UntypedRow, Marker, UnknownMarker, Entries, Values, BoundLine, UntypedBound, form_of, is_end, sense_named}
use Rattle.mps_read.specs.Sets.{first_name, is_used}
use Rattle.mps_model.specs.Prints.{fresh_row}
use Rattle.mps_read.specs.DraftRows.{fresh_state, free_place, with_marked_state, with_value, with_constant, place_of_pair}
use Rattle.mps_read.specs.DraftColumns.{fresh_column, with_coefficient, with_bound, with_mark, with_latest}
use Rattle.mps_read.specs.DraftKinds.{draft_kind, values_use}
use Rattle.mps_read.specs.Readings.{Reading, Read, RefusedAt, outcome, is_maximise, name_or_empty}
use Rattle.mps_read.specs.declared.error.MpsKind.TheVariants.{NoEndata}
use Rattle.mps_model.specs.declared.model.RowKind.{RowKind}
use Rattle.mps_model.specs.declared.model.MpsModel.{MpsModel}
use Rattle.mps_lines.specs.declared.section.Section.{Section}
use Rattle.mps_lines.specs.declared.section.Section.TheVariants.{Name, Objsense, Rows, Columns, Rhs, Ranges, Bounds, Endata}
use Rattle.mps_lines.specs.declared.section.ValueKind.{ValueKind}
use Rattle.mps_lines.specs.declared.section.ValueKind.TheVariants.{Side, Range}
use Rattle.mps_lines.specs.declared.section.BoundKind.{BoundKind}
use Rattle.mps_read.specs.declared.draft.Draft.{Draft}
use Rattle.mps_read.specs.declared.draft.SetUse.{SetUse}
use Rattle.mps_read.specs.declared.draft.RowPlace.{RowPlace}
use Rattle.mps_read.specs.declared.draft.RowPlace.TheVariants.{Kept}

-- a value after the first pair, and after the second if there is one
abbrev pub after_pairs : {A : Type 0} → (Pair → A → A) → Pair → Option Pair → A → A
after_pairs change first None value = change first value
after_pairs change first (Some second) value = change second (change first value)

-- the section began
abbrev pub with_head : SetUse → SetUse
with_head u = record u { has_begun = true }

-- the section after a data line of a set
abbrev pub with_set : List ℕ → SetUse → SetUse
with_set set u = if is_used u.set set then record u { set = first_name u.set set } else u

-- the draft after a section line
abbrev pub after_head : Draft → Section → List ℕ → Draft
after_head d Name word = record d { section = Some Name; name = word }
after_head d Objsense word = record d { section = Some Objsense; maximise = sense_named word }
after_head d Rows word = record d { section = Some Rows }
after_head d Columns word = record d { section = Some Columns }
after_head d Rhs word = record d { section = Some Rhs; rhs = with_head d.rhs }
after_head d Ranges word = record d { section = Some Ranges; ranges = with_head d.ranges }
after_head d Bounds word = record d { section = Some Bounds; bounds = with_head d.bounds }
after_head d Endata word = record d { section = Some Endata }

-- after a row without right-hand side
abbrev pub after_free : Draft → List ℕ → Draft
after_free d name =
    record d {
      row_names = with_name name d.row_names;
      row_states = with_item (is_among name d.row_names)
          (fresh_state (free_place d.objective)) d.row_states;
      objective = first_name d.objective name;
      latest = with_item (is_among name d.row_names) 0 d.latest;
    }

-- after a row of the model
abbrev pub after_row : Draft → RowKind → List ℕ → Draft
after_row d kind name =
    record d {
      row_names = with_name name d.row_names;
      row_states = with_item (is_among name d.row_names) (fresh_state (Kept d.kept)) d.row_states;
      kept = if is_among name d.row_names then d.kept else d.kept + 1;
      rows = with_item (is_among name d.row_names) (fresh_row kind name) d.rows;
      latest = with_item (is_among name d.row_names) 0 d.latest;
    }

-- with a column, where it is new
abbrev pub after_column : Draft → List ℕ → Draft
after_column d column =
    record d {
      column_names = with_name column d.column_names;
      cols = with_item (is_among column d.column_names) (fresh_column d.is_integer column) d.cols;
    }

-- with an entry: of the row of a name's number in the column of a number
abbrev pub after_entry : ℕ → RowPlace → ℕ → Number → Draft → Draft
after_entry row place col value d =
    record d {
      cols = with_coefficient place value col d.cols;
      marks = with_mark place row col d.marks;
      latest = with_latest place row (col + 1) d.latest;
    }

-- the same for a pair of a line
abbrev pub after_entry_pair : Draft → ℕ → Pair → Draft → Draft
after_entry_pair from col pair d =
    after_entry (place_among pair.row from.row_names)
    (place_of_pair from.row_names from.row_states pair) col (decimal_of pair.numeral) d

-- with a right-hand side or a range of the row of a name's number
abbrev pub after_value : ValueKind → ℕ → RowPlace → Number → Draft → Draft
after_value kind row place value d =
    record d {
      row_states = with_marked_state kind row d.row_states;
      rows = with_value kind place value d.rows;
      constant = with_constant kind place value d.constant;
    }

-- the same for a pair of a line
abbrev pub after_value_pair : Draft → ValueKind → Pair → Draft → Draft
after_value_pair from kind pair d =
    after_value kind (place_among pair.row from.row_names)
    (place_of_pair from.row_names from.row_states pair) (decimal_of pair.numeral) d

-- with the set of a section named, where it has none
abbrev pub with_values_set : ValueKind → List ℕ → Draft → Draft
with_values_set Side set d = record d { rhs = with_set set d.rhs }
with_values_set Range set d = record d { ranges = with_set set d.ranges }

-- with a bound of the used set
abbrev pub after_bound : Draft → BoundKind → List ℕ → List ℕ → Number → Draft
after_bound d kind set column value =
    record d {
      cols = with_bound kind value (place_among column d.column_names) d.cols;
      bounds = with_set set d.bounds;
    }

-- the draft after one more line
abbrev pub after : Draft → Form → Draft
after d Blank = d
after d Spoilt = d
after d (Head section word) = after_head d section word
after d UnknownHead = d
after d Stray = d
after d Miscounted = d
after d (SenseLine word) = record d { has_sense_line = true; maximise = sense_named word }
after d (FreeRow name) = after_free d name
after d (KeptRow kind name) = after_row d kind name
after d UntypedRow = d
after d (Marker is_integer) = record d { is_integer = is_integer }
after d UnknownMarker = d
after d (Entries column first second) =
    after_pairs (after_entry_pair d (place_among column d.column_names)) first second
    (after_column d column)
after d (Values kind set first second) =
    if is_used (values_use kind d).set set
    then with_values_set kind set (after_pairs (after_value_pair d kind) first second d)
    else d
after d (BoundLine kind set column numeral) =
    if is_used d.bounds.set set then after_bound d kind set column (decimal_of numeral) else d
after d UntypedBound = d

-- the model of what was read
abbrev pub draft_model : Draft → MpsModel
draft_model d = record {
  name = d.name;
  maximise = is_maximise d.maximise;
  objective = name_or_empty d.objective;
  constant = d.constant;
  rows = d.rows;
  cols = d.cols;
}

-- what the reading of the lines from one on gives, after those that made the draft
abbrev pub run : Draft → ℕ → List (List ℕ) → Reading
run d number [] = RefusedAt number NoEndata
run d number (line ∷ rest) =
    let form = form_of d.section d.has_sense_line line
    in outcome (draft_kind d form) (is_end form) number (Read (draft_model d))
    (run (after d form) (number + 1) rest)
