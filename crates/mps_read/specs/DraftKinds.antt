-- The reader's own tests: those of a line, asked of a draft.
use Rattle.std.specs.Prelude.{ℕ, Bool, true, false, ◌&&◌, ◌||◌, ◌==◌, List, Option, Some, None, if◌then◌else◌}
use Rattle.std.specs.List.{list_any}
use Rattle.mps_read.specs.Names.{place_among}
use Rattle.mps_lines.specs.Forms.{Form, Pair, Entries, Values, BoundLine}
use Rattle.mps_read.specs.Sets.{is_used}
use Rattle.mps_read.specs.DraftRows.{state_at, is_tested}
use Rattle.mps_read.specs.Kinds.{is_bad_byte, is_out_of_order, is_unknown_section, is_miscounted, has_bad_numeral, is_untyped_row, is_untyped_bound, is_repeated_name, has_unknown_name, is_split_column, is_bad_marker, lacks_objective, has_long_name, has_bad_sense}
use Rattle.mps_read.specs.declared.error.MpsKind.{MpsKind}
use Rattle.mps_read.specs.declared.error.MpsKind.TheVariants.{BadByte, SectionOrder, UnknownSection, FieldCount, Numeral, RowType, BoundType, RepeatedName, UnknownName, RepeatedEntry, SplitColumn, Marker, NoObjective, LongName, Sense}
use Rattle.mps_lines.specs.declared.section.Section.{Section}
use Rattle.mps_lines.specs.declared.section.Section.TheVariants.{Rhs, Ranges, Bounds}
use Rattle.mps_lines.specs.declared.section.ValueKind.{ValueKind}
use Rattle.mps_lines.specs.declared.section.ValueKind.TheVariants.{Side, Range}
use Rattle.mps_read.specs.declared.draft.Draft.{Draft}
use Rattle.mps_read.specs.declared.draft.Mark.{Mark}
use Rattle.mps_read.specs.declared.draft.RowState.{RowState}
use Rattle.mps_read.specs.declared.draft.SetUse.{SetUse}

-- the sets of right-hand sides or of ranges
abbrev pub values_use : ValueKind → Draft → SetUse
values_use Side d = d.rhs
values_use Range d = d.ranges

-- whether a line isn't one of another set
abbrev pub is_used_in : Draft → Form → Bool
is_used_in d (Values kind set first second) = is_used (values_use kind d).set set
is_used_in d (BoundLine kind set column numeral) = is_used d.bounds.set set
is_used_in d _ = true

-- whether one of the sections of sets began
abbrev pub has_begun : Draft → Section → Bool
has_begun d Rhs = d.rhs.has_begun
has_begun d Ranges = d.ranges.has_begun
has_begun d Bounds = d.bounds.has_begun
has_begun d _ = false

-- whether a row has an entry in a column, both by their numbers
abbrev pub has_mark : ℕ → ℕ → List Mark → Bool
has_mark row col marks = list_any (λ m. m.row == row && m.col == col) marks

-- whether a row has a right-hand side or a range
abbrev pub has_value : ValueKind → RowState → Bool
has_value Side s = s.has_side
has_value Range s = s.has_range

-- whether two pairs of one line are of one row that isn't dropped
abbrev pub is_same_row : Draft → Pair → Pair → Bool
is_same_row d first second =
    place_among first.row d.row_names == place_among second.row d.row_names
    && is_tested (state_at d.row_states (place_among first.row d.row_names)).place

-- whether a pair's row has a value before, or both pairs are of one row
abbrev pub repeats_in : Draft → (ℕ → Bool) → Pair → Option Pair → Bool
repeats_in d has first None = has (place_among first.row d.row_names)
repeats_in d has first (Some second) =
    has (place_among first.row d.row_names)
    || has (place_among second.row d.row_names)
    || is_same_row d first second

-- a second entry of a row that isn't dropped, in one column or in the used set
abbrev pub is_repeated_in : Draft → Form → Bool
is_repeated_in d (Entries column first second) =
    repeats_in d (λ row. has_mark row (place_among column d.column_names) d.marks) first second
is_repeated_in d (Values kind set first second) =
    repeats_in d (λ row. has_value kind (state_at d.row_states row)) first second
is_repeated_in d _ = false

-- the first kind that applies
abbrev pub draft_kind : Draft → Form → Option MpsKind
draft_kind d form =
    if is_bad_byte form then Some BadByte
    else if is_out_of_order d.section (has_begun d) form then Some SectionOrder
    else if is_unknown_section form then Some UnknownSection
    else if is_miscounted form then Some FieldCount
    else if is_used_in d form && has_bad_numeral form then Some Numeral
    else if is_untyped_row form then Some RowType
    else if is_untyped_bound form then Some BoundType
    else if is_repeated_name d.row_names form then Some RepeatedName
    else if is_used_in d form && has_unknown_name d.row_names d.column_names form
    then Some UnknownName
    else if is_used_in d form && is_repeated_in d form then Some RepeatedEntry
    else if is_split_column d.column_names form then Some SplitColumn
    else if is_bad_marker form then Some Marker
    else if lacks_objective d.objective form then Some NoObjective
    else if has_long_name (is_used_in d form) form then Some LongName
    else if has_bad_sense d.section d.maximise form then Some Sense
    else None
