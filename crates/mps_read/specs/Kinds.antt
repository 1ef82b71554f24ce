-- Why a line isn't allowed after those before it: the first of sixteen tests that applies decides.
use Rattle.std.specs.Prelude.{ℕ, ◌+◌, Bool, true, false, not, ◌&&◌, ◌||◌, ◌==◌, nat_le, List, [], ◌∷◌, ◌++◌, length, Option, Some, None, is_none, is_some, if◌then◌else◌}
use Rattle.std.specs.Str.{bytes_eq}
use Rattle.mps_read.specs.Names.{is_among, place_among, is_long}
use Rattle.mps_read.specs.Numerals.{is_numeral}
use Rattle.mps_lines.specs.Forms.{Form, Pair, Spoilt, Head, UnknownHead, Stray, Miscounted, SenseLine, FreeRow, KeptRow, UntypedRow, UnknownMarker, Entries, Values, BoundLine, UntypedBound, marker_word, has_numeral, sense_named}
use Rattle.mps_read.specs.Headers.{section_of, has_section, maximise_of}
use Rattle.mps_read.specs.Sets.{is_used, set_of, bound_set_of, pairs_in, is_named}
use Rattle.mps_read.specs.Rows.{row_names_of, objective_of, kept_names_of, is_single}
use Rattle.mps_read.specs.Columns.{column_names_of, pairs_of}
use Rattle.mps_read.specs.declared.error.MpsKind.{MpsKind}
use Rattle.mps_read.specs.declared.error.MpsKind.TheVariants.{BadByte, SectionOrder, UnknownSection, FieldCount, Numeral, RowType, BoundType, RepeatedName, UnknownName, RepeatedEntry, SplitColumn, Marker, NoObjective, LongName, Sense}
use Rattle.mps_lines.specs.declared.section.Section.{Section}
use Rattle.mps_lines.specs.declared.section.Section.TheVariants.{Name, Objsense, Rows, Columns, Rhs, Ranges, Bounds, Endata}

-- whether both pairs pass, or the only one
abbrev pub all_pairs : (Pair → Bool) → Pair → Option Pair → Bool
all_pairs test first None = test first
all_pairs test first (Some second) = test first && test second

-- whether a line isn't one of another set, which is skipped
abbrev pub is_used_line : List Form → Form → Bool
is_used_line before (Values kind set first second) = is_used (set_of kind before) set
is_used_line before (BoundLine kind set column numeral) = is_used (bound_set_of before) set
is_used_line before _ = true

-- 1: another byte
abbrev pub is_bad_byte : Form → Bool
is_bad_byte Spoilt = true
is_bad_byte _ = false

-- how far a file is after a section
abbrev pub rank : Section → ℕ
rank Name = 1
rank Objsense = 2
rank Rows = 3
rank Columns = 4
rank Rhs = 5
rank Ranges = 5
rank Bounds = 5
rank Endata = 6

-- the same before any section
abbrev pub rank_of : Option Section → ℕ
rank_of None = 0
rank_of (Some section) = rank section

-- the order of sections, by the last one and whether this one stood before: right-hand sides,
-- ranges and bounds in any order, each at most once
abbrev pub is_in_order : Option Section → Bool → Section → Bool
is_in_order last stood Name = rank_of last == 0
is_in_order last stood Objsense = nat_le (rank_of last) 1
is_in_order last stood Rows = nat_le (rank_of last) 2
is_in_order last stood Columns = rank_of last == 3
is_in_order last stood Rhs = nat_le 4 (rank_of last) && not stood
is_in_order last stood Ranges = nat_le 4 (rank_of last) && not stood
is_in_order last stood Bounds = nat_le 4 (rank_of last) && not stood
is_in_order last stood Endata = nat_le 4 (rank_of last)

-- 2: a section out of order or twice, or a data line where none may stand
abbrev pub is_out_of_order : Option Section → (Section → Bool) → Form → Bool
is_out_of_order last stood (Head section word) = not (is_in_order last (stood section) section)
is_out_of_order last stood Stray = true
is_out_of_order last stood _ = false

-- 3: a section of no known name
abbrev pub is_unknown_section : Form → Bool
is_unknown_section UnknownHead = true
is_unknown_section _ = false

-- 4: another number of fields
abbrev pub is_miscounted : Form → Bool
is_miscounted Miscounted = true
is_miscounted _ = false

-- whether a pair's numeral is a decimal
abbrev pub is_pair_numeral : Pair → Bool
is_pair_numeral pair = is_numeral pair.numeral

-- 5: a numeral that isn't a decimal
abbrev pub has_bad_numeral : Form → Bool
has_bad_numeral (Entries column first second) = not (all_pairs is_pair_numeral first second)
has_bad_numeral (Values kind set first second) = not (all_pairs is_pair_numeral first second)
has_bad_numeral (BoundLine kind set column numeral) = has_numeral kind && not (is_numeral numeral)
has_bad_numeral _ = false

-- 6: a row of no known type
abbrev pub is_untyped_row : Form → Bool
is_untyped_row UntypedRow = true
is_untyped_row _ = false

-- 7: a bound of no known type
abbrev pub is_untyped_bound : Form → Bool
is_untyped_bound UntypedBound = true
is_untyped_bound _ = false

-- 8: a row's name for the second time
abbrev pub is_repeated_name : List (List ℕ) → Form → Bool
is_repeated_name rows (FreeRow name) = is_among name rows
is_repeated_name rows (KeptRow kind name) = is_among name rows
is_repeated_name rows _ = false

-- whether a pair's row is known
abbrev pub is_known_pair : List (List ℕ) → Pair → Bool
is_known_pair rows pair = is_among pair.row rows

-- 9: a row or a column that isn't known
abbrev pub has_unknown_name : List (List ℕ) → List (List ℕ) → Form → Bool
has_unknown_name rows columns (Entries column first second) =
    not (all_pairs (is_known_pair rows) first second)
has_unknown_name rows columns (Values kind set first second) =
    not (all_pairs (is_known_pair rows) first second)
has_unknown_name rows columns (BoundLine kind set column numeral) = not (is_among column columns)
has_unknown_name rows columns _ = false

-- whether a row that isn't dropped is named by an earlier pair
abbrev pub is_repeated : List Form → List Pair → Pair → Bool
is_repeated before earlier pair =
    is_single (objective_of before) (kept_names_of before) pair.row && is_named pair.row earlier

-- whether one of the pairs of a line is, the first pair among the earlier ones of the second
abbrev pub repeats : List Form → List Pair → Pair → Option Pair → Bool
repeats before earlier first None = is_repeated before earlier first
repeats before earlier first (Some second) =
    is_repeated before earlier first || is_repeated before (earlier ++ first ∷ []) second

-- 10: a second entry of a row that isn't dropped, in one column or in the used set
abbrev pub is_repeated_entry : List Form → Form → Bool
is_repeated_entry before (Entries column first second) =
    repeats before (pairs_of column before) first second
is_repeated_entry before (Values kind set first second) =
    repeats before (pairs_in kind before) first second
is_repeated_entry before _ = false

-- 11: a column that isn't new and isn't the last one
abbrev pub is_split_column : List (List ℕ) → Form → Bool
is_split_column columns (Entries column first second) =
    is_among column columns && not (place_among column columns + 1 == length columns)
is_split_column columns _ = false

-- 12: a marker of neither kind, or a row with the name of markers
abbrev pub is_bad_marker : Form → Bool
is_bad_marker UnknownMarker = true
is_bad_marker (FreeRow name) = bytes_eq name marker_word
is_bad_marker (KeptRow kind name) = bytes_eq name marker_word
is_bad_marker _ = false

-- 13: columns without an objective before them
abbrev pub lacks_objective : Option (List ℕ) → Form → Bool
lacks_objective objective (Head Columns word) = is_none objective
lacks_objective objective _ = false

-- whether a pair's row has a name that isn't too long
abbrev pub is_short_pair : Pair → Bool
is_short_pair pair = not (is_long pair.row)

-- the model's name is too long
abbrev pub is_long_title : Section → List ℕ → Bool
is_long_title Name word = is_long word
is_long_title _ word = false

-- 15: a name that is too long; of a line of another set each name is tested
abbrev pub has_long_name : Bool → Form → Bool
has_long_name used (Head section word) = is_long_title section word
has_long_name used (FreeRow name) = is_long name
has_long_name used (KeptRow kind name) = is_long name
has_long_name used (Entries column first second) = is_long column
has_long_name used (Values kind set first second) =
    is_long set || (not used && not (all_pairs is_short_pair first second))
has_long_name used (BoundLine kind set column numeral) = is_long set || (not used && is_long column)
has_long_name used _ = false

-- whether the last section is that of the sense
abbrev pub is_objsense : Option Section → Bool
is_objsense (Some Objsense) = true
is_objsense _ = false

-- 16: the sense is another word, stands at both places, or at neither when the next section begins
abbrev pub has_bad_sense : Option Section → Option Bool → Form → Bool
has_bad_sense last sense (Head Objsense word) = not (length word == 0) && is_none (sense_named word)
has_bad_sense last sense (Head section word) = is_objsense last && is_none sense
has_bad_sense last sense (SenseLine word) = is_none (sense_named word) || is_some sense
has_bad_sense last sense _ = false

-- the first kind that applies; the end of the file, which is kind 14, is no line
abbrev pub kind_of : List Form → Form → Option MpsKind
kind_of before form =
    if is_bad_byte form then Some BadByte
    else if is_out_of_order (section_of before) (λ section. has_section section before) form
    then Some SectionOrder
    else if is_unknown_section form then Some UnknownSection
    else if is_miscounted form then Some FieldCount
    else if is_used_line before form && has_bad_numeral form then Some Numeral
    else if is_untyped_row form then Some RowType
    else if is_untyped_bound form then Some BoundType
    else if is_repeated_name (row_names_of before) form then Some RepeatedName
    else if is_used_line before form && has_unknown_name (row_names_of before)
    (column_names_of before) form
    then Some UnknownName
    else if is_used_line before form && is_repeated_entry before form then Some RepeatedEntry
    else if is_split_column (column_names_of before) form then Some SplitColumn
    else if is_bad_marker form then Some Marker
    else if lacks_objective (objective_of before) form then Some NoObjective
    else if has_long_name (is_used_line before form) form then Some LongName
    else if has_bad_sense (section_of before) (maximise_of before) form then Some Sense
    else None
