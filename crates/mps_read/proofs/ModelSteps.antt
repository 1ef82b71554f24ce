use Rattle.std.proofs.Common.{◌≡◌, ◌<◌, ◌+◌, ℕ, Bool, true, false, ◌&&◌, ◌||◌, ◌==◌, nat_le, List, [], ◌∷◌, ◌++◌, Option, Some, None, is_some, refl, sym, ap, subst, if◌then◌else◌}
use Rattle.std.specs.List.{list_all}
use Rattle.std.proofs.lemmas.Bool.{false≢true, true≢false}
use Rattle.ip_core.specs.Decimals.{Number, IsDecimal}
use Rattle.mps_read.specs.Names.{is_among, place_among, with_item}
use Rattle.mps_lines.specs.Lines.{is_visible}
use Rattle.mps_read.specs.Numerals.{decimal_of}
use Rattle.mps_lines.specs.Forms.{Form, Pair, Blank, Spoilt, Head, UnknownHead, Stray, Miscounted, SenseLine, FreeRow, KeptRow, UntypedRow, Marker, UnknownMarker, Entries, Values, BoundLine, UntypedBound}
use Rattle.mps_read.specs.Sets.{is_used, first_name}
use Rattle.mps_model.specs.Prints.{fresh_row}
use Rattle.mps_read.specs.DraftRows.{fresh_state, free_place, state_at, is_tested, place_of_pair}
use Rattle.mps_read.specs.DraftKinds.{draft_kind, values_use, has_mark, is_repeated_in}
use Rattle.mps_read.specs.Kinds.{rank_of}
use Rattle.mps_read.specs.Drafts.{IsDraft}
use Rattle.mps_read.specs.Steps.{after, after_head, after_bound, after_column, after_entry_pair, after_value, after_value_pair, with_values_set}
use Rattle.mps_model.specs.MpsModels.{IsRowName}
use Rattle.mps_model.specs.declared.model.RowKind.{RowKind}
use Rattle.mps_lines.specs.declared.section.Section.{Section}
use Rattle.mps_lines.specs.declared.section.Section.TheVariants.{Name, Objsense, Rows, Columns, Rhs, Ranges, Bounds, Endata}
use Rattle.mps_lines.specs.declared.section.ValueKind.{ValueKind}
use Rattle.mps_lines.specs.declared.section.ValueKind.TheVariants.{Side, Range}
use Rattle.mps_lines.specs.declared.section.BoundKind.{BoundKind}
use Rattle.mps_read.specs.declared.draft.Draft.{Draft}
use Rattle.mps_read.specs.declared.draft.RowPlace.{RowPlace}
use Rattle.mps_read.specs.declared.draft.RowPlace.TheVariants.{Kept}
use Rattle.mps_lines.proofs.Truths.{or_false}
use Rattle.mps_read.proofs.ModelFields.{HasWords, name_is, field_is, row_name_is}
use Rattle.mps_read.proofs.ModelDrafts.{IsHeader, AreReadable, IsReadable}
use Rattle.mps_read.proofs.ModelRows.{given_objective, given_some, free_rows, more_rows, placed_below, free_single, kept_single, free_marked, kept_marked, more_columns, constant_kept, value_rows, value_single, value_marked}
use Rattle.mps_read.proofs.ModelColumns.{decimal_of_is, bound_columns, bound_marked, begun_kept, entered_readable, still_unmarked}
use Rattle.mps_read.proofs.ModelAllowed.{free_allowed, row_allowed, entries_allowed, name_allowed, columns_allowed, rhs_allowed, ranges_allowed, bounds_allowed, end_allowed}

-- each allowed line keeps what holds of a draft

-- section lines

with_header-readable : (d : Draft) (section : Option Section) (title : List ℕ) → IsReadable d → IsHeader section title d.objective
    → AreReadable section title d.objective d.constant d.rows d.row_names d.row_states d.kept d.cols d.column_names d.marks
with_header-readable d section title is header = record { header = header; constant_is = is.constant_is; rows_are = is.rows_are; single = is.single; columns = is.columns; marks_are = is.marks_are }

with_section-readable : (d : Draft) (section : Section) → IsReadable d → (nat_le 4 (rank_of (Some section)) ≡ true → is_some d.objective ≡ true)
    → AreReadable (Some section) d.name d.objective d.constant d.rows d.row_names d.row_states d.kept d.cols d.column_names d.marks
with_section-readable d section is has_objective = with_header-readable d (Some section) d.name is (record { name = is.header.name; row_name = is.header.row_name; has_objective = has_objective })

head_readable : (d : Draft) (section : Section) (word : List ℕ) → IsReadable d → list_all is_visible word ≡ true → draft_kind d (Head section word) ≡ None → IsReadable (after_head d section word)
head_readable d Name word is visible a = with_header-readable d (Some Name) word is (record { name = name_is word visible (name_allowed d word a); row_name = is.header.row_name; has_objective = λ h. absurd (false≢true h) })
head_readable d Objsense word is visible a = with_section-readable d Objsense is (λ h. absurd (false≢true h))
head_readable d Rows word is visible a = with_section-readable d Rows is (λ h. absurd (false≢true h))
head_readable d Columns word is visible a = with_section-readable d Columns is (λ h. columns_allowed d word a)
head_readable d Rhs word is visible a = with_section-readable d Rhs is (λ h. is.header.has_objective (rhs_allowed d word a))
head_readable d Ranges word is visible a = with_section-readable d Ranges is (λ h. is.header.has_objective (ranges_allowed d word a))
head_readable d Bounds word is visible a = with_section-readable d Bounds is (λ h. is.header.has_objective (bounds_allowed d word a))
head_readable d Endata word is visible a = with_section-readable d Endata is (λ h. is.header.has_objective (end_allowed d word a))

-- rows

free_by : (b : Bool) (d : Draft) (name : List ℕ) → b ≡ false → is_among name d.row_names ≡ b → IsReadable d → IsRowName name
    → AreReadable d.section d.name (first_name d.objective name) d.constant d.rows (if b then d.row_names else d.row_names ++ name ∷ []) (with_item b (fresh_state (free_place d.objective)) d.row_states) d.kept d.cols d.column_names d.marks
free_by true d name other new is row_name = absurd (true≢false other)
free_by false d name other new is row_name = record {
  header = record { name = is.header.name; row_name = given_objective d.objective name is.header.row_name row_name; has_objective = λ h. given_some d.objective name };
  constant_is = is.constant_is;
  rows_are = free_rows d.objective d.rows d.row_names name is.rows_are new;
  single = free_single d.row_states d.objective is.single;
  columns = is.columns;
  marks_are = free_marked d.row_states d.cols d.marks d.objective is.marks_are;
}

row_by : (b : Bool) (d : Draft) (kind : RowKind) (name : List ℕ) → b ≡ false → is_among name d.row_names ≡ b → IsDraft d → IsReadable d → IsRowName name
    → AreReadable d.section d.name d.objective d.constant (with_item b (fresh_row kind name) d.rows) (if b then d.row_names else d.row_names ++ name ∷ []) (with_item b (fresh_state (Kept d.kept)) d.row_states) (if b then d.kept else d.kept + 1) d.cols d.column_names d.marks
row_by true d kind name other new draft is row_name = absurd (true≢false other)
row_by false d kind name other new draft is row_name = record {
  header = is.header;
  constant_is = is.constant_is;
  rows_are = more_rows d.objective d.rows d.row_names kind name is.rows_are new row_name;
  single = kept_single d.row_states d.kept is.single draft.places;
  columns = more_columns d.kept d.cols d.column_names is.columns;
  marks_are = kept_marked d.row_states d.cols d.column_names d.marks d.kept is.marks_are is.columns;
}

-- entries

entry_readable : (d e : Draft) (col : ℕ) (pair : Pair) → IsDraft d → IsReadable e → e.row_states ≡ d.row_states → e.kept ≡ d.kept
    → (is_tested (place_of_pair d.row_names d.row_states pair) ≡ true → has_mark (place_among pair.row d.row_names) col e.marks ≡ false) → IsReadable (after_entry_pair d col pair e)
entry_readable d e col pair draft is states kept unmarked =
    let row : ℕ = place_among pair.row d.row_names in
    let place : RowPlace = place_of_pair d.row_names d.row_states pair in
    entered_readable e row place col (decimal_of pair.numeral) is (decimal_of_is pair.numeral)
    (λ k at. subst (λ (n : ℕ). k < n) (sym kept) (placed_below d.kept k place (draft.places row) at))
    (ap (λ ss. (state_at ss row).place) states) unmarked

entries_readable : (d : Draft) (column : List ℕ) (first : Pair) (second : Option Pair) → IsDraft d → IsReadable (after_column d column) → is_repeated_in d (Entries column first second) ≡ false → IsReadable (after d (Entries column first second))
entries_readable d column first None draft is none =
    entry_readable d (after_column d column) (place_among column d.column_names) first draft is refl refl (λ tested. none)
entries_readable d column first (Some second) draft is none =
    let col : ℕ = place_among column d.column_names in
    let row : ℕ = place_among first.row d.row_names in
    let row2 : ℕ = place_among second.row d.row_names in
    let place : RowPlace = place_of_pair d.row_names d.row_states first in
    let p = or_false (has_mark row col d.marks || has_mark row2 col d.marks) (row == row2 && is_tested place) none in
    let q = or_false (has_mark row col d.marks) (has_mark row2 col d.marks) p.0 in
    entry_readable d (after_entry_pair d col first (after_column d column)) col second draft
    (entry_readable d (after_column d column) col first draft is refl refl (λ tested. q.0)) refl refl
    (λ tested. still_unmarked place row row2 col d.marks q.1 p.1)

-- values and bounds

either : (b : Bool) (d e : Draft) → IsReadable d → IsReadable e → IsReadable (if b then d else e)
either true d e first second = first
either false d e first second = second

given_readable : (d : Draft) (kind : ValueKind) (row : ℕ) (place : RowPlace) (value : Number) → IsDecimal value → IsReadable d → IsReadable (after_value kind row place value d)
given_readable d kind row place value v is = record {
  header = is.header;
  constant_is = constant_kept kind place value d.constant v is.constant_is;
  rows_are = value_rows kind place value d.objective d.rows d.row_names v is.rows_are;
  single = value_single kind row d.row_states is.single;
  columns = is.columns;
  marks_are = value_marked kind row d.row_states d.cols d.marks is.marks_are;
}

given_pair_readable : (from d : Draft) (kind : ValueKind) (pair : Pair) → IsReadable d → IsReadable (after_value_pair from kind pair d)
given_pair_readable from d kind pair is =
    given_readable d kind (place_among pair.row from.row_names) (place_of_pair from.row_names from.row_states pair) (decimal_of pair.numeral) (decimal_of_is pair.numeral) is

set_readable : (d : Draft) (kind : ValueKind) (set : List ℕ) → IsReadable d → IsReadable (with_values_set kind set d)
set_readable d Side set is = is
set_readable d Range set is = is

values_readable : (d : Draft) (kind : ValueKind) (set : List ℕ) (first : Pair) (second : Option Pair) → IsReadable d → IsReadable (after d (Values kind set first second))
values_readable d kind set first None is =
    either (is_used (values_use kind d).set set) (with_values_set kind set (after_value_pair d kind first d)) d
    (set_readable (after_value_pair d kind first d) kind set (given_pair_readable d d kind first is)) is
values_readable d kind set first (Some second) is =
    either (is_used (values_use kind d).set set) (with_values_set kind set (after_value_pair d kind second (after_value_pair d kind first d))) d
    (set_readable (after_value_pair d kind second (after_value_pair d kind first d)) kind set
    (given_pair_readable d (after_value_pair d kind first d) kind second (given_pair_readable d d kind first is))) is

bound_readable : (d : Draft) (kind : BoundKind) (set column : List ℕ) (value : Number) → IsDecimal value → IsReadable d → IsReadable (after_bound d kind set column value)
bound_readable d kind set column value v is = record {
  header = is.header;
  constant_is = is.constant_is;
  rows_are = is.rows_are;
  single = is.single;
  columns = bound_columns kind value (place_among column d.column_names) d.kept d.cols d.column_names v is.columns;
  marks_are = bound_marked kind value (place_among column d.column_names) d.row_states d.cols d.marks is.marks_are;
}

-- every line

pub after_readable : (d : Draft) (f : Form) → IsDraft d → IsReadable d → HasWords f → draft_kind d f ≡ None → IsReadable (after d f)
after_readable d Blank draft is words a = is
after_readable d Spoilt draft is words a = is
after_readable d (Head section word) draft is words a = head_readable d section word is words a
after_readable d UnknownHead draft is words a = is
after_readable d Stray draft is words a = is
after_readable d Miscounted draft is words a = is
after_readable d (SenseLine word) draft is words a = is
after_readable d (FreeRow name) draft is words a =
    let new = free_allowed d name a in
    free_by (is_among name d.row_names) d name new.0 refl is (row_name_is name words new.2 new.1)
after_readable d (KeptRow kind name) draft is words a =
    let new = row_allowed d kind name a in
    row_by (is_among name d.row_names) d kind name new.0 refl draft is (row_name_is name words new.2 new.1)
after_readable d UntypedRow draft is words a = is
after_readable d (Marker is_integer) draft is words a = is
after_readable d UnknownMarker draft is words a = is
after_readable d (Entries column first second) draft is words a =
    let new = entries_allowed d column first second a in
    entries_readable d column first second draft (begun_kept d column is (field_is column words new.1)) new.0
after_readable d (Values kind set first second) draft is words a = values_readable d kind set first second is
after_readable d (BoundLine kind set column numeral) draft is words a =
    either (is_used d.bounds.set set) (after_bound d kind set column (decimal_of numeral)) d (bound_readable d kind set column (decimal_of numeral) (decimal_of_is numeral) is) is
after_readable d UntypedBound draft is words a = is
