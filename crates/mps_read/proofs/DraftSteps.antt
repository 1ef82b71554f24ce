use Rattle.std.proofs.Common.{◌≡◌, ◌∙◌, ℕ, ◌+◌, ◌≤◌, ◌<◌, ◌==◌, Bool, true, false, not, ◌&&◌, List, [], ◌∷◌, ◌++◌, length, Option, Some, None, refl, ap, sym, arith, subst, slice_set, if◌then◌else◌}
use Rattle.std.proofs.lemmas.List.{length-set}
use Rattle.ip_core.specs.Decimals.{Number}
use Rattle.mps_read.specs.Names.{is_among, place_among, with_name}
use Rattle.mps_model.specs.Numbers.{is_zero}
use Rattle.mps_read.specs.Numerals.{decimal_of}
use Rattle.mps_lines.specs.Forms.{Form, Pair, Blank, Spoilt, Head, UnknownHead, Stray, Miscounted, SenseLine, FreeRow, KeptRow, UntypedRow, Marker, UnknownMarker, Entries, Values, BoundLine, UntypedBound}
use Rattle.mps_read.specs.Sets.{is_used, first_name}
use Rattle.mps_model.specs.Prints.{fresh_row}
use Rattle.mps_read.specs.DraftRows.{fresh_state, free_place, state_at, is_tested, with_marked_state, with_value, place_of_pair}
use Rattle.mps_read.specs.DraftColumns.{fresh_column, column_at, with_entry}
use Rattle.mps_read.specs.DraftKinds.{draft_kind, values_use, is_repeated_in}
use Rattle.mps_read.specs.Kinds.{has_bad_numeral, has_unknown_name, is_split_column}
use Rattle.mps_read.specs.Drafts.{first_draft, IsDraft, IsPlaced}
use Rattle.mps_read.specs.declared.error.MpsKind.TheVariants.{Numeral, UnknownName, RepeatedEntry, SplitColumn}
use Rattle.std.proofs.lemmas.Bool.Decides.{nat_tests}
use Rattle.mps_read.proofs.Places.{place_new}
use Rattle.mps_read.specs.Steps.{after, after_head, after_free, after_row, after_column, after_entry, after_entry_pair, after_value, after_value_pair, with_values_set}
use Rattle.mps_model.specs.declared.model.RowKind.{RowKind}
use Rattle.mps_model.specs.declared.model.MpsCol.{MpsCol}
use Rattle.mps_lines.specs.declared.section.Section.{Section}
use Rattle.mps_lines.specs.declared.section.Section.TheVariants.{Name, Objsense, Rows, Columns, Rhs, Ranges, Bounds, Endata}
use Rattle.mps_lines.specs.declared.section.ValueKind.{ValueKind}
use Rattle.mps_lines.specs.declared.section.ValueKind.TheVariants.{Side, Range}
use Rattle.mps_read.specs.declared.draft.Draft.{Draft}
use Rattle.mps_read.specs.declared.draft.RowPlace.{RowPlace}
use Rattle.mps_read.specs.declared.draft.RowPlace.TheVariants.{Objective, Dropped, Kept}
use Rattle.mps_read.specs.declared.draft.SetUse.{SetUse}
use Rattle.mps_lines.proofs.Truths.{by_case}
use Rattle.mps_read.proofs.DraftParts.{draft-with, with_marked_state-place, with_marked_state-length, with_value-length, placed-push, placed-more, latest-push, longer, tested-within}
use Rattle.mps_read.proofs.Marks.{marked-more, latest-below}

-- what holds of a draft holds after one more line

head_kept : (d : Draft) → IsDraft d → (section : Section) (word : List ℕ) → IsDraft (after_head d section word)
head_kept d is Name word = draft-with d is _ _ _ _ _ _ _ _ _ _ _ _ _ refl (λ row. refl) refl refl
head_kept d is Objsense word = draft-with d is _ _ _ _ _ _ _ _ _ _ _ _ _ refl (λ row. refl) refl refl
head_kept d is Rows word = draft-with d is _ _ _ _ _ _ _ _ _ _ _ _ _ refl (λ row. refl) refl refl
head_kept d is Columns word = draft-with d is _ _ _ _ _ _ _ _ _ _ _ _ _ refl (λ row. refl) refl refl
head_kept d is Rhs word = draft-with d is _ _ _ _ _ _ _ _ _ _ _ _ _ refl (λ row. refl) refl refl
head_kept d is Ranges word = draft-with d is _ _ _ _ _ _ _ _ _ _ _ _ _ refl (λ row. refl) refl refl
head_kept d is Bounds word = draft-with d is _ _ _ _ _ _ _ _ _ _ _ _ _ refl (λ row. refl) refl refl
head_kept d is Endata word = draft-with d is _ _ _ _ _ _ _ _ _ _ _ _ _ refl (λ row. refl) refl refl

free_placed : (kept : ℕ) (o : Option (List ℕ)) → IsPlaced kept (free_place o)
free_placed kept None = tt
free_placed kept (Some first) = tt

free_kept : (d : Draft) → IsDraft d → (name : List ℕ) → IsDraft (after_free d name)
free_kept d is name =
    by_case (is_among name d.row_names) _
    (λ known. rw known (draft-with d is _ _ _ _ (first_name d.objective name) _ _ _ _ _ _ _ _ refl (λ row. refl) refl refl))
    (λ new. rw new (record {
      states = longer d.row_states (fresh_state (free_place d.objective)) ∙ ap (λ n. n + 1) is.states ∙ sym (longer d.row_names name);
      latest = longer d.latest 0 ∙ ap (λ n. n + 1) is.latest ∙ sym (longer d.row_names name);
      cols = is.cols;
      rows = is.rows;
      places = placed-push d.kept d.row_states (fresh_state (free_place d.objective)) is.places (free_placed d.kept d.objective);
      last_marks = λ row col large. is.last_marks row col large ∙ ap (λ n. n == col + 1) (sym (latest-push d.latest row));
      latest_within = λ row. subst (λ (n : ℕ). n ≤ length d.column_names) (sym (latest-push d.latest row)) (is.latest_within row);
    }))

row_kept : (d : Draft) → IsDraft d → (kind : RowKind) (name : List ℕ) → IsDraft (after_row d kind name)
row_kept d is kind name =
    by_case (is_among name d.row_names) _
    (λ known. rw known (draft-with d is _ _ _ _ _ _ _ _ _ _ _ _ _ refl (λ row. refl) refl refl))
    (λ new. rw new (record {
      states = longer d.row_states (fresh_state (Kept d.kept)) ∙ ap (λ n. n + 1) is.states ∙ sym (longer d.row_names name);
      latest = longer d.latest 0 ∙ ap (λ n. n + 1) is.latest ∙ sym (longer d.row_names name);
      cols = is.cols;
      rows = longer d.rows (fresh_row kind name) ∙ ap (λ n. n + 1) is.rows;
      places = placed-push (d.kept + 1) d.row_states (fresh_state (Kept d.kept)) (λ row. placed-more d.kept _ (is.places row)) (omega arith);
      last_marks = λ row col large. is.last_marks row col large ∙ ap (λ n. n == col + 1) (sym (latest-push d.latest row));
      latest_within = λ row. subst (λ (n : ℕ). n ≤ length d.column_names) (sym (latest-push d.latest row)) (is.latest_within row);
    }))

begun_kept : (d : Draft) → IsDraft d → (column : List ℕ) → IsDraft (after_column d column)
begun_kept d is column =
    by_case (is_among column d.column_names) _
    (λ known. rw known (draft-with d is _ _ _ _ _ _ _ _ _ _ _ _ _ refl (λ row. refl) refl refl))
    (λ new.
    let more : length (d.column_names ++ column ∷ []) ≡ length d.column_names + 1 = longer d.column_names column in
    rw new (record {
      states = is.states;
      latest = is.latest;
      cols = longer d.cols (fresh_column d.is_integer column) ∙ ap (λ n. n + 1) is.cols ∙ sym more;
      rows = is.rows;
      places = is.places;
      last_marks = λ row col large. is.last_marks row col (omega (arith, large, more));
      latest_within = λ row. omega (arith, is.latest_within row, more);
    }))

set_if-length : {A : Type 0} (b : Bool) (xs : List A) (i : ℕ) (x : A) → length (if b then xs else slice_set xs i x) ≡ length xs
set_if-length true xs i x = refl
set_if-length false xs i x = length-set xs i x

entered_kept : (d : Draft) → IsDraft d → (row : ℕ) (place : RowPlace) (col : ℕ) (value : Number) → col + 1 ≡ length d.column_names → (is_tested place ≡ true → row < length d.row_names) → IsDraft (after_entry row place col value d)
entered_kept d is row Dropped col value last within = draft-with d is _ _ _ _ _ _ _ _ _ _ _ _ _ refl (λ r. refl) refl refl
entered_kept d is row Objective col value last within = record {
  states = is.states;
  latest = length-set d.latest row (col + 1) ∙ is.latest;
  cols = length-set d.cols col _ ∙ is.cols;
  rows = is.rows;
  places = is.places;
  last_marks = marked-more d.latest d.marks row col (length d.column_names) (omega (arith, within refl, is.latest)) last is.last_marks is.latest_within;
  latest_within = λ r. latest-below d.latest row (col + 1) (length d.column_names) r (omega (arith, last)) is.latest_within;
}
entered_kept d is row (Kept k) col value last within = record {
  states = is.states;
  latest = length-set d.latest row (col + 1) ∙ is.latest;
  cols = set_if-length (is_zero value) d.cols col (with_entry k value (column_at d.cols col)) ∙ is.cols;
  rows = is.rows;
  places = is.places;
  last_marks = marked-more d.latest d.marks row col (length d.column_names) (omega (arith, within refl, is.latest)) last is.last_marks is.latest_within;
  latest_within = λ r. latest-below d.latest row (col + 1) (length d.column_names) r (omega (arith, last)) is.latest_within;
}

given_kept : (d : Draft) → IsDraft d → (kind : ValueKind) (row : ℕ) (place : RowPlace) (value : Number) → IsDraft (after_value kind row place value d)
given_kept d is kind row place value =
    draft-with d is _ _ _ _ _ _ _ _ _ _ (with_marked_state kind row d.row_states) (with_value kind place value d.rows) _ (with_marked_state-length kind row d.row_states) (with_marked_state-place kind row d.row_states) (with_value-length kind place value d.rows) refl

set_kept : (d : Draft) → IsDraft d → (kind : ValueKind) (set : List ℕ) → IsDraft (with_values_set kind set d)
set_kept d is Side set = draft-with d is _ _ _ _ _ _ _ _ _ _ _ _ _ refl (λ row. refl) refl refl
set_kept d is Range set = draft-with d is _ _ _ _ _ _ _ _ _ _ _ _ _ refl (λ row. refl) refl refl

bound_kept : (d : Draft) → IsDraft d → (col : ℕ) (c : MpsCol) (bounds : SetUse) → IsDraft (record d { cols = slice_set d.cols col c; bounds = bounds })
bound_kept d is col c bounds = draft-with d is _ _ _ _ _ _ _ _ _ _ _ _ (slice_set d.cols col c) refl (λ row. refl) refl (length-set d.cols col c)

fourth_fails : {A : Type 0} (a b c e : Bool) (x y z w : A) (r : Option A) → (if a then Some x else if b then Some y else if c then Some z else if e then Some w else r) ≡ None → e ≡ false
fourth_fails true b c e x y z w r h = cc
fourth_fails false true c e x y z w r h = cc
fourth_fails false false true e x y z w r h = cc
fourth_fails false false false true x y z w r h = cc
fourth_fails false false false false x y z w r h = refl

equal_by : (known : Bool) (p l : ℕ) → known ≡ true → (known && not (p == l)) ≡ false → p ≡ l
equal_by true p l k h = grind (arith, nat_tests)
equal_by false p l k h = cc

-- a column that is no split one is the last one when its line is taken
last_column : (d : Draft) (column : List ℕ) → (is_among column d.column_names && not (place_among column d.column_names + 1 == length d.column_names)) ≡ false → place_among column d.column_names + 1 ≡ length (with_name column d.column_names)
last_column d column whole =
    by_case (is_among column d.column_names) _
    (λ known.
    let last : place_among column d.column_names + 1 ≡ length d.column_names =
    equal_by (is_among column d.column_names) (place_among column d.column_names + 1) (length d.column_names) known whole in
    rw known last)
    (λ new.
    let place : place_among column d.column_names ≡ length d.column_names = place_new column d.column_names new in
    rw new (ap (λ n. n + 1) place ∙ sym (longer d.column_names column)))

within_names : (d : Draft) → IsDraft d → (row : ℕ) → is_tested (state_at d.row_states row).place ≡ true → row < length d.row_names
within_names d is row tested = omega (arith, tested-within d.row_states row tested, is.states)

entries_kept : (d : Draft) → IsDraft d → (column : List ℕ) (first : Pair) (second : Option Pair) → is_split_column d.column_names (Entries column first second) ≡ false → IsDraft (after d (Entries column first second))
entries_kept d is column first None whole =
    let col : ℕ = place_among column d.column_names in
    let row : ℕ = place_among first.row d.row_names in
    entered_kept (after_column d column) (begun_kept d is column) row (place_of_pair d.row_names d.row_states first) col (decimal_of first.numeral) (last_column d column whole) (within_names d is row)
entries_kept d is column first (Some second) whole =
    let col : ℕ = place_among column d.column_names in
    let row : ℕ = place_among first.row d.row_names in
    let row2 : ℕ = place_among second.row d.row_names in
    entered_kept (after_entry_pair d col first (after_column d column))
    (entered_kept (after_column d column) (begun_kept d is column) row (place_of_pair d.row_names d.row_states first) col (decimal_of first.numeral) (last_column d column whole) (within_names d is row))
    row2 (place_of_pair d.row_names d.row_states second) col (decimal_of second.numeral) (last_column d column whole) (within_names d is row2)

values_kept : (d : Draft) → IsDraft d → (kind : ValueKind) (set : List ℕ) (first : Pair) (second : Option Pair) → IsDraft (after d (Values kind set first second))
values_kept d is kind set first None =
    by_case (is_used (values_use kind d).set set) _
    (λ used. rw used (set_kept (after_value_pair d kind first d) (given_kept d is kind (place_among first.row d.row_names) (place_of_pair d.row_names d.row_states first) (decimal_of first.numeral)) kind set))
    (λ skipped. rw skipped is)
values_kept d is kind set first (Some second) =
    by_case (is_used (values_use kind d).set set) _
    (λ used. rw used (set_kept (after_value_pair d kind second (after_value_pair d kind first d))
    (given_kept (after_value_pair d kind first d)
    (given_kept d is kind (place_among first.row d.row_names) (place_of_pair d.row_names d.row_states first) (decimal_of first.numeral))
    kind (place_among second.row d.row_names) (place_of_pair d.row_names d.row_states second) (decimal_of second.numeral)) kind set))
    (λ skipped. rw skipped is)

-- a line that is taken keeps a draft
pub after_kept : (d : Draft) (f : Form) → IsDraft d → draft_kind d f ≡ None → IsDraft (after d f)
after_kept d Blank is h = is
after_kept d Spoilt is h = is
after_kept d (Head section word) is h = head_kept d is section word
after_kept d UnknownHead is h = is
after_kept d Stray is h = is
after_kept d Miscounted is h = is
after_kept d (SenseLine word) is h = draft-with d is _ _ _ _ _ _ _ _ _ _ _ _ _ refl (λ row. refl) refl refl
after_kept d (FreeRow name) is h = free_kept d is name
after_kept d (KeptRow kind name) is h = row_kept d is kind name
after_kept d UntypedRow is h = is
after_kept d (Marker is_integer) is h = draft-with d is _ _ _ _ _ _ _ _ _ _ _ _ _ refl (λ row. refl) refl refl
after_kept d UnknownMarker is h = is
after_kept d (Entries column first second) is h =
    let f : Form = Entries column first second in
    entries_kept d is column first second
    (fourth_fails (has_bad_numeral f) (has_unknown_name d.row_names d.column_names f) (is_repeated_in d f) (is_split_column d.column_names f) Numeral UnknownName RepeatedEntry SplitColumn _ h)
after_kept d (Values kind set first second) is h = values_kept d is kind set first second
after_kept d (BoundLine kind set column numeral) is h =
    by_case (is_used d.bounds.set set) _
    (λ used. rw used (bound_kept d is (place_among column d.column_names) _ _))
    (λ skipped. rw skipped is)
after_kept d UntypedBound is h = is

-- a line adds at most one row and one column

with_name-few : (name : List ℕ) (names : List (List ℕ)) → length (with_name name names) ≤ length names + 1
with_name-few name names =
    by_case (is_among name names) _ (λ known. rw known (omega arith)) (λ new. rw new (omega (arith, longer names name)))

one_more : (b : Bool) (n : ℕ) → (if b then n else n + 1) ≤ n + 1
one_more true n = omega arith
one_more false n = omega arith

abbrev pub IsFew : Draft → Draft → Type 0
IsFew d e = (e.kept ≤ d.kept + 1) × (length e.column_names ≤ length d.column_names + 1)

same_few : (d : Draft) → IsFew d d
same_few d = (omega arith, omega arith)

head_few : (d : Draft) (section : Section) (word : List ℕ) → IsFew d (after_head d section word)
head_few d Name word = same_few d
head_few d Objsense word = same_few d
head_few d Rows word = same_few d
head_few d Columns word = same_few d
head_few d Rhs word = same_few d
head_few d Ranges word = same_few d
head_few d Bounds word = same_few d
head_few d Endata word = same_few d

values_few : (d : Draft) (kind : ValueKind) (set : List ℕ) (first : Pair) (second : Option Pair) → IsFew d (after d (Values kind set first second))
values_few d Side set first None = by_case (is_used d.rhs.set set) _ (λ used. rw used (same_few d)) (λ skipped. rw skipped (same_few d))
values_few d Side set first (Some second) = by_case (is_used d.rhs.set set) _ (λ used. rw used (same_few d)) (λ skipped. rw skipped (same_few d))
values_few d Range set first None = by_case (is_used d.ranges.set set) _ (λ used. rw used (same_few d)) (λ skipped. rw skipped (same_few d))
values_few d Range set first (Some second) = by_case (is_used d.ranges.set set) _ (λ used. rw used (same_few d)) (λ skipped. rw skipped (same_few d))

pub after_few : (d : Draft) (f : Form) → IsFew d (after d f)
after_few d Blank = same_few d
after_few d Spoilt = same_few d
after_few d (Head section word) = head_few d section word
after_few d UnknownHead = same_few d
after_few d Stray = same_few d
after_few d Miscounted = same_few d
after_few d (SenseLine word) = same_few d
after_few d (FreeRow name) = same_few d
after_few d (KeptRow kind name) = (one_more (is_among name d.row_names) d.kept, omega arith)
after_few d UntypedRow = same_few d
after_few d (Marker is_integer) = same_few d
after_few d UnknownMarker = same_few d
after_few d (Entries column first None) = (omega arith, with_name-few column d.column_names)
after_few d (Entries column first (Some second)) = (omega arith, with_name-few column d.column_names)
after_few d (Values kind set first second) = values_few d kind set first second
after_few d (BoundLine kind set column numeral) = by_case (is_used d.bounds.set set) _ (λ used. rw used (same_few d)) (λ skipped. rw skipped (same_few d))
after_few d UntypedBound = same_few d

not_zero : (n : ℕ) → false ≡ (0 == n + 1)
not_zero n = grind (arith, nat_tests)

-- the draft before the first line
pub first_kept : (d : Draft) → d ≡ first_draft → IsDraft d
first_kept d is = rw is (record {
  states = refl;
  latest = refl;
  cols = refl;
  rows = refl;
  places = λ row. tt;
  last_marks = λ row col large. not_zero col;
  latest_within = λ row. omega arith;
})
