use Rattle.std.proofs.Common.{◌≡◌, ◌∙◌, ◌<◌, ◌*◌, ◌==◌, ℕ, Bool, true, false, ◌&&◌, ◌||◌, List, [], ◌∷◌, ◌++◌, Result, Ok, Err, slice_set, refl, sym, ap, subst, arith, if◌then◌else◌}
use Rattle.std.proofs.lemmas.Bool.{false≢true}
use Rattle.std.proofs.lemmas.Int.{ints}
use Rattle.std.proofs.lemmas.List.{map-append}
use Rattle.std.proofs.lemmas.List.Elements.{All-nil, All-push}
use Rattle.ip_core.specs.Decimals.{Number, IsDecimal, negation, read_decimal}
use Rattle.ip_core.specs.declared.decimal.NumeralError.{NumeralError}
use Rattle.ip_core.proofs.DecimalReads.{zero_is, read_decimal_is}
use Rattle.mps_read.specs.Names.{is_among, with_item}
use Rattle.mps_model.specs.Numbers.{zero_decimal, is_zero, is_infinite}
use Rattle.mps_read.specs.Numerals.{one_decimal, or_zero, decimal_of}
use Rattle.mps_read.specs.DraftRows.{state_at, is_tested}
use Rattle.mps_read.specs.DraftColumns.{column_at, fresh_column, with_entry, with_mark, bounded_column, with_bound}
use Rattle.mps_read.specs.Columns.{low_limit, high_limit}
use Rattle.mps_read.specs.DraftKinds.{has_mark}
use Rattle.mps_read.specs.Steps.{after_column, after_entry}
use Rattle.mps_model.specs.MpsModels.{IsFieldName, IsMpsEntry, IsLow, IsHigh}
use Rattle.mps_model.specs.declared.model.Limit.{Limit}
use Rattle.mps_model.specs.declared.model.Limit.TheVariants.{Free, At}
use Rattle.mps_model.specs.declared.model.MpsCol.{MpsCol}
use Rattle.mps_model.specs.declared.model.MpsEntry.{MpsEntry}
use Rattle.mps_lines.specs.declared.section.BoundKind.{BoundKind}
use Rattle.mps_lines.specs.declared.section.BoundKind.TheVariants.{Lower, Upper, Fixed, IntegerLower, IntegerUpper, Free as NoSides, NoLower, NoUpper, Binary}
use Rattle.mps_read.specs.declared.draft.Draft.{Draft}
use Rattle.mps_read.specs.declared.draft.Mark.{Mark}
use Rattle.mps_read.specs.declared.draft.RowPlace.{RowPlace}
use Rattle.mps_read.specs.declared.draft.RowPlace.TheVariants.{Objective, Dropped, Kept}
use Rattle.mps_read.specs.declared.draft.RowState.{RowState}
use Rattle.mps_lines.proofs.Truths.{or_false}
use Rattle.mps_read.proofs.Marks.{has_mark-push, same_eq}
use Rattle.mps_read.proofs.ModelLists.{Misses, AreApart, misses_push, apart_push, at_set, at_push, each_set, map_set_same, misses_names}
use Rattle.mps_read.proofs.ModelDrafts.{rows_in, IsColumn, AreColumns, AreSingle, AreMarked, AreReadable, IsReadable}

-- numerals

or_zero_is : (r : Result Number NumeralError) → ((n : Number) → r ≡ Ok n → IsDecimal n) → IsDecimal (or_zero r)
or_zero_is (Ok n) h = h n refl
or_zero_is (Err e) h = zero_is

pub decimal_of_is : (bytes : List ℕ) → IsDecimal (decimal_of bytes)
decimal_of_is bytes = or_zero_is (read_decimal bytes) (read_decimal_is bytes)

no_tenth : (k : ℕ) → 1 ≡ k * 10 → ⊥
no_tenth k same = omega (arith, same)

one_is : IsDecimal one_decimal
one_is = record { reduced = λ k same. absurd (no_tenth k same); zero = λ none. refl; few = omega arith; least = omega (arith, ints); greatest = omega (arith, ints) }

low_by : (b : Bool) (value : Number) → IsDecimal value → is_infinite (negation value) ≡ b → IsLow (if b then Free else At value)
low_by true value v h = tt
low_by false value v h = (v, h)

low_is : (value : Number) → IsDecimal value → IsLow (low_limit value)
low_is value v = low_by (is_infinite (negation value)) value v refl

high_by : (b : Bool) (value : Number) → IsDecimal value → is_infinite value ≡ b → IsHigh (if b then Free else At value)
high_by true value v h = tt
high_by false value v h = (v, h)

high_is : (value : Number) → IsDecimal value → IsHigh (high_limit value)
high_is value v = high_by (is_infinite value) value v refl

-- one column changes

module _ (n : ℕ) (c : MpsCol) (is : IsColumn n c) where
  with_limits : (integer : Bool) (low high : Limit) → IsLow low → IsHigh high → IsColumn n (record c { integer = integer; low = low; high = high })
  with_limits integer low high l h = record { name = is.name; cost = is.cost; entries = is.entries; once = is.once; low = l; high = h }

  pub bounded_is : (kind : BoundKind) (value : Number) → IsDecimal value → IsColumn n (bounded_column kind value c)
  bounded_is Lower value v = with_limits c.integer (low_limit value) c.high (low_is value v) is.high
  bounded_is Upper value v = with_limits c.integer c.low (high_limit value) is.low (high_is value v)
  bounded_is Fixed value v = with_limits c.integer (low_limit value) (high_limit value) (low_is value v) (high_is value v)
  bounded_is IntegerLower value v = with_limits true (low_limit value) c.high (low_is value v) is.high
  bounded_is IntegerUpper value v = with_limits true c.low (high_limit value) is.low (high_is value v)
  bounded_is NoSides value v = with_limits c.integer Free Free tt tt
  bounded_is NoLower value v = with_limits c.integer Free c.high tt is.high
  bounded_is NoUpper value v = with_limits c.integer c.low Free is.low tt
  bounded_is Binary value v = with_limits true (At zero_decimal) (At one_decimal) (zero_is, refl) (one_is, refl)

  pub with_cost-is : (value : Number) → IsDecimal value → IsColumn n (record c { cost = value })
  with_cost-is value v = record { name = is.name; cost = v; entries = is.entries; once = is.once; low = is.low; high = is.high }

  pub entry_is : (k : ℕ) (value : Number) → k < n → IsDecimal value → is_zero value ≡ false → Misses k (rows_in c) → IsColumn n (with_entry k value c)
  entry_is k value known v other new =
      let e : MpsEntry = record { row = k; value = value } in
      record {
        name = is.name;
        cost = is.cost;
        entries = All-push (IsMpsEntry n) c.entries e is.entries (record { known = known; decimal = v; nonzero = other });
        once = subst AreApart (sym (map-append (λ (x : MpsEntry). x.row) c.entries (e ∷ []))) (apart_push (rows_in c) k is.once new);
        low = is.low;
        high = is.high;
      }

bounded_name : (kind : BoundKind) (value : Number) (c : MpsCol) → (bounded_column kind value c).name ≡ c.name
bounded_name Lower value c = refl
bounded_name Upper value c = refl
bounded_name Fixed value c = refl
bounded_name IntegerLower value c = refl
bounded_name IntegerUpper value c = refl
bounded_name NoSides value c = refl
bounded_name NoLower value c = refl
bounded_name NoUpper value c = refl
bounded_name Binary value c = refl

bounded_rows : (kind : BoundKind) (value : Number) (c : MpsCol) → rows_in (bounded_column kind value c) ≡ rows_in c
bounded_rows Lower value c = refl
bounded_rows Upper value c = refl
bounded_rows Fixed value c = refl
bounded_rows IntegerLower value c = refl
bounded_rows IntegerUpper value c = refl
bounded_rows NoSides value c = refl
bounded_rows NoLower value c = refl
bounded_rows NoUpper value c = refl
bounded_rows Binary value c = refl

set_columns : (kept : ℕ) (cols : List MpsCol) (names : List (List ℕ)) (col : ℕ) (c : MpsCol) → AreColumns kept cols names → c.name ≡ (column_at cols col).name → (IsColumn kept (column_at cols col) → IsColumn kept c) → AreColumns kept (slice_set cols col c) names
set_columns kept cols names col c h same more = record {
  each = each_set (IsColumn kept) cols col c (fresh_column false []) h.each more;
  same_names = map_set_same (λ (x : MpsCol). x.name) cols col c (fresh_column false []) same ∙ h.same_names;
  apart = h.apart;
}

set_marked : (states : List RowState) (cols : List MpsCol) (marks : List Mark) (col : ℕ) (c : MpsCol) → AreMarked states cols marks → rows_in c ≡ rows_in (column_at cols col) → AreMarked states (slice_set cols col c) marks
set_marked states cols marks col c h same = record {
  each = λ r k i at none.
      at_set (λ (x : MpsCol). Misses k (rows_in x)) cols col i c (fresh_column false []) (h.each r k i at none)
      (λ e. subst (Misses k) (sym same) (subst (λ (n : ℕ). Misses k (rows_in (column_at cols n))) (sym e) (h.each r k i at none)));
}

-- bounds

pub bound_columns : (kind : BoundKind) (value : Number) (col kept : ℕ) (cols : List MpsCol) (names : List (List ℕ)) → IsDecimal value → AreColumns kept cols names → AreColumns kept (with_bound kind value col cols) names
bound_columns kind value col kept cols names v h =
    set_columns kept cols names col (bounded_column kind value (column_at cols col)) h (bounded_name kind value (column_at cols col)) (λ is. bounded_is kept (column_at cols col) is kind value v)

pub bound_marked : (kind : BoundKind) (value : Number) (col : ℕ) (states : List RowState) (cols : List MpsCol) (marks : List Mark) → AreMarked states cols marks → AreMarked states (with_bound kind value col cols) marks
bound_marked kind value col states cols marks h = set_marked states cols marks col (bounded_column kind value (column_at cols col)) h (bounded_rows kind value (column_at cols col))

-- a column begins

fresh_is : (n : ℕ) (integer : Bool) (column : List ℕ) → IsFieldName column → IsColumn n (fresh_column integer column)
fresh_is n integer column field = record { name = field; cost = zero_is; entries = All-nil (IsMpsEntry n); once = tt; low = tt; high = tt }

begun_columns : (b : Bool) (kept : ℕ) (cols : List MpsCol) (names : List (List ℕ)) (integer : Bool) (column : List ℕ) → is_among column names ≡ b → IsFieldName column → AreColumns kept cols names
    → AreColumns kept (with_item b (fresh_column integer column) cols) (if b then names else names ++ column ∷ [])
begun_columns true kept cols names integer column known field h = h
begun_columns false kept cols names integer column new field h = record {
  each = All-push (IsColumn kept) cols (fresh_column integer column) h.each (fresh_is kept integer column field);
  same_names = map-append (λ (x : MpsCol). x.name) cols (fresh_column integer column ∷ []) ∙ ap (λ ns. ns ++ column ∷ []) h.same_names;
  apart = apart_push names column h.apart (misses_names column names new);
}

begun_marked : (b : Bool) (states : List RowState) (cols : List MpsCol) (marks : List Mark) (integer : Bool) (column : List ℕ) → AreMarked states cols marks → AreMarked states (with_item b (fresh_column integer column) cols) marks
begun_marked true states cols marks integer column h = h
begun_marked false states cols marks integer column h = record {
  each = λ r k i at none. at_push (λ (x : MpsCol). Misses k (rows_in x)) cols i (fresh_column integer column) (fresh_column false []) (h.each r k i at none) tt;
}

pub begun_kept : (d : Draft) (column : List ℕ) → IsReadable d → IsFieldName column → IsReadable (after_column d column)
begun_kept d column is field = record {
  header = is.header;
  constant_is = is.constant_is;
  rows_are = is.rows_are;
  single = is.single;
  columns = begun_columns (is_among column d.column_names) d.kept d.cols d.column_names d.is_integer column refl field is.columns;
  marks_are = begun_marked (is_among column d.column_names) d.row_states d.cols d.marks d.is_integer column is.marks_are;
}

-- an entry

unmarked_before : (row col r c : ℕ) (marks : List Mark) → has_mark r c (marks ++ record { row = row; col = col } ∷ []) ≡ false → (has_mark r c marks ≡ false) × ((row == r && col == c) ≡ false)
unmarked_before row col r c marks none = or_false (has_mark r c marks) (row == r && col == c) (sym (has_mark-push row col r c marks) ∙ none)

more_marks : (states : List RowState) (cols : List MpsCol) (marks : List Mark) (row col : ℕ) → AreMarked states cols marks → AreMarked states cols (marks ++ record { row = row; col = col } ∷ [])
more_marks states cols marks row col h = record { each = λ r k c at none. h.each r k c at (unmarked_before row col r c marks none).0 }

both_same : (a b : ℕ) → (a == a && b == b) ≡ true
both_same a b = rw (same_eq a, same_eq b) refl

not_both : (a b c d : ℕ) → a ≡ b → c ≡ d → (a == b && c == d) ≡ false → ⊥
not_both a b c d e f h = false≢true (sym h ∙ ap (λ n. n == b && c == d) e ∙ ap (λ n. b == b && n == d) f ∙ both_same b d)

entry_marked : (states : List RowState) (cols : List MpsCol) (marks : List Mark) (row k col : ℕ) (value : Number) → AreSingle states → AreMarked states cols marks → (state_at states row).place ≡ Kept k
    → AreMarked states (slice_set cols col (with_entry k value (column_at cols col))) (marks ++ record { row = row; col = col } ∷ [])
entry_marked states cols marks row k col value single h is = record {
  each = λ r other i at none.
      let p = unmarked_before row col r i marks none in
      let old : Misses other (rows_in (column_at cols i)) = h.each r other i at p.0 in
      let e : MpsEntry = record { row = k; value = value } in
      at_set (λ (x : MpsCol). Misses other (rows_in x)) cols col i (with_entry k value (column_at cols col)) (fresh_column false []) old
      (λ here.
      subst (Misses other) (sym (map-append (λ (x : MpsEntry). x.row) (column_at cols col).entries (e ∷ [])))
      (misses_push other k (rows_in (column_at cols col)) (subst (λ (n : ℕ). Misses other (rows_in (column_at cols n))) (sym here) old)
      (λ same. not_both row r col i (single.each row r k is (at ∙ ap Kept same)) here p.1)));
}

kept_entered : (b : Bool) (d : Draft) (row k col : ℕ) (value : Number) → is_zero value ≡ b → IsReadable d → IsDecimal value → k < d.kept → (state_at d.row_states row).place ≡ Kept k → has_mark row col d.marks ≡ false
    → AreReadable d.section d.name d.objective d.constant d.rows d.row_names d.row_states d.kept (if b then d.cols else slice_set d.cols col (with_entry k value (column_at d.cols col))) d.column_names (d.marks ++ record { row = row; col = col } ∷ [])
kept_entered true d row k col value none is v known at unmarked = record {
  header = is.header;
  constant_is = is.constant_is;
  rows_are = is.rows_are;
  single = is.single;
  columns = is.columns;
  marks_are = more_marks d.row_states d.cols d.marks row col is.marks_are;
}
kept_entered false d row k col value some is v known at unmarked = record {
  header = is.header;
  constant_is = is.constant_is;
  rows_are = is.rows_are;
  single = is.single;
  columns = set_columns d.kept d.cols d.column_names col (with_entry k value (column_at d.cols col)) is.columns refl
      (λ c. entry_is d.kept (column_at d.cols col) c k value known v some (is.marks_are.each row k col at unmarked));
  marks_are = entry_marked d.row_states d.cols d.marks row k col value is.single is.marks_are at;
}

pub entered_readable : (d : Draft) (row : ℕ) (place : RowPlace) (col : ℕ) (value : Number) → IsReadable d → IsDecimal value → ((k : ℕ) → place ≡ Kept k → k < d.kept) → (state_at d.row_states row).place ≡ place
    → (is_tested place ≡ true → has_mark row col d.marks ≡ false) → IsReadable (after_entry row place col value d)
entered_readable d row Objective col value is v known at unmarked = record {
  header = is.header;
  constant_is = is.constant_is;
  rows_are = is.rows_are;
  single = is.single;
  columns = set_columns d.kept d.cols d.column_names col (record (column_at d.cols col) { cost = value }) is.columns refl (λ c. with_cost-is d.kept (column_at d.cols col) c value v);
  marks_are = more_marks d.row_states (slice_set d.cols col (record (column_at d.cols col) { cost = value })) d.marks row col (set_marked d.row_states d.cols d.marks col (record (column_at d.cols col) { cost = value }) is.marks_are refl);
}
entered_readable d row Dropped col value is v known at unmarked = is
entered_readable d row (Kept k) col value is v known at unmarked = kept_entered (is_zero value) d row k col value refl is v (known k refl) at (unmarked refl)

first_false : (b : Bool) → (b && true) ≡ false → b ≡ false
first_false true h = h
first_false false h = h

-- a row without a mark has none after an entry of another
pub still_unmarked : (place : RowPlace) (row r col : ℕ) (marks : List Mark) → has_mark r col marks ≡ false → (row == r && is_tested place) ≡ false → has_mark r col (with_mark place row col marks) ≡ false
still_unmarked Objective row r col marks h other = has_mark-push row col r col marks ∙ ap (λ b. b || (row == r && col == col)) h ∙ ap (λ b. b && (col == col)) (first_false (row == r) other)
still_unmarked Dropped row r col marks h other = h
still_unmarked (Kept k) row r col marks h other = has_mark-push row col r col marks ∙ ap (λ b. b || (row == r && col == col)) h ∙ ap (λ b. b && (col == col)) (first_false (row == r) other)
