-- What the reader keeps of columns, by the numbers of their names.
use Rattle.std.specs.Prelude.{ℕ, Bool, true, false, List, [], ◌∷◌, ◌++◌, slice_set, slice_index_or, if◌then◌else◌}
use Rattle.ip_core.specs.Decimals.{Number}
use Rattle.mps_model.specs.Numbers.{zero_decimal, is_zero}
use Rattle.mps_model.specs.declared.model.Limit.TheVariants.{Unset, Free, At}
use Rattle.mps_model.specs.declared.model.MpsCol.{MpsCol}
use Rattle.mps_read.specs.Numerals.{one_decimal}
use Rattle.mps_read.specs.Columns.{low_limit, high_limit}
use Rattle.mps_lines.specs.declared.section.BoundKind.{BoundKind}
use Rattle.mps_lines.specs.declared.section.BoundKind.TheVariants.{Lower, Upper, Fixed, IntegerLower, IntegerUpper, Free as NoSides, NoLower, NoUpper, Binary}
use Rattle.mps_read.specs.declared.draft.RowPlace.{RowPlace}
use Rattle.mps_read.specs.declared.draft.RowPlace.TheVariants.{Objective, Dropped, Kept}
use Rattle.mps_read.specs.declared.draft.Mark.{Mark}

-- a column without entries and bounds
abbrev pub fresh_column : Bool → List ℕ → MpsCol
fresh_column is_integer name =
    record {
      name = name;
      integer = is_integer;
      cost = zero_decimal;
      entries = [];
      low =
          Unset;
      high = Unset;
    }

-- the column of a number
abbrev pub column_at : List MpsCol → ℕ → MpsCol
column_at cols col = slice_index_or cols col (fresh_column false [])

-- a column with one more entry
abbrev pub with_entry : ℕ → Number → MpsCol → MpsCol
with_entry row value c = record c {
  entries =
      c.entries ++ record { row = row; value = value } ∷ [];
}

-- the columns with a coefficient of one of them in what a row's name stands for; zeros are dropped
abbrev pub with_coefficient : RowPlace → Number → ℕ → List MpsCol → List MpsCol
with_coefficient Objective value col cols =
    slice_set cols col (record (column_at cols col) { cost = value })
with_coefficient Dropped value col cols = cols
with_coefficient (Kept row) value col cols =
    if is_zero value then cols else slice_set cols col (with_entry row value (column_at cols col))

-- a column after one bound
abbrev pub bounded_column : BoundKind → Number → MpsCol → MpsCol
bounded_column Lower value c = record c { low = low_limit value }
bounded_column Upper value c = record c { high = high_limit value }
bounded_column Fixed value c = record c { low = low_limit value; high = high_limit value }
bounded_column IntegerLower value c = record c { integer = true; low = low_limit value }
bounded_column IntegerUpper value c = record c { integer = true; high = high_limit value }
bounded_column NoSides value c = record c { low = Free; high = Free }
bounded_column NoLower value c = record c { low = Free }
bounded_column NoUpper value c = record c { high = Free }
bounded_column Binary value c = record c
    { integer = true; low = At zero_decimal; high = At one_decimal }

-- the columns with one of them bounded
abbrev pub with_bound : BoundKind → Number → ℕ → List MpsCol → List MpsCol
with_bound kind value col cols = slice_set cols col (bounded_column kind value (column_at cols col))

-- Entries, zeros too, by the numbers of their rows' names and their columns.

-- with an entry of a row in a column, unless the row is dropped
abbrev pub with_mark : RowPlace → ℕ → ℕ → List Mark → List Mark
with_mark Objective row col marks = marks ++ record { row = row; col = col } ∷ []
with_mark Dropped row col marks = marks
with_mark (Kept number) row col marks = marks ++ record { row = row; col = col } ∷ []

-- For each row's name the number of columns when it was last marked, or 0.

-- with the number of columns at a row that is marked, unless the row is dropped
abbrev pub with_latest : RowPlace → ℕ → ℕ → List ℕ → List ℕ
with_latest Objective row count latest = slice_set latest row count
with_latest Dropped row count latest = latest
with_latest (Kept number) row count latest = slice_set latest row count
