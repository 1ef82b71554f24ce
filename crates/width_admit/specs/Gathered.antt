-- The coefficients of each row, gathered from the columns.
use Rattle.std.specs.Prelude.{ℕ, ◌≡◌, ◌<◌, List, [], ◌++◌, length, map, slice_index_or, All}
use Rattle.ip_core.specs.declared.row.Term.{Term}
use Rattle.mps_model.specs.declared.model.MpsCol.{MpsCol}
use Rattle.mps_model.specs.declared.model.MpsEntry.{MpsEntry}
use Rattle.mps_model.specs.MpsModels.{IsMpsEntry, AreDistinct}
use Rattle.width_admit.specs.declared.gather.Coefficient.{Coefficient}
use Rattle.width_admit.specs.Exact.{units}
use Rattle.mps_model.specs.declared.model.MpsRow.{MpsRow}
use Rattle.width_admit.specs.ExactRows.{ExactRow, exact_terms, entry_terms}
use Rattle.width_admit.specs.Sides.{exact_sides}

-- a coefficient in units
abbrev pub exact_term : Coefficient → Term
exact_term c = record { col = c.col; coef = units c.value }

-- coefficients in units
abbrev pub exact : List Coefficient → List Term
exact terms = map exact_term terms

-- a row of a file by its coefficients
abbrev pub listed_row : List Coefficient → MpsRow → ExactRow
listed_row terms row = record { terms = exact terms; sides = exact_sides row }

-- a column of a model of n rows: its entries aren't zero, and at most one is in each row
pub record IsColumn (n : ℕ) (c : MpsCol) : Type 0 where
  pub entries : All (IsMpsEntry n) c.entries
  pub once : AreDistinct (map (λ e. e.row) c.entries) 0

-- columns of a model of n rows
pub record AreColumns (n : ℕ) (cols : List MpsCol) : Type 0 where
  pub each : All (IsColumn n) cols

-- for each of n rows the list has the row's coefficients in these columns, and those of entries of column j
pub record AreGatheredUpTo
    (n : ℕ) (cols : List MpsCol) (j : ℕ) (entries : List MpsEntry) (lists : List (List Coefficient))
    : Type 0 where
  pub as_many : length lists ≡ n
  pub each :
      (i : ℕ) → i < n
      → exact (slice_index_or lists i []) ≡ exact_terms i 0 cols ++ entry_terms i j entries

-- for each of n rows the list has the row's coefficients in the columns
pub record AreGathered
    (n : ℕ) (cols : List MpsCol) (lists : List (List Coefficient)) : Type 0 where
  pub as_many : length lists ≡ n
  pub each : (i : ℕ) → i < n → exact (slice_index_or lists i []) ≡ exact_terms i 0 cols
