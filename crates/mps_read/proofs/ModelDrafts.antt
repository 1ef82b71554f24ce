use Rattle.std.proofs.Common.{◌≡◌, ℕ, true, false, nat_le, List, ◌∷◌, map, Option, Some, None, is_some, All}
use Rattle.ip_core.specs.Names.{IsName}
use Rattle.ip_core.specs.Decimals.{Number, IsDecimal}
use Rattle.mps_read.specs.DraftRows.{state_at}
use Rattle.mps_read.specs.DraftColumns.{column_at}
use Rattle.mps_read.specs.DraftKinds.{has_mark}
use Rattle.mps_read.specs.Kinds.{rank_of}
use Rattle.mps_model.specs.MpsModels.{IsFieldName, IsRowName, IsMpsRow, IsMpsEntry, IsLow, IsHigh}
use Rattle.mps_model.specs.declared.model.MpsRow.{MpsRow}
use Rattle.mps_model.specs.declared.model.MpsCol.{MpsCol}
use Rattle.mps_lines.specs.declared.section.Section.{Section}
use Rattle.mps_read.specs.declared.draft.Draft.{Draft}
use Rattle.mps_read.specs.declared.draft.Mark.{Mark}
use Rattle.mps_read.specs.declared.draft.RowPlace.TheVariants.{Kept}
use Rattle.mps_read.specs.declared.draft.RowState.{RowState}
use Rattle.mps_read.proofs.ModelLists.{Misses, AreApart, AreAmong}

-- What holds of each draft besides, so that the model of the last one is one that a file can have.

abbrev pub IsObjective : Option (List ℕ) → Type 0
IsObjective None = Unit {0}
IsObjective (Some name) = IsRowName name

-- an objective, once columns begin
pub record IsHeader (section : Option Section) (title : List ℕ) (objective : Option (List ℕ)) : Type 0 where
  pub name : IsName title
  pub row_name : IsObjective objective
  pub has_objective : nat_le 4 (rank_of section) ≡ true → is_some objective ≡ true

abbrev pub with_objective : Option (List ℕ) → List (List ℕ) → List (List ℕ)
with_objective None names = names
with_objective (Some name) names = name ∷ names

abbrev pub names_of : List MpsRow → List (List ℕ)
names_of rows = map (λ row. row.name) rows

-- rows whose names differ, and the objective's from them
pub record AreRows (objective : Option (List ℕ)) (rows : List MpsRow) (names : List (List ℕ)) : Type 0 where
  pub each : All IsMpsRow rows
  pub apart : AreApart (with_objective objective (names_of rows))
  pub known : AreAmong names (with_objective objective (names_of rows))

-- the numbers of the rows of a column's entries
abbrev pub rows_in : MpsCol → List ℕ
rows_in col = map (λ e. e.row) col.entries

pub record IsColumn (n : ℕ) (col : MpsCol) : Type 0 where
  pub name : IsFieldName col.name
  pub cost : IsDecimal col.cost
  pub entries : All (IsMpsEntry n) col.entries
  pub once : AreApart (rows_in col)
  pub low : IsLow col.low
  pub high : IsHigh col.high

pub record AreColumns (kept : ℕ) (cols : List MpsCol) (names : List (List ℕ)) : Type 0 where
  pub each : All (IsColumn kept) cols
  pub same_names : map (λ col. col.name) cols ≡ names
  pub apart : AreApart names

-- no two names stand for one row
pub record AreSingle (states : List RowState) : Type 0 where
  pub each : (r s k : ℕ) → (state_at states r).place ≡ Kept k → (state_at states s).place ≡ Kept k → r ≡ s

-- a row without a mark in a column has no entry there
pub record AreMarked (states : List RowState) (cols : List MpsCol) (marks : List Mark) : Type 0 where
  pub each : (r k col : ℕ) → (state_at states r).place ≡ Kept k → has_mark r col marks ≡ false → Misses k (rows_in (column_at cols col))

pub record AreReadable (section : Option Section) (title : List ℕ) (objective : Option (List ℕ)) (constant : Number) (rows : List MpsRow) (row_names : List (List ℕ)) (states : List RowState) (kept : ℕ) (cols : List MpsCol) (column_names : List (List ℕ)) (marks : List Mark) : Type 0 where
  pub header : IsHeader section title objective
  pub constant_is : IsDecimal constant
  pub rows_are : AreRows objective rows row_names
  pub single : AreSingle states
  pub columns : AreColumns kept cols column_names
  pub marks_are : AreMarked states cols marks

abbrev pub IsReadable : Draft → Type 0
IsReadable d = AreReadable d.section d.name d.objective d.constant d.rows d.row_names d.row_states d.kept d.cols d.column_names d.marks
