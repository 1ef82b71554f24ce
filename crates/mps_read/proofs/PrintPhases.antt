use Rattle.std.proofs.Common.{◌≡◌, ◌≤◌, ◌+◌, ℕ, Bool, true, false, not, ◌&&◌, List, [], ◌∷◌, ◌++◌, length, map, Option, Some, None}
use Rattle.std.specs.List.{list_all}
use Rattle.ip_core.specs.Decimals.{Number}
use Rattle.mps_model.specs.Numbers.{zero_decimal}
use Rattle.mps_read.specs.Drafts.{no_set}
use Rattle.mps_model.specs.Prints.{fresh_row}
use Rattle.mps_read.specs.DraftKinds.{has_mark}
use Rattle.mps_read.specs.Readings.{is_maximise}
use Rattle.mps_model.specs.declared.model.Limit.TheVariants.{Unset}
use Rattle.mps_model.specs.declared.model.MpsRow.{MpsRow}
use Rattle.mps_model.specs.declared.model.MpsCol.{MpsCol}
use Rattle.mps_model.specs.declared.model.MpsModel.{MpsModel}
use Rattle.mps_lines.specs.declared.section.Section.TheVariants.{Rows, Columns}
use Rattle.mps_read.specs.declared.draft.RowPlace.{RowPlace}
use Rattle.mps_read.specs.declared.draft.RowPlace.TheVariants.{Objective, Kept}
use Rattle.mps_read.specs.declared.draft.RowState.{RowState}
use Rattle.mps_read.specs.declared.draft.SetUse.{SetUse}
use Rattle.mps_read.specs.declared.draft.Mark.{Mark}
use Rattle.mps_read.specs.declared.draft.Draft.{Draft}

-- what the reader's draft is after each part of a printed text

abbrev pub names_of : List MpsRow → List (List ℕ)
names_of rows = map (λ row. row.name) rows

abbrev pub column_names : List MpsCol → List (List ℕ)
column_names cols = map (λ col. col.name) cols

-- a row without its values, and without its range
abbrev pub bare_row : MpsRow → MpsRow
bare_row row = fresh_row row.kind row.name

abbrev pub without_range : MpsRow → MpsRow
without_range row = record row { range = None }

-- a column without its bounds
abbrev pub without_bounds : MpsCol → MpsCol
without_bounds col = record col { low = Unset; high = Unset }

abbrev pub place_of : RowState → RowPlace
place_of s = s.place

-- the places of rows from a number on
abbrev pub places_from : ℕ → List MpsRow → List RowPlace
places_from k [] = []
places_from k (row ∷ rows) = Kept k ∷ places_from (k + 1) rows

abbrev pub is_valueless : RowState → Bool
is_valueless s = not s.has_side && not s.has_range

pub record IsHeaderOf (m : MpsModel) (name : List ℕ) (maximise : Option Bool) : Type 0 where
  pub same_name : name ≡ m.name
  pub same_sense : is_maximise maximise ≡ m.maximise

-- no values and no bounds so far
pub record HasNoValues (constant : Number) (rhs ranges bounds : SetUse) : Type 0 where
  pub no_constant : constant ≡ zero_decimal
  pub no_rhs : rhs ≡ no_set
  pub no_ranges : ranges ≡ no_set
  pub no_bounds : bounds ≡ no_set

pub record HasNoColumns (column_names : List (List ℕ)) (cols : List MpsCol) (is_integer : Bool) (marks : List Mark) : Type 0 where
  pub no_column_names : column_names ≡ []
  pub no_cols : cols ≡ []
  pub no_is_integer : is_integer ≡ false
  pub no_marks : marks ≡ []

-- some rows are still to come
pub record InRows (m : MpsModel) (todo : List MpsRow) (d : Draft) : Type 0 where
  pub section : d.section ≡ Some Rows
  pub header : IsHeaderOf m d.name d.maximise
  pub names : d.row_names ++ names_of todo ≡ m.objective ∷ names_of m.rows
  pub places : map place_of d.row_states ++ places_from d.kept todo ≡ Objective ∷ places_from 0 m.rows
  pub valueless : list_all is_valueless d.row_states ≡ true
  pub objective : d.objective ≡ Some m.objective
  pub rows : d.rows ++ map bare_row todo ≡ map bare_row m.rows
  pub columns : HasNoColumns d.column_names d.cols d.is_integer d.marks
  pub values : HasNoValues d.constant d.rhs d.ranges d.bounds

-- all rows are there, without values
pub record AreRead (m : MpsModel) (names : List (List ℕ)) (states : List RowState) (objective : Option (List ℕ)) (rows : List MpsRow) : Type 0 where
  pub all_names : names ≡ m.objective ∷ names_of m.rows
  pub places : map place_of states ≡ Objective ∷ places_from 0 m.rows
  pub valueless : list_all is_valueless states ≡ true
  pub first : objective ≡ Some m.objective
  pub all_rows : rows ≡ map bare_row m.rows

-- some columns are still to come
pub record InColumns (m : MpsModel) (integer : Bool) (todo : List MpsCol) (d : Draft) : Type 0 where
  pub section : d.section ≡ Some Columns
  pub header : IsHeaderOf m d.name d.maximise
  pub rows : AreRead m d.row_names d.row_states d.objective d.rows
  pub values : HasNoValues d.constant d.rhs d.ranges d.bounds
  pub names : d.column_names ++ column_names todo ≡ column_names m.cols
  pub count : length d.cols ≡ length d.column_names
  pub cols : d.cols ++ map without_bounds todo ≡ map without_bounds m.cols
  pub turn : d.is_integer ≡ integer
  pub marks : (row col : ℕ) → length d.column_names ≤ col → has_mark row col d.marks ≡ false
