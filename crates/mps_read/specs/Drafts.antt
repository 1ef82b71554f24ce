-- What holds of each draft.
use Rattle.std.specs.Prelude.{ℕ, ◌+◌, ◌≡◌, ◌≤◌, ◌<◌, ◌==◌, false, List, [], None, length, slice_index_or}
use Rattle.mps_model.specs.Numbers.{zero_decimal}
use Rattle.mps_read.specs.DraftKinds.{has_mark}
use Rattle.mps_read.specs.DraftRows.{state_at}
use Rattle.mps_read.specs.declared.draft.Draft.{Draft}
use Rattle.mps_read.specs.declared.draft.SetUse.{SetUse}
use Rattle.mps_read.specs.declared.draft.RowPlace.{RowPlace}
use Rattle.mps_read.specs.declared.draft.RowPlace.TheVariants.{Objective, Dropped, Kept}

-- a section that has not begun
abbrev pub no_set : SetUse
no_set = record { has_begun = false; set = None }

-- the draft before the first line
abbrev pub first_draft : Draft
first_draft = record {
  section = None;
  has_sense_line = false;
  name = [];
  maximise = None;
  row_names = [];
  row_states = [];
  objective = None;
  kept = 0;
  rows = [];
  column_names = [];
  cols = [];
  is_integer = false;
  marks = [];
  latest = [];
  constant = zero_decimal;
  rhs = no_set;
  ranges = no_set;
  bounds = no_set;
}

-- a place names one of the kept rows, if it names a row
abbrev pub IsPlaced : ℕ → RowPlace → Type 0
IsPlaced kept Objective = Unit {0}
IsPlaced kept Dropped = Unit {0}
IsPlaced kept (Kept row) = row < kept

-- the number of columns when a row was last marked, or 0
abbrev pub latest_at : List ℕ → ℕ → ℕ
latest_at latest row = slice_index_or latest row 0

-- one state for each row's name, one column for each column's name, and marks by which the last
-- column's entries can be told from the others
pub record IsDraft (d : Draft) : Type 0 where
  pub states : length d.row_states ≡ length d.row_names
  pub latest : length d.latest ≡ length d.row_names
  pub cols : length d.cols ≡ length d.column_names
  pub rows : length d.rows ≡ d.kept
  pub places : (row : ℕ) → IsPlaced d.kept (state_at d.row_states row).place
  pub last_marks : (row col : ℕ) → length d.column_names ≤ col + 1 →
      has_mark row col d.marks ≡ (latest_at d.latest row == col + 1)
  pub latest_within : (row : ℕ) → latest_at d.latest row ≤ length d.column_names
