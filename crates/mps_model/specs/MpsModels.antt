-- What holds of the model of every file.
use Rattle.std.specs.Prelude.{ℕ, ◌≡◌, ◌≢◌, ◌<◌, false, List, [], ◌∷◌, length, map, slice_index_or, Option, Some, None, codes, All}
use Rattle.ip_core.specs.Names.{IsName}
use Rattle.ip_core.specs.Decimals.{Number, IsDecimal, negation}
use Rattle.mps_model.specs.Numbers.{is_zero, is_infinite}
use Rattle.mps_model.specs.declared.model.Limit.{Limit}
use Rattle.mps_model.specs.declared.model.Limit.TheVariants.{Unset, Free, At}
use Rattle.mps_model.specs.declared.model.MpsRow.{MpsRow}
use Rattle.mps_model.specs.declared.model.MpsEntry.{MpsEntry}
use Rattle.mps_model.specs.declared.model.MpsCol.{MpsCol}
use Rattle.mps_model.specs.declared.model.MpsModel.{MpsModel}

-- a name that is a field of a line
pub record IsFieldName (name : List ℕ) : Type 0 where
  pub is_name : IsName name
  pub nonempty : name ≢ []

-- a row's name, which isn't the word of markers
pub record IsRowName (name : List ℕ) : Type 0 where
  pub field : IsFieldName name
  pub not_marker : name ≢ codes "'MARKER'"

-- no two places of a list hold the same
pub record AreDistinct {A : Type 0} (items : List A) (default : A) : Type 0 where
  pub each : (i j : ℕ) → i < length items → j < length items →
      slice_index_or items i default ≡ slice_index_or items j default → i ≡ j

abbrev pub IsRange : Option Number → Type 0
IsRange None = Unit {0}
IsRange (Some range) = IsDecimal range

-- a low that a line gave is above -10^20
abbrev pub IsLow : Limit → Type 0
IsLow Unset = Unit {0}
IsLow Free = Unit {0}
IsLow (At value) = IsDecimal value × (is_infinite (negation value) ≡ false)

-- a high that a line gave is below 10^20
abbrev pub IsHigh : Limit → Type 0
IsHigh Unset = Unit {0}
IsHigh Free = Unit {0}
IsHigh (At value) = IsDecimal value × (is_infinite value ≡ false)

pub record IsMpsRow (row : MpsRow) : Type 0 where
  pub name : IsRowName row.name
  pub side : IsDecimal row.rhs
  pub range : IsRange row.range

-- an entry of one of n rows that isn't zero
pub record IsMpsEntry (n : ℕ) (entry : MpsEntry) : Type 0 where
  pub known : entry.row < n
  pub decimal : IsDecimal entry.value
  pub nonzero : is_zero entry.value ≡ false

-- a column of a model of n rows, with at most one entry in each
pub record IsMpsCol (n : ℕ) (col : MpsCol) : Type 0 where
  pub name : IsFieldName col.name
  pub cost : IsDecimal col.cost
  pub entries : All (IsMpsEntry n) col.entries
  pub once : AreDistinct (map (λ e. e.row) col.entries) 0
  pub low : IsLow col.low
  pub high : IsHigh col.high

-- a model that a file can have: names tell rows apart, the objective's among them, and columns
pub record IsMpsModel (m : MpsModel) : Type 0 where
  pub name : IsName m.name
  pub objective : IsRowName m.objective
  pub constant : IsDecimal m.constant
  pub rows : All IsMpsRow m.rows
  pub cols : All (IsMpsCol (length m.rows)) m.cols
  pub row_names : AreDistinct (m.objective ∷ map (λ row. row.name) m.rows) []
  pub column_names : AreDistinct (map (λ col. col.name) m.cols) []
