-- Sample models: knapsack rows over small bounds, drawn from one number.
use Rattle.std.specs.Prelude.{ℕ, ◌+◌, ◌/◌, ◌==◌, true, false, if◌then◌else◌, List, [], ◌∷◌, slice_index_or, None, codes}
use Rattle.ip_core.specs.Decimals.{negation}
use Rattle.mps_model.specs.declared.model.Limit.TheVariants.{Unset, At}
use Rattle.mps_model.specs.declared.model.RowKind.TheVariants.{Less}
use Rattle.mps_model.specs.declared.model.MpsRow.{MpsRow}
use Rattle.mps_model.specs.declared.model.MpsEntry.{MpsEntry}
use Rattle.mps_model.specs.declared.model.MpsCol.{MpsCol}
use Rattle.mps_model.specs.declared.model.MpsModel.{MpsModel}
use Rattle.sample_model.specs.declared.knapsack.Knapsack.{Knapsack}
use Rattle.sample_model.specs.Wholes.{whole_decimal, numbered_name}
use Rattle.sample_model.specs.Knapsacks.{knapsack, greatest_sum}

-- row i, which allows a third of its greatest sum, rounded down
abbrev pub row_of : List ℕ → ℕ → List ℕ → MpsRow
row_of uppers i coefficients = record {
  name = numbered_name 82 i;
  kind = Less;
  rhs = whole_decimal (greatest_sum coefficients uppers / 3);
  range = None;
}

-- the rows of coefficients, from row i on
abbrev pub rows_of : List ℕ → ℕ → List (List ℕ) → List MpsRow
rows_of uppers i [] = []
rows_of uppers i (row ∷ rows) = row_of uppers i row ∷ rows_of uppers (i + 1) rows

-- the entry of a coefficient in row i, or none where it is 0, before the entries of later rows
abbrev pub with_entry : ℕ → ℕ → List MpsEntry → List MpsEntry
with_entry i coefficient later =
    if coefficient == 0 then later
    else record { row = i; value = whole_decimal coefficient } ∷ later

-- the entries that column j has in rows of coefficients, from row i on
abbrev pub entries_of : ℕ → ℕ → List (List ℕ) → List MpsEntry
entries_of j i [] = []
entries_of j i (row ∷ rows) = with_entry i (slice_index_or row j 0) (entries_of j (i + 1) rows)

-- column j over rows of coefficients
abbrev pub col_of : List (List ℕ) → ℕ → ℕ → ℕ → MpsCol
col_of coefficients j upper cost = record {
  name = numbered_name 67 j;
  integer = true;
  cost = negation (whole_decimal cost);
  entries = entries_of j 0 coefficients;
  low = Unset;
  high = At (whole_decimal upper);
}

-- the columns over rows of coefficients, from column j on, by their upper bounds and the sizes of their costs
abbrev pub cols_of : List (List ℕ) → ℕ → List ℕ → List ℕ → List MpsCol
cols_of coefficients j [] costs = []
cols_of coefficients j (upper ∷ uppers) [] = []
cols_of coefficients j (upper ∷ uppers) (cost ∷ costs) =
    col_of coefficients j upper cost ∷ cols_of coefficients (j + 1) uppers costs

-- the model of these numbers
abbrev pub model_of : Knapsack → MpsModel
model_of k = record {
  name = codes "GEN";
  maximise = false;
  objective = codes "OBJ";
  constant = whole_decimal 0;
  rows = rows_of k.uppers 0 k.coefficients;
  cols = cols_of k.coefficients 0 k.uppers k.costs;
}

-- the model of so many rows and columns that is drawn from a state
abbrev pub sample : ℕ → ℕ → ℕ → MpsModel
sample rows cols z = model_of (knapsack rows cols z)

-- the sample model of a number, with 100 rows and 400 columns
unfoldable pub generated_model : ℕ → MpsModel
generated_model number = sample 100 400 number
