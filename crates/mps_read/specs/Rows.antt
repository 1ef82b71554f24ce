-- What the lines so far say of rows. They stand newest first.
use Rattle.std.specs.Prelude.{ℕ, Bool, false, ◌||◌, List, [], ◌∷◌, ◌++◌, map, Option, Some, None}
use Rattle.std.specs.Str.{bytes_eq}
use Rattle.ip_core.specs.Decimals.{Number, negation}
use Rattle.mps_model.specs.Numbers.{zero_decimal}
use Rattle.mps_model.specs.declared.model.RowKind.{RowKind}
use Rattle.mps_model.specs.declared.model.MpsRow.{MpsRow}
use Rattle.mps_read.specs.Names.{is_among, with_name}
use Rattle.mps_lines.specs.Forms.{Form, Pair, FreeRow, KeptRow}
use Rattle.mps_read.specs.Sets.{first_name, pairs_in, number_of, number_or_zero}
use Rattle.mps_lines.specs.declared.section.ValueKind.TheVariants.{Side, Range}

-- the names of all rows, with those of the objective and of dropped rows
abbrev pub row_names_of : List Form → List (List ℕ)
row_names_of [] = []
row_names_of (FreeRow name ∷ before) = with_name name (row_names_of before)
row_names_of (KeptRow kind name ∷ before) = with_name name (row_names_of before)
row_names_of (_ ∷ before) = row_names_of before

-- the objective is the first of the rows without right-hand side, and the others are dropped
abbrev pub objective_of : List Form → Option (List ℕ)
objective_of [] = None
objective_of (FreeRow name ∷ before) = first_name (objective_of before) name
objective_of (_ ∷ before) = objective_of before

-- a line with a row of the model
pub record RowLine : Type 0 where
  pub kind : RowKind
  pub name : List ℕ

-- the rows of the model in order
abbrev pub kept_rows_of : List Form → List RowLine
kept_rows_of [] = []
kept_rows_of (KeptRow kind name ∷ before) =
    kept_rows_of before ++ record { kind = kind; name = name } ∷ []
kept_rows_of (_ ∷ before) = kept_rows_of before

-- their names
abbrev pub kept_names_of : List Form → List (List ℕ)
kept_names_of before = map (λ line. line.name) (kept_rows_of before)

-- whether a row is the objective
abbrev pub is_objective : Option (List ℕ) → List ℕ → Bool
is_objective None row = false
is_objective (Some objective) row = bytes_eq row objective

-- a row has at most one number in a column or a set, unless it is dropped
abbrev pub is_single : Option (List ℕ) → List (List ℕ) → List ℕ → Bool
is_single objective kept row = is_objective objective row || is_among row kept

-- the objective's number among some pairs, or 0
abbrev pub objective_number : Option (List ℕ) → List Pair → Number
objective_number None pairs = zero_decimal
objective_number (Some objective) pairs = number_or_zero (number_of objective pairs)

-- a row: its right-hand side is that of the pair that names it, or 0, and so is its range, or none
abbrev pub row_of : List Pair → List Pair → RowLine → MpsRow
row_of sides ranges line = record {
  name = line.name;
  kind = line.kind;
  rhs = number_or_zero (number_of line.name sides);
  range = number_of line.name ranges;
}

-- the rows of the model, with the values of the used sets
abbrev pub rows_of : List Form → List MpsRow
rows_of before = map (row_of (pairs_in Side before) (pairs_in Range before)) (kept_rows_of before)

-- the constant is the objective's right-hand side negated
abbrev pub constant_of : List Form → Number
constant_of before = negation (objective_number (objective_of before) (pairs_in Side before))
