-- Admission: the model that a file's model becomes, and what refuses it.
use Rattle.std.specs.Prelude.{ℕ, ◌≡◌, ◌+◌, if◌then◌else◌, Bool, ◌||◌, nat_lt, List, [], ◌∷◌, ◌++◌, length, map, ℤ, neg_ℤ, Option, Some, None, option_map}
use Rattle.std.specs.Option.{option_or}
use Rattle.ip_core.specs.Models.{term_count, objective_width}
use Rattle.ip_core.specs.declared.model.ModelParts.{ModelParts}
use Rattle.ip_core.specs.declared.limits.TheConstants.{MAX_COLUMNS, MAX_ROWS, MAX_TERMS, MAX_WIDTH, MAX_DECIMALS}
use Rattle.mps_model.specs.declared.model.MpsModel.{MpsModel}
use Rattle.mps_model.specs.declared.model.MpsCol.{MpsCol}
use Rattle.width_admit.specs.declared.error.AdmitError.{AdmitError}
use Rattle.width_admit.specs.declared.refusal.Refusal.{Refusal}
use Rattle.width_admit.specs.declared.refusal.Refusal.TheVariants.{Continuous, NegativeUpper, Unbounded, BoundTooLarge, TooManyColumns, TooManyRows, TooManyTerms, RowTooFine, RowTooWide, ObjectiveTooWide}
use Rattle.width_admit.specs.Exact.{units, whole, exponent_of}
use Rattle.width_admit.specs.Columns.{root, is_continuous, has_negative_upper, is_unbounded, has_large_bound}
use Rattle.width_admit.specs.KindNumbers.{kind_of, index_of}
use Rattle.width_admit.specs.Refusals.{refusal_of}
use Rattle.width_admit.specs.ExactRows.{exact_row, rows_from, is_too_fine, is_too_wide}

-- the costs of the columns in units
abbrev pub exact_costs : List MpsCol → List ℤ
exact_costs cols = map (λ c. units c.cost) cols

-- the least exponent of a power of ten that makes costs and constant whole
abbrev pub objective_exponent : MpsModel → ℕ
objective_exponent m = exponent_of (exact_costs m.cols ++ units m.constant ∷ [])

-- a number of the objective as it is minimised: negated where the file maximises
abbrev pub minimised_number : Bool → ℤ → ℤ
minimised_number maximise z = if maximise then neg_ℤ z else z

-- the costs in whole numbers, as they are minimised
abbrev pub whole_costs : MpsModel → List ℤ
whole_costs m =
    map (λ c. minimised_number m.maximise (whole (objective_exponent m) (units c.cost))) m.cols

-- the constant in whole numbers, as it is minimised
abbrev pub whole_constant : MpsModel → ℤ
whole_constant m = minimised_number m.maximise (whole (objective_exponent m) (units m.constant))

-- the parts of the model in whole numbers
abbrev pub admitted_model : MpsModel → Option ℕ → ModelParts
admitted_model m upper = record {
  name = m.name;
  cols = map (λ c. c.name) m.cols;
  costs = whole_costs m;
  constant = whole_constant m;
  decimals = objective_exponent m;
  maximise = m.maximise;
  root = root upper m.cols;
  rows = rows_from m.cols 0 m.rows;
}

-- the first place from i on whose item passes
abbrev pub first_from : {A : Type 0} → (ℕ → A → Bool) → ℕ → List A → Option ℕ
first_from test i [] = None
first_from test i (x ∷ xs) = if test i x then Some i else first_from test (i + 1) xs

-- the first column that passes
abbrev pub first_column : (MpsCol → Bool) → MpsModel → Option ℕ
first_column test m = first_from (λ _ c. test c) 0 m.cols

-- the columns are more than the limit
abbrev pub has_many_columns : MpsModel → Bool
has_many_columns m = nat_lt MAX_COLUMNS (length m.cols)

-- the rows of at least are
abbrev pub has_many_rows : MpsModel → Bool
has_many_rows m = nat_lt MAX_ROWS (length (rows_from m.cols 0 m.rows))

-- their terms are
abbrev pub has_many_terms : MpsModel → Bool
has_many_terms m = nat_lt MAX_TERMS (term_count (rows_from m.cols 0 m.rows))

-- the first row that is too fine
abbrev pub first_too_fine : MpsModel → Option ℕ
first_too_fine m = first_from (λ i row. is_too_fine (exact_row m.cols i row)) 0 m.rows

-- the first row that is too wide
abbrev pub first_too_wide : MpsModel → Option ℕ → Option ℕ
first_too_wide m upper =
    first_from (λ i row. is_too_wide (root upper m.cols) (exact_row m.cols i row)) 0 m.rows

-- the objective has more than 9 decimals, or its width is above 2^50
abbrev pub has_wide_objective : MpsModel → Option ℕ → Bool
has_wide_objective m upper =
    nat_lt MAX_DECIMALS (objective_exponent m)
    || nat_lt MAX_WIDTH (objective_width (root upper m.cols) (whole_costs m) (whole_constant m))

-- the refusal where a test passes
abbrev pub refusal_if : Bool → Refusal → Option Refusal
refusal_if test reason = if test then Some reason else None

-- the refusals of columns, least kind first, then the first column
abbrev pub column_refusal : MpsModel → Option ℕ → Option Refusal
column_refusal m upper =
    option_or (option_map Continuous (first_column is_continuous m))
    (option_or (option_map NegativeUpper (first_column has_negative_upper m))
    (option_or (option_map Unbounded (first_column (is_unbounded upper) m))
    (option_map BoundTooLarge (first_column (has_large_bound upper) m))))

-- those of numbers of columns, rows and terms
abbrev pub count_refusal : MpsModel → Option Refusal
count_refusal m =
    option_or (refusal_if (has_many_columns m) TooManyColumns)
    (option_or (refusal_if (has_many_rows m) TooManyRows)
    (refusal_if (has_many_terms m) TooManyTerms))

-- those of rows and of the objective
abbrev pub width_refusal : MpsModel → Option ℕ → Option Refusal
width_refusal m upper =
    option_or (option_map RowTooFine (first_too_fine m))
    (option_or (option_map RowTooWide (first_too_wide m upper))
    (refusal_if (has_wide_objective m upper) ObjectiveTooWide))

-- why a file's model isn't admitted, or None where it is: the least kind that applies, and its first column or row
abbrev pub refusal : MpsModel → Option ℕ → Option Refusal
refusal m upper =
    option_or (column_refusal m upper) (option_or (count_refusal m) (width_refusal m upper))

-- the file's model is admitted as this model
pub record Admits (m : MpsModel) (upper : Option ℕ) (parts : ModelParts) : Type 0 where
  pub unrefused : refusal m upper ≡ None
  pub whole : parts ≡ admitted_model m upper

-- the file's model isn't admitted, for a reason of this number at this column or row
pub record IsNotAdmitted (m : MpsModel) (upper : Option ℕ) (kind index : ℕ) : Type 0 where
  pub reason : Refusal
  pub refused : refusal m upper ≡ Some reason
  pub numbered : kind_of reason ≡ kind
  pub placed : index_of reason ≡ index

-- what a call's error tells of the reason is true; want of memory tells of none, and no clause ties it to a cause
pub record IsCause (m : MpsModel) (upper : Option ℕ) (error : AdmitError) : Type 0 where
  pub refused : (reason : Refusal) → refusal_of error ≡ Some reason → refusal m upper ≡ Some reason
