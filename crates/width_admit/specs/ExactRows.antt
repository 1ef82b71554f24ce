-- The rows of a file over exact numbers, and the rows of at least in whole numbers that they become.
use Rattle.std.specs.Prelude.{ℕ, ◌+◌, ◌==◌, if◌then◌else◌, Bool, nat_lt, List, [], ◌∷◌, ◌++◌, map, ℤ, neg_ℤ, Option, Some, None, option_to_list}
use Rattle.std.specs.List.{list_any}
use Rattle.ip_core.specs.Sides.{Sides}
use Rattle.ip_core.specs.Rows.{row_width}
use Rattle.ip_core.specs.declared.row.Row.{Row}
use Rattle.ip_core.specs.declared.row.Term.{Term}
use Rattle.ip_core.specs.declared.limits.TheConstants.{MAX_WIDTH, MAX_DECIMALS}
use Rattle.mps_model.specs.declared.model.MpsEntry.{MpsEntry}
use Rattle.mps_model.specs.declared.model.MpsCol.{MpsCol}
use Rattle.mps_model.specs.declared.model.MpsRow.{MpsRow}
use Rattle.width_admit.specs.Exact.{units, whole, exponent_of}
use Rattle.width_admit.specs.declared.sides.RowSides.{RowSides}
use Rattle.width_admit.specs.Sides.{exact_sides}

-- a row of a file: terms with coefficients in units, and sides in units
pub record ExactRow : Type 0 where
  pub terms : List Term
  pub sides : RowSides

-- the terms that column j has in row i
abbrev pub entry_terms : ℕ → ℕ → List MpsEntry → List Term
entry_terms i j [] = []
entry_terms i j (e ∷ es) =
    if e.row == i
    then record { col = j; coef = units e.value } ∷ entry_terms i j es
    else entry_terms i j es

-- the terms of row i in columns from j on, in rising column order
abbrev pub exact_terms : ℕ → ℕ → List MpsCol → List Term
exact_terms i j [] = []
exact_terms i j (c ∷ cs) = entry_terms i j c.entries ++ exact_terms i (j + 1) cs

-- row i of a file with these columns
abbrev pub exact_row : List MpsCol → ℕ → MpsRow → ExactRow
exact_row cols i row = record { terms = exact_terms i 0 cols; sides = exact_sides row }

-- the least exponent of a power of ten that makes the coefficients and sides of a row whole
abbrev pub row_exponent : ExactRow → ℕ
row_exponent r =
    exponent_of (map (λ t. t.coef) r.terms
    ++ option_to_list r.sides.lower ++ option_to_list r.sides.upper)

-- a term in whole numbers, once it is multiplied by 10^k
abbrev pub whole_term : ℕ → Term → Term
whole_term k t = record { col = t.col; coef = whole k t.coef }

-- the same of terms
abbrev pub whole_terms : ℕ → List Term → List Term
whole_terms k terms = map (whole_term k) terms

-- a term under the other sign
abbrev pub negated_term : Term → Term
negated_term t = record { col = t.col; coef = neg_ℤ t.coef }

-- the same of terms
abbrev pub negated_terms : List Term → List Term
negated_terms terms = map negated_term terms

-- a lower side gives the row as it stands
abbrev pub lower_rows : List Term → Option ℤ → List Row
lower_rows terms None = []
lower_rows terms (Some b) = record { terms = terms; least = b } ∷ []

-- an upper side gives the negated row
abbrev pub upper_rows : List Term → Option ℤ → List Row
upper_rows terms None = []
upper_rows terms (Some b) = record { terms = negated_terms terms; least = neg_ℤ b } ∷ []

-- a side in whole numbers, once it is multiplied by 10^k
abbrev pub whole_side : ℕ → Option ℤ → Option ℤ
whole_side k None = None
whole_side k (Some b) = Some (whole k b)

-- the rows of at least of terms and sides, the lower side first
abbrev pub rows_of : List Term → RowSides → List Row
rows_of terms sides = lower_rows terms sides.lower ++ upper_rows terms sides.upper

-- the rows of at least that a row becomes once it is multiplied by 10^k
abbrev pub whole_rows : ℕ → ExactRow → List Row
whole_rows k r =
    rows_of (whole_terms k r.terms)
    (record { lower = whole_side k r.sides.lower; upper = whole_side k r.sides.upper })

-- the rows of at least that a row becomes
abbrev pub admitted_rows : ExactRow → List Row
admitted_rows r = whole_rows (row_exponent r) r

-- the rows of at least of a file's rows from row i on
abbrev pub rows_from : List MpsCol → ℕ → List MpsRow → List Row
rows_from cols i [] = []
rows_from cols i (row ∷ rows) =
    admitted_rows (exact_row cols i row) ++ rows_from cols (i + 1) rows

-- the row has more than 9 decimals
abbrev pub is_too_fine : ExactRow → Bool
is_too_fine r = nat_lt MAX_DECIMALS (row_exponent r)

-- the width of one of its rows of at least is above 2^50
abbrev pub is_too_wide : Sides → ExactRow → Bool
is_too_wide box r = list_any (λ row. nat_lt MAX_WIDTH (row_width box row)) (admitted_rows r)
