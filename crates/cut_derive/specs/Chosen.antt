-- Chosen columns with their coefficients, as terms.
use Rattle.std.specs.Prelude.{ℕ, Bool, not, ◌&&◌, if◌then◌else◌, List, [], ◌∷◌, map, pos, int_lt, unsigned_abs, sum_by, Option, Some, None}
use Rattle.std.specs.Ordering.{int_eq}
use Rattle.ip_core.specs.Sides.{Sides}
use Rattle.ip_core.specs.Rows.{coefficient}
use Rattle.ip_core.specs.declared.row.Term.{Term}
use Rattle.cut_derive.specs.Covers.{sign_of, is_binary}

-- a column with its coefficient in terms
abbrev pub chosen_term : List Term → ℕ → Term
chosen_term terms col = record { col = col; coef = coefficient col terms }

-- columns with their coefficients in terms
abbrev pub chosen_terms : List Term → List ℕ → List Term
chosen_terms terms cols = map (chosen_term terms) cols

-- whether a chosen column is in the row and its range is 0 to 1
abbrev pub is_fit : Sides → Term → Bool
is_fit s t = not (int_eq t.coef (pos 0)) && is_binary s t.col

-- the first chosen column that isn't such a one
abbrev pub unfit_column : Sides → List Term → Option ℕ
unfit_column s [] = None
unfit_column s (t ∷ chosen) = if is_fit s t then unfit_column s chosen else Some t.col

-- the absolute coefficients together
abbrev pub weight_of : List Term → ℕ
weight_of chosen = sum_by (λ t. unsigned_abs t.coef) chosen

-- the columns with the signs of their coefficients
abbrev pub signs_of : List Term → List Term
signs_of chosen = map (λ t. record { col = t.col; coef = sign_of t.coef }) chosen

-- the number of coefficients below 0
abbrev pub negatives_of : List Term → ℕ
negatives_of chosen = sum_by (λ t. if int_lt t.coef (pos 0) then 1 else 0) chosen
