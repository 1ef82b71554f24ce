-- Rows from columns of a row, each from 0 to 1, that can't all stand at their bad end.
use Rattle.std.specs.Prelude.{ℕ, ◌+◌, Bool, true, not, ◌&&◌, if◌then◌else◌, List, [], ◌∷◌, length, map, nat_le, ℤ, pos, negsuc, ◌-ℤ◌, int_lt, unsigned_abs, sum_by, Option, Some, None}
use Rattle.std.specs.Ordering.{int_eq}
use Rattle.ip_core.specs.Numbers.{int_at}
use Rattle.ip_core.specs.Sides.{Sides}
use Rattle.ip_core.specs.Boxes.{greatest_activity}
use Rattle.ip_core.specs.Rows.{coefficient}
use Rattle.ip_core.specs.declared.row.Row.{Row}
use Rattle.ip_core.specs.declared.row.Term.{Term}
use Rattle.cut_derive.specs.Gomory.{is_count}

-- 1 for a coefficient above 0, else -1
abbrev pub sign_of : ℤ → ℤ
sign_of coef = if int_lt (pos 0) coef then pos 1 else negsuc 0

-- the chosen column with the sign of its coefficient
abbrev pub cover_term : Row → ℕ → Term
cover_term row col = record { col = col; coef = sign_of (coefficient col row.terms) }

-- 1 where the coefficient of the column is below 0, else 0
abbrev pub negative_one : Row → ℕ → ℕ
negative_one row col = if int_lt (coefficient col row.terms) (pos 0) then 1 else 0

-- the row of chosen columns: their signs, and 1 less the number of negative ones
abbrev pub cover_row : Row → List ℕ → Row
cover_row row cols = record {
  terms = map (cover_term row) cols;
  least = pos 1 -ℤ pos (sum_by (negative_one row) cols);
}

-- whether columns rise strictly, the first at `low` or after it
abbrev pub rise_from : ℕ → List ℕ → Bool
rise_from low [] = true
rise_from low (col ∷ cols) = nat_le low col && rise_from (col + 1) cols

-- whether there are 1 to 256 columns, and they rise strictly
abbrev pub are_columns : List ℕ → Bool
are_columns cols = is_count (length cols) && rise_from 0 cols

-- whether the range of a column is 0 to 1
abbrev pub is_binary : Sides → ℕ → Bool
is_binary s col = int_eq (int_at s.lows col) (pos 0) && int_eq (int_at s.highs col) (pos 1)

-- whether a column is in the row and its range is 0 to 1
abbrev pub is_choice : Sides → Row → ℕ → Bool
is_choice s row col = not (int_eq (coefficient col row.terms) (pos 0)) && is_binary s col

-- the first column that isn't such a one
abbrev pub first_unfit : Sides → Row → List ℕ → Option ℕ
first_unfit s row [] = None
first_unfit s row (col ∷ cols) = if is_choice s row col then first_unfit s row cols else Some col

-- what the row leaves: its greatest activity over the box less what it asks for
abbrev pub slack : Sides → Row → ℤ
slack s row = greatest_activity s row.terms -ℤ row.least

-- the absolute coefficients of the chosen columns together
abbrev pub chosen_weight : Row → List ℕ → ℕ
chosen_weight row cols = sum_by (λ col. unsigned_abs (coefficient col row.terms)) cols

-- whether these are more than the row leaves
abbrev pub is_cover : Sides → Row → List ℕ → Bool
is_cover s row cols = int_lt (slack s row) (pos (chosen_weight row cols))
