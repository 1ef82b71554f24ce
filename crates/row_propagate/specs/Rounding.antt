use Rattle.std.specs.Prelude.{ℕ, ◌==◌, if◌then◌else◌, true, false, List, ℤ, pos, ◌-ℤ◌, int_lt, Option, Some, None}
use Rattle.ip_core.specs.Rows.{coefficient}
use Rattle.ip_core.specs.Numbers.{int_at, int_sum_by}
use Rattle.ip_core.specs.Sides.{Sides, with_low, with_high}
use Rattle.ip_core.specs.Boxes.{greatest_part}
use Rattle.ip_core.specs.Quotients.{ceiling_quotient, floor_quotient}
use Rattle.ip_core.specs.declared.row.Row.{Row}
use Rattle.ip_core.specs.declared.row.Term.{Term}
use Rattle.ip_core.specs.declared.row_ref.RowRef.{RowRef}
use Rattle.ip_core.specs.declared.leaf.Tighten.{Tighten}
use Rattle.row_propagate.specs.declared.narrowing.Narrowing.{Narrowing}
use Rattle.row_propagate.specs.declared.narrowing.Narrowing.TheVariants.{Low, High}

-- the most that a term adds over the box, and nothing where it stands at the column
abbrev pub other_part : Sides → ℕ → Term → ℤ
other_part s col t = if t.col == col then pos 0 else greatest_part s t

-- the greatest activity of a row's other columns
abbrev pub others_activity : Sides → List Term → ℕ → ℤ
others_activity s terms col = int_sum_by (other_part s col) terms

-- what the row leaves to its column: its `least` without the most that the other columns give
abbrev pub remainder : Sides → Row → ℕ → ℤ
remainder s row col = row.least -ℤ others_activity s row.terms col

-- a low that is above the column's low, and a high that is below its high; else none
abbrev pub narrower_low : Sides → ℕ → ℤ → Option Narrowing
narrower_low s col low = if int_lt (int_at s.lows col) low then Some (Low low) else None

abbrev pub narrower_high : Sides → ℕ → ℤ → Option Narrowing
narrower_high s col high = if int_lt high (int_at s.highs col) then Some (High high) else None

-- the rounded bound by what is left and the coefficient: a low where this is above 0, a high where it is below 0
abbrev pub rounded_bound : Sides → ℕ → ℤ → ℤ → Option Narrowing
rounded_bound s col left coef =
    if int_lt (pos 0) coef
    then narrower_low s col (ceiling_quotient left coef)
    else (if int_lt coef (pos 0)
    then narrower_high s col (floor_quotient left coef)
    else None)

-- the rounded bound that a row gives for a column, where it is narrower
abbrev pub narrower_bound : Row → Sides → ℕ → Option Narrowing
narrower_bound row s col = rounded_bound s col (remainder s row col) (coefficient col row.terms)

-- the box with a column's bound put in
abbrev pub narrower_box : Sides → ℕ → Narrowing → Sides
narrower_box s col (Low low) = with_low s col low
narrower_box s col (High high) = with_high s col high

abbrev pub narrower_box_by : Sides → ℕ → Option Narrowing → Sides
narrower_box_by s col None = s
narrower_box_by s col (Some bound) = narrower_box s col bound

-- the box after a row's rounded bound for a column
abbrev pub tight_box : Row → Sides → ℕ → Sides
tight_box row s col = narrower_box_by s col (narrower_bound row s col)

-- the real tightening by a row's name: its low is raised, or else its high is lowered
abbrev pub tightening_of : RowRef → ℕ → Narrowing → Tighten
tightening_of name col (Low low) = record { row = name; col = col; low = true }
tightening_of name col (High high) = record { row = name; col = col; low = false }

abbrev pub step_by : RowRef → ℕ → Option Narrowing → Option Tighten
step_by name col None = None
step_by name col (Some bound) = Some (tightening_of name col bound)

-- the real tightening that a row gives at a column, if it gives one
abbrev pub tightening : RowRef → Row → Sides → ℕ → Option Tighten
tightening name row s col = step_by name col (narrower_bound row s col)
