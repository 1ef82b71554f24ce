-- When the tightenings of a leaf can be made.
use Rattle.std.specs.Prelude.{ℕ, Bool, true, ◌&&◌, if◌then◌else◌, List, [], ◌∷◌, length, nat_lt, ℤ, pos, int_lt, int_le, is_none}
use Rattle.ip_core.specs.Numbers.{int_at}
use Rattle.ip_core.specs.Sides.{Sides}
use Rattle.ip_core.specs.Rows.{coefficient}
use Rattle.ip_core.specs.declared.row.Row.{Row}
use Rattle.ip_core.specs.declared.row_ref.RowRef.{RowRef}
use Rattle.ip_core.specs.declared.row_ref.RowRef.TheVariants.{Model, Cut}
use Rattle.ip_core.specs.declared.leaf.Tighten.{Tighten}
use Rattle.row_propagate.specs.Rounding.{tight_box}
use Rattle.row_propagate.specs.Passes.{first_empty}
use Rattle.row_propagate.specs.Replay.{row_named}

-- whether there is a row of this name
abbrev pub has_row : List Row → List Row → RowRef → Bool
has_row rows cuts (Model i) = nat_lt i (length rows)
has_row rows cuts (Cut i) = nat_lt i (length cuts)

-- whether no column of the box is empty
abbrev pub has_no_empty : Sides → Bool
has_no_empty s = is_none (first_empty s)

-- whether a column's low is at most its high
abbrev pub is_open_at : Sides → ℕ → Bool
is_open_at s col = int_le (int_at s.lows col) (int_at s.highs col)

-- whether a coefficient is above 0 where a low is raised, and below 0 where a high is lowered; it
-- is 0 where the column isn't in the row
abbrev pub is_on_side : Bool → ℤ → Bool
is_on_side low coef = if low then int_lt (pos 0) coef else int_lt coef (pos 0)

-- whether a step is one of a row: its column exists, its side is that of the coefficient's sign,
-- and no column of the box is empty
abbrev pub is_row_step : Row → Sides → Tighten → Bool
is_row_step row s step =
    nat_lt step.col (length s.lows) && is_on_side step.low (coefficient step.col row.terms)
    && has_no_empty s

-- whether a step's row exists, and the step is one of this row
abbrev pub is_lawful_step : List Row → List Row → Sides → Tighten → Bool
is_lawful_step rows cuts s step =
    has_row rows cuts step.row && is_row_step (row_named rows cuts step.row) s step

-- whether each step can be made on the box after the steps before it
abbrev pub are_lawful_steps : List Row → List Row → Sides → List Tighten → Bool
are_lawful_steps rows cuts s [] = true
are_lawful_steps rows cuts s (step ∷ steps) =
    is_lawful_step rows cuts s step
    && are_lawful_steps rows cuts (tight_box (row_named rows cuts step.row) s step.col) steps

-- the box after the steps up to the first that can't be made
abbrev pub box_after : List Row → List Row → Sides → List Tighten → Sides
box_after rows cuts s [] = s
box_after rows cuts s (step ∷ steps) =
    if is_lawful_step rows cuts s step
    then box_after rows cuts (tight_box (row_named rows cuts step.row) s step.col) steps
    else s
