-- What rows that are divided and rounded up give at a point, term by term.
use Rattle.std.specs.Prelude.{ℕ, List, ℤ, pos, ◌+ℤ◌, ◌-ℤ◌, ◌*ℤ◌}
use Rattle.ip_core.specs.Numbers.{int_at, int_sum_by}
use Rattle.ip_core.specs.Sides.{Sides}
use Rattle.ip_core.specs.Rows.{activity}
use Rattle.ip_core.specs.Quotients.{ceiling_quotient}
use Rattle.ip_core.specs.declared.row.Row.{Row}
use Rattle.ip_core.specs.declared.row.Term.{Term}

-- a coefficient, divided and rounded up, times the value of its column
abbrev pub rounded_part : ℕ → List ℤ → Term → ℤ
rounded_part divisor x t = ceiling_quotient t.coef (pos divisor) *ℤ int_at x t.col

-- what terms, divided and rounded up, add up to at a point
abbrev pub rounded_activity : ℕ → List ℤ → List Term → ℤ
rounded_activity divisor x terms = int_sum_by (rounded_part divisor x) terms

-- what a row asks for above the lows of the box, divided and rounded up, and then from 0 again
abbrev pub rounded_row_least : Sides → Row → ℕ → ℤ
rounded_row_least s row divisor =
    ceiling_quotient (row.least -ℤ activity s.lows row.terms) (pos divisor)
    +ℤ rounded_activity divisor s.lows row.terms
