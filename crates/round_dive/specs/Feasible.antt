-- Whether a point is feasible, as a test.
use Rattle.std.specs.Prelude.{ℕ, zero, suc, Bool, true, ◌&&◌, nat_eq, List, length, ℤ, int_le}
use Rattle.std.specs.List.{list_all}
use Rattle.ip_core.specs.Numbers.{int_at}
use Rattle.ip_core.specs.Sides.{Sides}
use Rattle.ip_core.specs.Rows.{activity}
use Rattle.ip_core.specs.declared.model.ModelParts.{ModelParts}
use Rattle.ip_core.specs.declared.row.Row.{Row}

-- whether the test holds of each number below n
abbrev pub all_below : ℕ → (ℕ → Bool) → Bool
all_below zero test = true
all_below (suc n) test = all_below n test && test n

-- whether a point lies in a box
abbrev pub is_inside_at : Sides → List ℤ → Bool
is_inside_at s x =
    all_below (length x)
    (λ j. int_le (int_at s.lows j) (int_at x j) && int_le (int_at x j) (int_at s.highs j))

-- whether a point meets a row
abbrev pub is_met_at : List ℤ → Row → Bool
is_met_at x row = int_le row.least (activity x row.terms)

-- whether a point is feasible
abbrev pub is_feasible_at : ModelParts → List ℤ → Bool
is_feasible_at m x =
    nat_eq (length x) (length m.cols) && is_inside_at m.root x && list_all (is_met_at x) m.rows
