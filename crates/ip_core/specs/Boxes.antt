use Rattle.std.specs.Prelude.{ℕ, ◌≡◌, ◌<◌, ◌≤◌, if◌then◌else◌, List, length, ℤ, pos, ◌*ℤ◌, ◌≤ℤ◌, ◌<ℤ◌, int_le, unsigned_abs}
use Rattle.std.specs.Int.{int_min, int_max}
use Rattle.ip_core.specs.Numbers.{int_at, int_sum_by, int_sum_below}
use Rattle.ip_core.specs.Sides.{Sides, reach}
use Rattle.ip_core.specs.declared.model.ModelParts.{ModelParts}
use Rattle.ip_core.specs.declared.row.Row.{Row}
use Rattle.ip_core.specs.declared.row.Term.{Term}

-- the least that column j can add to a value over the box: the lesser of its cost times its low and its high
abbrev pub least_share : ModelParts → Sides → ℕ → ℤ
least_share m s j =
    int_min (int_at m.costs j *ℤ int_at s.lows j) (int_at m.costs j *ℤ int_at s.highs j)

-- the most that column j can add
abbrev pub greatest_share : ModelParts → Sides → ℕ → ℤ
greatest_share m s j =
    int_max (int_at m.costs j *ℤ int_at s.lows j) (int_at m.costs j *ℤ int_at s.highs j)

-- the least value over the box, rows aside
abbrev pub least_value : ModelParts → Sides → ℤ
least_value m s = int_sum_below (length m.costs) (least_share m s)

-- the greatest value over the box, rows aside
abbrev pub greatest_value : ModelParts → Sides → ℤ
greatest_value m s = int_sum_below (length m.costs) (greatest_share m s)

-- the least that a term can add to an activity over the box
abbrev pub least_part : Sides → Term → ℤ
least_part s t = int_min (t.coef *ℤ int_at s.lows t.col) (t.coef *ℤ int_at s.highs t.col)

-- the most that a term can add to an activity over the box
abbrev pub greatest_part : Sides → Term → ℤ
greatest_part s t = int_max (t.coef *ℤ int_at s.lows t.col) (t.coef *ℤ int_at s.highs t.col)

-- the greatest activity of terms over the box
abbrev pub greatest_activity : Sides → List Term → ℤ
greatest_activity s terms = int_sum_by (λ t. greatest_part s t) terms

-- the row asks for more than its greatest activity over the box
pub record IsConflict (s : Sides) (row : Row) : Type 0 where
  pub below : greatest_activity s row.terms <ℤ row.least

-- the box has the columns of the root box, with no low below that box's and no high above it
pub record IsWithin (root s : Sides) : Type 0 where
  pub as_many_lows : length s.lows ≡ length root.lows
  pub as_many_highs : length s.highs ≡ length root.highs
  pub lows : (j : ℕ) → j < length s.lows → int_at root.lows j ≤ℤ int_at s.lows j
  pub highs : (j : ℕ) → j < length s.lows → int_at s.highs j ≤ℤ int_at root.highs j

-- the box has the columns of the root box, and no end of a column is further from 0 than the root box reaches there
pub record IsWithinReach (root s : Sides) : Type 0 where
  pub columns : length s.lows ≡ length root.lows
  pub lows : (j : ℕ) → unsigned_abs (int_at s.lows j) ≤ reach root j
  pub highs : (j : ℕ) → unsigned_abs (int_at s.highs j) ≤ reach root j

-- the end of column j at which a cost `c` costs least: its low where the cost is 0 or more, else its high
abbrev pub cheapest_end : Sides → ℤ → ℕ → ℤ
cheapest_end s c j = if int_le (pos 0) c then int_at s.lows j else int_at s.highs j
