use Rattle.std.specs.Prelude.{ℕ, ◌≡◌, ◌<◌, List, length, ℤ, pos, ◌+ℤ◌, ◌≤ℤ◌}
use Rattle.ip_core.specs.Numbers.{int_at}
use Rattle.ip_core.specs.Sides.{Sides, IsInside, with_low, with_high}
use Rattle.ip_core.specs.Truth.{IsFeasible, value_at}
use Rattle.ip_core.specs.declared.model.ModelParts.{ModelParts}
use Rattle.ip_core.specs.Boxes.{cheapest_end}

-- the part of the box where the column is at most `at`
abbrev pub low_child : Sides → ℕ → ℤ → Sides
low_child s col at = with_high s col at

-- the part of the box where the column is above `at`
abbrev pub high_child : Sides → ℕ → ℤ → Sides
high_child s col at = with_low s col (at +ℤ pos 1)

-- no feasible point of the box has a value below the cutoff
pub record IsClosed (m : ModelParts) (cutoff : ℤ) (s : Sides) : Type 0 where
  pub none_below : (y : List ℤ) → IsFeasible m y → IsInside s y → cutoff ≤ℤ value_at m y

-- each column stands at its cheapest end
pub record IsCheapestCorner (m : ModelParts) (s : Sides) (x : List ℤ) : Type 0 where
  pub one_each : length x ≡ length m.cols
  pub ends : (j : ℕ) → j < length x → int_at x j ≡ cheapest_end s (int_at m.costs j) j
