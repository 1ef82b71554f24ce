use Rattle.std.specs.Prelude.{◌≡◌, List, length, ℤ, ◌*ℤ◌, ◌≤ℤ◌}
use Rattle.ip_core.specs.Numbers.{int_at, int_sum_below}
use Rattle.ip_core.specs.Sides.{IsInside}
use Rattle.ip_core.specs.Rows.{AreMet}
use Rattle.ip_core.specs.declared.model.ModelParts.{ModelParts}

-- a point of whole numbers, one for each column, in the root box, that meets each row
pub record IsFeasible (m : ModelParts) (x : List ℤ) : Type 0 where
  pub one_each : length x ≡ length m.cols
  pub inside : IsInside m.root x
  pub rows_met : AreMet x m.rows

-- the value of a point: the sum over the columns of cost times value
abbrev pub value_at : ModelParts → List ℤ → ℤ
value_at m x = int_sum_below (length m.costs) (λ j. int_at m.costs j *ℤ int_at x j)

-- the point is feasible, and no feasible point has a smaller value
pub record IsBest (m : ModelParts) (x : List ℤ) : Type 0 where
  pub feasible : IsFeasible m x
  pub least : (y : List ℤ) → IsFeasible m y → value_at m x ≤ℤ value_at m y

-- no point is feasible
pub record HasNoPoint (m : ModelParts) : Type 0 where
  pub none : (x : List ℤ) → IsFeasible m x → ⊥
