use Rattle.std.specs.Prelude.{◌≡◌, ◌⊎◌, List, ℤ, ◌≤ℤ◌, Option, Some, Contains}
use Rattle.ip_core.specs.Sides.{Sides, IsInside}
use Rattle.ip_core.specs.Truth.{IsFeasible, value_at}
use Rattle.ip_core.specs.declared.model.ModelParts.{ModelParts}
use Rattle.search_truth.specs.Search.{Searched, cutoff_of}

-- the point lies in one of the boxes
pub record IsCovered (boxes : List Sides) (y : List ℤ) : Type 0 where
  pub by : Sides
  pub among : Contains boxes by
  pub inside : IsInside by y

-- each feasible point has a value not below the cutoff or lies in one of the boxes that are left
pub record Covers (m : ModelParts) (s : Searched) : Type 0 where
  pub each :
      (y : List ℤ) → IsFeasible m y → (cutoff_of m s.best ≤ℤ value_at m y) ⊎ IsCovered s.boxes y

-- a best point, if there is one, is feasible
pub record HasFeasibleBest (m : ModelParts) (best : Option (List ℤ)) : Type 0 where
  pub each : (x : List ℤ) → best ≡ Some x → IsFeasible m x
