-- The point of multipliers, where it is feasible.
use Rattle.std.specs.Prelude.{ℕ, List, ℤ, if◌then◌else◌, Option, Some, None}
use Rattle.ip_core.specs.Sides.{Sides}
use Rattle.ip_core.specs.declared.model.ModelParts.{ModelParts}
use Rattle.ip_core.specs.declared.row.Row.{Row}
use Rattle.safe_bound.specs.Bounds.{bound_point}
use Rattle.round_dive.specs.Feasible.{is_feasible_at}

-- a point where it is feasible, else none
abbrev pub feasible_point : ModelParts → List ℤ → Option (List ℤ)
feasible_point m x = if is_feasible_at m x then Some x else None

-- each column at the end of the box at which its reduced cost costs least, where this point is
-- feasible, else none
abbrev pub rounded_point : ModelParts → List Row → Sides → List ℕ → Option (List ℤ)
rounded_point m cuts s ys = feasible_point m (bound_point m cuts s ys)
