-- What holds of every bound.
use Rattle.std.specs.Prelude.{◌≡◌, ◌<◌, ◌^◌, ℕ, List, length, ℤ, ◌≤ℤ◌, unsigned_abs}
use Rattle.ip_core.specs.Sides.{Sides, IsInside}
use Rattle.ip_core.specs.Rows.{AreMet, AreRows}
use Rattle.ip_core.specs.Models.{IsModel}
use Rattle.ip_core.specs.Truth.{value_at}
use Rattle.ip_core.specs.declared.model.ModelParts.{ModelParts}
use Rattle.ip_core.specs.declared.row.Row.{Row}
use Rattle.safe_bound.specs.Bounds.{all_rows, numerator, lagrangian_bound}
use Rattle.safe_bound.specs.Premises.{AreSmall}
use Rattle.ip_core.specs.Boxes.{IsWithinReach}

-- at any multipliers, no point of the box that meets the rows and the cuts has a value below the bound
abbrev pub BoundIsSafe : Type 0
BoundIsSafe =
    (m : ModelParts) (cuts : List Row) (s : Sides) (ys : List ℕ) (x : List ℤ)
    → IsModel m → AreRows (length m.cols) m.root cuts
    → length x ≡ length m.cols → IsInside s x → AreMet x (all_rows m cuts)
    → lagrangian_bound m cuts s ys ≤ℤ value_at m x

-- with fewer than 2^32 rows and small multipliers, a numerator is below 2^123 in size
abbrev pub NumeratorIsSmall : Type 0
NumeratorIsSmall =
    (m : ModelParts) (cuts : List Row) (s : Sides) (ys : List ℕ)
    → IsModel m → AreRows (length m.cols) m.root cuts → length (all_rows m cuts) < 2 ^ 32
    → IsWithinReach m.root s → AreSmall ys
    → unsigned_abs (numerator m cuts s ys) < 2 ^ 123
