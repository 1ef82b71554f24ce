use Rattle.std.specs.Prelude.{◌≡◌, List, length, ℤ}
use Rattle.ip_core.specs.Sides.{Sides, IsInside}
use Rattle.ip_core.specs.Rows.{IsMet, AreMet}
use Rattle.ip_core.specs.declared.row.Row.{Row}

-- each point of a box that meets the row lies in another box
pub record HasRowPoints (row : Row) (old new : Sides) : Type 0 where
  pub each : (x : List ℤ) → length x ≡ length old.lows → IsInside old x → IsMet x row →
      IsInside new x

-- no point of the box meets the row
pub record HasNoRowPoint (row : Row) (s : Sides) : Type 0 where
  pub none : (x : List ℤ) → length x ≡ length s.lows → IsInside s x → IsMet x row → ⊥

-- each point of a box that meets all rows and cuts lies in another box
pub record HasMetPoints (rows cuts : List Row) (old new : Sides) : Type 0 where
  pub each : (x : List ℤ) → length x ≡ length old.lows → IsInside old x → AreMet x rows →
      AreMet x cuts → IsInside new x

-- no point of the box meets all rows and cuts
pub record HasNoMetPoint (rows cuts : List Row) (s : Sides) : Type 0 where
  pub none : (x : List ℤ) → length x ≡ length s.lows → IsInside s x → AreMet x rows →
      AreMet x cuts → ⊥
