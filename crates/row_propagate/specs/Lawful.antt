-- What a step may do, and what it says of the box that an outcome closes it.
use Rattle.std.specs.Prelude.{ℕ, ◌≡◌, ◌≢◌, ◌<◌, ⊤, List, [], ◌∷◌, length, pos, int_lt}
use Rattle.ip_core.specs.Sides.{Sides, HasNoEmpty, IsEmptyAt}
use Rattle.ip_core.specs.Boxes.{IsConflict}
use Rattle.ip_core.specs.Rows.{coefficient}
use Rattle.ip_core.specs.declared.row.Row.{Row}
use Rattle.ip_core.specs.declared.row_ref.RowRef.{RowRef}
use Rattle.ip_core.specs.declared.leaf.Tighten.{Tighten}
use Rattle.row_propagate.specs.declared.outcome.Outcome.{Outcome}
use Rattle.row_propagate.specs.declared.outcome.Outcome.TheVariants.{Open, Conflict, Empty}
use Rattle.row_propagate.specs.Rounding.{tight_box}
use Rattle.row_propagate.specs.Replay.{HasRow, row_named, replay}

-- a step on a box: its row and its column exist, the column stands in the row, the side is that of the coefficient's
-- sign, and no column of the box is empty
pub record IsLawfulStep (rows cuts : List Row) (s : Sides) (step : Tighten) : Type 0 where
  pub row : HasRow rows cuts step.row
  pub col : step.col < length s.lows
  pub stands : coefficient step.col (row_named rows cuts step.row).terms ≢ pos 0
  pub side : step.low ≡ int_lt (pos 0) (coefficient step.col (row_named rows cuts step.row).terms)
  pub solid : HasNoEmpty s

-- each step is lawful on the box after the steps before it
abbrev pub AreLawfulSteps : List Row → List Row → Sides → List Tighten → Type 0
AreLawfulSteps rows cuts s [] = ⊤
AreLawfulSteps rows cuts s (step ∷ steps) =
    IsLawfulStep rows cuts s step
    × AreLawfulSteps rows cuts (tight_box (row_named rows cuts step.row) s step.col) steps

-- a box came from another by lawful steps
pub record IsAfter (rows cuts : List Row) (start s : Sides) (steps : List Tighten) : Type 0 where
  pub replays : s ≡ replay (row_named rows cuts) start steps
  pub lawful : AreLawfulSteps rows cuts start steps

-- a box that came from another by lawful steps is followed by one that came from it by those listed then
pub record IsReplayed (rows cuts : List Row) (old : Sides) (old_steps : List Tighten) (new : Sides)
    (new_steps : List Tighten) : Type 0 where
  pub from : (start : Sides) → IsAfter rows cuts start old old_steps →
      IsAfter rows cuts start new new_steps

-- there is a row of this name, and it conflicts on the box, which has no empty column
pub record IsConflictAt (rows cuts : List Row) (s : Sides) (name : RowRef) : Type 0 where
  pub known : HasRow rows cuts name
  pub solid : HasNoEmpty s
  pub conflict : IsConflict s (row_named rows cuts name)

-- there is such a column, and it is empty
pub record IsEmptyColumn (s : Sides) (col : ℕ) : Type 0 where
  pub known : col < length s.lows
  pub empty : IsEmptyAt s col

-- what an outcome says of the last box
abbrev pub IsCause : List Row → List Row → Sides → Outcome → Type 0
IsCause rows cuts s Open = HasNoEmpty s
IsCause rows cuts s (Conflict name) = IsConflictAt rows cuts s name
IsCause rows cuts s (Empty col) = IsEmptyColumn s col
