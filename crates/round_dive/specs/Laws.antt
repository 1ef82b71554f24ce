-- What each step of a dive does with its box.
use Rattle.std.specs.Prelude.{ℕ, ◌≡◌, ◌≢◌, ◌<◌, ◌≤◌, ◌+◌, ◌*◌, if◌then◌else◌, List, length, ℤ, Some}
use Rattle.std.specs.Ordering.{int_eq}
use Rattle.ip_core.specs.Boxes.{IsWithin}
use Rattle.ip_core.specs.Models.{IsModel, term_count}
use Rattle.ip_core.specs.Numbers.{int_at, sum_below}
use Rattle.ip_core.specs.Sides.{Sides, HasNoEmpty, IsPaired}
use Rattle.ip_core.specs.declared.model.ModelParts.{ModelParts}
use Rattle.ip_core.specs.declared.row.Row.{Row}
use Rattle.round_dive.specs.declared.dive.DiveEnd.TheVariants.{Found, Stuck}
use Rattle.round_dive.specs.Dives.{Dive, HasFeasiblePoint, dive_of, first_free}

-- a step leaves no wider a box, and no empty column unless it is stuck; a point that it finds is
-- feasible; and its work is at most that of ten passes
pub record IsSoundDive (m : ModelParts) (cuts : List Row) (s : Sides) (dive : Dive) : Type 0 where
  pub within : IsWithin s dive.sides
  pub solid : dive.run.end ≢ Stuck → HasNoEmpty dive.sides
  pub feasible : HasFeasiblePoint m dive.run.end
  pub work : dive.run.work ≤ 10 * (term_count m.rows + term_count cuts + 1)

-- so does each step from a box without empty columns
abbrev pub StepIsSound : Type 0
StepIsSound =
    (m : ModelParts) (cuts : List Row) (s : Sides) (x : List ℤ) → IsPaired s → HasNoEmpty s →
    IsSoundDive m cuts s (dive_of m cuts s x)

-- 1 for a column that isn't fixed, and 0 for one that is
abbrev pub free_at : Sides → ℕ → ℕ
free_at s j = if int_eq (int_at s.lows j) (int_at s.highs j) then 0 else 1

-- the number of columns that aren't fixed
abbrev pub free_count : Sides → ℕ
free_count s = sum_below (length s.lows) (free_at s)

-- where a column isn't fixed, a step leaves fewer such columns, unless it is stuck
abbrev pub StepFixesColumn : Type 0
StepFixesColumn =
    (m : ModelParts) (cuts : List Row) (s : Sides) (x : List ℤ) (j : ℕ) → IsPaired s →
    HasNoEmpty s → first_free s ≡ Some j → (dive_of m cuts s x).run.end ≢ Stuck →
    free_count (dive_of m cuts s x).sides < free_count s

-- a step that leaves the box as it was, and ends with the point of its lows
pub record HasFoundLows (s : Sides) (dive : Dive) : Type 0 where
  pub stays : dive.sides ≡ s
  pub found : dive.run.end ≡ Found s.lows

-- a step from a box whose columns are all fixed finds the box's point, unless it is stuck
abbrev pub FixedBoxIsDecided : Type 0
FixedBoxIsDecided =
    (m : ModelParts) (cuts : List Row) (s : Sides) (x : List ℤ) → IsModel m → IsWithin m.root s →
    s.lows ≡ s.highs → (dive_of m cuts s x).run.end ≢ Stuck → HasFoundLows s (dive_of m cuts s x)
