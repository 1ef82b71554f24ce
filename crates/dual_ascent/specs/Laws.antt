-- What holds of every climb, and of the ascent.
use Rattle.std.specs.Prelude.{◌≡◌, ℕ, ◌+◌, ◌*◌, ◌^◌, ◌≤◌, ◌<◌, List, length, slice_index, ℤ, pos, neg_ℤ, ◌+ℤ◌, ◌≤ℤ◌, ◌<ℤ◌, FitsSigned}
use Rattle.std.specs.Int.{w64}
use Rattle.ip_core.specs.Sides.{Sides}
use Rattle.ip_core.specs.Rows.{activity, AreRows}
use Rattle.ip_core.specs.Boxes.{least_value}
use Rattle.ip_core.specs.Models.{IsModel}
use Rattle.ip_core.specs.Truth.{value_at}
use Rattle.ip_core.specs.declared.model.ModelParts.{ModelParts}
use Rattle.ip_core.specs.declared.row.Row.{Row}
use Rattle.safe_bound.specs.Bounds.{all_rows, row_of, lagrangian_bound}
use Rattle.safe_bound.specs.Premises.{AreMultipliers}
use Rattle.ip_core.specs.Boxes.{IsWithinReach}
use Rattle.dual_ascent.specs.Climbs.{Climb}
use Rattle.dual_ascent.specs.Climbs.{after_row, after_rounds, candidates, next_multiplier, trial}
use Rattle.dual_ascent.specs.Ascents.{ascent, greatest_size}

-- y is the first of those numbers that are worth most: it stands among them, none is worth more, and each that stands
-- before it is worth less
pub record IsFirstGreatest (worth : ℕ → ℤ) (ys : List ℕ) (y : ℕ) : Type 0 where
  pub place : ℕ
  pub known : place < length ys
  pub here : slice_index ys place ≡ y
  pub greatest : (k : ℕ) → k < length ys → worth (slice_index ys k) ≤ℤ worth y
  pub first : (k : ℕ) → k < place → worth (slice_index ys k) <ℤ worth y

-- whatever the worth, a row takes the first of greatest worth among its candidates
abbrev pub RowTakesFirstGreatest : Type 0
RowTakesFirstGreatest =
    (worth : List ℕ → ℤ) (size : ℕ) (ys : List ℕ) (i : ℕ)
    → IsFirstGreatest (trial worth ys i) (candidates size (slice_index ys i))
    (next_multiplier worth size ys i)

-- whatever the worth, no row takes a multiplier that lowers it
abbrev pub NoRowLowers : Type 0
NoRowLowers =
    (worth : List ℕ → ℤ) (size : ℕ) (ys : List ℕ) (i : ℕ)
    → worth ys ≤ℤ worth (after_row worth size ys i)

-- so no rounds lower it
abbrev pub NoRoundLowers : Type 0
NoRoundLowers =
    (worth : List ℕ → ℤ) (n : ℕ) (c : Climb) → worth c.mults ≤ℤ worth (after_rounds worth n c).mults

-- a climb has at most one round for each that it may have
abbrev pub RoundsAreFew : Type 0
RoundsAreFew =
    (worth : List ℕ → ℤ) (n : ℕ) (c : Climb) → (after_rounds worth n c).rounds ≤ c.rounds + n

-- an ascent has one multiplier of at most 2^40 for each row and cut
abbrev pub AscentHasMultipliers : Type 0
AscentHasMultipliers =
    (m : ModelParts) (cuts : List Row) (s : Sides) → AreMultipliers m cuts (ascent m cuts s).mults

-- the bound of the ascent
abbrev pub ascent_bound : ModelParts → List Row → Sides → ℤ
ascent_bound m cuts s = lagrangian_bound m cuts s (ascent m cuts s).mults

-- the bound of the ascent is at least the least value of the costs on the box
abbrev pub BoundIsAboveLeast : Type 0
BoundIsAboveLeast =
    (m : ModelParts) (cuts : List Row) (s : Sides) → least_value m s ≤ℤ ascent_bound m cuts s

-- so it isn't below -2^50
abbrev pub BoundIsAboveLimit : Type 0
BoundIsAboveLimit =
    (m : ModelParts) (cuts : List Row) (s : Sides)
    → IsModel m → IsWithinReach m.root s
    → neg_ℤ (pos (2 ^ 50)) ≤ℤ ascent_bound m cuts s

-- and fits 64 bits where it is below a cutoff of at most 2^51
abbrev pub BoundFits : Type 0
BoundFits =
    (m : ModelParts) (cuts : List Row) (s : Sides) (cutoff : ℤ)
    → IsModel m → IsWithinReach m.root s
    → ascent_bound m cuts s <ℤ cutoff → cutoff ≤ℤ pos (2 ^ 51)
    → FitsSigned w64 (ascent_bound m cuts s)

-- on a box of one point the bound is at least the point's value
abbrev pub PointIsReached : Type 0
PointIsReached =
    (m : ModelParts) (cuts : List Row) (s : Sides)
    → s.highs ≡ s.lows
    → value_at m s.lows ≤ℤ ascent_bound m cuts s

-- the point of a box fails a row
pub record IsFailing (m : ModelParts) (cuts : List Row) (x : List ℤ) (k : ℕ) : Type 0 where
  pub known : k < length (all_rows m cuts)
  pub below : activity x (row_of m cuts k).terms <ℤ (row_of m cuts k).least

-- and where the point fails a row, and each cost is below 2^24 in size, the bound is at least the point's value and 64
-- times one more than the greatest absolute cost
abbrev pub FailingPointIsPassed : Type 0
FailingPointIsPassed =
    (m : ModelParts) (cuts : List Row) (s : Sides) (k : ℕ)
    → IsModel m → AreRows (length m.cols) m.root cuts
    → s.highs ≡ s.lows → IsFailing m cuts s.lows k → greatest_size m.costs < 2 ^ 24
    → (value_at m s.lows +ℤ pos (64 * (greatest_size m.costs + 1))) ≤ℤ ascent_bound m cuts s
