-- A step of a dive: one more column of a box is fixed, and passes follow.
use Rattle.std.specs.Prelude.{ℕ, ◌≡◌, ◌≢◌, Bool, not, ◌&&◌, if◌then◌else◌, List, ℤ, Option, Some, None}
use Rattle.std.specs.Int.{int_min, int_max}
use Rattle.std.specs.Ordering.{int_eq}
use Rattle.std.specs.List.{position, zip}
use Rattle.std.specs.Cmp.Lexicographic.{pointwise}
use Rattle.ip_core.specs.Numbers.{int_at}
use Rattle.ip_core.specs.Sides.{Sides}
use Rattle.ip_core.specs.Truth.{IsFeasible}
use Rattle.ip_core.specs.declared.model.ModelParts.{ModelParts}
use Rattle.ip_core.specs.declared.row.Row.{Row}
use Rattle.ip_core.specs.declared.leaf.Tighten.{Tighten}
use Rattle.row_propagate.specs.Kept.{with_ends}
use Rattle.row_propagate.specs.Lawful.{IsAfter}
use Rattle.row_propagate.specs.Passes.{Propagation, is_open, propagation_of}
use Rattle.row_propagate.specs.declared.outcome.Outcome.{Outcome}
use Rattle.row_propagate.specs.declared.outcome.Outcome.TheVariants.{Open}
use Rattle.round_dive.specs.declared.dive.DiveEnd.{DiveEnd}
use Rattle.round_dive.specs.declared.dive.DiveEnd.TheVariants.{On, Found, Stuck}
use Rattle.round_dive.specs.declared.dive.DiveRun.{DiveRun}
use Rattle.round_dive.specs.Feasible.{is_feasible_at}

-- the first place at which two lists have different numbers
abbrev pub first_difference : List ℤ → List ℤ → Option ℕ
first_difference xs ys = position (λ both. not (int_eq both.0 both.1)) (zip xs ys)

-- the first column whose low isn't its high
abbrev pub first_free : Sides → Option ℕ
first_free s = first_difference s.lows s.highs

-- the value of a column's range that is nearest to a number
abbrev pub nearest_value : Sides → ℕ → ℤ → ℤ
nearest_value s j z = int_min (int_max z (int_at s.lows j)) (int_at s.highs j)

-- the box with both ends of a column at one value
abbrev pub with_value : Sides → ℕ → ℤ → Sides
with_value s j z = with_ends s j z z

-- the box with a column, if there is one, fixed at the value of its range nearest to the point's
abbrev pub with_fixed : Sides → List ℤ → Option ℕ → Sides
with_fixed s x None = s
with_fixed s x (Some j) = with_value s j (nearest_value s j (int_at x j))

-- the box with its first free column fixed
abbrev pub next_box : Sides → List ℤ → Sides
next_box s x = with_fixed s x (first_free s)

-- whether each low is its high
abbrev pub is_fixed : Sides → Bool
is_fixed s = pointwise int_eq s.lows s.highs

-- how a step ends, by the outcome of the passes and the box after them
abbrev pub dive_end : ModelParts → Outcome → Sides → DiveEnd
dive_end m outcome s =
    if is_open outcome
    then (if is_fixed s && is_feasible_at m s.lows then Found s.lows else On)
    else Stuck

-- a step: the box after it, and how it ended with what work
pub record Dive : Type 0 where
  pub sides : Sides
  pub run : DiveRun

abbrev pub dive_after : ModelParts → Propagation → Dive
dive_after m p = record {
  sides = p.sides;
  run = record { end = dive_end m p.run.outcome p.sides; work = p.run.work };
}

-- the step from a box towards a point
abbrev pub dive_of : ModelParts → List Row → Sides → List ℤ → Dive
dive_of m cuts s x = dive_after m (propagation_of m.rows cuts (next_box s x))

-- the passes left the box open, all of its columns are fixed, and their point x is feasible
pub record IsFound (m : ModelParts) (outcome : Outcome) (s : Sides) (x : List ℤ) : Type 0 where
  pub left_open : outcome ≡ Open
  pub fixed : s.lows ≡ s.highs
  pub point : x ≡ s.lows
  pub feasible : IsFeasible m x

-- the passes left the box open, and a column isn't fixed or the point isn't feasible
pub record IsUndecided (m : ModelParts) (outcome : Outcome) (s : Sides) : Type 0 where
  pub left_open : outcome ≡ Open
  pub none : s.lows ≡ s.highs → IsFeasible m s.lows → ⊥

-- what an end says of the outcome of the passes and the box after them
abbrev pub IsEndOf : ModelParts → Outcome → Sides → DiveEnd → Type 0
IsEndOf m outcome s On = IsUndecided m outcome s
IsEndOf m outcome s (Found x) = IsFound m outcome s x
IsEndOf m outcome s Stuck = outcome ≢ Open

-- lawful tightenings of a box lead to another
pub record IsReachedBySteps (rows cuts : List Row) (start s : Sides) : Type 0 where
  pub steps : List Tighten
  pub after : IsAfter rows cuts start s steps

-- the point that an end carries, if it carries one, is feasible
pub record HasFeasiblePoint (m : ModelParts) (end : DiveEnd) : Type 0 where
  pub found : (x : List ℤ) → end ≡ Found x → IsFeasible m x
