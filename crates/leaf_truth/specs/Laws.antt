-- What follows where a leaf holds, and which leaves hold.
use Rattle.std.specs.Prelude.{◌≡◌, ◌↔◌, ◌<◌, ◌≤◌, ◌++◌, suc, true, List, length, slice_index_or, All, ℤ, ◌≤ℤ◌, ℕ, Option, Some, None}
use Rattle.ip_core.specs.Sides.{Sides, HasNoEmpty}
use Rattle.ip_core.specs.Rows.{AreMet, AreRows}
use Rattle.ip_core.specs.Models.{IsModel}
use Rattle.ip_core.specs.Truth.{IsFeasible}
use Rattle.ip_core.specs.declared.model.ModelParts.{ModelParts}
use Rattle.ip_core.specs.declared.row.Row.{Row}
use Rattle.ip_core.specs.declared.leaf.Tighten.{Tighten}
use Rattle.ip_core.specs.RowRefs.{is_before}
use Rattle.ip_core.specs.declared.leaf.Pair.{Pair}
use Rattle.ip_core.specs.declared.leaf.Leaf.{Leaf}
use Rattle.ip_core.specs.declared.leaf.Closing.{Closing}
use Rattle.ip_core.specs.declared.leaf.Closing.TheVariants.{Conflict, Empty, Bound}
use Rattle.search_truth.specs.Boxes.{IsClosed}
use Rattle.row_propagate.specs.declared.outcome.Outcome.{Outcome}
use Rattle.row_propagate.specs.declared.outcome.Outcome.TheVariants.{Open, Conflict as ConflictOf, Empty as EmptyAt}
use Rattle.row_propagate.specs.Replay.{HasRow, row_named, replay}
use Rattle.row_propagate.specs.Lawful.{AreLawfulSteps, IsConflictAt, IsEmptyColumn, IsAfter, IsCause}
use Rattle.safe_bound.specs.Bounds.{lagrangian_bound}
use Rattle.safe_bound.specs.Premises.{AreMultipliers}
use Rattle.safe_bound.specs.declared.limits.TheConstants.{MAX_MULTIPLIER}
use Rattle.leaf_truth.specs.Multipliers.{multipliers, pairs_of}
use Rattle.leaf_truth.specs.Leaves.{leaf_reason, IsValidLeaf}

-- cuts are rows over the model's columns, and each feasible point meets them
pub record AreValidCuts (m : ModelParts) (cuts : List Row) : Type 0 where
  pub rows : AreRows (length m.cols) m.root cuts
  pub met : (x : List ℤ) → IsFeasible m x → AreMet x cuts

-- each pair's row comes before that of the next
pub record AreRising (pairs : List Pair) : Type 0 where
  pub each : (k : ℕ) (d : Pair) → suc k < length pairs →
      is_before (slice_index_or pairs k d).row (slice_index_or pairs (suc k) d).row ≡ true

-- pairs of rising rows that exist, each with a multiplier of at most 2^40; the box has no empty
-- column, and the bound of these multipliers there is at least v
pub record IsBoundBy (m : ModelParts) (cuts : List Row) (v : ℤ) (s : Sides) (pairs : List Pair)
    : Type 0 where
  pub known : All (λ p. HasRow m.rows cuts p.row) pairs
  pub small : All (λ p. p.weight ≤ MAX_MULTIPLIER) pairs
  pub rising : AreRising pairs
  pub solid : HasNoEmpty s
  pub reached : v ≤ℤ lagrangian_bound m cuts s (multipliers m.rows cuts pairs)

-- what a closing says of the box after the steps
abbrev pub IsClosing : ModelParts → List Row → ℤ → Sides → Closing → Type 0
IsClosing m cuts v s (Conflict name) = IsConflictAt m.rows cuts s name
IsClosing m cuts v s (Empty col) = IsEmptyColumn s col
IsClosing m cuts v s (Bound pairs) = IsBoundBy m cuts v s pairs

-- what a leaf says of a box: each step is lawful on the box after the steps before it, and the
-- closing says so of the box after all of them
pub record IsLawfulLeaf (m : ModelParts) (cuts : List Row) (v : ℤ) (s : Sides) (leaf : Leaf)
    : Type 0 where
  pub steps : AreLawfulSteps m.rows cuts s leaf.steps
  pub closing : IsClosing m cuts v (replay (row_named m.rows cuts) s leaf.steps) leaf.closing

-- a leaf of steps and a closing
abbrev pub leaf_of : List Tighten → Closing → Leaf
leaf_of steps closing = record { steps = steps; closing = closing }

-- what an outcome of passes closes the box by
abbrev pub closing_of : Outcome → Option Closing
closing_of Open = None
closing_of (ConflictOf name) = Some (Conflict name)
closing_of (EmptyAt col) = Some (Empty col)

-- a leaf that holds at v closes its box at v
abbrev pub LeafCloses : Type 0
LeafCloses =
    (m : ModelParts) (cuts : List Row) (v : ℤ) (s : Sides) (leaf : Leaf)
    → IsModel m → AreValidCuts m cuts → length s.lows ≡ length m.cols
    → IsValidLeaf m cuts v s leaf → IsClosed m v s

-- lawful steps to a box on which an outcome has its cause make a leaf with the closing of this
-- outcome, which holds at every value
abbrev pub OutcomeGivesLeaf : Type 0
OutcomeGivesLeaf =
    (m : ModelParts) (cuts : List Row) (v : ℤ) (s last : Sides) (steps : List Tighten)
    (outcome : Outcome) (closing : Closing)
    → IsAfter m.rows cuts s last steps → IsCause m.rows cuts last outcome
    → closing_of outcome ≡ Some closing → IsValidLeaf m cuts v s (leaf_of steps closing)

-- lawful steps to a box without empty columns, on which multipliers have a bound of at least v,
-- make a leaf with these multipliers above 0, which holds at v
abbrev pub BoundGivesLeaf : Type 0
BoundGivesLeaf =
    (m : ModelParts) (cuts : List Row) (v : ℤ) (s last : Sides) (steps : List Tighten)
    (ys : List ℕ)
    → IsAfter m.rows cuts s last steps → HasNoEmpty last → AreMultipliers m cuts ys
    → v ≤ℤ lagrangian_bound m cuts last ys
    → IsValidLeaf m cuts v s (leaf_of steps (Bound (pairs_of (length m.rows) ys)))

-- what holds at v holds at each lesser value
abbrev pub LeafHoldsBelow : Type 0
LeafHoldsBelow =
    (m : ModelParts) (cuts : List Row) (v lesser : ℤ) (s : Sides) (leaf : Leaf)
    → lesser ≤ℤ v → IsValidLeaf m cuts v s leaf → IsValidLeaf m cuts lesser s leaf

-- what holds over cuts holds with more cuts behind them
abbrev pub LeafHoldsOverMore : Type 0
LeafHoldsOverMore =
    (m : ModelParts) (cuts more : List Row) (v : ℤ) (s : Sides) (leaf : Leaf)
    → IsValidLeaf m cuts v s leaf → IsValidLeaf m (cuts ++ more) v s leaf

-- a leaf has no reason exactly where all that it says is so
abbrev pub LeafReasonIsExact : Type 0
LeafReasonIsExact =
    (m : ModelParts) (cuts : List Row) (v : ℤ) (s : Sides) (leaf : Leaf)
    → (leaf_reason m cuts v s leaf ≡ None) ↔ IsLawfulLeaf m cuts v s leaf
