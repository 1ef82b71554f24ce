-- Whether a leaf holds, and else why not.
use Rattle.std.specs.Prelude.{ℕ, ◌≡◌, Bool, ◌&&◌, if◌then◌else◌, List, length, nat_lt, ℤ, int_lt, int_le, Option, Some, None}
use Rattle.std.specs.List.{list_all}
use Rattle.ip_core.specs.Numbers.{int_at}
use Rattle.ip_core.specs.Sides.{Sides}
use Rattle.ip_core.specs.Boxes.{greatest_activity}
use Rattle.ip_core.specs.declared.model.ModelParts.{ModelParts}
use Rattle.ip_core.specs.declared.row.Row.{Row}
use Rattle.ip_core.specs.declared.row_ref.RowRef.{RowRef}
use Rattle.ip_core.specs.declared.leaf.Pair.{Pair}
use Rattle.ip_core.specs.declared.leaf.Leaf.{Leaf}
use Rattle.ip_core.specs.declared.leaf.Closing.{Closing}
use Rattle.ip_core.specs.declared.leaf.Closing.TheVariants.{Conflict, Empty, Bound}
use Rattle.row_propagate.specs.Replay.{replay, row_named}
use Rattle.safe_bound.specs.Bounds.{lagrangian_bound}
use Rattle.leaf_truth.specs.Steps.{has_row, has_no_empty, are_lawful_steps}
use Rattle.leaf_truth.specs.Multipliers.{multipliers, is_pair, are_rising}
use Rattle.leaf_truth.specs.declared.reason.LeafReason.{LeafReason}
use Rattle.leaf_truth.specs.declared.reason.LeafReason.TheVariants.{BadStep, BadConflict, BadBound}

-- whether a row asks for more than its greatest activity over the box
abbrev pub is_conflict : Sides → Row → Bool
is_conflict s row = int_lt (greatest_activity s row.terms) row.least

-- whether a row of this name exists, the box has no empty column, and the row conflicts there
abbrev pub is_conflict_at : List Row → List Row → Sides → RowRef → Bool
is_conflict_at rows cuts s name =
    has_row rows cuts name && has_no_empty s && is_conflict s (row_named rows cuts name)

-- whether there is such a column, and its low is above its high
abbrev pub is_empty_column : Sides → ℕ → Bool
is_empty_column s col =
    nat_lt col (length s.lows) && int_lt (int_at s.highs col) (int_at s.lows col)

-- whether the pairs are of rising rows that exist, each with a multiplier of at most 2^40, the box
-- has no empty column, and the bound of these multipliers on the box is at least v
abbrev pub is_bound_by : ModelParts → List Row → ℤ → Sides → List Pair → Bool
is_bound_by m cuts v s pairs =
    list_all (is_pair m.rows cuts) pairs && are_rising pairs && has_no_empty s
    && int_le v (lagrangian_bound m cuts s (multipliers m.rows cuts pairs))

-- the reason, unless a test passes
abbrev pub reason_unless : LeafReason → Bool → Option LeafReason
reason_unless why passes = if passes then None else Some why

-- why a closing doesn't close the box at v
abbrev pub closing_reason : ModelParts → List Row → ℤ → Sides → Closing → Option LeafReason
closing_reason m cuts v s (Conflict name) =
    reason_unless BadConflict (is_conflict_at m.rows cuts s name)
closing_reason m cuts v s (Empty col) = reason_unless BadConflict (is_empty_column s col)
closing_reason m cuts v s (Bound pairs) = reason_unless BadBound (is_bound_by m cuts v s pairs)

-- why a leaf doesn't hold at v on a box: a step that can't be made, or else what its closing lacks
-- on the box after the steps; none where it holds
abbrev pub leaf_reason : ModelParts → List Row → ℤ → Sides → Leaf → Option LeafReason
leaf_reason m cuts v s leaf =
    if are_lawful_steps m.rows cuts s leaf.steps
    then closing_reason m cuts v (replay (row_named m.rows cuts) s leaf.steps) leaf.closing
    else Some BadStep

-- the leaf holds at v on the box
pub record IsValidLeaf (m : ModelParts) (cuts : List Row) (v : ℤ) (s : Sides) (leaf : Leaf)
    : Type 0 where
  pub no_reason : leaf_reason m cuts v s leaf ≡ None
