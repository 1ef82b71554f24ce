-- What holds at a value holds at each lesser one.
use Rattle.std.proofs.Common.{◌≡◌, true, List, ℤ, ◌≤ℤ◌, int_le, None, arith}
use Rattle.std.specs.List.{list_all}
use Rattle.std.proofs.lemmas.Int.{ints}
use Rattle.ip_core.specs.Sides.{Sides}
use Rattle.ip_core.specs.declared.model.ModelParts.{ModelParts}
use Rattle.ip_core.specs.declared.row.Row.{Row}
use Rattle.ip_core.specs.declared.leaf.Pair.{Pair}
use Rattle.ip_core.specs.declared.leaf.Closing.{Closing}
use Rattle.ip_core.specs.declared.leaf.Closing.TheVariants.{Conflict, Empty, Bound}
use Rattle.row_propagate.specs.Replay.{replay, row_named}
use Rattle.safe_bound.specs.Bounds.{lagrangian_bound}
use Rattle.leaf_truth.specs.declared.reason.LeafReason.TheVariants.{BadBound}
use Rattle.leaf_truth.specs.Steps.{has_no_empty}
use Rattle.leaf_truth.specs.Multipliers.{multipliers, is_pair, are_rising}
use Rattle.leaf_truth.specs.Leaves.{is_bound_by, closing_reason}
use Rattle.leaf_truth.specs.Laws.{LeafHoldsBelow}
use Rattle.leaf_truth.proofs.TestResults.{all_four, four_parts, int_le-from, int_le-true, unless-from, unless-none, leaf-from, leaf-holds}

lesser_test : (lesser v b : ℤ) → lesser ≤ℤ v → int_le v b ≡ true → int_le lesser b ≡ true
lesser_test lesser v b order test = let high : v ≤ℤ b = int_le-true v b test in int_le-from lesser b (omega (arith, ints))

bound_below : (m : ModelParts) (cuts : List Row) (v lesser : ℤ) (s : Sides) (pairs : List Pair) → lesser ≤ℤ v → is_bound_by m cuts v s pairs ≡ true → is_bound_by m cuts lesser s pairs ≡ true
bound_below m cuts v lesser s pairs order test =
    let bound = lagrangian_bound m cuts s (multipliers m.rows cuts pairs) in
    let known = list_all (is_pair m.rows cuts) pairs in
    let parts = four_parts known (are_rising pairs) (has_no_empty s) (int_le v bound) test in
    all_four known (are_rising pairs) (has_no_empty s) (int_le lesser bound) parts.0 parts.1 parts.2 (lesser_test lesser v bound order parts.3)

closing_below : (m : ModelParts) (cuts : List Row) (v lesser : ℤ) (s : Sides) (closing : Closing) → lesser ≤ℤ v → closing_reason m cuts v s closing ≡ None → closing_reason m cuts lesser s closing ≡ None
closing_below m cuts v lesser s (Conflict name) order none = none
closing_below m cuts v lesser s (Empty col) order none = none
closing_below m cuts v lesser s (Bound pairs) order none =
    unless-from BadBound (is_bound_by m cuts lesser s pairs) (bound_below m cuts v lesser s pairs order (unless-none BadBound (is_bound_by m cuts v s pairs) none))

pub leaf_holds_below : LeafHoldsBelow
leaf_holds_below m cuts v lesser s leaf order holds =
    let parts = leaf-holds m cuts v s leaf holds in
    leaf-from m cuts lesser s leaf parts.0 (closing_below m cuts v lesser (replay (row_named m.rows cuts) s leaf.steps) leaf.closing order parts.1)
