-- A leaf that holds closes its box.
use Rattle.std.proofs.Common.{◌≡◌, ◌∙◌, ℕ, ◌<◌, true, List, length, nat_lt, ℤ, ◌≤ℤ◌, int_lt, int_le, None, sym, arith}
use Rattle.std.specs.List.{list_all}
use Rattle.std.proofs.lemmas.Int.{ints}
use Rattle.std.proofs.lemmas.Bool.{and_parts, ltb-true}
use Rattle.std.proofs.lemmas.List.Elements.{All-append}
use Rattle.ip_core.specs.Numbers.{int_at}
use Rattle.ip_core.specs.Sides.{Sides, IsInside}
use Rattle.ip_core.specs.Boxes.{greatest_activity}
use Rattle.ip_core.specs.Rows.{IsMet, AreMet, AreRows}
use Rattle.ip_core.specs.Models.{IsModel}
use Rattle.ip_core.specs.Truth.{IsFeasible, value_at}
use Rattle.ip_core.specs.declared.model.ModelParts.{ModelParts}
use Rattle.ip_core.specs.declared.row.Row.{Row}
use Rattle.ip_core.specs.declared.row_ref.RowRef.{RowRef}
use Rattle.ip_core.specs.declared.leaf.Pair.{Pair}
use Rattle.ip_core.specs.declared.leaf.Closing.{Closing}
use Rattle.ip_core.specs.declared.leaf.Closing.TheVariants.{Conflict, Empty, Bound}
use Rattle.ip_core.proofs.Activities.{conflict_meets_none}
use Rattle.row_propagate.specs.Replay.{replay, row_named}
use Rattle.row_propagate.proofs.Named.{named_met, named_terms}
use Rattle.row_propagate.proofs.Replaying.{replay_keeps, replay_within}
use Rattle.safe_bound.specs.Bounds.{lagrangian_bound}
use Rattle.safe_bound.proofs.Safety.{bound_is_safe}
use Rattle.leaf_truth.specs.declared.reason.LeafReason.TheVariants.{BadConflict, BadBound}
use Rattle.leaf_truth.specs.Steps.{has_row, has_no_empty}
use Rattle.leaf_truth.specs.Multipliers.{multipliers, is_pair, are_rising}
use Rattle.leaf_truth.specs.Leaves.{is_conflict, is_conflict_at, is_empty_column, is_bound_by, closing_reason}
use Rattle.leaf_truth.specs.Laws.{LeafCloses}
use Rattle.leaf_truth.proofs.TestResults.{three_parts, four_parts, int_lt-true, int_le-true, unless-none, leaf-holds}

between : (a b c : ℤ) → a ≤ℤ b → b ≤ℤ c → a ≤ℤ c
between a b c first second = omega (arith, ints)

-- no feasible point that meets the cuts lies in a box on which a row conflicts
conflict_closes : (m : ModelParts) (cuts : List Row) (s : Sides) (name : RowRef) (y : List ℤ) → IsModel m → AreRows (length m.cols) m.root cuts → IsFeasible m y → AreMet y cuts → IsInside s y → is_conflict_at m.rows cuts s name ≡ true → ⊥
conflict_closes m cuts s name y valid of_cuts feasible met inside test =
    let row = row_named m.rows cuts name in
    let parts = three_parts (has_row m.rows cuts name) (has_no_empty s) (is_conflict s row) test in
    conflict_meets_none (length m.cols) s row y (named_terms (length m.cols) m.root m.rows cuts name valid.rows of_cuts) feasible.one_each inside
    (record { below = int_lt-true (greatest_activity s row.terms) row.least parts.2 }) (named_met m.rows cuts name y feasible.rows_met met)

-- no point lies in a box with an empty column
empty_closes : (s : Sides) (col : ℕ) (y : List ℤ) → length y ≡ length s.lows → IsInside s y → is_empty_column s col ≡ true → ⊥
empty_closes s col y long inside test =
    let parts = and_parts (nat_lt col (length s.lows)) (int_lt (int_at s.highs col) (int_at s.lows col)) test in
    let known : col < length y = omega (arith, long, ltb-true col (length s.lows) parts.0) in
    omega (arith, ints, int_lt-true (int_at s.highs col) (int_at s.lows col) parts.1, inside.above col known, inside.below col known)

-- no feasible point of the box that meets the cuts has a value below v, where a bound is at least v
bound_closes : (m : ModelParts) (cuts : List Row) (v : ℤ) (s : Sides) (pairs : List Pair) (y : List ℤ) → IsModel m → AreRows (length m.cols) m.root cuts → IsFeasible m y → AreMet y cuts → IsInside s y → is_bound_by m cuts v s pairs ≡ true → v ≤ℤ value_at m y
bound_closes m cuts v s pairs y valid of_cuts feasible met inside test =
    let ys = multipliers m.rows cuts pairs in
    let parts = four_parts (list_all (is_pair m.rows cuts) pairs) (are_rising pairs) (has_no_empty s) (int_le v (lagrangian_bound m cuts s ys)) test in
    between v (lagrangian_bound m cuts s ys) (value_at m y) (int_le-true v (lagrangian_bound m cuts s ys) parts.3)
    (bound_is_safe m cuts s ys y valid of_cuts feasible.one_each inside (record { each = All-append (IsMet y) m.rows cuts feasible.rows_met.each met.each }))

closing_closes : (m : ModelParts) (cuts : List Row) (v : ℤ) (s : Sides) (closing : Closing) (y : List ℤ) → IsModel m → AreRows (length m.cols) m.root cuts → IsFeasible m y → AreMet y cuts → length y ≡ length s.lows → IsInside s y → closing_reason m cuts v s closing ≡ None → v ≤ℤ value_at m y
closing_closes m cuts v s (Conflict name) y valid of_cuts feasible met long inside none =
    absurd (conflict_closes m cuts s name y valid of_cuts feasible met inside (unless-none BadConflict (is_conflict_at m.rows cuts s name) none))
closing_closes m cuts v s (Empty col) y valid of_cuts feasible met long inside none =
    absurd (empty_closes s col y long inside (unless-none BadConflict (is_empty_column s col) none))
closing_closes m cuts v s (Bound pairs) y valid of_cuts feasible met long inside none =
    bound_closes m cuts v s pairs y valid of_cuts feasible met inside (unless-none BadBound (is_bound_by m cuts v s pairs) none)

pub leaf_closes : LeafCloses
leaf_closes m cuts v s leaf valid of_cuts columns holds = record {
  none_below = λ y feasible inside.
      let last = replay (row_named m.rows cuts) s leaf.steps in
      let long : length y ≡ length s.lows = feasible.one_each ∙ sym columns in
      let met = of_cuts.met y feasible in
      closing_closes m cuts v last leaf.closing y valid of_cuts.rows feasible met (long ∙ sym (replay_within (row_named m.rows cuts) s leaf.steps).as_many_lows)
      ((replay_keeps (length m.cols) m.root m.rows cuts s leaf.steps valid.rows of_cuts.rows columns).each y long inside feasible.rows_met met)
      (leaf-holds m cuts v s leaf holds).1;
}
