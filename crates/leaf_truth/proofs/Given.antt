-- What passes and multipliers give holds.
use Rattle.std.proofs.Common.{◌≡◌, ◌∙◌, ℕ, true, List, length, ℤ, int_lt, int_le, nat_lt, Some, None, ap, subst}
use Rattle.std.specs.List.{list_all}
use Rattle.std.proofs.lemmas.Bool.{and_from, lt-ltb}
use Rattle.std.proofs.lemmas.Option.{none-some, same_Some}
use Rattle.ip_core.specs.Numbers.{int_at}
use Rattle.ip_core.specs.Sides.{Sides}
use Rattle.ip_core.specs.Boxes.{greatest_activity}
use Rattle.ip_core.specs.declared.model.ModelParts.{ModelParts}
use Rattle.ip_core.specs.declared.row.Row.{Row}
use Rattle.ip_core.specs.declared.row_ref.RowRef.{RowRef}
use Rattle.ip_core.specs.declared.leaf.Tighten.{Tighten}
use Rattle.ip_core.specs.declared.leaf.Closing.{Closing}
use Rattle.ip_core.specs.declared.leaf.Closing.TheVariants.{Conflict, Empty, Bound}
use Rattle.row_propagate.specs.declared.outcome.Outcome.{Outcome}
use Rattle.row_propagate.specs.declared.outcome.Outcome.TheVariants.{Open, Conflict as ConflictOf, Empty as EmptyAt}
use Rattle.row_propagate.specs.Replay.{row_named}
use Rattle.row_propagate.specs.Lawful.{IsAfter, IsCause, IsConflictAt, IsEmptyColumn}
use Rattle.safe_bound.specs.Bounds.{lagrangian_bound}
use Rattle.leaf_truth.specs.declared.reason.LeafReason.TheVariants.{BadConflict, BadBound}
use Rattle.leaf_truth.specs.Steps.{has_row, has_no_empty}
use Rattle.leaf_truth.specs.Multipliers.{multipliers, pairs_of, is_pair, are_rising}
use Rattle.leaf_truth.specs.Leaves.{is_conflict, is_conflict_at, is_empty_column, is_bound_by, closing_reason, IsValidLeaf}
use Rattle.leaf_truth.specs.Laws.{leaf_of, closing_of, OutcomeGivesLeaf, BoundGivesLeaf}
use Rattle.leaf_truth.proofs.TestResults.{all_three, all_four, int_lt-from, int_le-from, has_row-from, solid-from, steps-from, unless-from, leaf-from}
use Rattle.leaf_truth.proofs.Pairs.{multipliers_again, pairs_rise, pairs_known}

pub conflict_test : (rows cuts : List Row) (s : Sides) (name : RowRef) → IsConflictAt rows cuts s name → is_conflict_at rows cuts s name ≡ true
conflict_test rows cuts s name conflict =
    let row = row_named rows cuts name in
    all_three (has_row rows cuts name) (has_no_empty s) (is_conflict s row) (has_row-from rows cuts name conflict.known) (solid-from s conflict.solid) (int_lt-from (greatest_activity s row.terms) row.least conflict.conflict.below)

pub empty_test : (s : Sides) (col : ℕ) → IsEmptyColumn s col → is_empty_column s col ≡ true
empty_test s col empty =
    and_from (nat_lt col (length s.lows)) (int_lt (int_at s.highs col) (int_at s.lows col)) (lt-ltb col (length s.lows) empty.known) (int_lt-from (int_at s.highs col) (int_at s.lows col) empty.empty.crossed)

outcome_closes : (m : ModelParts) (cuts : List Row) (v : ℤ) (s : Sides) (outcome : Outcome) (closing : Closing) → IsCause m.rows cuts s outcome → closing_of outcome ≡ Some closing → closing_reason m cuts v s closing ≡ None
outcome_closes m cuts v s Open closing cause same = absurd (none-some closing same)
outcome_closes m cuts v s (ConflictOf name) closing cause same =
    subst (λ (c : Closing). closing_reason m cuts v s c ≡ None) (same_Some (Conflict name) closing same) (unless-from BadConflict (is_conflict_at m.rows cuts s name) (conflict_test m.rows cuts s name cause))
outcome_closes m cuts v s (EmptyAt col) closing cause same =
    subst (λ (c : Closing). closing_reason m cuts v s c ≡ None) (same_Some (Empty col) closing same) (unless-from BadConflict (is_empty_column s col) (empty_test s col cause))

leaf_after : (m : ModelParts) (cuts : List Row) (v : ℤ) (s last : Sides) (steps : List Tighten) (closing : Closing) → IsAfter m.rows cuts s last steps → closing_reason m cuts v last closing ≡ None → IsValidLeaf m cuts v s (leaf_of steps closing)
leaf_after m cuts v s last steps closing after none =
    leaf-from m cuts v s (leaf_of steps closing) (steps-from m.rows cuts s steps after.lawful) (subst (λ (b : Sides). closing_reason m cuts v b closing ≡ None) after.replays none)

pub outcome_gives_leaf : OutcomeGivesLeaf
outcome_gives_leaf m cuts v s last steps outcome closing after cause same =
    leaf_after m cuts v s last steps closing after (outcome_closes m cuts v last outcome closing cause same)

pub bound_gives_leaf : BoundGivesLeaf
bound_gives_leaf m cuts v s last steps ys after solid mults high =
    let pairs = pairs_of (length m.rows) ys in
    let again = multipliers_again m.rows cuts ys mults.one_each in
    let reached : int_le v (lagrangian_bound m cuts last (multipliers m.rows cuts pairs)) ≡ true = ap (λ (zs : List ℕ). int_le v (lagrangian_bound m cuts last zs)) again ∙ int_le-from v (lagrangian_bound m cuts last ys) high in
    leaf_after m cuts v s last steps (Bound pairs) after
    (unless-from BadBound (is_bound_by m cuts v last pairs)
    (all_four (list_all (is_pair m.rows cuts) pairs) (are_rising pairs) (has_no_empty last) (int_le v (lagrangian_bound m cuts last (multipliers m.rows cuts pairs))) (pairs_known m.rows cuts ys mults.one_each mults.small.each) (pairs_rise (length m.rows) ys) (solid-from last solid) reached))
