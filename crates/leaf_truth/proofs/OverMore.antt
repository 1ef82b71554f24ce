-- What holds over cuts holds with more cuts behind them.
use Rattle.std.proofs.Common.{append_assoc, ◌≡◌, ◌∙◌, ℕ, ◌+◌, ◌-◌, ◌≤◌, ◌++◌, true, false, List, [], ◌∷◌, length, nat_le, ℤ, pos, ◌+ℤ◌, ◌-ℤ◌, ◌*ℤ◌, int_le, None, refl, ap, ap₂, subst, sym, arith}
use Rattle.std.specs.List.{list_all}
use Rattle.std.proofs.lemmas.Int.{ints}
use Rattle.std.proofs.lemmas.Bool.{and_from, and_parts, lt-ltb, ltb-true, ne_eqb, cond-false}
use Rattle.std.proofs.lemmas.List.{length-append, get_or_append_left}
use Rattle.ip_core.specs.Numbers.{int_at}
use Rattle.ip_core.specs.Rows.{coefficient}
use Rattle.ip_core.specs.Sides.{Sides}
use Rattle.ip_core.specs.Quotients.{ceiling_quotient}
use Rattle.ip_core.specs.declared.model.ModelParts.{ModelParts}
use Rattle.ip_core.specs.declared.row.Row.{Row}
use Rattle.ip_core.specs.declared.row_ref.RowRef.{RowRef}
use Rattle.ip_core.specs.declared.row_ref.RowRef.TheVariants.{Model, Cut}
use Rattle.ip_core.specs.declared.leaf.Tighten.{Tighten}
use Rattle.ip_core.specs.declared.leaf.Pair.{Pair}
use Rattle.ip_core.specs.declared.leaf.Closing.{Closing}
use Rattle.ip_core.specs.declared.leaf.Closing.TheVariants.{Conflict, Empty, Bound}
use Rattle.ip_core.proofs.ColumnSums.{int_sum_below-same}
use Rattle.row_propagate.specs.Rounding.{tight_box}
use Rattle.row_propagate.specs.Replay.{no_row, replay, row_named}
use Rattle.safe_bound.specs.declared.limits.TheConstants.{MAX_MULTIPLIER}
use Rattle.safe_bound.specs.Weights.{weighted_sum}
use Rattle.safe_bound.specs.Bounds.{all_rows, reduced_cost, share, numerator, lagrangian_bound}
use Rattle.leaf_truth.specs.declared.reason.LeafReason.TheVariants.{BadConflict, BadBound}
use Rattle.leaf_truth.specs.Steps.{has_row, has_no_empty, is_row_step, is_lawful_step, are_lawful_steps}
use Rattle.leaf_truth.specs.Multipliers.{name_at, is_same_row, weight_of, weights_from, multipliers, is_pair, are_rising}
use Rattle.leaf_truth.specs.Leaves.{is_conflict, is_conflict_at, is_bound_by, closing_reason}
use Rattle.leaf_truth.specs.Laws.{LeafHoldsOverMore}
use Rattle.leaf_truth.proofs.Pairs.{name_of_cut}
use Rattle.leaf_truth.proofs.TestResults.{all_three, three_parts, all_four, four_parts, unless-from, unless-none, leaf-from, leaf-holds}

-- a row that there was is there still, and is the same
has_row_more : (rows cuts more : List Row) (name : RowRef) → has_row rows cuts name ≡ true → has_row rows (cuts ++ more) name ≡ true
has_row_more rows cuts more (Model i) known = known
has_row_more rows cuts more (Cut i) known = lt-ltb i (length (cuts ++ more)) (omega (arith, ltb-true i (length cuts) known, length-append cuts more))

named_more : (rows cuts more : List Row) (name : RowRef) → has_row rows cuts name ≡ true → row_named rows (cuts ++ more) name ≡ row_named rows cuts name
named_more rows cuts more (Model i) known = refl
named_more rows cuts more (Cut i) known = get_or_append_left cuts more no_row i (ltb-true i (length cuts) known)

step_row : (rows cuts : List Row) (s : Sides) (step : Tighten) → is_lawful_step rows cuts s step ≡ true → (has_row rows cuts step.row ≡ true) × (is_row_step (row_named rows cuts step.row) s step ≡ true)
step_row rows cuts s step test = and_parts (has_row rows cuts step.row) (is_row_step (row_named rows cuts step.row) s step) test

step_more : (rows cuts more : List Row) (s : Sides) (step : Tighten) → is_lawful_step rows cuts s step ≡ true → is_lawful_step rows (cuts ++ more) s step ≡ true
step_more rows cuts more s step test =
    let parts = step_row rows cuts s step test in
    and_from (has_row rows (cuts ++ more) step.row) (is_row_step (row_named rows (cuts ++ more) step.row) s step) (has_row_more rows cuts more step.row parts.0)
    (ap (λ (row : Row). is_row_step row s step) (named_more rows cuts more step.row parts.0) ∙ parts.1)

-- steps that could be made can be made, and lead to the same box
steps_more : (rows cuts more : List Row) (steps : List Tighten) (s : Sides) → are_lawful_steps rows cuts s steps ≡ true → (are_lawful_steps rows (cuts ++ more) s steps ≡ true) × (replay (row_named rows (cuts ++ more)) s steps ≡ replay (row_named rows cuts) s steps)
steps_more rows cuts more [] s test = (refl, refl)
steps_more rows cuts more (step ∷ steps) s test =
    let next = tight_box (row_named rows cuts step.row) s step.col in
    let parts = and_parts (is_lawful_step rows cuts s step) (are_lawful_steps rows cuts next steps) test in
    let same = named_more rows cuts more step.row (step_row rows cuts s step parts.0).0 in
    let later = steps_more rows cuts more steps next parts.1 in (
      and_from (is_lawful_step rows (cuts ++ more) s step) (are_lawful_steps rows (cuts ++ more) (tight_box (row_named rows (cuts ++ more) step.row) s step.col) steps) (step_more rows cuts more s step parts.0)
          (ap (λ (row : Row). are_lawful_steps rows (cuts ++ more) (tight_box row s step.col) steps) same ∙ later.0),
      ap (λ (row : Row). replay (row_named rows (cuts ++ more)) (tight_box row s step.col) steps) same ∙ later.1,
    )

conflict_more : (rows cuts more : List Row) (s : Sides) (name : RowRef) → is_conflict_at rows cuts s name ≡ true → is_conflict_at rows (cuts ++ more) s name ≡ true
conflict_more rows cuts more s name test =
    let parts = three_parts (has_row rows cuts name) (has_no_empty s) (is_conflict s (row_named rows cuts name)) test in
    all_three (has_row rows (cuts ++ more) name) (has_no_empty s) (is_conflict s (row_named rows (cuts ++ more) name)) (has_row_more rows cuts more name parts.0) parts.1
    (ap (λ (row : Row). is_conflict s row) (named_more rows cuts more name parts.0) ∙ parts.2)

pair_row : (rows cuts : List Row) (p : Pair) → is_pair rows cuts p ≡ true → (has_row rows cuts p.row ≡ true) × (nat_le p.weight MAX_MULTIPLIER ≡ true)
pair_row rows cuts p test = and_parts (has_row rows cuts p.row) (nat_le p.weight MAX_MULTIPLIER) test

pair_more : (rows cuts more : List Row) (p : Pair) → is_pair rows cuts p ≡ true → is_pair rows (cuts ++ more) p ≡ true
pair_more rows cuts more p test =
    let parts = pair_row rows cuts p test in
    and_from (has_row rows (cuts ++ more) p.row) (nat_le p.weight MAX_MULTIPLIER) (has_row_more rows cuts more p.row parts.0) parts.1

pairs_more : (rows cuts more : List Row) (pairs : List Pair) → list_all (is_pair rows cuts) pairs ≡ true → list_all (is_pair rows (cuts ++ more)) pairs ≡ true
pairs_more rows cuts more [] test = refl
pairs_more rows cuts more (p ∷ pairs) test =
    let parts = and_parts (is_pair rows cuts p) (list_all (is_pair rows cuts) pairs) test in
    and_from (is_pair rows (cuts ++ more) p) (list_all (is_pair rows (cuts ++ more)) pairs) (pair_more rows cuts more p parts.0) (pairs_more rows cuts more pairs parts.1)

-- pairs of rows that there are say nothing of a row behind these
not_past : (rows cuts : List Row) (k : ℕ) (name : RowRef) → length rows + length cuts ≤ k → has_row rows cuts name ≡ true → is_same_row name (name_at (length rows) k) ≡ false
not_past rows cuts k (Model i) past known =
    ap (is_same_row (Model i)) (name_of_cut (length rows) k (omega (arith, past)))
not_past rows cuts k (Cut i) past known =
    ap (is_same_row (Cut i)) (name_of_cut (length rows) k (omega (arith, past)))
    ∙ ne_eqb i (k - length rows) (λ e. omega (arith, ltb-true i (length cuts) known, e, past))

weight_past : (rows cuts : List Row) (k : ℕ) (pairs : List Pair) → length rows + length cuts ≤ k → list_all (is_pair rows cuts) pairs ≡ true → weight_of pairs (name_at (length rows) k) ≡ 0
weight_past rows cuts k [] past test = refl
weight_past rows cuts k (p ∷ pairs) past test =
    let parts = and_parts (is_pair rows cuts p) (list_all (is_pair rows cuts) pairs) test in
    let name = name_at (length rows) k in
    cond-false (is_same_row p.row name) p.weight (weight_of pairs name) (not_past rows cuts k p.row past (pair_row rows cuts p parts.0).0) ∙ weight_past rows cuts k pairs past parts.1

nothing_more : (w : ℕ) (a b : ℤ) → w ≡ 0 → b ≡ pos 0 → (pos w *ℤ a) +ℤ b ≡ pos 0
nothing_more w a b none rest = rw none (omega (arith, ints, rest))

-- rows without weights add nothing
weighted_none : (f : Row → ℤ) (name : ℕ → RowRef) (pairs : List Pair) (rows : List Row) (i : ℕ) → ((k : ℕ) → i ≤ k → weight_of pairs (name k) ≡ 0) → weighted_sum f rows (weights_from name i rows pairs) ≡ pos 0
weighted_none f name pairs [] i none = refl
weighted_none f name pairs (row ∷ rows) i none =
    nothing_more (weight_of pairs (name i)) (f row) (weighted_sum f rows (weights_from name (i + 1) rows pairs)) (none i (omega arith)) (weighted_none f name pairs rows (i + 1) (λ k above. none k (omega (arith, above))))

weighted_behind : (f : Row → ℤ) (name : ℕ → RowRef) (pairs : List Pair) (rows more : List Row) (i : ℕ) → ((k : ℕ) → i + length rows ≤ k → weight_of pairs (name k) ≡ 0) → weighted_sum f (rows ++ more) (weights_from name i (rows ++ more) pairs) ≡ weighted_sum f rows (weights_from name i rows pairs)
weighted_behind f name pairs [] more i none = weighted_none f name pairs more i (λ k above. none k (omega (arith, above)))
weighted_behind f name pairs (row ∷ rows) more i none =
    ap (λ (z : ℤ). (pos (weight_of pairs (name i)) *ℤ f row) +ℤ z) (weighted_behind f name pairs rows more (i + 1) (λ k above. none k (omega (arith, above))))

-- so the weighted rows are the same
weighted_more : (m : ModelParts) (cuts more : List Row) (pairs : List Pair) (f : Row → ℤ) → list_all (is_pair m.rows cuts) pairs ≡ true → weighted_sum f (all_rows m (cuts ++ more)) (multipliers m.rows (cuts ++ more) pairs) ≡ weighted_sum f (all_rows m cuts) (multipliers m.rows cuts pairs)
weighted_more m cuts more pairs f known =
    let name = name_at (length m.rows) in
    ap (λ (rows : List Row). weighted_sum f rows (weights_from name 0 rows pairs)) (sym (append_assoc m.rows cuts more))
    ∙ weighted_behind f name pairs (m.rows ++ cuts) more 0 (λ k above. weight_past m.rows cuts k pairs (omega (arith, above, length-append m.rows cuts)) known)

numerator_more : (m : ModelParts) (cuts more : List Row) (s : Sides) (pairs : List Pair) → list_all (is_pair m.rows cuts) pairs ≡ true → numerator m (cuts ++ more) s (multipliers m.rows (cuts ++ more) pairs) ≡ numerator m cuts s (multipliers m.rows cuts pairs)
unfolding numerator reduced_cost
numerator_more m cuts more s pairs known =
    ap₂ (λ (a b : ℤ). a +ℤ b) (weighted_more m cuts more pairs (λ row. row.least) known)
    (int_sum_below-same (length m.costs) (λ j. share s (reduced_cost m (cuts ++ more) (multipliers m.rows (cuts ++ more) pairs) j) j) (λ j. share s (reduced_cost m cuts (multipliers m.rows cuts pairs) j) j)
    (λ j h. ap (λ (z : ℤ). share s ((pos 1024 *ℤ int_at m.costs j) -ℤ z) j) (weighted_more m cuts more pairs (λ row. coefficient j row.terms) known)))

bound_more : (m : ModelParts) (cuts more : List Row) (v : ℤ) (s : Sides) (pairs : List Pair) → is_bound_by m cuts v s pairs ≡ true → is_bound_by m (cuts ++ more) v s pairs ≡ true
bound_more m cuts more v s pairs test =
    let parts = four_parts (list_all (is_pair m.rows cuts) pairs) (are_rising pairs) (has_no_empty s) (int_le v (lagrangian_bound m cuts s (multipliers m.rows cuts pairs))) test in
    all_four (list_all (is_pair m.rows (cuts ++ more)) pairs) (are_rising pairs) (has_no_empty s) (int_le v (lagrangian_bound m (cuts ++ more) s (multipliers m.rows (cuts ++ more) pairs))) (pairs_more m.rows cuts more pairs parts.0) parts.1 parts.2
    (ap (λ (z : ℤ). int_le v (ceiling_quotient z (pos 1024))) (numerator_more m cuts more s pairs parts.0) ∙ parts.3)

closing_more : (m : ModelParts) (cuts more : List Row) (v : ℤ) (s : Sides) (closing : Closing) → closing_reason m cuts v s closing ≡ None → closing_reason m (cuts ++ more) v s closing ≡ None
closing_more m cuts more v s (Conflict name) none =
    unless-from BadConflict (is_conflict_at m.rows (cuts ++ more) s name) (conflict_more m.rows cuts more s name (unless-none BadConflict (is_conflict_at m.rows cuts s name) none))
closing_more m cuts more v s (Empty col) none = none
closing_more m cuts more v s (Bound pairs) none =
    unless-from BadBound (is_bound_by m (cuts ++ more) v s pairs) (bound_more m cuts more v s pairs (unless-none BadBound (is_bound_by m cuts v s pairs) none))

pub leaf_holds_over_more : LeafHoldsOverMore
leaf_holds_over_more m cuts more v s leaf holds =
    let parts = leaf-holds m cuts v s leaf holds in
    let later = steps_more m.rows cuts more leaf.steps s parts.0 in
    leaf-from m (cuts ++ more) v s leaf later.0
    (subst (λ (b : Sides). closing_reason m (cuts ++ more) v b leaf.closing ≡ None) (sym later.1) (closing_more m cuts more v (replay (row_named m.rows cuts) s leaf.steps) leaf.closing parts.1))
