-- A leaf has no reason exactly where all that it says is so.
use Rattle.std.proofs.Common.{◌≡◌, ◌≢◌, ◌<◌, ◌≤◌, ℕ, zero, suc, Bool, true, false, List, [], ◌∷◌, length, get_or, nat_lt, nat_le, All, ℤ, pos, ◌≤ℤ◌, ◌<ℤ◌, int_lt, int_le, None, refl, sym, arith}
use Rattle.std.specs.List.{list_all}
use Rattle.std.proofs.lemmas.Int.{ints}
use Rattle.std.proofs.lemmas.Bool.{and_from, and_parts, ltb-true, leb-true, le-leb}
use Rattle.std.proofs.lemmas.List.Elements.{All-head, All-tail}
use Rattle.ip_core.specs.Numbers.{int_at}
use Rattle.ip_core.specs.Sides.{Sides}
use Rattle.ip_core.specs.Rows.{coefficient}
use Rattle.ip_core.specs.RowRefs.{is_before}
use Rattle.ip_core.specs.declared.model.ModelParts.{ModelParts}
use Rattle.ip_core.specs.declared.row.Row.{Row}
use Rattle.ip_core.specs.declared.row_ref.RowRef.{RowRef}
use Rattle.ip_core.specs.declared.row_ref.RowRef.TheVariants.{Model, Cut}
use Rattle.ip_core.specs.declared.leaf.Tighten.{Tighten}
use Rattle.ip_core.specs.declared.leaf.Pair.{Pair}
use Rattle.ip_core.specs.declared.leaf.Closing.{Closing}
use Rattle.ip_core.specs.declared.leaf.Closing.TheVariants.{Conflict, Empty, Bound}
use Rattle.ip_core.specs.Boxes.{greatest_activity}
use Rattle.row_propagate.specs.Rounding.{tight_box}
use Rattle.row_propagate.specs.Replay.{HasRow, row_named, replay}
use Rattle.row_propagate.specs.Lawful.{IsLawfulStep, AreLawfulSteps, IsConflictAt, IsEmptyColumn}
use Rattle.safe_bound.specs.Bounds.{lagrangian_bound}
use Rattle.safe_bound.specs.declared.limits.TheConstants.{MAX_MULTIPLIER}
use Rattle.leaf_truth.specs.declared.reason.LeafReason.TheVariants.{BadConflict, BadBound}
use Rattle.leaf_truth.specs.Steps.{has_row, has_no_empty, is_on_side, is_row_step, is_lawful_step, are_lawful_steps}
use Rattle.leaf_truth.specs.Multipliers.{multipliers, is_pair, rise_after, are_rising}
use Rattle.leaf_truth.specs.Leaves.{is_conflict, is_conflict_at, is_empty_column, is_bound_by, closing_reason}
use Rattle.leaf_truth.specs.Laws.{IsBoundBy, IsClosing, LeafReasonIsExact}
use Rattle.leaf_truth.proofs.TestResults.{all_four, three_parts, four_parts, int_lt-true, int_le-from, int_le-true, has_row-from, solid-from, steps-from, unless-from, unless-none, leaf-from, leaf-holds}
use Rattle.leaf_truth.proofs.Given.{conflict_test, empty_test}
use Rattle.leaf_truth.proofs.Solid.{solid_holds}

pub has_row-holds : (rows cuts : List Row) (name : RowRef) → has_row rows cuts name ≡ true → HasRow rows cuts name
has_row-holds rows cuts (Model i) test = ltb-true i (length rows) test
has_row-holds rows cuts (Cut i) test = ltb-true i (length cuts) test

not_above : (coef : ℤ) → coef ≤ℤ pos 0 → int_lt (pos 0) coef ≡ false
not_above coef below = grind (arith, ints)

side-holds : (low : Bool) (coef : ℤ) → is_on_side low coef ≡ true → (coef ≢ pos 0) × (low ≡ int_lt (pos 0) coef)
side-holds true coef test = (λ e. omega (arith, ints, e, int_lt-true (pos 0) coef test), sym test)
side-holds false coef test =
    let below : coef <ℤ pos 0 = int_lt-true coef (pos 0) test in
    (λ e. omega (arith, ints, e, below), sym (not_above coef (omega (arith, ints, below))))

-- a step that passes is lawful
step-holds : (rows cuts : List Row) (s : Sides) (step : Tighten) → is_lawful_step rows cuts s step ≡ true → IsLawfulStep rows cuts s step
step-holds rows cuts s step test =
    let row = row_named rows cuts step.row in
    let coef = coefficient step.col row.terms in
    let named = and_parts (has_row rows cuts step.row) (is_row_step row s step) test in
    let parts = three_parts (nat_lt step.col (length s.lows)) (is_on_side step.low coef) (has_no_empty s) named.1 in
    let side = side-holds step.low coef parts.1 in
    record {
      row = has_row-holds rows cuts step.row named.0;
      col = ltb-true step.col (length s.lows) parts.0;
      stands = side.0;
      side = side.1;
      solid = solid_holds s parts.2;
    }

steps-holds : (rows cuts : List Row) (s : Sides) (steps : List Tighten) → are_lawful_steps rows cuts s steps ≡ true → AreLawfulSteps rows cuts s steps
steps-holds rows cuts s [] test = tt
steps-holds rows cuts s (step ∷ steps) test =
    let next = tight_box (row_named rows cuts step.row) s step.col in
    let parts = and_parts (is_lawful_step rows cuts s step) (are_lawful_steps rows cuts next steps) test in
    (step-holds rows cuts s step parts.0, steps-holds rows cuts next steps parts.1)

conflict-holds : (rows cuts : List Row) (s : Sides) (name : RowRef) → is_conflict_at rows cuts s name ≡ true → IsConflictAt rows cuts s name
conflict-holds rows cuts s name test =
    let row = row_named rows cuts name in
    let parts = three_parts (has_row rows cuts name) (has_no_empty s) (is_conflict s row) test in
    record {
      known = has_row-holds rows cuts name parts.0;
      solid = solid_holds s parts.1;
      conflict = record { below = int_lt-true (greatest_activity s row.terms) row.least parts.2 };
    }

empty-holds : (s : Sides) (col : ℕ) → is_empty_column s col ≡ true → IsEmptyColumn s col
empty-holds s col test =
    let parts = and_parts (nat_lt col (length s.lows)) (int_lt (int_at s.highs col) (int_at s.lows col)) test in
    record {
      known = ltb-true col (length s.lows) parts.0;
      empty = record { crossed = int_lt-true (int_at s.highs col) (int_at s.lows col) parts.1 };
    }

-- pairs that rise by the test do so from each to the next, and the other way round
rising-holds : (pairs : List Pair) → are_rising pairs ≡ true → (k : ℕ) (d : Pair) → suc k < length pairs → is_before (get_or pairs k d).row (get_or pairs (suc k) d).row ≡ true
rising-holds [] test k d known = absurd (omega (arith, known))
rising-holds (p ∷ []) test k d known = absurd (omega (arith, known))
rising-holds (p ∷ q ∷ pairs) test zero d known = (and_parts (is_before p.row q.row) (rise_after q.row pairs) test).0
rising-holds (p ∷ q ∷ pairs) test (suc k) d known =
    rising-holds (q ∷ pairs) (and_parts (is_before p.row q.row) (rise_after q.row pairs) test).1 k d (omega (arith, known))

rising-from : (pairs : List Pair) → ((k : ℕ) (d : Pair) → suc k < length pairs → is_before (get_or pairs k d).row (get_or pairs (suc k) d).row ≡ true) → are_rising pairs ≡ true
rising-from [] each = refl
rising-from (p ∷ []) each = refl
rising-from (p ∷ q ∷ pairs) each =
    and_from (is_before p.row q.row) (rise_after q.row pairs) (each 0 p (omega arith)) (rising-from (q ∷ pairs) (λ k d h. each (suc k) d (omega (arith, h))))

-- pairs that pass have rows that exist and small weights, and the other way round
pair-parts : (rows cuts : List Row) (p : Pair) → is_pair rows cuts p ≡ true → HasRow rows cuts p.row × (p.weight ≤ MAX_MULTIPLIER)
pair-parts rows cuts p test =
    let parts = and_parts (has_row rows cuts p.row) (nat_le p.weight MAX_MULTIPLIER) test in
    (has_row-holds rows cuts p.row parts.0, leb-true p.weight MAX_MULTIPLIER parts.1)

pairs-hold : (rows cuts : List Row) (pairs : List Pair) → list_all (is_pair rows cuts) pairs ≡ true → (k : ℕ) (d : Pair) → k < length pairs → HasRow rows cuts (get_or pairs k d).row × ((get_or pairs k d).weight ≤ MAX_MULTIPLIER)
pairs-hold rows cuts [] test k d known = absurd (omega (arith, known))
pairs-hold rows cuts (p ∷ pairs) test zero d known =
    pair-parts rows cuts p (and_parts (is_pair rows cuts p) (list_all (is_pair rows cuts) pairs) test).0
pairs-hold rows cuts (p ∷ pairs) test (suc k) d known =
    pairs-hold rows cuts pairs (and_parts (is_pair rows cuts p) (list_all (is_pair rows cuts) pairs) test).1 k d (omega (arith, known))

abbrev Exists : List Row → List Row → Pair → Type 0
Exists rows cuts p = HasRow rows cuts p.row

abbrev IsLight : Pair → Type 0
IsLight p = p.weight ≤ MAX_MULTIPLIER

pairs-from : (rows cuts : List Row) (pairs : List Pair) → All (Exists rows cuts) pairs → All IsLight pairs → list_all (is_pair rows cuts) pairs ≡ true
pairs-from rows cuts [] known small = refl
pairs-from rows cuts (p ∷ pairs) known small =
    let there : HasRow rows cuts p.row = All-head (Exists rows cuts) p pairs known in
    let light : p.weight ≤ MAX_MULTIPLIER = All-head IsLight p pairs small in
    and_from (is_pair rows cuts p) (list_all (is_pair rows cuts) pairs)
    (and_from (has_row rows cuts p.row) (nat_le p.weight MAX_MULTIPLIER) (has_row-from rows cuts p.row there) (le-leb p.weight MAX_MULTIPLIER light))
    (pairs-from rows cuts pairs (All-tail (Exists rows cuts) p pairs known) (All-tail IsLight p pairs small))

bound-holds : (m : ModelParts) (cuts : List Row) (v : ℤ) (s : Sides) (pairs : List Pair) → is_bound_by m cuts v s pairs ≡ true → IsBoundBy m cuts v s pairs
bound-holds m cuts v s pairs test =
    let least = lagrangian_bound m cuts s (multipliers m.rows cuts pairs) in
    let parts = four_parts (list_all (is_pair m.rows cuts) pairs) (are_rising pairs) (has_no_empty s) (int_le v least) test in
    let each = pairs-hold m.rows cuts pairs parts.0 in
    record {
      known = λ k d h. (each k d h).0;
      small = λ k d h. (each k d h).1;
      rising = record { each = rising-holds pairs parts.1 };
      solid = solid_holds s parts.2;
      reached = int_le-true v least parts.3;
    }

bound-from : (m : ModelParts) (cuts : List Row) (v : ℤ) (s : Sides) (pairs : List Pair) → IsBoundBy m cuts v s pairs → is_bound_by m cuts v s pairs ≡ true
bound-from m cuts v s pairs by =
    let least = lagrangian_bound m cuts s (multipliers m.rows cuts pairs) in
    all_four (list_all (is_pair m.rows cuts) pairs) (are_rising pairs) (has_no_empty s) (int_le v least)
    (pairs-from m.rows cuts pairs by.known by.small) (rising-from pairs by.rising.each) (solid-from s by.solid) (int_le-from v least by.reached)

closing-holds : (m : ModelParts) (cuts : List Row) (v : ℤ) (s : Sides) (closing : Closing) → closing_reason m cuts v s closing ≡ None → IsClosing m cuts v s closing
closing-holds m cuts v s (Conflict name) none =
    conflict-holds m.rows cuts s name (unless-none BadConflict (is_conflict_at m.rows cuts s name) none)
closing-holds m cuts v s (Empty col) none = empty-holds s col (unless-none BadConflict (is_empty_column s col) none)
closing-holds m cuts v s (Bound pairs) none = bound-holds m cuts v s pairs (unless-none BadBound (is_bound_by m cuts v s pairs) none)

closing-from : (m : ModelParts) (cuts : List Row) (v : ℤ) (s : Sides) (closing : Closing) → IsClosing m cuts v s closing → closing_reason m cuts v s closing ≡ None
closing-from m cuts v s (Conflict name) says =
    unless-from BadConflict (is_conflict_at m.rows cuts s name) (conflict_test m.rows cuts s name says)
closing-from m cuts v s (Empty col) says = unless-from BadConflict (is_empty_column s col) (empty_test s col says)
closing-from m cuts v s (Bound pairs) says = unless-from BadBound (is_bound_by m cuts v s pairs) (bound-from m cuts v s pairs says)

pub leaf_reason_is_exact : LeafReasonIsExact
leaf_reason_is_exact m cuts v s leaf =
    let last = replay (row_named m.rows cuts) s leaf.steps in (
      λ none.
          let parts = leaf-holds m cuts v s leaf (record { no_reason = none }) in
          record { steps = steps-holds m.rows cuts s leaf.steps parts.0; closing = closing-holds m cuts v last leaf.closing parts.1 },
      λ says. (leaf-from m cuts v s leaf (steps-from m.rows cuts s leaf.steps says.steps) (closing-from m cuts v last leaf.closing says.closing)).no_reason,
    )
