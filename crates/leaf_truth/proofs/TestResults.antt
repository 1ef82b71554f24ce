-- What the tests of a leaf say, and when they pass.
use Rattle.std.proofs.Common.{◌≡◌, ◌≢◌, ◌∙◌, ℕ, zero, suc, Bool, true, false, cond, ◌&&◌, List, [], ◌∷◌, length, nat_lt, ℤ, pos, negsuc, ◌≤ℤ◌, ◌<ℤ◌, int_lt, int_le, Option, Some, None, is_none, sym, ap, refl, arith}
use Rattle.std.proofs.lemmas.Int.{ints}
use Rattle.std.proofs.lemmas.Bool.Decides.{nat_tests}
use Rattle.std.proofs.lemmas.Option.{none-some}
use Rattle.std.proofs.lemmas.Bool.{and_from, and_parts, lt-ltb, cond-true}
use Rattle.ip_core.specs.Sides.{Sides, HasNoEmpty}
use Rattle.ip_core.specs.Rows.{coefficient}
use Rattle.ip_core.specs.declared.model.ModelParts.{ModelParts}
use Rattle.ip_core.specs.declared.row.Row.{Row}
use Rattle.ip_core.specs.declared.row_ref.RowRef.{RowRef}
use Rattle.ip_core.specs.declared.row_ref.RowRef.TheVariants.{Model, Cut}
use Rattle.ip_core.specs.declared.leaf.Tighten.{Tighten}
use Rattle.ip_core.specs.declared.leaf.Leaf.{Leaf}
use Rattle.row_propagate.specs.Rounding.{tight_box}
use Rattle.row_propagate.specs.Replay.{HasRow, row_named, replay}
use Rattle.row_propagate.specs.Lawful.{IsLawfulStep, AreLawfulSteps}
use Rattle.row_propagate.proofs.FirstEmpty.{first_empty_none}
use Rattle.leaf_truth.specs.declared.reason.LeafReason.{LeafReason}
use Rattle.leaf_truth.specs.declared.reason.LeafReason.TheVariants.{BadStep}
use Rattle.leaf_truth.specs.Steps.{has_row, has_no_empty, is_on_side, is_row_step, is_lawful_step, are_lawful_steps}
use Rattle.leaf_truth.specs.Leaves.{reason_unless, closing_reason, IsValidLeaf}

pub all_three : (a b c : Bool) → a ≡ true → b ≡ true → c ≡ true → (a && b && c) ≡ true
all_three a b c first second third = and_from (a && b) c (and_from a b first second) third

pub all_four : (a b c d : Bool) → a ≡ true → b ≡ true → c ≡ true → d ≡ true → (a && b && c && d) ≡ true
all_four a b c d first second third fourth = and_from (a && b && c) d (all_three a b c first second third) fourth

pub three_parts : (a b c : Bool) → (a && b && c) ≡ true → (a ≡ true) × (b ≡ true) × (c ≡ true)
three_parts a b c all =
    let last = and_parts (a && b) c all in
    let first = and_parts a b last.0 in
    (first.0, first.1, last.1)

pub four_parts : (a b c d : Bool) → (a && b && c && d) ≡ true → (a ≡ true) × (b ≡ true) × (c ≡ true) × (d ≡ true)
four_parts a b c d all =
    let last = and_parts (a && b && c) d all in
    let third = and_parts (a && b) c last.0 in
    let first = and_parts a b third.0 in
    (first.0, first.1, third.1, last.1)

pub int_lt-from : (a b : ℤ) → a <ℤ b → int_lt a b ≡ true
int_lt-from a b below = first_of (grind (arith, ints), grind (arith, ints, nat_tests))

pub int_lt-true : (a b : ℤ) → int_lt a b ≡ true → a <ℤ b
int_lt-true a b test = omega (arith, ints, test)

pub int_le-from : (a b : ℤ) → a ≤ℤ b → int_le a b ≡ true
int_le-from a b below = first_of (grind (arith, ints), grind (arith, ints, nat_tests))

pub int_le-true : (a b : ℤ) → int_le a b ≡ true → a ≤ℤ b
int_le-true a b test = first_of (omega (arith, ints, test), grind (arith, ints, test))

pub has_row-from : (rows cuts : List Row) (name : RowRef) → HasRow rows cuts name → has_row rows cuts name ≡ true
has_row-from rows cuts (Model i) known = lt-ltb i (length rows) known
has_row-from rows cuts (Cut i) known = lt-ltb i (length cuts) known

pub solid-from : (s : Sides) → HasNoEmpty s → has_no_empty s ≡ true
solid-from s solid = ap (λ (o : Option ℕ). is_none o) (first_empty_none s solid)

below_zero : (coef : ℤ) → int_lt (pos 0) coef ≡ false → coef ≢ pos 0 → int_lt coef (pos 0) ≡ true
below_zero (pos zero) is stands = absurd (stands refl)
below_zero (pos (suc n)) is stands = absurd (first_of (omega (arith, ints, is), grind (arith, ints, is), cc))
below_zero (negsuc n) is stands = int_lt-from (negsuc n) (pos 0) (omega (arith, ints))

side_cases : (low : Bool) (coef : ℤ) → int_lt (pos 0) coef ≡ low → coef ≢ pos 0 → is_on_side low coef ≡ true
side_cases true coef is stands = is
side_cases false coef is stands = below_zero coef is stands

-- a lawful step passes
pub step-from : (rows cuts : List Row) (s : Sides) (step : Tighten) → IsLawfulStep rows cuts s step → is_lawful_step rows cuts s step ≡ true
step-from rows cuts s step lawful =
    let row = row_named rows cuts step.row in
    let coef = coefficient step.col row.terms in
    and_from (has_row rows cuts step.row) (is_row_step row s step) (has_row-from rows cuts step.row lawful.row)
    (all_three (nat_lt step.col (length s.lows)) (is_on_side step.low coef) (has_no_empty s) (lt-ltb step.col (length s.lows) lawful.col) (side_cases step.low coef (sym lawful.side) lawful.stands) (solid-from s lawful.solid))

-- and so do lawful steps
pub steps-from : (rows cuts : List Row) (s : Sides) (steps : List Tighten) → AreLawfulSteps rows cuts s steps → are_lawful_steps rows cuts s steps ≡ true
steps-from rows cuts s [] lawful = refl
steps-from rows cuts s (step ∷ steps) lawful =
    let next = tight_box (row_named rows cuts step.row) s step.col in
    and_from (is_lawful_step rows cuts s step) (are_lawful_steps rows cuts next steps) (step-from rows cuts s step lawful.0) (steps-from rows cuts next steps lawful.1)

-- a test that passes leaves no reason, and without a reason it passes
pub unless-from : (why : LeafReason) (b : Bool) → b ≡ true → reason_unless why b ≡ None
unless-from why b passes = cond-true b None (Some why) passes

pub unless-none : (why : LeafReason) (b : Bool) → reason_unless why b ≡ None → b ≡ true
unless-none why true none = refl
unless-none why false none = absurd (none-some why (sym none))

both_none : (why : LeafReason) (b : Bool) (o : Option LeafReason) → cond b o (Some why) ≡ None → (b ≡ true) × (o ≡ None)
both_none why true o none = (refl, none)
both_none why false o none = absurd (none-some why (sym none))

-- a leaf holds where its steps can be made and its closing has no reason on the box after them
pub leaf-from : (m : ModelParts) (cuts : List Row) (v : ℤ) (s : Sides) (leaf : Leaf) → are_lawful_steps m.rows cuts s leaf.steps ≡ true → closing_reason m cuts v (replay (row_named m.rows cuts) s leaf.steps) leaf.closing ≡ None → IsValidLeaf m cuts v s leaf
leaf-from m cuts v s leaf steps closing = record {
  no_reason = cond-true (are_lawful_steps m.rows cuts s leaf.steps) (closing_reason m cuts v (replay (row_named m.rows cuts) s leaf.steps) leaf.closing) (Some BadStep) steps ∙ closing;
}

-- and only there
pub leaf-holds : (m : ModelParts) (cuts : List Row) (v : ℤ) (s : Sides) (leaf : Leaf) → IsValidLeaf m cuts v s leaf → (are_lawful_steps m.rows cuts s leaf.steps ≡ true) × (closing_reason m cuts v (replay (row_named m.rows cuts) s leaf.steps) leaf.closing ≡ None)
leaf-holds m cuts v s leaf holds = both_none BadStep (are_lawful_steps m.rows cuts s leaf.steps) (closing_reason m cuts v (replay (row_named m.rows cuts) s leaf.steps) leaf.closing) holds.no_reason
