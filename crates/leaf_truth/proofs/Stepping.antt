-- Making the steps of a leaf one after the other.
use Rattle.std.proofs.Common.{◌≡◌, ◌∙◌, ℕ, ◌+◌, ◌<◌, Bool, true, false, ◌&&◌, List, [], ◌∷◌, length, get_or, drop, nat_lt, ℤ, Option, Some, refl, sym, ap, subst}
use Rattle.std.proofs.lemmas.Bool.{and_parts, cond-true, cond-false, ltb-true}
use Rattle.std.proofs.lemmas.List.{drop_more}
use Rattle.ip_core.specs.Sides.{Sides}
use Rattle.ip_core.specs.Boxes.{IsWithin}
use Rattle.ip_core.specs.Rows.{coefficient}
use Rattle.ip_core.specs.declared.model.ModelParts.{ModelParts}
use Rattle.ip_core.specs.declared.row.Row.{Row}
use Rattle.ip_core.specs.declared.leaf.Tighten.{Tighten}
use Rattle.ip_core.specs.declared.leaf.Leaf.{Leaf}
use Rattle.ip_core.proofs.NarrowerBoxes.{within_both}
use Rattle.row_propagate.specs.Rounding.{tight_box}
use Rattle.row_propagate.specs.Replay.{replay, row_named}
use Rattle.row_propagate.proofs.Replaying.{tight_box_within}
use Rattle.leaf_truth.specs.declared.reason.LeafReason.{LeafReason}
use Rattle.leaf_truth.specs.declared.reason.LeafReason.TheVariants.{BadStep}
use Rattle.leaf_truth.specs.Steps.{has_row, has_no_empty, is_open_at, is_on_side, is_row_step, is_lawful_step, are_lawful_steps, box_after}
use Rattle.leaf_truth.specs.Leaves.{closing_reason, leaf_reason}
use Rattle.leaf_truth.proofs.TestResults.{three_parts}
use Rattle.leaf_truth.proofs.Solid.{solid_holds, solid_after}

-- whether a step can be made, by the row of its name
pub step_test : (rows cuts : List Row) (s : Sides) (step : Tighten) (row : Row) → has_row rows cuts step.row ≡ true → row ≡ row_named rows cuts step.row → is_row_step row s step ≡ true → is_lawful_step rows cuts s step ≡ true
step_test rows cuts s step row known same test =
    ap (λ (b : Bool). b && is_row_step (row_named rows cuts step.row) s step) known ∙ ap (λ (r : Row). is_row_step r s step) (sym same) ∙ test

-- the box after a step that can be made
pub step_box : (rows cuts : List Row) (s : Sides) (step : Tighten) (row : Row) (next : Sides) → row ≡ row_named rows cuts step.row → is_lawful_step rows cuts s step ≡ true → next ≡ tight_box row s step.col → next ≡ box_after rows cuts s (step ∷ [])
step_box rows cuts s step row next same test tight =
    tight ∙ ap (λ (r : Row). tight_box r s step.col) same ∙ sym (cond-true (is_lawful_step rows cuts s step) (tight_box (row_named rows cuts step.row) s step.col) s test)

second_false : (a b : Bool) → b ≡ false → (a && b) ≡ false
second_false true b none = none
second_false false b none = refl

-- on a box with an empty column no step can be made
pub step_unsolid : (rows cuts : List Row) (s : Sides) (step : Tighten) → has_no_empty s ≡ false → is_lawful_step rows cuts s step ≡ false
step_unsolid rows cuts s step unsolid =
    let row = row_named rows cuts step.row in
    second_false (has_row rows cuts step.row) (is_row_step row s step)
    (second_false (nat_lt step.col (length s.lows) && is_on_side step.low (coefficient step.col row.terms)) (has_no_empty s) unsolid)

-- where the first step of those left can't be made, nothing is made
pub steps_stop : (rows cuts : List Row) (s : Sides) (steps : List Tighten) (i : ℕ) (d : Tighten) → i < length steps → is_lawful_step rows cuts s (get_or steps i d) ≡ false → (are_lawful_steps rows cuts s (drop i steps) ≡ false) × (box_after rows cuts s (drop i steps) ≡ s)
steps_stop rows cuts s steps i d known test =
    let step = get_or steps i d in
    let next = tight_box (row_named rows cuts step.row) s step.col in (
      ap (are_lawful_steps rows cuts s) (drop_more steps i d known) ∙ ap (λ (b : Bool). b && are_lawful_steps rows cuts next (drop (i + 1) steps)) test,
      ap (box_after rows cuts s) (drop_more steps i d known) ∙ cond-false (is_lawful_step rows cuts s step) (box_after rows cuts next (drop (i + 1) steps)) s test,
    )

-- and where it can, the others are made on the box after it
pub steps_go : (rows cuts : List Row) (s next : Sides) (steps : List Tighten) (i : ℕ) (d : Tighten) → i < length steps → is_lawful_step rows cuts s (get_or steps i d) ≡ true → next ≡ box_after rows cuts s (get_or steps i d ∷ []) → (are_lawful_steps rows cuts next (drop (i + 1) steps) ≡ are_lawful_steps rows cuts s (drop i steps)) × (box_after rows cuts next (drop (i + 1) steps) ≡ box_after rows cuts s (drop i steps))
steps_go rows cuts s next steps i d known test made =
    let step = get_or steps i d in
    let tight = tight_box (row_named rows cuts step.row) s step.col in
    let same : next ≡ tight = made ∙ cond-true (is_lawful_step rows cuts s step) tight s test in (
      ap (λ (b : Sides). are_lawful_steps rows cuts b (drop (i + 1) steps)) same
          ∙ sym (ap (are_lawful_steps rows cuts s) (drop_more steps i d known) ∙ ap (λ (b : Bool). b && are_lawful_steps rows cuts tight (drop (i + 1) steps)) test),
      ap (λ (b : Sides). box_after rows cuts b (drop (i + 1) steps)) same
          ∙ sym (ap (box_after rows cuts s) (drop_more steps i d known) ∙ cond-true (is_lawful_step rows cuts s step) (box_after rows cuts tight (drop (i + 1) steps)) s test),
    )

step_tight : (rows cuts : List Row) (s next : Sides) (step : Tighten) → is_lawful_step rows cuts s step ≡ true → next ≡ box_after rows cuts s (step ∷ []) → next ≡ tight_box (row_named rows cuts step.row) s step.col
step_tight rows cuts s next step test made = made ∙ cond-true (is_lawful_step rows cuts s step) (tight_box (row_named rows cuts step.row) s step.col) s test

-- a step keeps the box within the root box
pub step_within : (rows cuts : List Row) (root s next : Sides) (step : Tighten) → is_lawful_step rows cuts s step ≡ true → next ≡ box_after rows cuts s (step ∷ []) → IsWithin root s → IsWithin root next
step_within rows cuts root s next step test made within =
    subst (IsWithin root) (sym (step_tight rows cuts s next step test made)) (within_both root s (tight_box (row_named rows cuts step.row) s step.col) within (tight_box_within (row_named rows cuts step.row) s step.col))

-- and its column alone can become empty
pub step_solid : (rows cuts : List Row) (s next : Sides) (step : Tighten) → has_no_empty s ≡ true → is_lawful_step rows cuts s step ≡ true → next ≡ box_after rows cuts s (step ∷ []) → is_open_at next step.col ≡ has_no_empty next
step_solid rows cuts s next step solid test made =
    let row = row_named rows cuts step.row in
    let parts = three_parts (nat_lt step.col (length s.lows)) (is_on_side step.low (coefficient step.col row.terms)) (has_no_empty s) (and_parts (has_row rows cuts step.row) (is_row_step row s step) test).1 in
    subst (λ (b : Sides). is_open_at b step.col ≡ has_no_empty b) (sym (step_tight rows cuts s next step test made)) (solid_after row s step.col (solid_holds s solid) (ltb-true step.col (length s.lows) parts.0))

-- steps that can be made lead to the box of their replay
made_box : (rows cuts : List Row) (steps : List Tighten) (s : Sides) → are_lawful_steps rows cuts s steps ≡ true → box_after rows cuts s steps ≡ replay (row_named rows cuts) s steps
made_box rows cuts [] s test = refl
made_box rows cuts (step ∷ steps) s test =
    let next = tight_box (row_named rows cuts step.row) s step.col in
    let parts = and_parts (is_lawful_step rows cuts s step) (are_lawful_steps rows cuts next steps) test in
    cond-true (is_lawful_step rows cuts s step) (box_after rows cuts next steps) s parts.0 ∙ made_box rows cuts steps next parts.1

-- where the steps can be made, the closing decides
pub leaf_judged : (m : ModelParts) (cuts : List Row) (v : ℤ) (s last : Sides) (leaf : Leaf) (reason : Option LeafReason) → are_lawful_steps m.rows cuts s leaf.steps ≡ true → last ≡ box_after m.rows cuts s leaf.steps → reason ≡ closing_reason m cuts v last leaf.closing → reason ≡ leaf_reason m cuts v s leaf
leaf_judged m cuts v s last leaf reason test made judged =
    judged ∙ ap (λ (b : Sides). closing_reason m cuts v b leaf.closing) (made ∙ made_box m.rows cuts leaf.steps s test)
    ∙ sym (cond-true (are_lawful_steps m.rows cuts s leaf.steps) (closing_reason m cuts v (replay (row_named m.rows cuts) s leaf.steps) leaf.closing) (Some BadStep) test)
