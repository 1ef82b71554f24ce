use Rattle.std.proofs.Common.{◌≡◌, ◌≢◌, ◌∙◌, ℕ, suc, ◌+◌, ◌-◌, ◌<◌, arith, Bool, true, false, ◌&&◌, List, length, ne_eqb, eq-eqb, refl, sym, ap, subst}
use Rattle.std.proofs.lemmas.Bool.{cond-true, cond-false}
use Rattle.ip_core.specs.Sides.{Sides}
use Rattle.ip_core.specs.declared.row.Row.{Row}
use Rattle.ip_core.specs.declared.leaf.Tighten.{Tighten}
use Rattle.row_propagate.specs.declared.outcome.Outcome.{Outcome}
use Rattle.row_propagate.specs.declared.outcome.Outcome.TheVariants.{Open}
use Rattle.row_propagate.specs.Passes.{Run, CountedRun, counted_run, open_run, run_of, is_open, is_due, after_pass, after_passes}

-- another pass is due after one with a real tightening that left the box open
pub is_due_after : (s t : Sides) (before after : List Tighten) (outcome : Outcome) → is_open outcome ≡ true → length after ≢ length before → is_due (open_run s before) (run_of t after outcome) ≡ true
is_due_after s t before after outcome open_outcome more = rw (open_outcome, ne_eqb (length after) (length before) more) refl

-- none is due where the box is closed, or where nothing changed
pub no_more_closed : (s t : Sides) (before after : List Tighten) (outcome : Outcome) → is_open outcome ≡ false → is_due (open_run s before) (run_of t after outcome) ≡ false
no_more_closed s t before after outcome closed = rw closed refl

and_false : (b : Bool) → (b && false) ≡ false
and_false true = refl
and_false false = refl

pub no_more_unchanged : (s t : Sides) (before after : List Tighten) (outcome : Outcome) → length after ≡ length before → is_due (open_run s before) (run_of t after outcome) ≡ false
no_more_unchanged s t before after outcome same = rw (eq-eqb (length after) (length before) same) (and_false (is_open outcome))

-- a pass after which another is due
pub passes_go_on : (rows cuts : List Row) (n k passes : ℕ) (run after : Run) → n ≡ suc k → after ≡ after_pass rows cuts run → is_due run after ≡ true → after_passes n rows cuts run passes ≡ after_passes k rows cuts after (passes + 1)
unfolding after_passes
passes_go_on rows cuts n k passes run after more same due =
    ap (λ m. after_passes m rows cuts run passes) more ∙ cond-true (is_due run (after_pass rows cuts run)) _ _ (subst (λ r. is_due run r ≡ true) same due) ∙ ap (λ r. after_passes k rows cuts r (passes + 1)) (sym same)

-- the last pass
pub passes_end : (rows cuts : List Row) (n k passes : ℕ) (run after : Run) → n ≡ suc k → after ≡ after_pass rows cuts run → is_due run after ≡ false → after_passes n rows cuts run passes ≡ counted_run after (passes + 1)
unfolding after_passes
passes_end rows cuts n k passes run after more same due =
    ap (λ m. after_passes m rows cuts run passes) more ∙ cond-false (is_due run (after_pass rows cuts run)) _ _ (subst (λ r. is_due run r ≡ false) same due) ∙ ap (λ r. counted_run r (passes + 1)) (sym same)

-- no pass is left
pub passes_over : (rows cuts : List Row) (n passes : ℕ) (run : Run) → n ≡ 0 → after_passes n rows cuts run passes ≡ counted_run run passes
unfolding after_passes
passes_over rows cuts n passes run none = ap (λ m. after_passes m rows cuts run passes) none

-- the last of ten passes, where some have been made
pub last_pass : (rows cuts : List Row) (passes : ℕ) (run after : Run) (whole : CountedRun) → passes < 10 → after_passes (10 - passes) rows cuts run passes ≡ whole → after ≡ after_pass rows cuts run → is_due run after ≡ false → counted_run after (passes + 1) ≡ whole
last_pass rows cuts passes run after whole few so_far same due = sym (passes_end rows cuts (10 - passes) (9 - passes) passes run after (omega arith) same due) ∙ so_far

-- one that isn't the last
pub next_pass : (rows cuts : List Row) (passes : ℕ) (run after : Run) (whole : CountedRun) → passes < 10 → after_passes (10 - passes) rows cuts run passes ≡ whole → after ≡ after_pass rows cuts run → is_due run after ≡ true → after_passes (10 - (passes + 1)) rows cuts after (passes + 1) ≡ whole
next_pass rows cuts passes run after whole few so_far same due = sym (passes_go_on rows cuts (10 - passes) (10 - (passes + 1)) passes run after (omega arith) same due) ∙ so_far

-- after the tenth no pass is left
pub ten_passes : (rows cuts : List Row) (passes : ℕ) (run : Run) (whole : CountedRun) → passes ≡ 10 → after_passes (10 - passes) rows cuts run passes ≡ whole → counted_run run 10 ≡ whole
ten_passes rows cuts passes run whole all so_far = ap (counted_run run) (sym all) ∙ sym (passes_over rows cuts (10 - passes) passes run (omega (arith, all))) ∙ so_far

-- an open outcome read as such
pub passes_open : (rows cuts : List Row) (n passes : ℕ) (s : Sides) (steps : List Tighten) (outcome : Outcome) (whole : CountedRun) → outcome ≡ Open → after_passes n rows cuts (run_of s steps outcome) passes ≡ whole → after_passes n rows cuts (open_run s steps) passes ≡ whole
passes_open rows cuts n passes s steps outcome whole same so_far = ap (λ o. after_passes n rows cuts (run_of s steps o) passes) (sym same) ∙ so_far
