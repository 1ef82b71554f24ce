-- A model without columns: where passes leave it open, its empty point meets every row.
use Rattle.std.proofs.Common.{◌≡◌, ◌∙◌, ℕ, zero, suc, ◌+◌, ◌<◌, Bool, true, false, cond, not, ◌==◌, List, [], ◌∷◌, length, get_or, ℤ, pos, ◌≤ℤ◌, int_lt, Option, Some, None, All, refl, sym, ap, subst, arith}
use Rattle.std.proofs.lemmas.Bool.{and_parts, false≢true}
use Rattle.std.proofs.lemmas.Int.{ints}
use Rattle.ip_core.specs.Sides.{Sides}
use Rattle.ip_core.specs.Boxes.{greatest_activity}
use Rattle.ip_core.specs.Models.{IsModel}
use Rattle.ip_core.specs.Rows.{IsTerm, activity}
use Rattle.ip_core.specs.Truth.{IsFeasible}
use Rattle.ip_core.specs.declared.model.ModelParts.{ModelParts}
use Rattle.ip_core.specs.declared.row.Row.{Row}
use Rattle.ip_core.specs.declared.row.Term.{Term}
use Rattle.ip_core.specs.declared.row_ref.RowRef.{RowRef}
use Rattle.ip_core.specs.declared.row_ref.RowRef.TheVariants.{Model, Cut}
use Rattle.row_propagate.specs.declared.outcome.Outcome.TheVariants.{Open, Conflict}
use Rattle.row_propagate.specs.Passes.{CountedRun, Run, after_columns, after_pass, after_passes, after_row, after_rows, counted_run, first_empty, is_due, is_open, open_run, propagation_of, propagation_from, run_of}

no_terms : (n : ℕ) (terms : List Term) → n ≡ 0 → All (IsTerm n) terms → terms ≡ []
no_terms n [] none all = refl
no_terms n (t ∷ terms) none all = absurd (let known = (all 0 t (omega arith)).known in omega arith)

at_most_zero : (z : ℤ) → int_lt (pos 0) z ≡ false → z ≤ℤ pos 0
at_most_zero z test = grind (arith, ints)

row_calm : (name : RowRef) (row : Row) (run : Run) (b : Bool)
    → int_lt (greatest_activity run.sides row.terms) row.least ≡ b → row.terms ≡ []
    → is_open (cond b (run_of run.sides run.steps (Conflict name))
    (after_columns name row row.terms run)).outcome ≡ true → row.least ≤ℤ pos 0
row_calm name row run true test none goes = absurd (false≢true goes)
row_calm name row run false test none goes =
    at_most_zero row.least
    (subst (λ (terms : List Term). int_lt (greatest_activity run.sides terms) row.least ≡ false)
    none test)

both_go : (run : Run) (next : Run → Run) (b : Bool) → is_open run.outcome ≡ b
    → is_open (cond b (next run) run).outcome ≡ true
    → (is_open run.outcome ≡ true) × (is_open (next run).outcome ≡ true)
both_go run next true is goes = (is, goes)
both_go run next false is goes = absurd (false≢true (sym is ∙ goes))

rows_calm : (name : ℕ → RowRef) (i : ℕ) (rows : List Row) (run : Run)
    → ((k : ℕ) (d : Row) → k < length rows → (get_or rows k d).terms ≡ [])
    → is_open (after_rows name i rows run).outcome ≡ true → (k : ℕ) (d : Row) → k < length rows
    → (get_or rows k d).least ≤ℤ pos 0
rows_calm name i [] run bare goes k d within = absurd (omega arith)
rows_calm name i (row ∷ rows) run bare goes zero d within =
    let parts = both_go (after_row (name i) row run) (after_rows name (i + 1) rows) _ refl goes in
    row_calm (name i) row run _ refl (bare 0 row (omega arith)) parts.0
rows_calm name i (row ∷ rows) run bare goes (suc k) d within =
    let parts = both_go (after_row (name i) row run) (after_rows name (i + 1) rows) _ refl goes in
    rows_calm name (i + 1) rows (after_row (name i) row run)
    (λ j e h. bare (suc j) e (omega arith)) parts.1 k d (omega arith)

first_goes : (before after : Run) (last : CountedRun) (passes : ℕ) (b : Bool)
    → is_due before after ≡ b → is_open (cond b last (counted_run after passes)).run.outcome ≡ true
    → is_open after.outcome ≡ true
first_goes before after last passes true due goes =
    (and_parts (is_open after.outcome) (not (length after.steps == length before.steps)) due).0
first_goes before after last passes false due goes = goes

pass_goes : (rows cuts : List Row) (n passes : ℕ) (run : Run)
    → is_open (after_passes (suc n) rows cuts run passes).run.outcome ≡ true
    → is_open (after_pass rows cuts run).outcome ≡ true
unfolding after_passes
pass_goes rows cuts n passes run goes =
    let after = after_pass rows cuts run in
    first_goes run after (after_passes n rows cuts after (passes + 1)) (passes + 1)
    (is_due run after) refl goes

calm_from : (rows cuts : List Row) (s : Sides) (o : Option ℕ)
    → ((k : ℕ) (d : Row) → k < length rows → (get_or rows k d).terms ≡ [])
    → is_open (propagation_from rows cuts s o).run.outcome ≡ true → (k : ℕ) (d : Row)
    → k < length rows → (get_or rows k d).least ≤ℤ pos 0
calm_from rows cuts s (Some col) bare goes = absurd (false≢true goes)
calm_from rows cuts s None bare goes =
    let one = pass_goes rows cuts 9 0 (open_run s []) goes in
    rows_calm Model 0 rows (open_run s []) bare
    (both_go (after_rows Model 0 rows (open_run s [])) (after_rows Cut 0 cuts) _ refl one).0

-- the empty point is feasible
pub empty_feasible : (m : ModelParts) (cuts : List Row) (s : Sides) (x : List ℤ) → IsModel m
    → length m.cols ≡ 0
    → length x ≡ 0 → (propagation_of m.rows cuts s).run.outcome ≡ Open → IsFeasible m x
empty_feasible m cuts s x valid none long goes =
    let bare : (k : ℕ) (d : Row) → k < length m.rows → (get_or m.rows k d).terms ≡ [] =
    λ k d h. no_terms (length m.cols) (get_or m.rows k d).terms none
    (valid.rows.each k d h).terms.each in
    let calm = calm_from m.rows cuts s (first_empty s) bare (ap is_open goes) in
    record {
      one_each = omega arith;
      inside = record { above = λ j h. absurd (omega arith); below = λ j h. absurd (omega arith) };
      rows_met = record {
        each = λ k d h. record {
          reached = subst
              (λ (terms : List Term). (get_or m.rows k d).least ≤ℤ activity x terms)
              (sym (bare k d h))
              (calm k d h);
        };
      };
    }
