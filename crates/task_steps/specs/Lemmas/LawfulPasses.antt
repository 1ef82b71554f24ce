-- Passes over rows come to their box by lawful steps.
use Rattle.std.proofs.Common.{◌≡◌, ◌∙◌, ℕ, zero, suc, ◌+◌, ◌<◌, Bool, true, false, cond, not, ◌==◌, List, [], ◌∷◌, length, get_or, int_lt, Option, Some, None, All, refl, sym, subst, arith}
use Rattle.std.proofs.lemmas.Bool.{and_parts}
use Rattle.ip_core.specs.Boxes.{greatest_activity}
use Rattle.ip_core.specs.Rows.{AreRows, AreTerms, IsTerm}
use Rattle.ip_core.specs.Sides.{Sides, HasNoEmpty}
use Rattle.ip_core.specs.declared.row.Row.{Row}
use Rattle.ip_core.specs.declared.row.Term.{Term}
use Rattle.ip_core.specs.declared.row_ref.RowRef.{RowRef}
use Rattle.ip_core.specs.declared.row_ref.RowRef.TheVariants.{Model, Cut}
use Rattle.row_propagate.specs.declared.narrowing.Narrowing.{Narrowing}
use Rattle.row_propagate.specs.declared.outcome.Outcome.TheVariants.{Open, Conflict}
use Rattle.row_propagate.specs.Lawful.{IsAfter}
use Rattle.row_propagate.specs.Passes.{Run, after_bound, after_column, after_columns, after_pass, after_passes, after_row, after_rows, counted_run, go_on, is_due, is_open, run_of}
use Rattle.row_propagate.specs.Replay.{AreNamed, IsNamed}
use Rattle.row_propagate.specs.Rounding.{narrower_bound}
use Rattle.row_propagate.proofs.Going.{cut_naming, model_naming, open_is}
use Rattle.row_propagate.proofs.Keeping.{either}
use Rattle.row_propagate.proofs.Stepping.{narrower_box_solid, narrower_box_within, step_replay}

-- a run that came from a box by lawful steps; its box has no empty column where it goes on
pub record IsLawfulRun (rows cuts : List Row) (start : Sides) (run : Run) : Type 0 where
  pub after : IsAfter rows cuts start run.sides run.steps
  pub columns : length run.sides.lows ≡ length start.lows
  pub solid : run.outcome ≡ Open → HasNoEmpty run.sides

conflict_closes : (name : RowRef) → Conflict name ≡ Open → ⊥
conflict_closes name same = cc

next_place : (i k : ℕ) → i + 1 + k ≡ i + suc k
next_place i k = omega arith

first_place : (i : ℕ) → i + 0 ≡ i
first_place i = omega arith

from_start : (k : ℕ) → 0 + k ≡ k
from_start k = omega arith

module _ (rows cuts : List Row) (start : Sides) where
  -- what keeps a run lawful, where it goes on
  abbrev Keeps : (Run → Run) → Type 0
  Keeps next = (run : Run) → is_open run.outcome ≡ true → IsLawfulRun rows cuts start run
      → IsLawfulRun rows cuts start (next run)

  go_on_cases : (run : Run) (next : Run → Run) (b : Bool) → is_open run.outcome ≡ b
      → IsLawfulRun rows cuts start run → Keeps next
      → IsLawfulRun rows cuts start (cond b (next run) run)
  go_on_cases run next true goes lawful keeps = keeps run goes lawful
  go_on_cases run next false goes lawful keeps = lawful

  go_on_lawful : (run : Run) (next : Run → Run) → IsLawfulRun rows cuts start run → Keeps next
      → IsLawfulRun rows cuts start (go_on run next)
  go_on_lawful run next lawful keeps =
      go_on_cases run next (is_open run.outcome) refl lawful keeps

  bound_lawful : (row : Row) (name : RowRef) (col : ℕ) (run : Run) (o : Option Narrowing)
      → narrower_bound row run.sides col ≡ o → IsNamed rows cuts name row → col < length start.lows
      → is_open run.outcome ≡ true → IsLawfulRun rows cuts start run
      → IsLawfulRun rows cuts start (after_bound name col run o)
  bound_lawful row name col run None is named known goes lawful = lawful
  bound_lawful row name col run (Some bound) is named known goes lawful =
      let solid = lawful.solid (open_is run.outcome goes) in
      let here : col < length run.sides.lows = omega (arith, known, lawful.columns) in
      let step = step_replay rows cuts name row run.sides run.steps col bound named solid here is in
      record {
        after = step.from start lawful.after;
        columns = (narrower_box_within run.sides col bound).as_many_lows ∙ lawful.columns;
        solid = λ goes_on. narrower_box_solid run.sides col bound solid goes_on;
      }

  columns_lawful : (row : Row) (name : RowRef) (terms : List Term) (run : Run)
      → IsNamed rows cuts name row → All (IsTerm (length start.lows)) terms
      → is_open run.outcome ≡ true → IsLawfulRun rows cuts start run
      → IsLawfulRun rows cuts start (after_columns name row terms run)
  columns_lawful row name [] run named known goes lawful = lawful
  columns_lawful row name (t ∷ terms) run named known goes lawful =
      go_on_lawful (after_column name row t.col run) (after_columns name row terms)
      (bound_lawful row name t.col run (narrower_bound row run.sides t.col) refl named
      (known 0 t (omega arith)).known goes lawful)
      (λ r still h. columns_lawful row name terms r named
      (λ k d within. known (suc k) d (omega arith)) still h)

  row_lawful : (row : Row) (name : RowRef) (run : Run) → IsNamed rows cuts name row
      → AreTerms (length start.lows) row.terms → is_open run.outcome ≡ true
      → IsLawfulRun rows cuts start run → IsLawfulRun rows cuts start (after_row name row run)
  row_lawful row name run named known goes lawful =
      either (IsLawfulRun rows cuts start)
      (int_lt (greatest_activity run.sides row.terms) row.least)
      (run_of run.sides run.steps (Conflict name)) (after_columns name row row.terms run)
      (λ e. record {
        after = lawful.after;
        columns = lawful.columns;
        solid = λ same. absurd (conflict_closes name same);
      })
      (λ e. columns_lawful row name row.terms run named known.each goes lawful)

  -- `some` are rows named from the place `i` on
  rows_lawful : (name : ℕ → RowRef) (i : ℕ) (some : List Row) (run : Run)
      → ((k : ℕ) (d : Row) → k < length some → IsNamed rows cuts (name (i + k)) (get_or some k d))
      → All (λ row. AreTerms (length start.lows) row.terms) some → is_open run.outcome ≡ true
      → IsLawfulRun rows cuts start run → IsLawfulRun rows cuts start (after_rows name i some run)
  rows_lawful name i [] run named known goes lawful = lawful
  rows_lawful name i (row ∷ some) run named known goes lawful =
      go_on_lawful (after_row (name i) row run) (after_rows name (i + 1) some)
      (row_lawful row (name i) run
      (subst (λ (j : ℕ). IsNamed rows cuts (name j) row) (first_place i)
      (named 0 row (omega arith)))
      (known 0 row (omega arith)) goes lawful)
      (λ r still h. rows_lawful name (i + 1) some r
      (λ k d within. subst (λ (j : ℕ). IsNamed rows cuts (name j) (get_or some k d))
      (sym (next_place i k)) (named (suc k) d (omega arith)))
      (λ k d within. known (suc k) d (omega arith)) still h)

  all_lawful : (root : Sides) (name : ℕ → RowRef) (some : List Row) (run : Run)
      → AreNamed rows cuts name some → AreRows (length start.lows) root some
      → is_open run.outcome ≡ true → IsLawfulRun rows cuts start run
      → IsLawfulRun rows cuts start (after_rows name 0 some run)
  all_lawful root name some run naming valid goes lawful =
      rows_lawful name 0 some run
      (λ k d within. subst (λ (j : ℕ). IsNamed rows cuts (name j) (get_or some k d))
      (sym (from_start k)) (naming.at k d within))
      (λ k d within. (valid.each k d within).terms) goes lawful

  pass_lawful : (root : Sides) (run : Run) → AreRows (length start.lows) root rows
      → AreRows (length start.lows) root cuts → is_open run.outcome ≡ true
      → IsLawfulRun rows cuts start run → IsLawfulRun rows cuts start (after_pass rows cuts run)
  pass_lawful root run of_rows of_cuts goes lawful =
      go_on_lawful (after_rows Model 0 rows run) (after_rows Cut 0 cuts)
      (all_lawful root Model rows run (model_naming rows cuts) of_rows goes lawful)
      (λ r still h. all_lawful root Cut cuts r (cut_naming rows cuts) of_cuts still h)

  -- so is a run of passes from a run that is
  pub passes_lawful : (root : Sides) (n : ℕ) (run : Run) (passes : ℕ)
      → AreRows (length start.lows) root rows → AreRows (length start.lows) root cuts
      → is_open run.outcome ≡ true → IsLawfulRun rows cuts start run
      → IsLawfulRun rows cuts start (after_passes n rows cuts run passes).run
  unfolding after_passes
  passes_lawful root zero run passes of_rows of_cuts goes lawful = lawful
  passes_lawful root (suc n) run passes of_rows of_cuts goes lawful =
      let after = after_pass rows cuts run in
      let next = pass_lawful root run of_rows of_cuts goes lawful in
      either (λ c. IsLawfulRun rows cuts start c.run) (is_due run after)
      (after_passes n rows cuts after (passes + 1)) (counted_run after (passes + 1))
      (λ due. passes_lawful root n after (passes + 1) of_rows of_cuts
      (and_parts (is_open after.outcome) (not (length after.steps == length run.steps)) due).0 next)
      (λ over. next)
