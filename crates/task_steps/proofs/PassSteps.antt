-- How many tightenings passes make.
use Rattle.std.proofs.Common.{◌≡◌, ℕ, zero, suc, ◌+◌, ◌*◌, ◌^◌, ◌≤◌, Bool, true, false, cond, List, [], ◌∷◌, ◌++◌, length, int_lt, Option, Some, None, refl, arith}
use Rattle.std.proofs.Math.Nat.{suc-mul}
use Rattle.std.proofs.lemmas.List.{length_push}
use Rattle.std.proofs.lemmas.List.Sums.{sum_by-cons}
use Rattle.ip_core.specs.Boxes.{greatest_activity}
use Rattle.ip_core.specs.Models.{IsModel, term_count}
use Rattle.ip_core.specs.Sides.{Sides}
use Rattle.ip_core.specs.declared.leaf.Tighten.{Tighten}
use Rattle.ip_core.specs.declared.model.ModelParts.{ModelParts}
use Rattle.ip_core.specs.declared.row.Row.{Row}
use Rattle.ip_core.specs.declared.row.Term.{Term}
use Rattle.ip_core.specs.declared.row_ref.RowRef.{RowRef}
use Rattle.ip_core.specs.declared.row_ref.RowRef.TheVariants.{Model, Cut}
use Rattle.row_propagate.specs.Passes.{Run, after_bound, after_column, after_columns, after_pass, after_passes, after_row, after_rows, counted_run, first_empty, go_on, is_due, is_open, open_run, propagation_from, propagation_of, run_of}
use Rattle.row_propagate.specs.Rounding.{narrower_bound, tightening_of}
use Rattle.row_propagate.specs.declared.narrowing.Narrowing.{Narrowing}
use Rattle.row_propagate.specs.declared.outcome.Outcome.TheVariants.{Conflict}
use Rattle.row_propagate.proofs.Keeping.{either}
use Rattle.task_steps.specs.Fits.{AreFewDerived}
use Rattle.task_steps.specs.Lemmas.TaskCuts.{cut_terms}

-- what follows a run makes at most so many more steps
abbrev AddsFew : (Run → Run) → ℕ → Type 0
AddsFew next n = (run : Run) → length (next run).steps ≤ length run.steps + n

going_cases : (run : Run) (next : Run → Run) (b : Bool) (k n : ℕ) → length run.steps ≤ k
    → AddsFew next n → length (cond b (next run) run).steps ≤ k + n
going_cases run next true k n few more = omega (arith, few, more run)
going_cases run next false k n few more = omega (arith, few)

going_few : (run : Run) (next : Run → Run) (k n : ℕ) → length run.steps ≤ k → AddsFew next n
    → length (go_on run next).steps ≤ k + n
going_few run next k n few more = going_cases run next (is_open run.outcome) k n few more

bound_few : (name : RowRef) (col : ℕ) (run : Run) (o : Option Narrowing)
    → length (after_bound name col run o).steps ≤ length run.steps + 1
bound_few name col run None = omega arith
bound_few name col run (Some bound) =
    let more : length (run.steps ++ tightening_of name col bound ∷ []) ≡ length run.steps + 1 =
    length_push run.steps (tightening_of name col bound) in
    omega (arith, more)

columns_few : (name : RowRef) (row : Row) (terms : List Term)
    → AddsFew (after_columns name row terms) (length terms)
columns_few name row [] run = omega arith
columns_few name row (t ∷ terms) run =
    let rest = going_few (after_column name row t.col run) (after_columns name row terms)
    (length run.steps + 1) (length terms)
    (bound_few name t.col run (narrower_bound row run.sides t.col))
    (columns_few name row terms) in
    omega (arith, rest)

row_few : (name : RowRef) (row : Row) → AddsFew (after_row name row) (length row.terms)
row_few name row run =
    either (λ (r : Run). length r.steps ≤ length run.steps + length row.terms)
    (int_lt (greatest_activity run.sides row.terms) row.least)
    (run_of run.sides run.steps (Conflict name)) (after_columns name row row.terms run)
    (λ e. omega arith) (λ e. columns_few name row row.terms run)

rows_few : (name : ℕ → RowRef) (i : ℕ) (rows : List Row)
    → AddsFew (after_rows name i rows) (term_count rows)
rows_few name i [] run = omega arith
rows_few name i (row ∷ rows) run =
    let rest = going_few (after_row (name i) row run) (after_rows name (i + 1) rows)
    (length run.steps + length row.terms) (term_count rows) (row_few (name i) row run)
    (rows_few name (i + 1) rows) in
    let both = sum_by-cons (λ (r : Row). length r.terms) row rows in
    omega (arith, rest, both)

-- the terms of rows and cuts
abbrev all_terms : List Row → List Row → ℕ
all_terms rows cuts = term_count rows + term_count cuts

pass_few : (rows cuts : List Row) → AddsFew (after_pass rows cuts) (all_terms rows cuts)
pass_few rows cuts run =
    let both = going_few (after_rows Model 0 rows run) (after_rows Cut 0 cuts)
    (length run.steps + term_count rows) (term_count cuts) (rows_few Model 0 rows run)
    (rows_few Cut 0 cuts) in
    omega (arith, both)

passes_few : (n : ℕ) (rows cuts : List Row) (run : Run) (k : ℕ)
    → length (after_passes n rows cuts run k).run.steps
    ≤ length run.steps + n * all_terms rows cuts
unfolding after_passes
passes_few zero rows cuts run k = omega arith
passes_few (suc n) rows cuts run k =
    let after = after_pass rows cuts run in
    let one = pass_few rows cuts run in
    let more = suc-mul n (all_terms rows cuts) in
    either (λ c. length c.run.steps ≤ length run.steps + suc n * all_terms rows cuts)
    (is_due run after) (after_passes n rows cuts after (k + 1)) (counted_run after (k + 1))
    (λ due. omega (arith, passes_few n rows cuts after (k + 1), one, more))
    (λ over. omega (arith, one, more))

steps_from : (rows cuts : List Row) (s : Sides) (o : Option ℕ)
    → length (propagation_from rows cuts s o).steps ≤ 10 * all_terms rows cuts
steps_from rows cuts s (Some col) = omega arith
steps_from rows cuts s None =
    let few = passes_few 10 rows cuts (open_run s []) 0 in omega (arith, few)

-- each pass makes at most one for each term of a model's rows and its cuts
pub passes_steps : (m : ModelParts) (cuts : List Row) (s : Sides) → IsModel m
    → AreFewDerived m cuts → length (propagation_of m.rows cuts s).steps ≤ 2 ^ 21
passes_steps m cuts s valid own =
    let terms = cut_terms m cuts valid own in
    omega (arith, steps_from m.rows cuts s (first_empty s), valid.few.term_limit, terms)
