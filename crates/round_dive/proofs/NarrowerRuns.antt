-- Passes narrow a box, and leave no empty column where they leave the box open.
use Rattle.std.proofs.Common.{◌≡◌, ◌≢◌, ◌∙◌, ℕ, zero, suc, ◌+◌, ◌*◌, ◌≤◌, true, false, List, [], ◌∷◌, int_lt, Option, Some, None, refl, sym, ap, subst, arith}
use Rattle.std.proofs.lemmas.Bool.{false≢true}
use Rattle.ip_core.specs.Sides.{Sides, HasNoEmpty}
use Rattle.ip_core.specs.Boxes.{IsWithin, greatest_activity}
use Rattle.ip_core.specs.Models.{term_count}
use Rattle.ip_core.specs.declared.row.Row.{Row}
use Rattle.ip_core.specs.declared.row.Term.{Term}
use Rattle.ip_core.specs.declared.row_ref.RowRef.{RowRef}
use Rattle.ip_core.specs.declared.row_ref.RowRef.TheVariants.{Model, Cut}
use Rattle.ip_core.proofs.NarrowerBoxes.{within_both, within_itself}
use Rattle.row_propagate.specs.declared.narrowing.Narrowing.{Narrowing}
use Rattle.row_propagate.specs.declared.outcome.Outcome.{Outcome}
use Rattle.row_propagate.specs.declared.outcome.Outcome.TheVariants.{Open, Conflict}
use Rattle.row_propagate.specs.Rounding.{narrower_bound, narrower_box}
use Rattle.row_propagate.specs.Passes.{Run, CountedRun, Propagation, after_bound, after_column, after_columns, after_row, after_rows, after_pass, after_passes, counted_run, go_on, is_due, is_open, open_run, propagation_from, propagation_of, with_work}
use Rattle.row_propagate.proofs.FirstEmpty.{first_empty_none}
use Rattle.row_propagate.proofs.Going.{open_is}
use Rattle.row_propagate.proofs.Keeping.{either}
use Rattle.row_propagate.proofs.Stepping.{narrower_box_within, narrower_box_solid}
use Rattle.round_dive.proofs.FeasiblePoints.{and_true}

pub not_open : (outcome : Outcome) → is_open outcome ≡ false → outcome ≢ Open
not_open outcome closed = λ o. absurd (false≢true (sym closed ∙ ap is_open o))

-- what holds of a run that isn't open, and of what comes next where it is open, holds of both in turn
pub go_on_either : (P : Run → Type 0) (run : Run) (next : Run → Run) → (run.outcome ≢ Open → P run)
    → (run.outcome ≡ Open → P (next run)) → P (go_on run next)
go_on_either P run next here more =
    either P (is_open run.outcome) (next run) run (λ e. more (open_is run.outcome e))
    (λ e. here (not_open run.outcome e))

-- another pass is due after open ones alone
pub due_open : (before after : Run) → is_due before after ≡ true → after.outcome ≡ Open
due_open before after due = open_is after.outcome (and_true (is_open after.outcome) _ due).0

-- the box of a run lies within another, and has no empty column where the run is open
pub record IsNarrower (s : Sides) (run : Run) : Type 0 where
  pub within : IsWithin s run.sides
  pub solid : run.outcome ≡ Open → HasNoEmpty run.sides

bound_narrows : (s : Sides) (name : RowRef) (col : ℕ) (run : Run) (bound : Option Narrowing)
    → IsWithin s run.sides → HasNoEmpty run.sides → IsNarrower s (after_bound name col run bound)
bound_narrows s name col run None within solid = record { within = within; solid = λ o. solid }
bound_narrows s name col run (Some bound) within solid = record {
  within = within_both s run.sides (narrower_box run.sides col bound) within (narrower_box_within run.sides col bound);
  solid = λ o. narrower_box_solid run.sides col bound solid o;
}

pub columns_narrow : (s : Sides) (name : RowRef) (row : Row) (terms : List Term) (run : Run)
    → IsWithin s run.sides → HasNoEmpty run.sides → IsNarrower s (after_columns name row terms run)
columns_narrow s name row [] run within solid = record { within = within; solid = λ o. solid }
columns_narrow s name row (t ∷ terms) run within solid =
    let first = bound_narrows s name t.col run (narrower_bound row run.sides t.col) within solid in
    go_on_either (IsNarrower s) (after_column name row t.col run) (after_columns name row terms)
    (λ shut. first)
    (λ o. columns_narrow s name row terms (after_column name row t.col run) first.within (first.solid o))

row_narrows : (s : Sides) (name : RowRef) (row : Row) (run : Run) → IsWithin s run.sides
    → HasNoEmpty run.sides → IsNarrower s (after_row name row run)
row_narrows s name row run within solid =
    either (IsNarrower s) (int_lt (greatest_activity run.sides row.terms) row.least)
    (record run { outcome = Conflict name }) (after_columns name row row.terms run)
    (λ e. record { within = within; solid = λ o. solid })
    (λ e. columns_narrow s name row row.terms run within solid)

rows_narrow : (s : Sides) (name : ℕ → RowRef) (i : ℕ) (rows : List Row) (run : Run)
    → IsWithin s run.sides → HasNoEmpty run.sides → IsNarrower s (after_rows name i rows run)
rows_narrow s name i [] run within solid = record { within = within; solid = λ o. solid }
rows_narrow s name i (row ∷ rows) run within solid =
    let first = row_narrows s (name i) row run within solid in
    go_on_either (IsNarrower s) (after_row (name i) row run) (after_rows name (i + 1) rows)
    (λ shut. first)
    (λ o. rows_narrow s name (i + 1) rows (after_row (name i) row run) first.within (first.solid o))

pass_narrows : (s : Sides) (rows cuts : List Row) (run : Run) → IsWithin s run.sides
    → HasNoEmpty run.sides → IsNarrower s (after_pass rows cuts run)
pass_narrows s rows cuts run within solid =
    let first = rows_narrow s Model 0 rows run within solid in
    go_on_either (IsNarrower s) (after_rows Model 0 rows run) (after_rows Cut 0 cuts)
    (λ shut. first)
    (λ o. rows_narrow s Cut 0 cuts (after_rows Model 0 rows run) first.within (first.solid o))

-- so is the box of some passes, which are no more than asked for
record AreNarrower (s : Sides) (most : ℕ) (c : CountedRun) : Type 0 where
  run : IsNarrower s c.run
  few : c.passes ≤ most

passes_narrow : (n : ℕ) (s : Sides) (rows cuts : List Row) (run : Run) (passes most : ℕ)
    → n + passes ≤ most → IsWithin s run.sides → HasNoEmpty run.sides
    → AreNarrower s most (after_passes n rows cuts run passes)
unfolding Rattle.row_propagate.specs.Passes.after_passes
passes_narrow zero s rows cuts run passes most few within solid =
    record { run = record { within = within; solid = λ o. solid }; few = omega (arith, few) }
passes_narrow (suc n) s rows cuts run passes most few within solid =
    let pass = pass_narrows s rows cuts run within solid in
    let after = after_pass rows cuts run in
    either (AreNarrower s most) (is_due run after)
    (after_passes n rows cuts after (passes + 1)) (counted_run after (passes + 1))
    (λ e. passes_narrow n s rows cuts after (passes + 1) most (omega (arith, few)) pass.within (pass.solid (due_open run after e)))
    (λ e. record { run = pass; few = omega (arith, few) })

-- the box after passes from a box without empty columns; each pass counts the terms and 1
pub record IsNarrowed (s : Sides) (terms : ℕ) (p : Propagation) : Type 0 where
  pub within : IsWithin s p.sides
  pub solid : p.run.outcome ≡ Open → HasNoEmpty p.sides
  pub few : p.run.passes ≤ 10
  pub counted : p.run.work ≡ p.run.passes * terms

-- passes that start from such a box
pub solid_start : (rows cuts : List Row) (s : Sides) → HasNoEmpty s
    → propagation_of rows cuts s ≡ with_work rows cuts (after_passes 10 rows cuts (open_run s []) 0)
solid_start rows cuts s solid = ap (propagation_from rows cuts s) (first_empty_none s solid)

pub narrowed : (rows cuts : List Row) (s : Sides) → HasNoEmpty s
    → IsNarrowed s (term_count rows + term_count cuts + 1) (propagation_of rows cuts s)
narrowed rows cuts s solid =
    let passed = passes_narrow 10 s rows cuts (open_run s []) 0 10 (omega arith) (within_itself s) solid in
    subst (IsNarrowed s (term_count rows + term_count cuts + 1)) (sym (solid_start rows cuts s solid))
    (record { within = passed.run.within; solid = passed.run.solid; few = passed.few; counted = refl })
