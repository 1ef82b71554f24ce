use Rattle.std.specs.Prelude.{ℕ, zero, suc, ◌+◌, ◌*◌, ◌==◌, Bool, true, false, ◌&&◌, not, if◌then◌else◌, List, [], ◌∷◌, ◌++◌, length, int_lt, Option, Some, None}
use Rattle.ip_core.specs.Numbers.{int_at}
use Rattle.ip_core.specs.Sides.{Sides}
use Rattle.ip_core.specs.Boxes.{greatest_activity}
use Rattle.ip_core.specs.Models.{term_count}
use Rattle.ip_core.specs.declared.row.Row.{Row}
use Rattle.ip_core.specs.declared.row.Term.{Term}
use Rattle.ip_core.specs.declared.row_ref.RowRef.{RowRef}
use Rattle.ip_core.specs.declared.row_ref.RowRef.TheVariants.{Model, Cut}
use Rattle.ip_core.specs.declared.leaf.Tighten.{Tighten}
use Rattle.row_propagate.specs.declared.outcome.Outcome.{Outcome}
use Rattle.row_propagate.specs.declared.outcome.Outcome.TheVariants.{Open, Conflict, Empty}
use Rattle.row_propagate.specs.declared.outcome.PassRun.{PassRun}
use Rattle.row_propagate.specs.declared.narrowing.Narrowing.{Narrowing}
use Rattle.row_propagate.specs.declared.row_kind.RowKind.{RowKind}
use Rattle.row_propagate.specs.declared.row_kind.RowKind.TheVariants.{ModelRow, CutRow}
use Rattle.row_propagate.specs.Rounding.{narrower_bound, narrower_box, tightening_of}

-- passes so far: the box, the real tightenings in order, and whether a row or a column has closed the box
pub record Run : Type 0 where
  pub sides : Sides
  pub steps : List Tighten
  pub outcome : Outcome

-- a run that goes on
abbrev pub open_run : Sides → List Tighten → Run
open_run s steps = record { sides = s; steps = steps; outcome = Open }

abbrev pub run_of : Sides → List Tighten → Outcome → Run
run_of s steps outcome = record { sides = s; steps = steps; outcome = outcome }

abbrev pub is_open : Outcome → Bool
is_open Open = true
is_open (Conflict name) = false
is_open (Empty col) = false

-- what comes next, where nothing has closed the box
abbrev pub go_on : Run → (Run → Run) → Run
go_on run next = if is_open run.outcome then next run else run

-- the outcome of a tightening at a column: Empty where its low is above its high
abbrev pub outcome_of_column : Sides → ℕ → Outcome
outcome_of_column s col = if int_lt (int_at s.highs col) (int_at s.lows col) then Empty col
    else Open

-- one real tightening
abbrev pub after_step : Sides → List Tighten → ℕ → Tighten → Run
after_step s steps col step = run_of s (steps ++ step ∷ []) (outcome_of_column s col)

abbrev pub after_bound : RowRef → ℕ → Run → Option Narrowing → Run
after_bound name col run None = run
after_bound name col run (Some bound) = after_step (narrower_box run.sides col bound) run.steps col
    (tightening_of name col bound)

-- a row's rounded bound is applied to one of its columns
abbrev pub after_column : RowRef → Row → ℕ → Run → Run
after_column name row col run = after_bound name col run (narrower_bound row run.sides col)

-- it is applied to columns in order, until one becomes empty
abbrev pub after_columns : RowRef → Row → List Term → Run → Run
after_columns name row [] run = run
after_columns name row (t ∷ terms) run =
    go_on (after_column name row t.col run) (after_columns name row terms)

-- a row is visited: it conflicts, or else its rounded bound is applied to its columns
abbrev pub after_row : RowRef → Row → Run → Run
after_row name row run =
    if int_lt (greatest_activity run.sides row.terms) row.least
    then record run { outcome = Conflict name }
    else after_columns name row row.terms run

-- the names of the model's rows, and of the cuts
abbrev pub name_of : RowKind → ℕ → RowRef
name_of ModelRow = Model
name_of CutRow = Cut

-- rows are visited in order, named from a number on, until one closes the box
abbrev pub after_rows : (ℕ → RowRef) → ℕ → List Row → Run → Run
after_rows name i [] run = run
after_rows name i (row ∷ rows) run = go_on (after_row (name i) row run)
    (after_rows name (i + 1) rows)

-- one pass: the model's rows and then the cuts
abbrev pub after_pass : List Row → List Row → Run → Run
after_pass rows cuts run = go_on (after_rows Model 0 rows run) (after_rows Cut 0 cuts)

-- a run with the number of passes begun
pub record CountedRun : Type 0 where
  pub run : Run
  pub passes : ℕ

abbrev pub counted_run : Run → ℕ → CountedRun
counted_run run passes = record { run = run; passes = passes }

-- whether another pass is due: nothing has closed the box, and the last pass had a real tightening
abbrev pub is_due : Run → Run → Bool
is_due before after = is_open after.outcome && not (length after.steps == length before.steps)

-- passes until none is due, and at most n more
unfoldable pub after_passes : ℕ → List Row → List Row → Run → ℕ → CountedRun
after_passes zero rows cuts run passes = counted_run run passes
after_passes (suc n) rows cuts run passes =
    if is_due run (after_pass rows cuts run)
    then after_passes n rows cuts (after_pass rows cuts run) (passes + 1)
    else counted_run (after_pass rows cuts run) (passes + 1)

-- a number, or else another
abbrev pub first_or : Option ℕ → Option ℕ → Option ℕ
first_or None other = other
first_or (Some j) other = Some j

-- the first number below n that passes a test
abbrev pub first_below : ℕ → (ℕ → Bool) → Option ℕ
first_below zero test = None
first_below (suc n) test = first_or (first_below n test) (if test n then Some n else None)

-- the first column whose low is above its high
abbrev pub first_empty : Sides → Option ℕ
first_empty s = first_below (length s.lows) (λ j. int_lt (int_at s.highs j) (int_at s.lows j))

-- the last box, the real tightenings, and what is said of the passes
pub record Propagation : Type 0 where
  pub sides : Sides
  pub steps : List Tighten
  pub run : PassRun

-- each pass begun counts the number of terms plus 1
abbrev pub work_of : List Row → List Row → ℕ → ℕ
work_of rows cuts passes = passes * (term_count rows + term_count cuts + 1)

abbrev pub with_work : List Row → List Row → CountedRun → Propagation
with_work rows cuts c = record {
  sides = c.run.sides;
  steps = c.run.steps;
  run =
      record { outcome = c.run.outcome; passes = c.passes; work = work_of rows cuts c.passes };
}

-- with a column that is empty at the start there is no pass; else there are at most ten
abbrev pub propagation_from : List Row → List Row → Sides → Option ℕ → Propagation
propagation_from rows cuts s (Some col) =
    record { sides = s; steps = []; run = record { outcome = Empty col; passes = 0; work = 0 } }
propagation_from rows cuts s None = with_work rows cuts
    (after_passes 10 rows cuts (open_run s []) 0)

-- the passes over the model's rows and the cuts from a box
abbrev pub propagation_of : List Row → List Row → Sides → Propagation
propagation_of rows cuts s = propagation_from rows cuts s (first_empty s)
