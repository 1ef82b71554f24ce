use Rattle.std.proofs.Common.{◌≡◌, ◌≢◌, ◌∙◌, ℕ, zero, suc, ◌+◌, ◌<◌, Bool, true, false, cond, ◌&&◌, not, ◌==◌, List, [], ◌∷◌, length, get_or, ℤ, int_lt, Option, Some, None, All, refl, sym, ap, subst, arith}
use Rattle.std.proofs.lemmas.Int.{ints}
use Rattle.std.proofs.lemmas.Bool.{false≢true}
use Rattle.ip_core.specs.Numbers.{int_at}
use Rattle.ip_core.specs.Sides.{Sides, HasNoEmpty, IsInside}
use Rattle.ip_core.specs.Boxes.{IsConflict, greatest_activity}
use Rattle.ip_core.specs.Rows.{IsTerm, AreTerms, AreRows, AreMet}
use Rattle.ip_core.specs.declared.row.Row.{Row}
use Rattle.ip_core.specs.declared.row.Term.{Term}
use Rattle.ip_core.specs.declared.row_ref.RowRef.{RowRef}
use Rattle.ip_core.specs.declared.row_ref.RowRef.TheVariants.{Model, Cut}
use Rattle.ip_core.proofs.Activities.{conflict_meets_none}
use Rattle.row_propagate.specs.declared.narrowing.Narrowing.{Narrowing}
use Rattle.row_propagate.specs.declared.outcome.Outcome.{Outcome}
use Rattle.row_propagate.specs.declared.outcome.Outcome.TheVariants.{Open, Conflict, Empty}
use Rattle.row_propagate.specs.Rounding.{narrower_bound, narrower_box}
use Rattle.row_propagate.specs.Passes.{Run, counted_run, run_of, is_open, outcome_of_column, go_on, is_due, after_bound, after_column, after_columns, after_row, after_rows, after_pass, after_passes}
use Rattle.row_propagate.specs.Replay.{AreNamed, IsNamed, row_named}
use Rattle.row_propagate.specs.Lawful.{IsCause, IsConflictAt, IsEmptyColumn}
use Rattle.row_propagate.specs.Points.{HasMetPoints, HasNoMetPoint}
use Rattle.row_propagate.proofs.Going.{open_is, model_naming, cut_naming}
use Rattle.row_propagate.proofs.Keeping.{either}
use Rattle.row_propagate.proofs.Named.{named_met, named_terms}
use Rattle.row_propagate.proofs.Stepping.{narrower_box_within, narrower_box_solid}

-- the outcome of a run has its cause in the run's box, which has n columns
pub record IsCaused (rows cuts : List Row) (n : ℕ) (run : Run) : Type 0 where
  pub columns : length run.sides.lows ≡ n
  pub cause : IsCause rows cuts run.sides run.outcome

-- what a thing that is done to an open run leaves caused
abbrev Keeps : List Row → List Row → ℕ → (Run → Run) → Type 0
Keeps rows cuts n next = (r : Run) → r.outcome ≡ Open → IsCaused rows cuts n r → IsCaused rows cuts n (next r)

go_on_cases : (rows cuts : List Row) (n : ℕ) (run : Run) (next : Run → Run) (b : Bool) → is_open run.outcome ≡ b → IsCaused rows cuts n run → Keeps rows cuts n next → IsCaused rows cuts n (cond b (next run) run)
go_on_cases rows cuts n run next true open_run caused later = later run (open_is run.outcome open_run) caused
go_on_cases rows cuts n run next false closed caused later = caused

go_on_caused : (rows cuts : List Row) (n : ℕ) (run : Run) (next : Run → Run) → IsCaused rows cuts n run → Keeps rows cuts n next → IsCaused rows cuts n (go_on run next)
go_on_caused rows cuts n run next caused later = go_on_cases rows cuts n run next (is_open run.outcome) refl caused later

-- an open run's box has no empty column
solid_of : (rows cuts : List Row) (s : Sides) (outcome : Outcome) → outcome ≡ Open → IsCause rows cuts s outcome → HasNoEmpty s
solid_of rows cuts s outcome same cause = subst (IsCause rows cuts s) same cause

outcome_cases : (rows cuts : List Row) (s : Sides) (col : ℕ) (b : Bool) → int_lt (int_at s.highs col) (int_at s.lows col) ≡ b → col < length s.lows → (outcome_of_column s col ≡ Open → HasNoEmpty s) → IsCause rows cuts s (cond b (Empty col) Open)
outcome_cases rows cuts s col true crossed known solid = record { known = known; empty = record { crossed = omega (arith, ints, crossed) } }
outcome_cases rows cuts s col false ordered known solid = solid (ap (λ b. cond b (Empty col) Open) ordered)

bound_caused : (rows cuts : List Row) (n : ℕ) (name : RowRef) (col : ℕ) (run : Run) (bound : Option Narrowing) → col < n → run.outcome ≡ Open → IsCaused rows cuts n run → IsCaused rows cuts n (after_bound name col run bound)
bound_caused rows cuts n name col run None known going caused = caused
bound_caused rows cuts n name col run (Some bound) known going caused =
    let columns : length (narrower_box run.sides col bound).lows ≡ n = (narrower_box_within run.sides col bound).as_many_lows ∙ caused.columns in
    record {
      columns = columns;
      cause = outcome_cases rows cuts (narrower_box run.sides col bound) col _ refl (omega (arith, known, columns)) (narrower_box_solid run.sides col bound (solid_of rows cuts run.sides run.outcome going caused.cause));
    }

columns_caused : (rows cuts : List Row) (n : ℕ) (name : RowRef) (row : Row) (terms : List Term) (run : Run) → All (IsTerm n) terms → run.outcome ≡ Open → IsCaused rows cuts n run → IsCaused rows cuts n (after_columns name row terms run)
columns_caused rows cuts n name row [] run known going caused = caused
columns_caused rows cuts n name row (t ∷ terms) run known going caused =
    go_on_caused rows cuts n (after_column name row t.col run) (after_columns name row terms)
    (bound_caused rows cuts n name t.col run (narrower_bound row run.sides t.col) (known 0 t (omega arith)).known going caused)
    (λ r still h. columns_caused rows cuts n name row terms r (λ k d within. known (suc k) d (omega arith)) still h)

conflict_at : (rows cuts : List Row) (name : RowRef) (row : Row) (s : Sides) → IsNamed rows cuts name row → HasNoEmpty s → IsConflict s row → IsConflictAt rows cuts s name
conflict_at rows cuts name row s named solid conflict = record { known = named.known; solid = solid; conflict = subst (IsConflict s) (sym named.same) conflict }

row_cases : (rows cuts : List Row) (n : ℕ) (name : RowRef) (row : Row) (run : Run) (b : Bool) → int_lt (greatest_activity run.sides row.terms) row.least ≡ b → IsNamed rows cuts name row → AreTerms n row.terms → run.outcome ≡ Open → IsCaused rows cuts n run → IsCaused rows cuts n (cond b (run_of run.sides run.steps (Conflict name)) (after_columns name row row.terms run))
row_cases rows cuts n name row run true below named known going caused = record {
  columns = caused.columns;
  cause = conflict_at rows cuts name row run.sides named (solid_of rows cuts run.sides run.outcome going caused.cause) (record { below = omega (arith, ints, below) });
}
row_cases rows cuts n name row run false holds named known going caused = columns_caused rows cuts n name row row.terms run known.each going caused

next_place : (i k : ℕ) → i + 1 + k ≡ i + suc k
next_place i k = omega arith

from_start : (k : ℕ) → 0 + k ≡ k
from_start k = omega arith

rows_caused : (rows cuts : List Row) (n : ℕ) (name : ℕ → RowRef) (i : ℕ) (some : List Row) (run : Run) → ((k : ℕ) (d : Row) → k < length some → IsNamed rows cuts (name (i + k)) (get_or some k d)) → All (λ row. AreTerms n row.terms) some → run.outcome ≡ Open → IsCaused rows cuts n run → IsCaused rows cuts n (after_rows name i some run)
rows_caused rows cuts n name i [] run naming known going caused = caused
rows_caused rows cuts n name i (row ∷ some) run naming known going caused =
    let here : i + 0 ≡ i = omega arith in
    go_on_caused rows cuts n (after_row (name i) row run) (after_rows name (i + 1) some)
    (row_cases rows cuts n (name i) row run _ refl (subst (λ j. IsNamed rows cuts (name j) row) here (naming 0 row (omega arith))) (known 0 row (omega arith)) going caused)
    (λ r still h. rows_caused rows cuts n name (i + 1) some r (λ k d within. subst (λ j. IsNamed rows cuts (name j) (get_or some k d)) (sym (next_place i k)) (naming (suc k) d (omega arith))) (λ k d within. known (suc k) d (omega arith)) still h)

all_caused : (rows cuts : List Row) (n : ℕ) (root : Sides) (name : ℕ → RowRef) (some : List Row) (run : Run) → AreNamed rows cuts name some → AreRows n root some → run.outcome ≡ Open → IsCaused rows cuts n run → IsCaused rows cuts n (after_rows name 0 some run)
all_caused rows cuts n root name some run naming valid going caused =
    rows_caused rows cuts n name 0 some run (λ k d within. subst (λ j. IsNamed rows cuts (name j) (get_or some k d)) (sym (from_start k)) (naming.at k d within)) (λ k d within. (valid.each k d within).terms) going caused

pass_caused : (n : ℕ) (root : Sides) (rows cuts : List Row) (run : Run) → AreRows n root rows → AreRows n root cuts → run.outcome ≡ Open → IsCaused rows cuts n run → IsCaused rows cuts n (after_pass rows cuts run)
pass_caused n root rows cuts run of_rows of_cuts going caused =
    go_on_caused rows cuts n (after_rows Model 0 rows run) (after_rows Cut 0 cuts)
    (all_caused rows cuts n root Model rows run (model_naming rows cuts) of_rows going caused)
    (λ r still h. all_caused rows cuts n root Cut cuts r (cut_naming rows cuts) of_cuts still h)

-- where another pass is due, the run is open
due_open : (before after : Run) (b : Bool) → is_open after.outcome ≡ b → is_due before after ≡ true → after.outcome ≡ Open
due_open before after true going due = open_is after.outcome going
due_open before after false closed due = absurd (false≢true (sym (ap (λ b. b && not (length after.steps == length before.steps)) closed) ∙ due))

-- the outcome of passes has its cause in the last box
pub passes_caused : (n : ℕ) (root : Sides) (rows cuts : List Row) (fuel : ℕ) (run : Run) (passes : ℕ) → AreRows n root rows → AreRows n root cuts → run.outcome ≡ Open → IsCaused rows cuts n run → IsCaused rows cuts n (after_passes fuel rows cuts run passes).run
unfolding after_passes
passes_caused n root rows cuts zero run passes of_rows of_cuts going caused = caused
passes_caused n root rows cuts (suc fuel) run passes of_rows of_cuts going caused =
    let after = after_pass rows cuts run in
    let next = pass_caused n root rows cuts run of_rows of_cuts going caused in
    either (λ c. IsCaused rows cuts n c.run) (is_due run after) (after_passes fuel rows cuts after (passes + 1)) (counted_run after (passes + 1))
    (λ due. passes_caused n root rows cuts fuel after (passes + 1) of_rows of_cuts (due_open run after _ refl due) next)
    (λ over. next)

closed_by : (n : ℕ) (root : Sides) (rows cuts : List Row) (s : Sides) (x : List ℤ) (outcome : Outcome) → AreRows n root rows → AreRows n root cuts → length s.lows ≡ n → length x ≡ n → IsInside s x → AreMet x rows → AreMet x cuts → IsCause rows cuts s outcome → outcome ≢ Open → ⊥
closed_by n root rows cuts s x Open of_rows of_cuts columns long inside met_rows met_cuts cause closed = closed refl
closed_by n root rows cuts s x (Conflict name) of_rows of_cuts columns long inside met_rows met_cuts cause closed =
    conflict_meets_none n s (row_named rows cuts name) x (named_terms n root rows cuts name of_rows of_cuts) long inside cause.conflict (named_met rows cuts name x met_rows met_cuts)
closed_by n root rows cuts s x (Empty col) of_rows of_cuts columns long inside met_rows met_cuts cause closed =
    omega (arith, ints, cause.empty.crossed, inside.above col (omega (arith, long, columns, cause.known)), inside.below col (omega (arith, long, columns, cause.known)))

-- where passes that lose no point end with another outcome than Open, no point of the first box met all rows and cuts
pub none_where_closed : (n : ℕ) (root : Sides) (rows cuts : List Row) (s : Sides) (run : Run) → AreRows n root rows → AreRows n root cuts → length s.lows ≡ n → HasMetPoints rows cuts s run.sides → IsCaused rows cuts n run → run.outcome ≢ Open → HasNoMetPoint rows cuts s
none_where_closed n root rows cuts s run of_rows of_cuts columns keeps caused closed = record {
  none = λ x long inside met_rows met_cuts.
      closed_by n root rows cuts run.sides x run.outcome of_rows of_cuts caused.columns (long ∙ columns) (keeps.each x long inside met_rows met_cuts) met_rows met_cuts caused.cause closed;
}
