use Rattle.std.proofs.Common.{◌≡◌, ◌∙◌, ℕ, ◌+◌, ◌<◌, true, false, List, length, get_or, drop, refl, sym, ap, subst}
use Rattle.std.proofs.lemmas.Bool.{false≢true}
use Rattle.std.proofs.lemmas.List.{drop_more, get_or_default}
use Rattle.ip_core.specs.declared.row_ref.RowRef.TheVariants.{Model, Cut}
use Rattle.ip_core.specs.Sides.{Sides}
use Rattle.ip_core.specs.declared.row.Row.{Row}
use Rattle.ip_core.specs.declared.row.Term.{Term}
use Rattle.ip_core.specs.declared.row_ref.RowRef.{RowRef}
use Rattle.ip_core.specs.declared.leaf.Tighten.{Tighten}
use Rattle.row_propagate.specs.declared.outcome.Outcome.{Outcome}
use Rattle.row_propagate.specs.declared.outcome.Outcome.TheVariants.{Open, Conflict, Empty}
use Rattle.row_propagate.specs.Passes.{Run, open_run, run_of, is_open, go_on, after_column, after_columns, after_row, after_rows}
use Rattle.row_propagate.specs.Replay.{AreNamed, IsNamed, no_row}
use Rattle.row_propagate.specs.Lawful.{IsReplayed}

-- an outcome that is open is Open
pub open_is : (outcome : Outcome) → is_open outcome ≡ true → outcome ≡ Open
open_is Open same = refl
open_is (Conflict name) same = absurd (false≢true same)
open_is (Empty col) same = absurd (false≢true same)

goes_on : (s : Sides) (steps : List Tighten) (outcome : Outcome) (next : Run → Run) → is_open outcome ≡ true → go_on (run_of s steps outcome) next ≡ next (open_run s steps)
goes_on s steps Open next same = refl
goes_on s steps (Conflict name) next same = absurd (false≢true same)
goes_on s steps (Empty col) next same = absurd (false≢true same)

-- what comes next where the run is open
pub go_open : (run : Run) (s : Sides) (steps : List Tighten) (outcome : Outcome) (next : Run → Run) → run_of s steps outcome ≡ run → is_open outcome ≡ true → go_on run next ≡ next (open_run s steps)
go_open run s steps outcome next same open_outcome = ap (λ r. go_on r next) (sym same) ∙ goes_on s steps outcome next open_outcome

-- the next of the columns that are left
pub columns_next : (name : RowRef) (row : Row) (terms : List Term) (i : ℕ) (d : Term) (run : Run) → i < length terms → after_columns name row (drop i terms) run ≡ go_on (after_column name row (get_or terms i d).col run) (after_columns name row (drop (i + 1) terms))
columns_next name row terms i d run within = ap (λ ts. after_columns name row ts run) (drop_more terms i d within)

-- the next of the rows that are left
pub rows_next : (name : ℕ → RowRef) (rows : List Row) (i : ℕ) (d : Row) (run : Run) → i < length rows → after_rows name i (drop i rows) run ≡ go_on (after_row (name i) (get_or rows i d) run) (after_rows name (i + 1) (drop (i + 1) rows))
rows_next name rows i d run within = ap (λ rs. after_rows name i rs run) (drop_more rows i d within)

-- steps after steps
pub replay_both : (rows cuts : List Row) (a b c : Sides) (first second third : List Tighten) → IsReplayed rows cuts a first b second → IsReplayed rows cuts b second c third → IsReplayed rows cuts a first c third
replay_both rows cuts a b c first second third before after = record { from = λ start same. after.from start (before.from start same) }

-- the rows and cuts have their names
pub model_naming : (rows cuts : List Row) → AreNamed rows cuts Model rows
model_naming rows cuts = record { at = λ i other within. record { known = within; same = get_or_default rows i no_row other within } }

pub cut_naming : (rows cuts : List Row) → AreNamed rows cuts Cut cuts
cut_naming rows cuts = record { at = λ i other within. record { known = within; same = get_or_default cuts i no_row other within } }
