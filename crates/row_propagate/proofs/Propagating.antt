use Rattle.std.proofs.Common.{◌≡◌, ◌≢◌, ◌∙◌, ℕ, List, [], length, refl, sym, ap, subst}
use Rattle.ip_core.specs.Sides.{Sides, HasNoEmpty, IsFirstEmpty}
use Rattle.ip_core.specs.Rows.{AreRows}
use Rattle.ip_core.specs.declared.row.Row.{Row}
use Rattle.ip_core.specs.declared.leaf.Tighten.{Tighten}
use Rattle.row_propagate.specs.declared.outcome.Outcome.TheVariants.{Open, Empty}
use Rattle.row_propagate.specs.Passes.{Run, CountedRun, with_work, counted_run, open_run, after_passes, propagation_of, propagation_from}
use Rattle.row_propagate.specs.Points.{HasMetPoints, HasNoMetPoint}
use Rattle.row_propagate.specs.Replay.{replay, row_named}
use Rattle.row_propagate.specs.Lawful.{IsAfter, IsCause, IsReplayed}
use Rattle.row_propagate.proofs.Causes.{IsCaused, passes_caused, none_where_closed}
use Rattle.row_propagate.proofs.FirstEmpty.{first_empty_at, first_empty_none}
use Rattle.row_propagate.proofs.Replaying.{replay_keeps}

-- with a column that is empty at the start there is no pass
pub propagation_empty : (rows cuts : List Row) (s : Sides) (col : ℕ) → IsFirstEmpty s col → propagation_of rows cuts s ≡ record { sides = s; steps = []; run = record { outcome = Empty col; passes = 0; work = 0 } }
propagation_empty rows cuts s col first = ap (propagation_from rows cuts s) (first_empty_at s col first)

-- else there are ten passes at most
pub propagation_solid : (rows cuts : List Row) (s : Sides) (steps : List Tighten) (ended : CountedRun) → HasNoEmpty s → steps ≡ [] → ended ≡ after_passes 10 rows cuts (open_run s steps) 0 → with_work rows cuts ended ≡ propagation_of rows cuts s
propagation_solid rows cuts s steps ended solid none whole =
    ap (with_work rows cuts) (whole ∙ ap (λ ts. after_passes 10 rows cuts (open_run s ts) 0) none) ∙ sym (ap (propagation_from rows cuts s) (first_empty_none s solid))

-- no step leaves a box as it is
no_step : (rows cuts : List Row) (s : Sides) (before : List Tighten) → before ≡ [] → IsAfter rows cuts s s before
no_step rows cuts s before none = subst (IsAfter rows cuts s s) (sym none) (record { replays = refl; lawful = tt })

-- with no step before, the steps after lead from the first box to the last
pub replay_all : (rows given cuts : List Row) (s t : Sides) (before after : List Tighten) → given ≡ rows → before ≡ [] → IsReplayed given cuts s before t after → IsAfter rows cuts s t after
replay_all rows given cuts s t before after same none steps =
    subst (λ rs. IsAfter rs cuts s t after) same (steps.from s (no_step given cuts s before none))

-- a box that came from the first by steps has each of its points that meets all rows and cuts
pub box_keeps : (n : ℕ) (root : Sides) (rows cuts : List Row) (s t : Sides) (steps : List Tighten) → AreRows n root rows → AreRows n root cuts → length s.lows ≡ n → t ≡ replay (row_named rows cuts) s steps → HasMetPoints rows cuts s t
box_keeps n root rows cuts s t steps of_rows of_cuts columns same = subst (HasMetPoints rows cuts s) (sym same) (replay_keeps n root rows cuts s steps of_rows of_cuts columns)

-- the outcome of passes has its cause
pub run_caused : (n : ℕ) (root : Sides) (rows cuts : List Row) (s : Sides) (steps : List Tighten) (run : Run) (passes : ℕ) → AreRows n root rows → AreRows n root cuts → length s.lows ≡ n → HasNoEmpty s → counted_run run passes ≡ after_passes 10 rows cuts (open_run s steps) 0 → IsCaused rows cuts n run
run_caused n root rows cuts s steps run passes of_rows of_cuts columns solid whole =
    subst (λ (c : CountedRun). IsCaused rows cuts n c.run) (sym whole) (passes_caused n root rows cuts 10 (open_run s steps) 0 of_rows of_cuts refl (record { columns = columns; cause = solid }))

-- an empty column of the first box is the cause of that outcome
pub empty_caused : (rows cuts : List Row) (s : Sides) (col : ℕ) → IsFirstEmpty s col → IsCause rows cuts s (Empty col)
empty_caused rows cuts s col first = record { known = first.known; empty = first.empty }

-- where the outcome isn't Open, there was no such point
pub none_met : (n : ℕ) (root : Sides) (rows cuts : List Row) (s : Sides) (steps : List Tighten) (run : Run) (passes : ℕ) → AreRows n root rows → AreRows n root cuts → length s.lows ≡ n → HasNoEmpty s → counted_run run passes ≡ after_passes 10 rows cuts (open_run s steps) 0 → HasMetPoints rows cuts s run.sides → run.outcome ≢ Open → HasNoMetPoint rows cuts s
none_met n root rows cuts s steps run passes of_rows of_cuts columns solid whole keeps closed =
    none_where_closed n root rows cuts s run of_rows of_cuts columns keeps (run_caused n root rows cuts s steps run passes of_rows of_cuts columns solid whole) closed
