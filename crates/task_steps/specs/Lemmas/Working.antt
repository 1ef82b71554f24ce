-- Each chunk of a task is good.
use Rattle.std.proofs.Common.{◌≡◌, ◌∙◌, ℕ, ◌<◌, ◌≤◌, ◌^◌, ◌⊎◌, inl, inr, Bool, true, false, ◌&&◌, List, length, ℤ, pos, ◌≤ℤ◌, ◌<ℤ◌, int_lt, int_le, unsigned_abs, Some, refl, sym, ap, arith}
use Rattle.std.proofs.lemmas.Bool.{and_parts, true≢false}
use Rattle.std.proofs.lemmas.Int.{ints}
use Rattle.std.proofs.lemmas.List.{length-map}
use Rattle.std.proofs.lemmas.List.FromFn.{length-range_with_len}
use Rattle.ip_core.specs.Sides.{Sides, IsPaired}
use Rattle.ip_core.specs.Models.{IsModel}
use Rattle.ip_core.specs.Truth.{IsFeasible, value_at}
use Rattle.ip_core.specs.declared.leaf.Closing.{Closing}
use Rattle.ip_core.specs.declared.leaf.Closing.TheVariants.{Bound, Conflict, Empty}
use Rattle.ip_core.specs.Rows.{AreRows}
use Rattle.ip_core.specs.declared.model.ModelParts.{ModelParts}
use Rattle.ip_core.proofs.NarrowerBoxes.{within_both}
use Rattle.ip_core.proofs.Widths.{costs_within_width, model_costs_narrow, narrow_fits}
use Rattle.search_truth.specs.Boxes.{IsClosed}
use Rattle.search_truth.proofs.Within.{within_columns}
use Rattle.row_propagate.specs.Passes.{Propagation, propagation_of}
use Rattle.row_propagate.specs.declared.outcome.Outcome.{Outcome as Ended}
use Rattle.row_propagate.specs.declared.outcome.Outcome.TheVariants as ended
use Rattle.ip_core.proofs.Reaching.{model_within_reach}
use Rattle.dual_ascent.specs.declared.ascent.Ascent.{Ascent}
use Rattle.dual_ascent.proofs.Multipliers.{ascent_has_multipliers}
use Rattle.leaf_truth.specs.Laws.{closing_of, leaf_of}
use Rattle.leaf_truth.specs.Multipliers.{pairs_of}
use Rattle.work_stamp.specs.Writable.{HasWords}
use Rattle.work_stamp.specs.declared.entry.Entry.TheVariants.{Found}
use Rattle.task_steps.specs.Fits.{FitsLocal, IsTask}
use Rattle.round_dive.specs.Feasible.{is_feasible_at}
use Rattle.task_steps.specs.Tasks.{after_passes, ascent_of, is_found, node_chunk, on_point, progress_of}
use Rattle.task_steps.specs.declared.local.Local.{Local}
use Rattle.task_steps.specs.declared.local.NodeTask.{NodeTask}
use Rattle.task_steps.specs.declared.task_chunk.Progress.{Progress}
use Rattle.task_steps.specs.Lemmas.Bounds.{ascent_above, ascent_low}
use Rattle.task_steps.specs.Lemmas.Boxes.{passed_small}
use Rattle.task_steps.specs.Lemmas.Columns.{point_signed}
use Rattle.round_dive.proofs.FeasiblePoints.{both_true, feasible_decides}
use Rattle.task_steps.specs.Lemmas.NoColumns.{empty_feasible}
use Rattle.task_steps.specs.Lemmas.TaskChunks.{IsGoodChunk, IsTried, closing_good, found_first, plain_good, worker_of}
use Rattle.task_steps.specs.Lemmas.Reasons.{bound_leaf, leaf_closed, outcome_leaf, passed_solid, passed_within, passes_passed}
use Rattle.task_steps.specs.Lemmas.TaskCuts.{cut_rows, cuts_valid}

value_small : (m : ModelParts) (x : List ℤ) → IsModel m → IsFeasible m x
    → unsigned_abs (value_at m x) ≤ 2 ^ 50
value_small m x valid feasible =
    let n = length m.costs in
    let costs = valid.bounds.costs in
    let one_each = feasible.one_each in
    omega (
      arith,
      costs_within_width m.root x m.costs n n feasible.inside (omega arith)
          (omega arith),
      model_costs_narrow m m m.costs refl refl valid,
    )

pub found_words : (m : ModelParts) (x : List ℤ) → IsModel m → IsPaired m.root → IsFeasible m x
    → HasWords (Found (value_at m x) x)
found_words m x valid paired feasible =
    let one_each = feasible.one_each in
    let columns = valid.bounds.columns in
    record {
      writable = omega arith;
      in_range = record {
        signed_value = narrow_fits (value_at m x) (2 ^ 50)
            (value_small m x valid feasible) (omega arith);
        each =
            point_signed m x valid paired feasible;
      };
    }

below_test : (a b : ℤ) → a <ℤ b → int_lt a b ≡ true
below_test a b h = grind (arith, ints)

some_or_none : (n : ℕ) → (n ≡ 0) ⊎ (0 < n)
some_or_none n = grind arith

-- a box without columns whose point isn't found has its bound at the cutoff or above
column_cases : (m : ModelParts) (s : Sides) (limit : ℤ) (a : Ascent)
    → (length m.cols ≡ 0 → limit ≤ℤ a.bound) → a.bound <ℤ limit
    → (length m.cols ≡ 0) ⊎ (0 < length m.cols) → 0 < length m.cols
column_cases m s limit a settled below (inl none) =
    absurd (omega (arith, ints, settled none, below))
column_cases m s limit a settled below (inr some) = some

module _ (m : ModelParts) (l : Local) (task : NodeTask) (valid : IsModel m)
    (paired : IsPaired m.root)
    (fits : FitsLocal m l) (task_fits : IsTask m task) where
  abbrev passes : Propagation
  passes = propagation_of m.rows l.cuts task.bounds

  abbrev climb : Ascent
  climb = ascent_of m l.cuts passes.sides

  abbrev progress : Progress
  progress = progress_of passes climb.work

  columns : length task.bounds.lows ≡ length m.cols
  columns = within_columns m task.bounds valid task_fits.within

  of_cuts : AreRows (length m.cols) m.root l.cuts
  of_cuts = cut_rows m l.cuts valid fits.cuts

  -- with no column the bound is at least 0, and the point is feasible with value 0
  empty_point : passes.run.outcome ≡ ended.Open → length m.cols ≡ 0 → IsFeasible m climb.point
  empty_point goes none =
      let costs = valid.bounds.costs in
      let long : length climb.point ≡ length m.costs = length-map _ _ ∙ length-range_with_len 0
      (length m.costs) in
      empty_feasible m l.cuts task.bounds climb.point valid none (omega arith) goes

  empty_value : length m.cols ≡ 0 → value_at m climb.point ≡ pos 0
  empty_value none = let no_costs : length m.costs ≡ 0 = valid.bounds.costs ∙ none in
      rw no_costs refl

  empty_bound : length m.cols ≡ 0 → pos 0 ≤ℤ climb.bound
  empty_bound none = ascent_above m l.cuts passes.sides (valid.bounds.costs ∙ none)

  -- what closed the box in the passes makes a leaf that holds
  outcome_closed : (why : Closing) → closing_of passes.run.outcome ≡ Some why
      → IsClosed m task.cutoff task.bounds
  outcome_closed why closes =
      leaf_closed m l.cuts task.cutoff task.bounds (leaf_of passes.steps why) valid
      (cuts_valid m l.cuts valid fits.cuts) columns
      (outcome_leaf m l.cuts task.bounds task.cutoff why valid of_cuts columns closes)

  -- and so do the multipliers, at each value up to their bound
  bound_closed : (limit : ℤ) → passes.run.outcome ≡ ended.Open → limit ≤ℤ climb.bound
      → IsClosed m limit task.bounds
  bound_closed limit goes above =
      leaf_closed m l.cuts limit task.bounds
      (leaf_of passes.steps (Bound (pairs_of (length m.rows) climb.mults))) valid
      (cuts_valid m l.cuts valid fits.cuts) columns
      (bound_leaf m l.cuts task.bounds limit climb.mults valid of_cuts columns goes
      (ascent_has_multipliers m l.cuts passes.sides) above)

  tried : (limit : ℤ) → passes.run.outcome ≡ ended.Open → limit ≤ℤ pos (2 ^ 51)
      → (length m.cols ≡ 0 → limit ≤ℤ climb.bound) → IsTried m l task progress climb limit
  tried limit goes few settled =
      let passed = passes_passed m l.cuts task.bounds valid of_cuts columns in
      let within = passed_within m l.cuts task.bounds passes passed in
      let solid = passed_solid m l.cuts task.bounds passes passed goes in
      record {
        fits = fits;
        task_fits = task_fits;
        small = passed_small m task.bounds passes.sides valid task_fits.within task_fits.paired
            within solid;
        columns = within.as_many_lows ∙ columns;
        few = few;
        low = ascent_low m l.cuts passes.sides valid
            (model_within_reach m passes.sides valid
            (within_both m.root task.bounds passes.sides task_fits.within within) solid);
        closed = λ above. bound_closed limit goes above;
        some = λ below. column_cases m passes.sides limit climb settled below
            (some_or_none (length m.cols));
      }

  not_found_settled : passes.run.outcome ≡ ended.Open → is_found m task.cutoff climb ≡ false
      → length m.cols ≡ 0 → (task.cutoff ≤ℤ climb.bound) ⊎ (climb.bound <ℤ task.cutoff)
      → task.cutoff ≤ℤ climb.bound
  not_found_settled goes missed none (inl above) = above
  not_found_settled goes missed none (inr below) =
      let value = empty_value none in
      let bound = empty_bound none in
      let under : value_at m climb.point <ℤ task.cutoff = omega (arith, ints) in
      let found : is_found m task.cutoff climb ≡ true =
      both_true (int_lt climb.bound task.cutoff)
      (is_feasible_at m climb.point && int_lt (value_at m climb.point) task.cutoff)
      (below_test _ _ below)
      (both_true (is_feasible_at m climb.point) (int_lt (value_at m climb.point) task.cutoff)
      ((feasible_decides m climb.point).1 (empty_point goes none)) (below_test _ _ under)) in
      absurd (true≢false (sym found ∙ missed))

  above_or_below : (a b : ℤ) → (a ≤ℤ b) ⊎ (b <ℤ a)
  above_or_below a b = grind (arith, ints)

  point_cases : (found : Bool) → is_found m task.cutoff climb ≡ found
      → passes.run.outcome ≡ ended.Open
      → IsGoodChunk m l task task.cutoff (on_point m task (worker_of l) progress climb found)
  point_cases true is goes =
      let point = climb.point in
      let value = value_at m point in
      let parts = and_parts (int_lt climb.bound task.cutoff)
      (is_feasible_at m point && int_lt value task.cutoff) is in
      let feasible =
      (feasible_decides m point).0
      (and_parts (is_feasible_at m point) (int_lt value task.cutoff) parts.1).0 in
      let small = value_small m point valid feasible in
      let settled : length m.cols ≡ 0
      → value ≤ℤ climb.bound = λ none. omega (arith, ints, empty_value none, empty_bound none) in
      found_first m l task progress climb value point (int_le value climb.bound) refl valid
      (tried value goes (omega (arith, ints, small)) settled)
      (record { feasible = feasible; told = refl }) (found_words m point valid paired feasible)
  point_cases false is goes =
      plain_good m l task progress climb task.cutoff (int_le task.cutoff climb.bound) refl valid
      (tried task.cutoff goes task_fits.cutoff
      (λ none. not_found_settled goes is none (above_or_below task.cutoff climb.bound)))

  outcome_cases : (o : Ended) → passes.run.outcome ≡ o
      → IsGoodChunk m l task task.cutoff (after_passes m l.cuts task (worker_of l) passes o)
  outcome_cases ended.Open is = point_cases (is_found m task.cutoff climb) refl is
  outcome_cases (ended.Conflict row) is = closing_good m l task task.cutoff fits task_fits
      (outcome_closed (Conflict row) (ap closing_of is))
  outcome_cases (ended.Empty col) is = closing_good m l task task.cutoff fits task_fits
      (outcome_closed (Empty col) (ap closing_of is))

  -- a chunk of a task
  pub chunk_good : IsGoodChunk m l task task.cutoff (node_chunk m l.cuts (worker_of l) task)
  chunk_good = outcome_cases passes.run.outcome refl
