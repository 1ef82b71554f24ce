use Rattle.std.proofs.Common.{arith}
use Rattle.std.proofs.lemmas.Int.{ints}
use Rattle.task_steps.specs.Lemmas.Boxes.{passed_near, passed_small}
use Rattle.task_steps.specs.Lemmas.ChunkWork.{counts_ascent}
use Rattle.task_steps.specs.Lemmas.Counts.{climb_work, mults_few, run_work}
use Rattle.task_steps.specs.Lemmas.TaskCuts.{are_cuts, cut_rows}
use Rattle.task_steps.proofs.node_chunk.node_chunk.Goals as goal

pub overflow_add-work : goal.overflow_add-work
overflow_add-work g c = omega (
  arith,
  run_work c.args.model.now c.args.cuts.now c.in_ok-bounds.bounds
      c.in_ok-run.run' c.parts-limits.ensures.limits c.requires.cuts c.in_ok-run.ensures.run,
)

pub overflow_add-work-in-Open : goal.overflow_add-work-in-Open
overflow_add-work-in-Open g c =
    let passes = run_work c.args.model.now c.args.cuts.now c.in_ok-bounds.bounds c.in_ok-run.run'
    c.parts-limits.ensures.limits c.requires.cuts c.in_ok-run.ensures.run in
    let climb = climb_work c.args.model.now c.args.cuts.now c.propagate.new.bounds
    c.in_ok-ascent-in-Open.ascent.work c.parts-limits.ensures.limits c.requires.cuts
    c.in_ok-ascent-in-Open.ensures.work in
    omega (arith, passes, climb)

pub overflow_add-progress : goal.overflow_add-progress
overflow_add-progress g c = omega (
  arith,
  run_work c.args.model.now c.args.cuts.now c.in_ok-bounds.bounds
      c.in_ok-run.run' c.parts-limits.ensures.limits c.requires.cuts c.in_ok-run.ensures.run,
)

pub ascend-requires-clause-within : goal.ascend-requires-clause-within
ascend-requires-clause-within g c =
    passed_near c.args.model.now c.args.task.now.bounds c.in_ok-bounds.bounds
    c.propagate.new.bounds c.in_ok-bounds.ensures c.parts-limits.ensures.limits
    c.requires.task.within c.in_ok-run.ensures.within (c.in_ok-run.ensures.solid c.in-Open.is)

pub on_point-requires-clause-small : goal.on_point-requires-clause-small
on_point-requires-clause-small g c =
    passed_small c.args.model.now c.in_ok-bounds.bounds c.propagate.new.bounds
    c.parts-limits.ensures.limits (rw c.in_ok-bounds.ensures c.requires.task.within)
    (rw c.in_ok-bounds.ensures c.requires.task.paired) c.in_ok-run.ensures.within
    (c.in_ok-run.ensures.solid c.in-Open.is)

pub on_point-requires-clause-few : goal.on_point-requires-clause-few
on_point-requires-clause-few g c =
    mults_few c.args.model.now c.args.cuts.now c.in_ok-ascent-in-Open.ascent.mults
    c.parts-limits.ensures.limits c.requires.cuts c.in_ok-ascent-in-Open.ensures.multipliers

pub on_point-requires-clause-low : goal.on_point-requires-clause-low
on_point-requires-clause-low g c = omega (arith, ints, c.in_ok-ascent-in-Open.ensures.limit)

pub returns-in-Open-clause-spent : goal.returns-in-Open-clause-spent
returns-in-Open-clause-spent g c =
    let counted = counts_ascent c.args.model.now c.args.cuts.now c.args.worker c.args.task.now
    c.in_ok-bounds.bounds c.propagate.new.bounds c.in_ok-run.run' c.in_ok-bounds.ensures
    c.in_ok-run.ensures.sides c.in_ok-run.ensures.run c.in-Open.is in
    omega (arith, c.ascend.ensures.told, counted)

pub propagate-requires-clause-cuts : goal.propagate-requires-clause-cuts
propagate-requires-clause-cuts g c =
    cut_rows c.args.model.now c.args.cuts.now c.parts-limits.ensures.limits c.requires.cuts

pub ascend-requires-clause-cuts : goal.ascend-requires-clause-cuts
ascend-requires-clause-cuts g c =
    are_cuts c.args.model.now c.args.cuts.now c.parts-limits.ensures.limits c.requires.cuts
