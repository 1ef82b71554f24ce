use Rattle.std.proofs.Common.{arith}
use Rattle.task_steps.specs.Lemmas.Boxes.{passed_near}
use Rattle.task_steps.specs.Lemmas.Counts.{climb_work, run_work}
use Rattle.task_steps.specs.Lemmas.TaskCuts.{are_cuts, cut_rows}
use Rattle.task_steps.proofs.dive_chunk.first_chunk.Goals as goal

pub propagate-requires-clause-cuts : goal.propagate-requires-clause-cuts
propagate-requires-clause-cuts g c =
    cut_rows c.args.model.now c.args.cuts.now c.parts-limits.ensures.limits c.requires.cuts

pub ascend-requires-clause-cuts : goal.ascend-requires-clause-cuts
ascend-requires-clause-cuts g c =
    are_cuts c.args.model.now c.args.cuts.now c.parts-limits.ensures.limits c.requires.cuts

pub ascend-requires-clause-within : goal.ascend-requires-clause-within
ascend-requires-clause-within g c =
    passed_near c.args.model.now c.args.task.now.bounds c.in_ok-bounds.bounds
    c.propagate.new.bounds c.in_ok-bounds.ensures c.parts-limits.ensures.limits
    c.requires.task.within c.in_ok-run.ensures.within (c.in_ok-run.ensures.solid c.in-Open.is)

pub overflow_add-work : goal.overflow_add-work
overflow_add-work g c = omega (
  arith,
  run_work c.args.model.now c.args.cuts.now c.in_ok-bounds.bounds c.in_ok-run.run'
      c.parts-limits.ensures.limits c.requires.cuts c.in_ok-run.ensures.run,
)

pub overflow_add-work-in-Open : goal.overflow_add-work-in-Open
overflow_add-work-in-Open g c =
    let passes = run_work c.args.model.now c.args.cuts.now c.in_ok-bounds.bounds c.in_ok-run.run'
    c.parts-limits.ensures.limits c.requires.cuts c.in_ok-run.ensures.run in
    let climb = climb_work c.args.model.now c.args.cuts.now c.propagate.new.bounds
    c.in_ok-ascent-in-Open.ascent.work c.parts-limits.ensures.limits c.requires.cuts
    c.in_ok-ascent-in-Open.ensures.work in
    omega (arith, passes, climb)

pub overflow_add-run : goal.overflow_add-run
overflow_add-run g c = omega (
  arith,
  run_work c.args.model.now c.args.cuts.now c.in_ok-bounds.bounds c.in_ok-run.run'
      c.parts-limits.ensures.limits c.requires.cuts c.in_ok-run.ensures.run,
)
