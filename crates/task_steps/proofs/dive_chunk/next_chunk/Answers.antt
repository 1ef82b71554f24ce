use Rattle.std.proofs.Common.{arith}
use Rattle.task_steps.specs.Lemmas.DiveChunks.{step_work}
use Rattle.task_steps.specs.Lemmas.TaskCuts.{are_cuts}
use Rattle.task_steps.proofs.dive_chunk.next_chunk.Goals as goal

pub dive_step-requires-clause-cuts : goal.dive_step-requires-clause-cuts
dive_step-requires-clause-cuts c =
    are_cuts c.args.model.now c.args.cuts.now c.parts-limits.ensures.limits c.requires.cuts

pub overflow_add-work : goal.overflow_add-work
overflow_add-work c = omega (
  arith,
  step_work c.args.model.now c.args.cuts.now c.in_ok-bounds.bounds c.args.point.now
      c.in_ok-run.run' c.parts-limits.ensures.limits c.requires.cuts c.in_ok-run.ensures.run,
)
