use Rattle.std.proofs.Common.{ap, ◌∙◌, arith}
use Rattle.task_crew.proofs.Crews.{ended_when_empty, worker_filled}
use Rattle.task_crew.proofs.run.carriers_at_end.Goals as goal

pub workers-worker-requires-clause-worker : goal.workers-worker-requires-clause-worker
workers-worker-requires-clause-worker g c κs within =
    worker_filled _ _ (omega (arith, c.requires.crew.ranges.some_slots)) c.in_ok-pass.ensures.filled

pub workers-worker-requires-clause-none : goal.workers-worker-requires-clause-none
workers-worker-requires-clause-none g c κs within = ap (λ v. v.holds) c.in_ok-pass.ensures.filled

pub workers-worker-requires-clause-threads : goal.workers-worker-requires-clause-threads
workers-worker-requires-clause-threads g c κs within =
    let parts = ap (λ v. v.parts) c.in_ok-pass.ensures.filled in
    (c.requires.threads.0, omega (arith, c.requires.threads.1, parts))

pub returns : goal.returns
returns g c =
    ended_when_empty _ _ _ _ _ c.in-Empty-end.is c.requires.crew.ranges c.start-worker.ensures.worker
    (c.start-worker.ensures.parts
    ∙ (c.workers-worker.ensures.parts ∙ ap (λ v. v.parts) c.in_ok-pass.ensures.filled))
    c.start-worker.ensures.all c.start-worker.ensures.kept c.of.ensures
