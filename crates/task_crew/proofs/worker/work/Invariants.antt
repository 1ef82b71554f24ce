use Rattle.std.proofs.Common.{◌≡◌, ◌≤◌}
use Rattle.std.specs.Vec.{vec_capacity}
use Rattle.crossbeam_queue.specs.Passes.{IsPassOf, view}
use Rattle.task_crew.specs.Crews.{IsAtWork, run_on}
use Rattle.task_crew.proofs.worker.work.Given as goal

abbrev pub invariant-loop : goal.invariant-loop
invariant-loop g l = record {
  queue : IsPassOf l.crew.queue.now l.worker.pass;
  parts : (view l.worker.pass).parts ≡ (view l.fn.worker.pass).parts;
  work : IsAtWork (run_on l.crew.tasker.now l.crew.limits.now l.crew.board.now)
      (view l.worker.pass) l.worker.kept.items l.worker.waiting.items;
  room : l.crew.limits.now.slots ≤ vec_capacity l.worker.kept;
}
