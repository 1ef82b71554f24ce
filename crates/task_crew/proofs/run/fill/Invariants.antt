use Rattle.std.proofs.Common.{◌≡◌, length}
use Rattle.crossbeam_queue.specs.Passes.{IsPassOf, view}
use Rattle.task_crew.specs.Crews.{run_on}
use Rattle.task_crew.specs.Hands.{filled}
use Rattle.version_store.proofs.Seats.{AreSeatsFrom}
use Rattle.task_crew.proofs.run.fill.Given as goal

abbrev pub invariant-loop-seat : goal.invariant-loop-seat
invariant-loop-seat g l = record {
  seats : AreSeatsFrom l.crew.board.now l.crew.limits.now.slots (length l.yielded)
      l.seat-iterator.rest.items;
  queue : IsPassOf l.crew.queue.now l.pass;
  filled : view l.pass ≡ filled (run_on l.crew.tasker.now l.crew.limits.now l.crew.board.now)
      (length l.yielded);
}
