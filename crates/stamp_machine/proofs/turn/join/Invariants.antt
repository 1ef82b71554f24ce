use Rattle.std.proofs.Common.{◌≡◌, ◌++◌}
use Rattle.work_stamp.specs.Histories.{under}
use Rattle.work_stamp.specs.Taskers.{view_after}
use Rattle.stamp_machine.proofs.Joins.{IsJoining}
use Rattle.stamp_machine.proofs.turn.join.Given as goal

abbrev pub invariant-loop-entry : goal.invariant-loop-entry
invariant-loop-entry g l = record {
  entries : l.entries ≡ l.initial.entries ++ under l.key l.yielded;
  view : l.view ≡ view_after (g.T.Tasker.rules l.tasker) l.initial.view (under l.key l.yielded);
  joins : IsJoining (g.T.Tasker.rules l.tasker) (g.T.Tasker.fits_view l.tasker) (g.T.Tasker.may_follow l.tasker) l.key l.entries l.view l.entry-iterator.rest.items;
}
