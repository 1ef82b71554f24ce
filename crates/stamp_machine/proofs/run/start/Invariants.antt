use Rattle.std.proofs.Common.{◌≡◌}
use Rattle.stamp_machine.specs.Slots.{fresh_slots}
use Rattle.stamp_machine.proofs.run.start.Given as goal

abbrev pub invariant-loop-number : goal.invariant-loop-number
invariant-loop-number g l = l.slots ≡ fresh_slots (g.T.Tasker.rules l.tasker) 0 l.number
