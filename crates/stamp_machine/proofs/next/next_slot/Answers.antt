use Rattle.stamp_machine.proofs.NextSlot.{least_lives}
use Rattle.stamp_machine.proofs.next.next_slot.Goals as goal

pub comes_first-requires-clause-there : goal.comes_first-requires-clause-there
comes_first-requires-clause-there g c = least_lives c.args.slots.now c.loop-number.number c.loop-number.next c.loop-number.invariant.next
