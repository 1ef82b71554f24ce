use Rattle.std.proofs.Common.{◌≡◌, ◌≤◌, drop, map, length}
use Rattle.stamp_machine.specs.Slots.{least, live_clock}
use Rattle.stamp_machine.proofs.NextSlot.{shifted}
use Rattle.stamp_machine.proofs.next.next_slot.Given as goal

abbrev pub invariant-loop-number : goal.invariant-loop-number
invariant-loop-number g l = record {
  next : l.next ≡ shifted l.number (least (drop l.number (map live_clock l.slots)));
  within : l.number ≤ length l.slots;
}

abbrev pub decreases-loop-number : goal.decreases-loop-number
decreases-loop-number g l = l.number
