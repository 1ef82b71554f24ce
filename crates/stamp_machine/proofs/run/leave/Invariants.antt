use Rattle.std.proofs.Common.{◌≡◌, map}
use Rattle.stamp_machine.proofs.run.leave.Given as goal

abbrev pub invariant-loop-slot : goal.invariant-loop-slot
invariant-loop-slot g l = record {
  records : l.records ≡ map (λ slot. slot.records) l.yielded;
  ends : l.ends ≡ map (λ slot. slot.clock) l.yielded;
}
