use Rattle.std.proofs.Common.{◌≡◌, ◌++◌}
use Rattle.stamp_machine.proofs.opening.with_records.Given as goal

abbrev pub invariant-loop-leaf : goal.invariant-loop-leaf
invariant-loop-leaf l = l.records ≡ l.initial.records ++ l.yielded
