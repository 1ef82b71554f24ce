use Rattle.std.proofs.Common.{◌≡◌, length}
use Rattle.bounds_bench.proofs.model.names.Given as goal

abbrev pub invariant-loop-at : goal.invariant-loop-at
invariant-loop-at l = length l.names ≡ l._at
