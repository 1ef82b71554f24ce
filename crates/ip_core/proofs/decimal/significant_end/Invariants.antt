use Rattle.std.proofs.Common.{length, ◌≡◌, ◌≤◌, ◌+◌, ◌++◌, take}
use Rattle.ip_core.specs.Decimals.{trailing_zeros}
use Rattle.ip_core.proofs.decimal.significant_end.Given as goal

abbrev pub invariant-loop-end : goal.invariant-loop-end
invariant-loop-end l = record {
  back : trailing_zeros (l.whole ++ l.fraction) + l.end ≡ length (l.whole ++ l.fraction) + trailing_zeros (take l.end (l.whole ++ l.fraction));
  within : l.end ≤ length (l.whole ++ l.fraction);
}

abbrev pub decreases-loop-end : goal.decreases-loop-end
decreases-loop-end l = l.end
