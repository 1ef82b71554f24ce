use Rattle.std.proofs.Common.{length, ◌-◌, ◌≡◌, ◌≤◌, ◌+◌, ◌++◌, drop}
use Rattle.ip_core.specs.Decimals.{leading_zeros}
use Rattle.ip_core.proofs.decimal.leading_zeros.Given as goal

abbrev pub invariant-loop-count : goal.invariant-loop-count
invariant-loop-count l = record {
  front : leading_zeros (l.whole ++ l.fraction) ≡ l.count + leading_zeros (drop l.count (l.whole ++ l.fraction));
  within : l.count ≤ length (l.whole ++ l.fraction);
}

abbrev pub decreases-loop-count : goal.decreases-loop-count
decreases-loop-count l = l.len - l.count
