use Rattle.std.proofs.Common.{◌≤◌, ◌<◌, ◌+◌, ◌-◌, ◌^◌}
use Rattle.cut_separate.specs.Thresholds.{weight_from}
use Rattle.cut_separate.proofs.cover_cuts.threshold.Given as goal

abbrev pub invariant-loop-low : goal.invariant-loop-low
invariant-loop-low l = record {
  more : l.left < weight_from l.low l.bad;
  less : weight_from l.high l.bad ≤ l.left;
  order : l.low < l.high;
  small : l.high ≤ 2 ^ 50 + 1;
}

abbrev pub decreases-loop-low : goal.decreases-loop-low
decreases-loop-low l = l.high - l.low
