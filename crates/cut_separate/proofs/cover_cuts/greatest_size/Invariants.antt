use Rattle.std.proofs.Common.{◌≡◌, ◌≤◌, ◌+◌, ◌^◌, take}
use Rattle.cut_separate.specs.Thresholds.{weight_from}
use Rattle.cut_separate.proofs.cover_cuts.greatest_size.Given as goal

abbrev pub invariant-loop-term : goal.invariant-loop-term
invariant-loop-term l = record {
  none : weight_from (l.most + 1) (take l.term-index l.terms) ≡ 0;
  small : l.most ≤ 2 ^ 50;
}
