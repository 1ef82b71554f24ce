use Rattle.std.proofs.Common.{arith}
use Rattle.cut_separate.proofs.cover_cuts.threshold.Goals as goal

pub loop-low-init : goal.loop-low-init
loop-low-init c = record {
  more = c.requires.more;
  less = omega (arith, c.greatest_size-high.ensures.none);
  order = omega arith;
  small = omega (arith, c.greatest_size-high.ensures.small);
}
