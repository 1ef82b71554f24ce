use Rattle.cut_derive.proofs.Sizes.{lows_near}
use Rattle.cut_derive.proofs.rounding.rounded_low_sum.Goals as goal

pub rounded_sum-requires-clause-near : goal.rounded_sum-requires-clause-near
rounded_sum-requires-clause-near c = rw c.lows.ensures.value (lows_near c.args.root.now)
