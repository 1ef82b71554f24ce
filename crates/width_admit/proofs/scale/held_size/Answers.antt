use Rattle.std.proofs.Common.{arith}
use Rattle.width_admit.proofs.HeldNumbers.{large_size}
use Rattle.width_admit.proofs.scale.held_size.Goals as goal

pub returns-else-size-eq0 : goal.returns-else-size-eq0
returns-else-size-eq0 c = large_size c.args.size c.args.power (omega (arith, c.if-size-eq0.false)) (omega (arith, c.if-power-le-LARGE_POWER.false))
