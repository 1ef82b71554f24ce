use Rattle.dual_ascent.proofs.GainSums.{fallen_is}
use Rattle.dual_ascent.proofs.gain.fallen.Goals as goal

pub returns : goal.returns
returns c = fallen_is c.args.cost c.args.by c.args.coef c.from.result c.from-2.result c.from.ensures c.from-2.ensures c.ranges.by c.ranges.coef c.requires.small c.requires.cost
