use Rattle.width_admit.proofs.ObjectiveNumbers.{cost_whole}
use Rattle.width_admit.proofs.objective.costs_of.Goals as goal

pub scaled_value-requires-clause-whole : goal.scaled_value-requires-clause-whole
scaled_value-requires-clause-whole c = rw c.col-item.is (cost_whole c.args.exponent c.args.cols.now c.loop-col.col-index c.col-item.result c.loop-col-test.true c.requires.whole)
