use Rattle.width_admit.proofs.Coefficients.{coefficient_whole}
use Rattle.width_admit.proofs.rows.whole_terms.Goals as goal

pub scaled_value-requires-clause-whole : goal.scaled_value-requires-clause-whole
scaled_value-requires-clause-whole c = rw c.term-item.is (coefficient_whole c.args.exponent c.args.terms.now c.loop-term.term-index c.term-item.result c.loop-term-test.true c.requires.whole)
