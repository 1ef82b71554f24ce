use Rattle.sample_model.proofs.SampleLaws.{model_is}
use Rattle.sample_model.proofs.sample.model.Goals as goal

pub returns-clause-kept : goal.returns-clause-kept
returns-clause-kept c = rw (c.in_ok-name.ensures, c.in_ok-name-2.ensures, c.zero.ensures, c.in_ok-rows.ensures, c.in_ok-columns.ensures) (model_is c.args.knapsack.now c.requires)
