use Rattle.leaf_truth.proofs.Given.{outcome_gives_leaf}
use Rattle.leaf_truth.proofs.laws.outcome_gives_leaf.Goals as goal

pub returns : goal.returns
returns c = outcome_gives_leaf
