use Rattle.leaf_truth.proofs.Given.{bound_gives_leaf}
use Rattle.leaf_truth.proofs.laws.bound_gives_leaf.Goals as goal

pub returns : goal.returns
returns c = bound_gives_leaf
