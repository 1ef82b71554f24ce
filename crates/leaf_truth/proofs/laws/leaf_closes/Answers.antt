use Rattle.leaf_truth.proofs.Closes.{leaf_closes}
use Rattle.leaf_truth.proofs.laws.leaf_closes.Goals as goal

pub returns : goal.returns
returns c = leaf_closes
