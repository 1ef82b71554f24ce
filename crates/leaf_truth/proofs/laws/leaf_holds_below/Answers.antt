use Rattle.leaf_truth.proofs.Below.{leaf_holds_below}
use Rattle.leaf_truth.proofs.laws.leaf_holds_below.Goals as goal

pub returns : goal.returns
returns c = leaf_holds_below
