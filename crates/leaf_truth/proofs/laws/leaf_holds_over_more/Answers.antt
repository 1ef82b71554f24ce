use Rattle.leaf_truth.proofs.OverMore.{leaf_holds_over_more}
use Rattle.leaf_truth.proofs.laws.leaf_holds_over_more.Goals as goal

pub returns : goal.returns
returns c = leaf_holds_over_more
