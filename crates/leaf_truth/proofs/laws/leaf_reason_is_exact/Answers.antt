use Rattle.leaf_truth.proofs.Exactly.{leaf_reason_is_exact}
use Rattle.leaf_truth.proofs.laws.leaf_reason_is_exact.Goals as goal

pub returns : goal.returns
returns c = leaf_reason_is_exact
