use Rattle.tree_build.proofs.Finished.{finished_is_proof}
use Rattle.tree_build.proofs.laws.finished_is_proof.Goals as goal

pub returns : goal.returns
returns c = finished_is_proof
