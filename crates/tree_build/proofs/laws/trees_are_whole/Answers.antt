use Rattle.tree_build.proofs.WholeTrees.{trees_are_whole}
use Rattle.tree_build.proofs.laws.trees_are_whole.Goals as goal

pub returns : goal.returns
returns c = trees_are_whole
