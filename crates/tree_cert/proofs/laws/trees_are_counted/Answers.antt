use Rattle.tree_cert.proofs.Trees.{trees_are_counted}
use Rattle.tree_cert.proofs.laws.trees_are_counted.Goals as goal

pub returns : goal.returns
returns c = trees_are_counted
