use Rattle.node_pool.specs.Lemmas.Joining.{entries_are_counted}
use Rattle.node_pool.proofs.laws.entries_are_counted.Goals as goal

pub returns : goal.returns
returns c = entries_are_counted
