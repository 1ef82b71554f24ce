use Rattle.node_pool.specs.Lemmas.Orders.{best_is_least}
use Rattle.node_pool.proofs.laws.best_is_least.Goals as goal

pub returns : goal.returns
returns c = best_is_least
