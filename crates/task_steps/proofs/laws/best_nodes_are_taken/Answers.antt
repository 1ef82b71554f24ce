use Rattle.task_steps.proofs.Picking.{best_taken}
use Rattle.task_steps.proofs.laws.best_nodes_are_taken.Goals as goal

pub returns : goal.returns
returns c = best_taken
