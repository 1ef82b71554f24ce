use Rattle.std.proofs.lemmas.Bool.Decides.{same_from_decides}
use Rattle.round_dive.proofs.FeasiblePoints.{feasible_decides}
use Rattle.task_steps.proofs.node_chunk.is_feasible_point.Goals as goal

pub returns-clause-value : goal.returns-clause-value
returns-clause-value c =
    same_from_decides c.is_feasible.result _ c.is_feasible.ensures
    (feasible_decides c.args.model.now c.args.point.now)
