use Rattle.task_crew.proofs.Crews.{none_if_empty}
use Rattle.task_crew.proofs.worker.idle_next.Goals as goal

pub returns-then-is_empty : goal.returns-then-is_empty
returns-then-is_empty g c = none_if_empty _ _ c.is_empty.ensures c.if-is_empty.true
