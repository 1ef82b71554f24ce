use Rattle.task_crew.proofs.Crews.{work_waiting}
use Rattle.task_crew.proofs.worker.set_aside.Goals as goal

pub returns-then-len-capacity-clause-work : goal.returns-then-len-capacity-clause-work
returns-then-len-capacity-clause-work g c =
    work_waiting _ _ _ _ _ _ c.requires.serving c.push_reserved.ensures.items
