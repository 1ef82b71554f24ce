use Rattle.task_crew.proofs.Crews.{may_return, work_pushed}
use Rattle.task_crew.proofs.worker.put_back.Goals as goal

pub push_as-requires-clause-rule : goal.push_as-requires-clause-rule
push_as-requires-clause-rule g c = may_return _ _ _ _ _ _ _ c.requires.serving

pub returns-clause-work : goal.returns-clause-work
returns-clause-work g c =
    work_pushed _ _ _ _ _ _ _ c.push_as.result _ c.requires.serving c.in-Ok.is c.push_as.ensures.rule
