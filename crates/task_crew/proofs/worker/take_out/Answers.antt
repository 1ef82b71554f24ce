use Rattle.task_crew.proofs.Crews.{may_leave, taken_all, taken_parts, taken_serving, taken_work}
use Rattle.task_crew.proofs.worker.take_out.Goals as goal

pub pop_as-item-requires-clause-rule : goal.pop_as-item-requires-clause-rule
pop_as-item-requires-clause-rule g c = may_leave _ _ _ c.requires.work.worker

pub returns-clause-parts : goal.returns-clause-parts
returns-clause-parts g c = taken_parts _ _ _ c.pop_as-item.ensures.rule

pub returns-clause-serving : goal.returns-clause-serving
returns-clause-serving g c = taken_serving _ _ _ _ _ _ c.requires.work c.pop_as-item.ensures.rule

pub returns-clause-work : goal.returns-clause-work
returns-clause-work g c = taken_work _ _ _ _ _ _ c.requires.work c.pop_as-item.ensures.rule

pub returns-clause-all : goal.returns-clause-all
returns-clause-all g c = taken_all _ _ _ c.pop_as-item.ensures.rule
