use Rattle.std.proofs.Common.{refl}
use Rattle.task_crew.proofs.Crews.{serving_up}
use Rattle.task_crew.proofs.worker.take_up.Goals as goal

pub returns-clause-serving : goal.returns-clause-serving
returns-clause-serving g c =
    serving_up _ _ _ _ _ _ _ _ c.requires.work c.requires.stands c.remove-item.ensures.value
    c.remove-item.ensures.items refl
