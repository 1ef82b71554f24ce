use Rattle.task_crew.proofs.Crews.{work_of_over}
use Rattle.task_crew.proofs.worker.start.Goals as goal

pub work-requires-clause-work : goal.work-requires-clause-work
work-requires-clause-work g c κs within =
    work_of_over _ _ _ _ c.requires.worker c.requires.kept c.room_for_waiting-waiting.ensures
