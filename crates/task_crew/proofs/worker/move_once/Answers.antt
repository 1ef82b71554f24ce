use Rattle.task_crew.proofs.Advances.{after, same_run}
use Rattle.task_crew.proofs.worker.move_once.Goals as goal

pub returns-clause-run : goal.returns-clause-run
returns-clause-run g c = same_run _ _ c.advance.ensures.run

pub returns-clause-after : goal.returns-clause-after
returns-clause-after g c = after _ _ _ _ c.advance.ensures.advance c.requires.lives
