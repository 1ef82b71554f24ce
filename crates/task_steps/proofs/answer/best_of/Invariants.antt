use Rattle.std.proofs.Common.{◌≡◌, drop}
use Rattle.task_steps.specs.Answers.{best_found, best_from}
use Rattle.task_steps.proofs.answer.best_of.Given as goal

abbrev pub invariant-loop-item : goal.invariant-loop-item
invariant-loop-item l = best_from l.best (drop l.item-index l.entries) ≡ best_found l.entries
