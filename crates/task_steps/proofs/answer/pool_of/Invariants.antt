use Rattle.std.proofs.Common.{◌≡◌, take}
use Rattle.node_pool.specs.Views.{view_of}
use Rattle.task_steps.specs.Answers.{splits_alone}
use Rattle.task_steps.proofs.answer.pool_of.Given as goal

abbrev pub invariant-loop-item : goal.invariant-loop-item
invariant-loop-item l = l.pool ≡ view_of l.model splits_alone (take l.item-index l.entries)
