use Rattle.std.proofs.Common.{◌≡◌, replicate}
use Rattle.commit_order.specs.Queues.{empty_queue}
use Rattle.commit_order.proofs.merge.empty_queues.Given as goal

abbrev pub invariant-loop : goal.invariant-loop
invariant-loop l = l.queues.items ≡ replicate l.counter empty_queue
