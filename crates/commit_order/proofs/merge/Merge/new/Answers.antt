use Rattle.commit_order.proofs.Feeding.{new_is}
use Rattle.commit_order.proofs.merge.Merge.new.Goals as goal

pub invariant_of-result : goal.invariant_of-result
invariant_of-result c =
    new_is c.in_ok-empty_queues.field-0.items c.in_ok-with_room.field-0 c.args.slots
    c.in_ok-with_room.ensures c.in_ok-empty_queues.ensures
