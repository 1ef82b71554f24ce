use Rattle.commit_order.proofs.Feeding.{fed_later, fed_only}
use Rattle.commit_order.proofs.merge.Merge.feed.Goals as goal

pub invariant_of-self-then-branch : goal.invariant_of-self-then-branch
invariant_of-self-then-branch c =
    fed_only c.self.inside.queues.items c.args.self.now c.push_entry.new.queues.items
    c.as_slice.result.now c.self.inside.first_keys c.push_first.new.first_keys c.args.slot c.args.item _
    c.push_first.ensures c.as_slice.ensures.value c.self.view_is c.self.invariant c.requires.slot c.requires.stamp
    c.if-branch.true c.in_ok-push_entry.ensures.only c.in_ok-push_entry.ensures.ok

pub invariant_of-self-else-branch : goal.invariant_of-self-else-branch
invariant_of-self-else-branch c =
    fed_later c.self.inside.queues.items c.args.self.now c.push_entry.new.queues.items
    c.self.inside.first_keys c.args.slot c.args.item _ c.self.view_is c.self.invariant
    c.requires.slot c.requires.stamp c.if-branch.false c.in_ok-push_entry.ensures.only
    c.in_ok-push_entry.ensures.ok
