use Rattle.commit_order.proofs.Taking.{kept_is_none, kept_least, popped_entry, popped_room, renewed, taken_is, taken_least}
use Rattle.commit_order.proofs.merge.Merge.take_below.Goals as goal

pub returns-in_err-first-clause-taken : goal.returns-in_err-first-clause-taken
returns-in_err-first-clause-taken c =
    kept_is_none c.self.inside.queues.items c.args.self.now c.self.inside.first_keys c.args.key
    c.pop_below.new.self.keys c.from_residual.result c.self.view_is c.self.invariant
    c.in_err-first.ensures.keys c.from_residual.ensures

pub returns-in_err-first-clause-least : goal.returns-in_err-first-clause-least
returns-in_err-first-clause-least c =
    kept_least c.self.inside.queues.items c.args.self.now c.self.inside.first_keys c.args.key
    c.pop_below.new.self.keys c.from_residual.result c.self.view_is c.self.invariant
    c.in_err-first.ensures.keys c.from_residual.ensures

pub take_entry-taken-requires : goal.take_entry-taken-requires
take_entry-taken-requires c =
    popped_entry c.self.inside.queues.items c.self.inside.first_keys c.pop_below.new.self
    c.args.key c.in_ok-first.first c.self.invariant c.in_ok-first.ensures.keys

pub push_first-requires-clause-room : goal.push_first-requires-clause-room
push_first-requires-clause-room c =
    popped_room c.self.inside.queues.items c.self.inside.first_keys c.pop_below.new.self c.args.key
    c.in_ok-first.first c.self.invariant c.in_ok-first.ensures.keys c.in_ok-first.ensures.room

pub invariant_of-self-2 : goal.invariant_of-self-2
invariant_of-self-2 c =
    renewed c.self.inside.queues.items c.take_entry-taken.new.queues.items c.as_slice.result.now
    c.self.inside.first_keys c.pop_below.new.self c.push_first.new.first_keys c.args.key
    c.in_ok-first.first c.take_entry-taken.result c.take_entry-taken.ensures c.self.invariant
    c.push_first.ensures c.as_slice.ensures.value c.in_ok-first.ensures.keys
    c.in_ok-first.ensures.room

pub returns-clause-taken : goal.returns-clause-taken
returns-clause-taken c =
    taken_is c.self.inside.queues.items c.args.self.now c.take_entry-taken.new.queues.items
    c.self.inside.first_keys c.pop_below.new.self c.args.key c.in_ok-first.first
    c.take_entry-taken.result c.take_entry-taken.ensures c.self.view_is c.self.invariant
    c.in_ok-first.ensures.keys

pub returns-clause-least : goal.returns-clause-least
returns-clause-least c =
    taken_least c.self.inside.queues.items c.args.self.now c.take_entry-taken.new.queues.items
    c.self.inside.first_keys c.pop_below.new.self c.args.key c.in_ok-first.first
    c.take_entry-taken.result c.take_entry-taken.ensures c.self.view_is c.self.invariant
    c.in_ok-first.ensures.keys
