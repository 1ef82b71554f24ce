use Rattle.node_pool.proofs.Counts.{ground, room}
use Rattle.node_pool.proofs.pool.Pool.absorb.Goals as goal

pub join-requires-clause-room : goal.join-requires-clause-room
join-requires-clause-room c = room c.args.model.now c.args.self.now c.args.entry.now c.requires

pub join-requires-clause-ground : goal.join-requires-clause-ground
join-requires-clause-ground c =
    ground c.args.model.now c.args.self.now c.args.entry.now c.parts-limits.ensures.limits c.requires
