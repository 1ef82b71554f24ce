use Rattle.node_pool.proofs.OpenNodes.{fresh_after}
use Rattle.node_pool.proofs.pool.Pool.add_children.Goals as goal

pub add_open-requires-in_default-2 : goal.add_open-requires-in_default-2
add_open-requires-in_default-2 c =
    fresh_after c.args.self.now c.add_open-in_default.new.self c.args.low c.args.high
    c.in_ok-add_open-in_default.ensures c.requires.apart c.requires.high
