use Rattle.std.proofs.Common.{sym}
use Rattle.node_pool.proofs.OpenNodes.{bounds_without, remove_is, view_without}
use Rattle.node_pool.proofs.pool.Pool.remove_open.Goals as goal

pub invariant_of-self : goal.invariant_of-self
invariant_of-self c =
    bounds_without c.self.inside.tree c.args.name c.self.inside.open_nodes.keys
    c.remove.new.self.keys
    (remove_is c.self.inside.tree c.args.name c.in-Some.node c.self.inside.open_nodes.keys
    c.remove.new.self.keys (sym c.in-Some.ensures) c.self.invariant c.remove.ensures.keys)
    c.self.invariant

pub returns-in-Some : goal.returns-in-Some
returns-in-Some c =
    view_without c.args.self.now _ c.args.name c.remove.new.self.keys c.self.view_is
    (remove_is c.self.inside.tree c.args.name c.in-Some.node c.self.inside.open_nodes.keys
    c.remove.new.self.keys (sym c.in-Some.ensures) c.self.invariant c.remove.ensures.keys)
