use Rattle.std.proofs.Common.{sym, ap}
use Rattle.node_pool.proofs.OpenNodes.{bounds_with}
use Rattle.node_pool.specs.Views.{View}
use Rattle.node_pool.proofs.pool.Pool.add_open.Goals as goal

pub invariant_of-self-2 : goal.invariant_of-self-2
invariant_of-self-2 c =
    bounds_with c.self.inside.tree c.args.self.now c.args.node c.self.inside.open_nodes.keys
    c.insert_open.new.nodes.keys (ap (λ (v : View). v.branches) (sym c.self.view_is))
    c.in_ok-insert_open.ensures.ok c.requires c.self.invariant
