use Rattle.std.proofs.Common.{◌∙◌, sym, ap}
use Rattle.node_pool.proofs.Origins.{index_after}
use Rattle.node_pool.specs.Trees.{Tree}
use Rattle.node_pool.proofs.tree.SearchTree.push.Goals as goal

pub invariant_of-self-in-Ok : goal.invariant_of-self-in-Ok
invariant_of-self-in-Ok c =
    index_after c.self.inside.branchings.items c.args.self.now.branches c.push.new.self.items
    c.args.branching c.self.inside.places c.insert.new.self c.first-first.result
    c.len-place.result
    (ap (λ (t : Tree). t.branches) (sym c.self.view_is)) c.in_ok-push.ensures.items
    c.first-first.ensures (c.len-place.ensures ∙ c.self.inside.branchings.ok.0) c.self.invariant
    c.requires c.in-Ok.ensures.updates.0
