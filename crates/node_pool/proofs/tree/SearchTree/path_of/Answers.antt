use Rattle.node_pool.proofs.Paths.{step_up}
use Rattle.node_pool.proofs.tree.SearchTree.path_of.Goals as goal

pub loop-origin-preserved : goal.loop-origin-preserved
loop-origin-preserved c =
    step_up c.args.self.now.branches c.args.node c.loop-origin.path.items c.push.new.self.items
    c.loop-origin.left c.loop-origin.name c.in-Some.origin.place c.in-Some.origin.parent
    c.in-Some.origin.change c.in-Some.ensures.box
    c.in_ok-push.ensures.items c.loop-origin.invariant
