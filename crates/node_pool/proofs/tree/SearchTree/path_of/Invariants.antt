use Rattle.std.proofs.Common.{◌≡◌, take}
use Rattle.ip_core.specs.Sides.{Sides}
use Rattle.node_pool.specs.BoundChanges.{with_changes}
use Rattle.node_pool.specs.Branchings.{box_of}
use Rattle.node_pool.proofs.tree.SearchTree.path_of.Given as goal

abbrev pub invariant-loop-origin : goal.invariant-loop-origin
invariant-loop-origin l = (root : Sides)
    → box_of root l.self.branches l.node
    ≡ with_changes l.path.items (box_of root (take l.left l.self.branches) l.name)

abbrev pub decreases-loop-origin : goal.decreases-loop-origin
decreases-loop-origin l = l.left
