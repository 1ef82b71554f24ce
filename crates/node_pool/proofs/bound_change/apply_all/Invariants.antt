use Rattle.std.proofs.Common.{◌≡◌, ◌≤◌, length, take}
use Rattle.node_pool.specs.BoundChanges.{with_changes}
use Rattle.node_pool.proofs.bound_change.apply_all.Given as goal

abbrev pub invariant-loop-left : goal.invariant-loop-left
invariant-loop-left l = record {
  within : l.left ≤ length l.changes;
  same : with_changes (take l.left l.changes) l.bounds ≡ with_changes l.changes l.fn.bounds;
}

abbrev pub decreases-loop-left : goal.decreases-loop-left
decreases-loop-left l = l.left
