use Rattle.std.proofs.Common.{◌≡◌, ◌++◌, take, drop}
use Rattle.node_pool.specs.Nodes.{without_name}
use Rattle.node_pool.proofs.node.name_place.Given as goal

abbrev pub invariant-loop-place : goal.invariant-loop-place
invariant-loop-place l = without_name l.name l.names ≡ take l.place l.names
    ++ without_name l.name (drop l.place l.names)
