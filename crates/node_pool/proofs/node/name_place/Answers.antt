use Rattle.node_pool.proofs.Names.{name_at}
use Rattle.node_pool.proofs.node.name_place.Goals as goal

pub returns-then-names-place : goal.returns-then-names-place
returns-then-names-place c =
    name_at c.args.names.now c.args.name c.loop-place.place c.loop-place-test.true
    c.if-names-place.true c.loop-place.invariant
