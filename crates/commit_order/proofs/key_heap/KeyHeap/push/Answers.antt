use Rattle.std.proofs.Common.{heap_items}
use Rattle.commit_order.proofs.Heaps.{pushed_is}
use Rattle.commit_order.proofs.key_heap.KeyHeap.push.Goals as goal

pub returns-clause-key : goal.returns-clause-key
returns-clause-key c =
    pushed_is c.args.self.now (heap_items c.self.inside.keys) (heap_items c.push.new.self) _ _
    c.push.result c.unwrap.result c.self.view_is c.push.ensures.permutation c.unwrap.ensures
