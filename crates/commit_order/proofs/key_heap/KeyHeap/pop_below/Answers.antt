use Rattle.std.proofs.Common.{rules, heap_items, ◌<◌, length, sym, ◌∙◌}
use Rattle.commit_order.proofs.Heaps.{kept_is, popped_is}
use Rattle.commit_order.proofs.key_heap.KeyHeap.pop_below.Goals as goal

pub returns-then-not-is_below-clause-keys : goal.returns-then-not-is_below-clause-keys
returns-then-not-is_below-clause-keys c =
    kept_is c.args.self.now (heap_items c.self.inside.keys) _ c.in_ok-first.field-0.now c.args.key
    c.self.view_is (c.in_ok-first.ensures.greatest c.self.invariant)
    (sym c.is_below.ensures ∙ c.if-not-is_below.true)

pub returns-clause-keys : goal.returns-clause-keys
returns-clause-keys c =
    let some : 0 < length (heap_items c.self.inside.keys) = search rules in
    popped_is c.args.self.now (heap_items c.self.inside.keys) (heap_items c.pop.new.self) _
    c.in_ok-first.field-0.now c.pop.result c.args.key c.self.view_is some
    (c.pop.ensures.variant.1 (search rules)) c.in_ok-first.ensures.lookup c.pop.ensures.top
    c.pop.ensures.permutation (c.in_ok-first.ensures.greatest c.self.invariant)
    (sym c.is_below.ensures ∙ c.if-not-is_below.false)
