use Rattle.std.proofs.Common.{◌≡◌, length}
use Rattle.version_store.specs.Gathers.{CanFeed, after_feeds}
use Rattle.version_store.proofs.gathering.feed_queue.Given as goal

abbrev pub invariant-loop-item : goal.invariant-loop-item
invariant-loop-item l = record {
  can : CanFeed l.merge l.slot l.items.items;
  same : after_feeds l.merge l.slot l.items.items ≡ after_feeds l.fn.merge l.slot l.fn.items.items;
}

abbrev pub decreases-loop-item : goal.decreases-loop-item
decreases-loop-item l = length l.items.items
