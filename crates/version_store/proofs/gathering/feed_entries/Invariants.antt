use Rattle.std.proofs.Common.{◌≡◌, map}
use Rattle.version_store.specs.Gathers.{CanFeed, after_feeds}
use Rattle.version_store.specs.Stories.{stamped}
use Rattle.version_store.proofs.gathering.feed_entries.Given as goal

abbrev pub invariant-loop-key : goal.invariant-loop-key
invariant-loop-key l = record {
  can : CanFeed l.merge l.slot (map stamped l.key-iterator.rest.items);
  same : after_feeds l.merge l.slot (map stamped l.key-iterator.rest.items) ≡
      after_feeds l.fn.merge l.slot (map stamped l.fn.entries);
}
