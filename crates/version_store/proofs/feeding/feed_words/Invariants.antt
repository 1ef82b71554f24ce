use Rattle.std.proofs.Common.{◌≤◌, ◌^◌, List, length}
use Rattle.version_store.specs.Hearing.{CanFeed}
use Rattle.work_stamp.specs.declared.stamped.Stamped.{Stamped}
use Rattle.version_store.proofs.Feeds.{IsFeeding}
use Rattle.version_store.proofs.feeding.feed_words.Given as goal

abbrev pub invariant-loop-left : goal.invariant-loop-left
invariant-loop-left l = record {
  fed : (items : List Stamped) → CanFeed l.initial.merge l.slot l.words items →
      IsFeeding l.initial.merge l.slot l.merge l.left items;
  short : length l.left ≤ 2 ^ 30;
}

abbrev pub decreases-loop-left : goal.decreases-loop-left
decreases-loop-left l = length l.left
