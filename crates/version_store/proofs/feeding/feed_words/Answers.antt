use Rattle.std.proofs.Common.{arith}
use Rattle.version_store.proofs.Feeds.{feeding_done, feeding_first, feeding_next, next_of, none_left, some_left, stamp_within, used_within}
use Rattle.version_store.proofs.feeding.feed_words.Goals as goal

pub loop-left-init : goal.loop-left-init
loop-left-init c = record {
  fed = λ items can. feeding_first c.args.merge.now c.args.slot c.args.words.now items can;
  short = c.requires.short;
}

pub first_entry-requires-clause-begins : goal.first_entry-requires-clause-begins
first_entry-requires-clause-begins c =
    let f = c.loop-left.invariant.fed c.requires.can.0 c.requires.can.1 in
    let n = next_of c.loop-left.merge c.args.slot c.loop-left.left.now f.rest f.can (some_left c.loop-left.left.now _ c.is_empty.ensures c.loop-left-test.true) in
    (n.item, n.begins)

pub first_entry-requires-clause-short : goal.first_entry-requires-clause-short
first_entry-requires-clause-short c = c.loop-left.invariant.short

pub split_at-requires : goal.split_at-requires
split_at-requires c =
    let f = c.loop-left.invariant.fed c.requires.can.0 c.requires.can.1 in
    (used_within c.loop-left.merge c.args.slot c.loop-left.left.now f.rest f.can (some_left c.loop-left.left.now _ c.is_empty.ensures c.loop-left-test.true) c.in_ok-read.read c.in_ok-read.ensures).0

pub feed-requires-clause-stamp : goal.feed-requires-clause-stamp
feed-requires-clause-stamp c =
    let f = c.loop-left.invariant.fed c.requires.can.0 c.requires.can.1 in
    (stamp_within c.loop-left.merge c.args.slot c.loop-left.left.now f.rest f.can (some_left c.loop-left.left.now _ c.is_empty.ensures c.loop-left-test.true) c.in_ok-read.read c.in_ok-read.ensures).0

pub feed-requires-clause-slot : goal.feed-requires-clause-slot
feed-requires-clause-slot c =
    let f = c.loop-left.invariant.fed c.requires.can.0 c.requires.can.1 in f.can.within

pub loop-left-smaller : goal.loop-left-smaller
loop-left-smaller c =
    let f = c.loop-left.invariant.fed c.requires.can.0 c.requires.can.1 in
    let u = used_within c.loop-left.merge c.args.slot c.loop-left.left.now f.rest f.can (some_left c.loop-left.left.now _ c.is_empty.ensures c.loop-left-test.true) c.in_ok-read.read c.in_ok-read.ensures in
    omega (arith, u.0, u.1, c.split_at.ensures.back_len)

pub loop-left-preserved : goal.loop-left-preserved
loop-left-preserved c =
    let f0 = c.loop-left.invariant.fed c.requires.can.0 c.requires.can.1 in
    let some = some_left c.loop-left.left.now _ c.is_empty.ensures c.loop-left-test.true in
    let u = used_within c.loop-left.merge c.args.slot c.loop-left.left.now f0.rest f0.can some c.in_ok-read.read c.in_ok-read.ensures in
    record {
      fed = λ items can. feeding_next c.args.merge.now c.args.slot c.loop-left.merge c.loop-left.left.now items (c.loop-left.invariant.fed items can) some c.in_ok-read.read c.in_ok-read.ensures c.feed.new.self c.in_ok-feed.ensures.ok c.split_at.result.1.now c.split_at.ensures.back;
      short = omega (arith, c.loop-left.invariant.short, u.0, c.split_at.ensures.back_len);
    }

pub returns : goal.returns
returns c = λ items can. feeding_done c.args.merge.now c.args.slot c.loop-left.merge c.loop-left.left.now items (c.loop-left.invariant.fed items can) (none_left c.loop-left.left.now _ c.is_empty.ensures c.loop-left-test.false)
