use Rattle.std.proofs.Common.{ℕ, map, sym, subst}
use Rattle.version_store.specs.Gathers.{CanFeed}
use Rattle.version_store.specs.Stories.{stamped}
use Rattle.version_store.proofs.EndedSlots.{published_whole}
use Rattle.version_store.proofs.FedEntries.{both_are_fed, second_is_fed}
use Rattle.version_store.proofs.gathering.feed_carrier.Goals as goal

pub feed_entries-requires : goal.feed_entries-requires
feed_entries-requires g c =
    let t = g.T.Tasker in
    let a = c.args.carrier.tasker in
    let h = published_whole g.row.T-View.Denot g.row.T-Local.Denot (t.rules a) (t.fits_view a) (t.fits_local a) (t.may_follow a) (t.agrees a) (g.met.T.Tasker.lawful a) c.args.carrier.limits c.args.carrier.seat c.args.carrier.playing c.into_playing.result c.unwrap-playing.result c.into_playing.ensures.playing c.unwrap-playing.ensures c.requires.ended c.into_playing.ensures.stands in
    let f = h.feeds c.args.merge.now c.requires.within c.requires.fresh in
    subst (λ (n : ℕ). CanFeed c.args.merge.now n (map stamped c.unwrap-playing.result.mine))
    (sym c.slot-number.ensures) f.first

pub feed_queue-requires : goal.feed_queue-requires
feed_queue-requires g c =
    let t = g.T.Tasker in
    let a = c.args.carrier.tasker in
    let h = published_whole g.row.T-View.Denot g.row.T-Local.Denot (t.rules a) (t.fits_view a) (t.fits_local a) (t.may_follow a) (t.agrees a) (g.met.T.Tasker.lawful a) c.args.carrier.limits c.args.carrier.seat c.args.carrier.playing c.into_playing.result c.unwrap-playing.result c.into_playing.ensures.playing c.unwrap-playing.ensures c.requires.ended c.into_playing.ensures.stands in
    second_is_fed c.args.merge.now c.feed_entries.new.merge c.args.carrier.seat.slot
    c.slot-number.result c.unwrap-playing.result.mine c.unwrap-playing.result.merge
    c.into_queue.result.items _ c.slot-number.ensures c.in_ok-feed_entries.ensures
    c.into_queue.ensures (h.feeds c.args.merge.now c.requires.within c.requires.fresh)

pub returns-clause-slot : goal.returns-clause-slot
returns-clause-slot g c =
    let t = g.T.Tasker in
    let a = c.args.carrier.tasker in
    let h = published_whole g.row.T-View.Denot g.row.T-Local.Denot (t.rules a) (t.fits_view a) (t.fits_local a) (t.may_follow a) (t.agrees a) (g.met.T.Tasker.lawful a) c.args.carrier.limits c.args.carrier.seat c.args.carrier.playing c.into_playing.result c.unwrap-playing.result c.into_playing.ensures.playing c.unwrap-playing.ensures c.requires.ended c.into_playing.ensures.stands in
    h.last

pub returns-clause-fed : goal.returns-clause-fed
returns-clause-fed g c =
    let t = g.T.Tasker in
    let a = c.args.carrier.tasker in
    let h = published_whole g.row.T-View.Denot g.row.T-Local.Denot (t.rules a) (t.fits_view a) (t.fits_local a) (t.may_follow a) (t.agrees a) (g.met.T.Tasker.lawful a) c.args.carrier.limits c.args.carrier.seat c.args.carrier.playing c.into_playing.result c.unwrap-playing.result c.into_playing.ensures.playing c.unwrap-playing.ensures c.requires.ended c.into_playing.ensures.stands in
    both_are_fed c.args.merge.now c.feed_entries.new.merge c.feed_queue.new.merge
    c.args.carrier.seat.slot c.slot-number.result c.unwrap-playing.result.mine
    c.unwrap-playing.result.merge c.into_queue.result.items _ c.slot-number.ensures
    c.in_ok-feed_entries.ensures c.into_queue.ensures c.in_ok-feed_queue.ensures
    (h.feeds c.args.merge.now c.requires.within c.requires.fresh)
