use Rattle.version_store.proofs.Publishes.{publishing_next}
use Rattle.version_store.proofs.publishing.publish.Goals as goal

pub loop-entry-preserved : goal.loop-entry-preserved
loop-entry-preserved g c =
    publishing_next c.args.board.now c.args.key c.args.seat.now c.loop-entry.seat c.put_entry.new.seat c.args.merge.now c.loop-entry.merge c.feed.new.self c.loop-entry.yielded c.loop-entry.entry-iterator.rest.items c.in-Some.entry c.next.new.self.rest.items c.loop-entry.invariant c.in-Some.ensures.steps.0 c.in_ok-put_entry.ensures.putting c.in_ok-put_entry.ensures.ok c.in_ok-feed.ensures.ok
