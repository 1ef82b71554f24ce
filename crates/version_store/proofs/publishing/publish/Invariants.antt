use Rattle.version_store.proofs.Publishes.{ArePublishing}
use Rattle.version_store.proofs.publishing.publish.Given as goal

abbrev pub invariant-loop-entry : goal.invariant-loop-entry
invariant-loop-entry g l = ArePublishing l.board l.key l.initial.seat l.seat l.initial.merge l.merge l.yielded l.entry-iterator.rest.items
