use Rattle.version_store.proofs.Joined.{AreJoining}
use Rattle.version_store.proofs.joining.join.Given as goal

abbrev pub invariant-loop-entry : goal.invariant-loop-entry
invariant-loop-entry g l = AreJoining (g.T.Tasker.rules l.tasker) (g.T.Tasker.fits_view l.tasker) (g.T.Tasker.may_follow l.tasker) l.board l.key l.initial.seat l.seat l.initial.playing l.playing l.yielded l.entry-iterator.rest.items
