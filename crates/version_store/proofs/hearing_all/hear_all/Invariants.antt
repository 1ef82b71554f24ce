use Rattle.stamp_machine.specs.Machine.{final}
use Rattle.version_store.proofs.HearsAll.{IsHearing}
use Rattle.version_store.proofs.hearing_all.hear_all.Given as goal

abbrev pub invariant-loop-slot : goal.invariant-loop-slot
invariant-loop-slot g l = IsHearing (final (g.T.Tasker.rules l.tasker) l.limits).entries l.limits.slots l.key l.initial.seat l.seat l.initial.merge l.merge l.initial.heard l.heard l.slot
