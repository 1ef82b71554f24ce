use Rattle.stamp_machine.specs.declared.limits.Limits.{Limits}
use Rattle.version_store.specs.Gathers.{AreEnded, IsGathering}
use Rattle.version_store.proofs.gathering.gather.Given as goal

abbrev pub invariant-loop-number : goal.invariant-loop-number
invariant-loop-number g l = (tasker : g.row.T.Denot) (limits : Limits) →
    AreEnded l.board tasker limits l.fn.carriers →
    IsGathering (g.T.Tasker.rules tasker) l.board tasker limits l.number l.merge l.records l.ends
    l.left
