use Rattle.version_store.specs.Gathers.{IsTaking, waiting_count}
use Rattle.version_store.proofs.gathering.take_all.Given as goal

abbrev pub invariant-loop-entry : goal.invariant-loop-entry
invariant-loop-entry l = IsTaking l.initial.merge l.merge l.entries

abbrev pub decreases-loop-entry : goal.decreases-loop-entry
decreases-loop-entry l = waiting_count l.merge
