use Rattle.stamp_machine.specs.Plays.{PlaysMachine, moves_left_all}
use Rattle.stamp_machine.proofs.run.run_alone.Given as goal

abbrev pub invariant-loop-number : goal.invariant-loop-number
invariant-loop-number g l = PlaysMachine (g.T.Tasker.rules l.tasker) l.limits l.play

abbrev pub decreases-loop-number : goal.decreases-loop-number
decreases-loop-number g l = moves_left_all l.limits l.play.slots
