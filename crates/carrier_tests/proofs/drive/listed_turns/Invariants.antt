use Rattle.carrier_tests.specs.Driven.{AreCarriers}
use Rattle.carrier_tests.proofs.drive.listed_turns.Given as goal

abbrev pub invariant-loop-slot : goal.invariant-loop-slot
invariant-loop-slot g l = AreCarriers l.board l.tasker l.limits l.carriers.items
