use Rattle.carrier_tests.specs.Driven.{AreCarriers}
use Rattle.carrier_tests.proofs.drive.drive.Given as goal

abbrev pub invariant-loop : goal.invariant-loop
invariant-loop g l = AreCarriers l.board l.tasker l.limits l.carriers.items
