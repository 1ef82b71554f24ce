use Rattle.carrier_tests.proofs.Driven.{all_are}
use Rattle.carrier_tests.proofs.drive.drive.Goals as goal

pub returns-then-all_ended : goal.returns-then-all_ended
returns-then-all_ended g c = all_are _ _ _ _ _ c.loop.invariant c.if-all_ended.ensures c.deref.ensures.value
