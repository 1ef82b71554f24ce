use Rattle.carrier_tests.proofs.Driven.{ended_run}
use Rattle.carrier_tests.proofs.drive.listed_history.Goals as goal

pub gather-requires-after_bounds : goal.gather-requires-after_bounds
gather-requires-after_bounds g c κs within =
    ended_run _ _ _ _ _ _ _ c.listed_turns.ensures c.if-not-all_ended.false c.all_ended.ensures c.deref.ensures.value c.of.ensures

pub listed_turns-requires-clause-board : goal.listed_turns-requires-clause-board
listed_turns-requires-clause-board g c κs within = c.in_ok-board.ensures.board
