use Rattle.carrier_tests.proofs.Driven.{after_turn, carrier_at, same_run}
use Rattle.carrier_tests.proofs.drive.advance_slot.Goals as goal

pub advance-requires-clause-tasker : goal.advance-requires-clause-tasker
advance-requires-clause-tasker g c κs within =
    (carrier_at _ _ _ _ _ _ c.requires.carriers c.requires.slot c.index_mut-carrier.ensures.value).tasker_is

pub advance-requires-clause-limits : goal.advance-requires-clause-limits
advance-requires-clause-limits g c κs within =
    (carrier_at _ _ _ _ _ _ c.requires.carriers c.requires.slot c.index_mut-carrier.ensures.value).limits_are

pub advance-requires-clause-board : goal.advance-requires-clause-board
advance-requires-clause-board g c κs within =
    (carrier_at _ _ _ _ _ _ c.requires.carriers c.requires.slot c.index_mut-carrier.ensures.value).board_is

pub returns-in_err-advance : goal.returns-in_err-advance
returns-in_err-advance g c = after_turn _ _ _ _ _ _ c.requires.carriers
    (same_run _ _ _ _ _ _ (carrier_at _ _ _ _ _ _ c.requires.carriers c.requires.slot c.index_mut-carrier.ensures.value) c.advance.ensures.run)

pub returns : goal.returns
returns g c = after_turn _ _ _ _ _ _ c.requires.carriers
    (same_run _ _ _ _ _ _ (carrier_at _ _ _ _ _ _ c.requires.carriers c.requires.slot c.index_mut-carrier.ensures.value) c.advance.ensures.run)
