use Rattle.std.proofs.Common.{true, sym, refl, ap}
use Rattle.clock_words.proofs.Calls.{seat_after_stop, stop_seen}
use Rattle.clock_words.proofs.Surface.{mirror_with_stop}
use Rattle.clock_words.proofs.Tables.{at_table, within_told}
use Rattle.clock_words.proofs.board.Board.call_stop.Goals as goal

pub raise_stop-requires-clause-seat : goal.raise_stop-requires-clause-seat
raise_stop-requires-clause-seat g c =
    at_table _ _ _ _ _ _ _ _ c.self.invariant (sym c.self.view_is) (sym c.seat.view_is)
    c.requires.seat c.seat.invariant.role

pub raise_stop-requires-clause-within : goal.raise_stop-requires-clause-within
raise_stop-requires-clause-within g c = within_told _ _ _ _ _ _ c.self.invariant
    (sym c.self.view_is)

pub invariant_of-seat : goal.invariant_of-seat
invariant_of-seat g c =
    mirror_with_stop c.seat.inside _ true c.seat.invariant c.raise_stop.ensures.view refl refl refl
    refl

pub returns-clause-view : goal.returns-clause-view
returns-clause-view g c =
    stop_seen _ _ _ _ _ c.raise_stop.ensures.seat.0 c.seat.view_is true
    (ap (λ p. p.0) c.raise_stop.ensures.view)

pub returns-clause-seat : goal.returns-clause-seat
returns-clause-seat g c = seat_after_stop _ _ _ c.requires.seat true (returns-clause-view g c)
