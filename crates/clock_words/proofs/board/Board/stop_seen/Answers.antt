use Rattle.std.proofs.Common.{sym, refl, ap, ◌∙◌}
use Rattle.clock_words.proofs.Calls.{seat_after_stop, stop_seen}
use Rattle.clock_words.proofs.Surface.{mirror_with_stop}
use Rattle.clock_words.proofs.Tables.{at_table}
use Rattle.clock_words.proofs.board.Board.stop_seen.Goals as goal

pub load_stop-requires : goal.load_stop-requires
load_stop-requires g c = record {
  seat = at_table _ _ _ _ _ c.seat.inside.place _ _ c.self.invariant (sym c.self.view_is)
      (sym c.seat.view_is) c.requires.seat c.seat.invariant.role;
}

pub invariant_of-seat : goal.invariant_of-seat
invariant_of-seat g c =
    mirror_with_stop c.seat.inside _ _ c.seat.invariant c.load_stop.ensures.view refl refl refl refl

pub returns-clause-view : goal.returns-clause-view
returns-clause-view g c =
    stop_seen _ _ _ _ _ c.load_stop.ensures.seat.0 c.seat.view_is _
    (ap (λ p. p.0) c.load_stop.ensures.view)

pub returns-clause-seat : goal.returns-clause-seat
returns-clause-seat g c = seat_after_stop _ _ _ c.requires.seat _ (returns-clause-view g c)

pub returns-clause-stays : goal.returns-clause-stays
returns-clause-stays g c is =
    c.load_stop.ensures.stays (ap (λ z. z.stop) c.seat.view_is ∙ is)
