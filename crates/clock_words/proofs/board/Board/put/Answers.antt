use Rattle.std.proofs.Common.{sym, refl, ap, arith}
use Rattle.clock_words.proofs.Calls.{next_is, put_most, put_seen, seat_after_put}
use Rattle.clock_words.proofs.Surface.{mirror_after_put}
use Rattle.clock_words.proofs.Tables.{at_table, slot_within, within_of}
use Rattle.clock_words.proofs.board.Board.put.Goals as goal

pub store_words-requires-clause-seat : goal.store_words-requires-clause-seat
store_words-requires-clause-seat g c =
    at_table _ _ _ _ _ _ _ _ c.self.invariant (sym c.self.view_is) (sym c.seat.view_is)
    c.requires.seat c.seat.invariant.role

pub store_words-requires-clause-within : goal.store_words-requires-clause-within
store_words-requires-clause-within g c =
    within_of _ _ _ _ _ _ c.self.invariant (sym c.self.view_is)

pub store_words-requires-clause-shape : goal.store_words-requires-clause-shape
store_words-requires-clause-shape g c = c.self.invariant.told_shape

pub store_words-requires-clause-slot : goal.store_words-requires-clause-slot
store_words-requires-clause-slot g c =
    let within = slot_within _ _ _ _ _ c.seat.inside.place _ _ c.self.invariant (sym c.self.view_is)
    (sym c.seat.view_is) c.requires.seat in
    let same = c.seat.invariant.slot in (same, omega arith)

pub store_words-requires-clause-written : goal.store_words-requires-clause-written
store_words-requires-clause-written g c = c.seat.invariant.written

pub store_words-requires-clause-next : goal.store_words-requires-clause-next
store_words-requires-clause-next g c =
    let at = store_words-requires-clause-seat g c in
    next_is c.seat.inside _ _ c.seat.invariant c.seat.view_is at.owning.told.lists c.args.words.now
    c.requires.next

pub invariant_of-seat : goal.invariant_of-seat
invariant_of-seat g c =
    mirror_after_put c.seat.inside _ _ c.seat.invariant
    (put_most c.seat.inside _ _ c.seat.invariant c.seat.view_is refl c.args.words.now
    c.requires.next) c.store_words.ensures.view refl refl refl refl

pub returns-clause-view : goal.returns-clause-view
returns-clause-view g c =
    put_seen _ _ _ _ _ c.store_words.ensures.seat.0 c.seat.view_is _
    (ap (λ p. p.0) c.store_words.ensures.view)

pub returns-clause-seat : goal.returns-clause-seat
returns-clause-seat g c = seat_after_put _ _ _ c.requires.seat _ (returns-clause-view g c)
