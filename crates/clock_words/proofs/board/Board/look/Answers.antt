use Rattle.std.proofs.Common.{length, sym, refl, ap, arith}
use Rattle.clock_words.specs.Seats.{SeatView}
use Rattle.clock_words.proofs.Calls.{look_later, look_seen, seat_after_look}
use Rattle.clock_words.proofs.Surface.{as_many_kept, mirror_after_look}
use Rattle.clock_words.proofs.Tables.{at_table, slot_told}
use Rattle.clock_words.proofs.board.Board.look.Goals as goal

pub load_clock-word-requires-clause-seat : goal.load_clock-word-requires-clause-seat
load_clock-word-requires-clause-seat g c =
    at_table _ _ _ _ _ _ _ _ c.self.invariant (sym c.self.view_is) (sym c.seat.view_is)
    c.requires.seat c.seat.invariant.role

pub load_clock-word-requires-clause-slot : goal.load_clock-word-requires-clause-slot
load_clock-word-requires-clause-slot g c =
    slot_told _ _ _ _ _ _ c.self.invariant (sym c.self.view_is) c.args.slot c.requires.slot

pub index_mut-requires : goal.index_mut-requires
index_mut-requires g c =
    let kept = as_many_kept c.seat.inside c.seat.invariant in
    let seen = ap (λ (z : SeatView). length z.seen) c.seat.view_is in
    let size = c.requires.seat.size in omega arith

pub invariant_of-seat : goal.invariant_of-seat
invariant_of-seat g c =
    mirror_after_look c.seat.inside _ c.args.slot c.load_clock-word.result c.seat.invariant
    c.load_clock-word.ensures.found.view refl refl refl refl c.load_clock-word.ensures.found.count

pub returns-clause-view : goal.returns-clause-view
returns-clause-view g c =
    look_seen _ _ _ _ _ c.load_clock-word.ensures.seat.0 c.seat.view_is c.args.slot
    c.load_clock-word.result _ (ap (λ p. p.0) c.load_clock-word.ensures.found.view)
    c.stamp_of.ensures

pub returns-clause-seat : goal.returns-clause-seat
returns-clause-seat g c =
    seat_after_look _ _ _ c.requires.seat c.args.slot c.stamp_of.result (returns-clause-view g c)

pub returns-clause-later : goal.returns-clause-later
returns-clause-later g c =
    look_later c.seat.inside.place.table_id c.seat.inside.place.me.0 _ c.args.slot
    c.load_clock-word.result _ c.seat.view_is
    c.load_clock-word.ensures.found.later c.stamp_of.ensures
