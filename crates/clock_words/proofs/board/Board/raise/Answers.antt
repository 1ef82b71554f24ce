use Rattle.std.proofs.Common.{sym, refl, ap, ◌∙◌, arith}
use Rattle.clock_words.specs.Clocks.{stamp_of}
use Rattle.clock_words.proofs.Calls.{raise_is, raise_seen, seat_after_raise}
use Rattle.clock_words.proofs.Stamps.{raised_stamp}
use Rattle.clock_words.proofs.Surface.{mirror_after_raise}
use Rattle.clock_words.proofs.Tables.{at_table, slot_within, within_told, written_small}
use Rattle.clock_words.proofs.board.Board.raise.Goals as goal

pub raised_word-word-requires : goal.raised_word-word-requires
raised_word-word-requires g c =
    let small = written_small _ _ _ _ _ c.seat.inside.place _ _ c.self.invariant
    (sym c.self.view_is)
    (sym c.seat.view_is) c.requires.seat c.seat.invariant.most in
    let same = c.seat.invariant.written in omega arith

pub raise_clock-requires-clause-seat : goal.raise_clock-requires-clause-seat
raise_clock-requires-clause-seat g c =
    at_table _ _ _ _ _ _ _ _ c.self.invariant (sym c.self.view_is) (sym c.seat.view_is)
    c.requires.seat c.seat.invariant.role

pub raise_clock-requires-clause-within : goal.raise_clock-requires-clause-within
raise_clock-requires-clause-within g c =
    within_told _ _ _ _ _ _ c.self.invariant (sym c.self.view_is)

pub raise_clock-requires-clause-slot : goal.raise_clock-requires-clause-slot
raise_clock-requires-clause-slot g c =
    let within = slot_within _ _ _ _ _ c.seat.inside.place _ _ c.self.invariant (sym c.self.view_is)
    (sym c.seat.view_is) c.requires.seat in
    let same = c.seat.invariant.slot in let told = ap (λ z. z.slots) c.self.invariant.told_shape in
    (same, omega arith)

pub raise_clock-requires-clause-word : goal.raise_clock-requires-clause-word
raise_clock-requires-clause-word g c =
    let at = raise_clock-requires-clause-seat g c in
    raise_is c.seat.inside _ _ c.seat.invariant c.seat.view_is at.owning.told.lists c.args.stamp _
    (written_small _ _ _ _ _ c.seat.inside.place _ _ c.self.invariant (sym c.self.view_is)
    (sym c.seat.view_is)
    c.requires.seat c.seat.invariant.most) c.requires.stamp c.requires.later c.requires.written
    c.raised_word-word.ensures

pub invariant_of-seat : goal.invariant_of-seat
invariant_of-seat g c =
    mirror_after_raise c.seat.inside _ c.raised_word-word.result c.seat.invariant
    c.raise_clock.ensures.view refl refl refl refl

pub returns-clause-view : goal.returns-clause-view
returns-clause-view g c =
    raise_seen _ _ _ _ _ c.raise_clock.ensures.seat.0 c.seat.view_is c.raised_word-word.result
    c.args.stamp (ap (λ p. p.0) c.raise_clock.ensures.view)
    (let small = written_small _ _ _ _ _ c.seat.inside.place _ _ c.self.invariant
    (sym c.self.view_is) (sym c.seat.view_is) c.requires.seat c.seat.invariant.most in
    let same = c.seat.invariant.written in ap stamp_of c.raised_word-word.ensures
    ∙ raised_stamp c.seat.inside.own c.seat.inside.written c.args.stamp c.requires.stamp
    (omega arith))

pub returns-clause-seat : goal.returns-clause-seat
returns-clause-seat g c =
    seat_after_raise _ _ _ c.requires.seat c.args.stamp (returns-clause-view g c)
