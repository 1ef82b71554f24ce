use Rattle.std.proofs.Common.{ℕ, ◌≡◌, refl, sym, ap, ◌∙◌, subst, arith}
use Rattle.clock_words.specs.Seats.{IsSeat, SeatView}
use Rattle.clock_words.proofs.Calls.{new_seat_is}
use Rattle.clock_words.proofs.SampleRows.{none_due, two_looks}
use Rattle.clock_words.proofs.tests.looks_around_a_raise.Goals as goal

pub look-before-requires-clause-seat : goal.look-before-requires-clause-seat
look-before-requires-clause-seat c =
    let two = c.requires.shape in
    subst (λ (z : SeatView). IsSeat c.args.board.now z) (sym c.requires.other)
    (new_seat_is c.args.board.now 1 (omega arith))

pub raise-requires-clause-seat : goal.raise-requires-clause-seat
raise-requires-clause-seat c =
    let two = c.requires.shape in
    subst (λ (z : SeatView). IsSeat c.args.board.now z) (sym c.requires.one)
    (new_seat_is c.args.board.now 0 (omega arith))

pub raise-requires-clause-later : goal.raise-requires-clause-later
raise-requires-clause-later c =
    let own = ap (λ (z : SeatView). z.own) c.requires.one in omega arith

pub raise-requires-clause-written : goal.raise-requires-clause-written
raise-requires-clause-written c =
    let none = none_due c.args.board.now c.args.one.now (raise-requires-clause-seat c)
    (ap (λ (z : SeatView). z.slot) c.requires.one) 5 c.requires.story in
    omega arith

pub returns : goal.returns
returns c =
    two_looks c.args.board.now c.args.other.now _ _ _ _ c.requires.shape c.requires.other
    c.look-before.ensures.view c.look.ensures.view
