use Rattle.std.proofs.Common.{ℕ, ◌≡◌, refl, sym, ap, ◌∙◌, subst, arith}
use Rattle.clock_words.specs.Seats.{SeatView}
use Rattle.clock_words.proofs.SampleRows.{due_of_run, first_of_run}
use Rattle.clock_words.proofs.tests.starts.Goals as goal

pub put-requires-clause-next : goal.put-requires-clause-next
put-requires-clause-next c =
    first_of_run c.args.board.now c.args.seat.now c.requires.seat c.requires.begins.0
    c.requires.story c.requires.begins.1 c.requires.begins.2

pub raise-requires-clause-later : goal.raise-requires-clause-later
raise-requires-clause-later c =
    let own = ap (λ (z : SeatView). z.own) c.put.ensures.view in
    let none = c.requires.begins.1 in omega arith

pub raise-requires-clause-written : goal.raise-requires-clause-written
raise-requires-clause-written c =
    let slot = ap (λ (z : SeatView). z.slot) c.put.ensures.view ∙ c.requires.begins.0 in
    let due = due_of_run c.args.board.now c.put.new.seat c.put.ensures.seat slot c.requires.story in
    let put = ap (λ (z : SeatView). z.written) c.put.ensures.view in omega arith
