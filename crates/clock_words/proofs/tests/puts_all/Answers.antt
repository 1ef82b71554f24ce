use Rattle.std.proofs.Common.{ℕ, ◌+◌, ◌≡◌, refl, sym, ap, ◌∙◌, subst, arith}
use Rattle.clock_words.specs.Seats.{SeatView}
use Rattle.clock_words.proofs.SampleRows.{due_of_numbers, most_of_numbers, next_of_numbers}
use Rattle.clock_words.proofs.tests.puts_all.Goals as goal

pub put-requires-clause-next : goal.put-requires-clause-next
put-requires-clause-next c =
    let before = c.loop-turn.invariant in
    next_of_numbers c.args.board.now _ before.seat before.slot c.loop-turn.turn c.requires.story
    before.own before.written (omega arith)

pub raise-requires-clause-written : goal.raise-requires-clause-written
raise-requires-clause-written c =
    let before = c.loop-turn.invariant in
    let slot = ap (λ (z : SeatView). z.slot) c.put.ensures.view ∙ before.slot in
    let due = due_of_numbers c.args.board.now c.put.new.seat c.put.ensures.seat slot
    (c.loop-turn.turn + 1) c.requires.story in
    let put = ap (λ (z : SeatView). z.written) c.put.ensures.view in
    let written = before.written in omega arith

pub raise-requires-2-clause-written : goal.raise-requires-2-clause-written
raise-requires-2-clause-written c =
    let before = c.loop-turn.invariant in
    let most = most_of_numbers c.args.board.now c.loop-turn.seat before.seat before.slot
    4611686018427387904 c.requires.story in
    let written = before.written in omega arith
