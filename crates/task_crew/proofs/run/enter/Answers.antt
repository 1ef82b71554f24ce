use Rattle.std.proofs.Common.{ap, ◌∙◌, arith}
use Rattle.task_crew.proofs.Crews.{filled_for, filled_next, fresh_run}
use Rattle.version_store.proofs.Seats.{seat_of_new}
use Rattle.clock_words.specs.Seats.{SeatView}
use Rattle.task_crew.proofs.run.enter.Goals as goal

pub new-requires-clause-seat : goal.new-requires-clause-seat
new-requires-clause-seat g c κs within =
    seat_of_new _ _ c.requires.seat (omega (arith, c.requires.slot, c.requires.crew.slots))

pub new-requires-clause-lists : goal.new-requires-clause-lists
new-requires-clause-lists g c κs within =
    ap (λ (s : SeatView). s.board.story) c.requires.seat ∙ c.requires.crew.story

pub new-requires-clause-clock : goal.new-requires-clause-clock
new-requires-clause-clock g c κs within = ap (λ (s : SeatView). s.own) c.requires.seat

pub new-requires-clause-none_put : goal.new-requires-clause-none_put
new-requires-clause-none_put g c κs within = ap (λ (s : SeatView). s.written) c.requires.seat

pub put_in-requires-clause-room : goal.put_in-requires-clause-room
put_in-requires-clause-room g c κs within =
    let same = ap (λ (s : SeatView). s.slot) c.in_ok-carrier.ensures.seat in
    omega (arith, same, c.requires.slot, c.requires.crew.room)

pub put_in-requires-clause-filled : goal.put_in-requires-clause-filled
put_in-requires-clause-filled g c κs within =
    filled_for _ _ _ c.in_ok-carrier.carrier c.requires.filled
    (fresh_run _ _ _ _ c.in_ok-carrier.carrier c.in_ok-carrier.ensures.tasker c.in_ok-carrier.ensures.limits
    c.in_ok-carrier.ensures.seat c.requires.seat)
    (ap (λ (s : SeatView). s.slot) c.in_ok-carrier.ensures.seat)

pub returns-clause-filled : goal.returns-clause-filled
returns-clause-filled g c =
    filled_next _ _ _ c.in_ok-carrier.carrier c.put_in.ensures.filled
    (fresh_run _ _ _ _ c.in_ok-carrier.carrier c.in_ok-carrier.ensures.tasker
    c.in_ok-carrier.ensures.limits c.in_ok-carrier.ensures.seat c.requires.seat)
    (ap (λ (s : SeatView). s.slot) c.in_ok-carrier.ensures.seat)
