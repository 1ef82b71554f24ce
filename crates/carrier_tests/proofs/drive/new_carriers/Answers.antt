use Rattle.std.proofs.Common.{length, sym, ap, ◌∙◌, arith}
use Rattle.clock_words.specs.Seats.{SeatView}
use Rattle.carrier_tests.proofs.Driven.{all_first, new_carrier, next_seats, no_items, none_first, one_longer, one_more_in}
use Rattle.version_store.proofs.Seats.{first_new, first_slot, first_within, new_from, none_left, rest_from, seat_of_new}
use Rattle.carrier_tests.proofs.drive.new_carriers.Goals as goal

pub loop-seat-init : goal.loop-seat-init
loop-seat-init g c = record {
  seats = new_from _ _ _ (c.into_iter-seat-iterator.ensures.into_iter_gives.0
      ∙ (c.into_vec-seat-items.ensures ∙ c.requires.seats));
  carriers = none_first _ _ _ _ c.new-carriers.ensures.items;
  number = ap length c.new-carriers.ensures.items;
}

pub new-requires-clause-seat : goal.new-requires-clause-seat
new-requires-clause-seat g c κs within = seat_of_new _ _
    (first_new _ _ _ _ _ _ c.loop-seat.invariant.seats c.in-Some.ensures.steps.0)
    (omega (
      arith,
      c.requires.board.slots,
      first_within _ _ _ _ _ _ c.loop-seat.invariant.seats c.in-Some.ensures.steps.0,
    ))

pub new-requires-clause-lists : goal.new-requires-clause-lists
new-requires-clause-lists g c κs within =
    ap (λ (s : SeatView). s.board.story)
    (first_new _ _ _ _ _ _ c.loop-seat.invariant.seats c.in-Some.ensures.steps.0)
    ∙ c.requires.board.story

pub new-requires-clause-slot : goal.new-requires-clause-slot
new-requires-clause-slot g c κs within =
    first_within _ _ _ _ _ _ c.loop-seat.invariant.seats c.in-Some.ensures.steps.0

pub new-requires-clause-clock : goal.new-requires-clause-clock
new-requires-clause-clock g c κs within = ap (λ (s : SeatView). s.own)
    (first_new _ _ _ _ _ _ c.loop-seat.invariant.seats c.in-Some.ensures.steps.0)

pub new-requires-clause-none_put : goal.new-requires-clause-none_put
new-requires-clause-none_put g c κs within = ap (λ (s : SeatView). s.written)
    (first_new _ _ _ _ _ _ c.loop-seat.invariant.seats c.in-Some.ensures.steps.0)

pub loop-seat-preserved : goal.loop-seat-preserved
loop-seat-preserved g c =
    let before = c.loop-seat.invariant in
    let steps = c.in-Some.ensures.steps.0 in
    let new = c.in_ok-new.ensures in
    let added = c.in_ok-push.ensures.items in
    let is = new_carrier _ _ _ _ _ new.tasker new.limits new.seat
    (first_new _ _ _ _ _ _ before.seats steps) in
    let at = first_slot _ _ _ _ _ _ before.seats steps ∙ sym before.number in
    record {
      seats = next_seats _ _ _ _ _ (rest_from _ _ _ _ _ _ before.seats steps);
      carriers = one_more_in _ _ _ _ _ _ _ before.carriers is at added;
      number = one_longer _ _ _ _ _ before.number added;
    }

pub returns : goal.returns
returns g c = all_first _ _ _ _ c.requires.board.ranges c.loop-seat.invariant.carriers
    (c.loop-seat.invariant.number ∙ none_left _ _ _ _ c.loop-seat.invariant.seats
    (no_items c.loop-seat.seat-iterator.rest.items (omega (arith, c.in-None.ensures.steps.0))))
