use Rattle.std.proofs.Common.{sym, ap, ◌∙◌}
use Rattle.task_crew.specs.Hands.{filled}
use Rattle.version_store.proofs.Seats.{first_new, first_slot, first_within, new_from}
use Rattle.task_crew.proofs.run.fill.Goals as goal

pub loop-seat-init : goal.loop-seat-init
loop-seat-init g c = record {
  seats = new_from _ _ _ (c.into_iter-seat-iterator.ensures.into_iter_gives.0
      ∙ (c.into_vec-seat-items.ensures ∙ c.requires.seats));
  queue = c.requires.queue;
  filled = c.requires.first;
}

pub enter-requires-clause-seat : goal.enter-requires-clause-seat
enter-requires-clause-seat g c κs within =
    first_new _ _ _ _ _ _ c.loop-seat.invariant.seats c.in-Some.ensures.steps.0

pub enter-requires-clause-slot : goal.enter-requires-clause-slot
enter-requires-clause-slot g c κs within =
    first_within _ _ _ _ _ _ c.loop-seat.invariant.seats c.in-Some.ensures.steps.0

pub enter-requires-clause-filled : goal.enter-requires-clause-filled
enter-requires-clause-filled g c κs within =
    c.loop-seat.invariant.filled
    ∙ ap (filled _) (sym (first_slot _ _ _ _ _ _ c.loop-seat.invariant.seats
    c.in-Some.ensures.steps.0))
