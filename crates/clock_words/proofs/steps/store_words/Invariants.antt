use Rattle.std.proofs.Common.{◌≡◌}
use Rattle.clock_words.specs.Seats.{IsSamePlace}
use Rattle.clock_words.specs.Views.{after_put}
use Rattle.clock_words.proofs.steps.store_words.Given as goal

abbrev pub invariant-loop-i : goal.invariant-loop-i
invariant-loop-i g l = record {
  same : IsSamePlace l.fn.place l.place;
  view : l.place.me ≡ (after_put l.i l.fn.place.me.0, l.fn.place.me.1);
}
