use Rattle.std.proofs.Common.{◌≡◌, drop, take}
use Rattle.clock_words.specs.Seats.{IsSamePlace}
use Rattle.clock_words.specs.Stories.{list_of, words_of}
use Rattle.clock_words.specs.Views.{after_fetch}
use Rattle.clock_words.proofs.steps.load_words.Given as goal

abbrev pub invariant-loop-i : goal.invariant-loop-i
invariant-loop-i g l = record {
  same : IsSamePlace l.fn.place l.place;
  view : l.place.me ≡ (after_fetch l.slot l.i l.fn.place.me.0, l.fn.place.me.1);
  words : take l.i l.out ≡ take l.i
      (drop l.from (words_of (list_of (g.S.Story.lists l.words.key.story.value) l.slot)));
}
