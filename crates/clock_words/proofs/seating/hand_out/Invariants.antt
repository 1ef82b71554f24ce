use Rattle.std.proofs.Common.{◌≡◌, []}
use Rattle.clock_words.specs.Seats.{new_seats}
use Rattle.clock_words.specs.Views.{maker}
use Rattle.clock_words.proofs.seating.hand_out.Given as goal

abbrev pub invariant-loop-slot : goal.invariant-loop-slot
invariant-loop-slot g l = record {
  table : l.maker.table_id ≡ l.words.table_id;
  view : l.maker.me ≡ (
    record (maker
        (g.S.Story.lists l.words.key.story.value) l.words.key.shape) { handed = l.slot },
    [],
  );
  seats : l.seats ≡ new_seats (record {
    table = l.words.table_id;
    shape = l.words.key.shape;
    story =
        g.S.Story.lists l.words.key.story.value;
  }) l.slot;
}
