-- What a seat keeps beside its view, so that the code can read it.
use Rattle.std.specs.Prelude.{ℕ, ◌≡◌, ◌≤◌, [], length, slice_index}
use Rattle.clock_words.specs.Clocks.{due_count, stamp_of}
use Rattle.clock_words.specs.Stories.{due, list_of}
use Rattle.clock_words.specs.declared.seat.BoardSeat.TheInside.{Inside}
use Rattle.clock_words.specs.declared.view.Role.TheVariants.{Owner}

-- the fields are those of the view, which owns a slot, and each clock word seen counts what is due
-- at its stamp
pub record IsMirror (s : Inside) : Type 0 where
  pub role : s.place.me.0.role ≡ Owner
  pub slot : s.slot ≡ s.place.me.0.slot
  pub own : s.own ≡ s.place.me.0.own
  pub written : s.written ≡ s.place.me.0.written
  pub seen : s.seen.items ≡ s.place.me.0.seen
  pub most : s.place.me.0.written ≤ length (list_of s.place.me.0.story s.place.me.0.slot)
  pub none_held : s.place.me.1 ≡ []
  pub counts : (slot : ℕ) → due_count (slice_index s.place.me.0.seen slot) ≡
      due (list_of s.place.me.0.story slot) (stamp_of (slice_index s.place.me.0.seen slot))
