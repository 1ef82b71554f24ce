-- What callers see of a board and of its seats.
use Rattle.std.specs.Prelude.{ℕ, zero, suc, ◌+◌, ◌≡◌, ◌<◌, ◌||◌, Bool, false, List, [], ◌∷◌, ◌++◌, length, map, replicate, slice_index, slice_set}
use Rattle.atomic_table.specs.Seated.{TableId}
use Rattle.atomic_table.specs.declared.shared.Seat.{Seat}
use Rattle.clock_words.specs.Clocks.{stamp_of}
use Rattle.clock_words.specs.Places.{IsShape, word_count}
use Rattle.clock_words.specs.Rule.{IsOwning}
use Rattle.clock_words.specs.Stories.{AreWithin, Lists, due, list_of}
use Rattle.clock_words.specs.Views.{greater_of}
use Rattle.clock_words.specs.declared.story.StampedWord.{StampedWord}
use Rattle.clock_words.specs.declared.view.Shape.{Shape}
use Rattle.clock_words.specs.declared.view.View.{View}

-- which board it is, its shape, and the lists of its story
pub record BoardView : Type 0 where
  pub table : TableId
  pub shape : Shape
  pub story : Lists

-- the board of a seat, the slot that it owns, its own clock, how many words it has put, of each
-- slot the clock last seen, the count of looks and the count of words fetched, and its stop mark
pub record SeatView : Type 0 where
  pub board : BoardView
  pub slot : ℕ
  pub own : ℕ
  pub written : ℕ
  pub seen : List ℕ
  pub looks : List ℕ
  pub fetched : List ℕ
  pub stop : Bool

-- callers see stamps in the place of clock words
abbrev pub seat_view : TableId → View → SeatView
seat_view table v = record {
  board = record { table = table; shape = v.shape; story = v.story };
  slot = v.slot;
  own = stamp_of v.own;
  written = v.written;
  seen = map stamp_of v.seen;
  looks = v.looks;
  fetched = v.fetched;
  stop = v.stop;
}

-- the seat of a slot, as a new board hands it out
abbrev pub new_seat : BoardView → ℕ → SeatView
new_seat board slot = record {
  board = board;
  slot = slot;
  own = 0;
  written = 0;
  seen = replicate board.shape.slots 0;
  looks = replicate board.shape.slots 0;
  fetched = replicate board.shape.slots 0;
  stop = false;
}

-- the seats of the first slots of a new board, in the order of the slots
abbrev pub new_seats : BoardView → ℕ → List SeatView
new_seats board zero = []
new_seats board (suc count) = new_seats board count ++ new_seat board count ∷ []

-- the clock last seen of a slot
abbrev pub clock_seen : SeatView → ℕ → ℕ
clock_seen s slot = slice_index s.seen slot

-- how many words of a slot are due below the clock last seen
abbrev pub due_seen : SeatView → ℕ → ℕ
due_seen s slot = due (list_of s.board.story slot) (clock_seen s slot)

-- the words of the own slot
abbrev pub own_list : SeatView → List StampedWord
own_list s = list_of s.board.story s.slot

-- a seat of this board, which carries the lists of its story, and knows of each slot a clock, a
-- count of looks and a count of words fetched
pub record IsSeat (board : BoardView) (s : SeatView) : Type 0 where
  pub same : s.board ≡ board
  pub own_slot : s.slot < board.shape.slots
  pub size : length s.seen ≡ board.shape.slots
  pub looks_size : length s.looks ≡ board.shape.slots
  pub fetched_size : length s.fetched ≡ board.shape.slots

-- after a look at a slot that found this clock
abbrev pub with_look : ℕ → ℕ → SeatView → SeatView
with_look slot clock s = record s {
  seen = slice_set s.seen slot clock;
  looks = slice_set s.looks slot (slice_index s.looks slot + 1);
}

-- after so many words of a slot were fetched
abbrev pub with_fetch : ℕ → ℕ → SeatView → SeatView
with_fetch slot count s = record s {
  fetched = slice_set s.fetched slot (slice_index s.fetched slot + count);
}

-- after another seat was joined: the greater clocks seen, and the stop mark of either
abbrev pub with_join : SeatView → SeatView → SeatView
with_join s other = record s { seen = greater_of s.seen other.seen; stop = s.stop || other.stop }

-- what a board keeps: the table was told its shape and its story, has as many words, and no slot
-- has more than an area takes
pub record IsBoard (shape : Shape) (story : Lists) (table : TableId) (key_shape : Shape)
    (key_story : Lists) : Type 0 where
  pub told_shape : key_shape ≡ shape
  pub told_story : key_story ≡ story
  pub size : table.words ≡ word_count shape
  pub sizes : IsShape shape.slots shape.area
  pub within : AreWithin shape.area story

-- the seat of a table is one of the board's, and owns a slot
pub record IsAtTable {S : Type 0} (story : Lists) (shape : Shape) (table : TableId)
    (place : Seat S View) : Type 0 where
  pub table_is : place.table_id ≡ table
  pub size : table.words ≡ word_count shape
  pub owning : IsOwning story shape place.me.0

-- the same seat of the same table
abbrev pub IsSamePlace : {S : Type 0} → Seat S View → Seat S View → Type 0
IsSamePlace s t = (t.table_id ≡ s.table_id) × (t.id ≡ s.id)
