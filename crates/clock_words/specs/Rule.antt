-- The rule of the board, which holds between any two steps of any seats.
use Rattle.std.specs.Prelude.{ℕ, ◌≡◌, ◌<◌, ◌≤◌, List, length, slice_index, true}
use mathlib.Core.Option.{some}
use lib.ListN.{get_elem?}
use Rattle.atomic_table.specs.Table.{State}
use Rattle.clock_words.specs.Clocks.{due_count, stamp_of}
use Rattle.clock_words.specs.Places.{area_in, clock_in, stop_in, word_count}
use Rattle.clock_words.specs.Stories.{Lists, due, list_of, stamp_at, word_at}
use Rattle.clock_words.specs.declared.story.StampedWord.{StampedWord}
use Rattle.clock_words.specs.declared.view.Role.TheVariants.{Maker, Owner}
use Rattle.clock_words.specs.declared.view.Shape.{Shape}
use Rattle.clock_words.specs.declared.view.View.{View}

-- the view carries the lists of the story, and the shape of the board
pub record IsTold (story : Lists) (shape : Shape) (v : View) : Type 0 where
  pub lists : v.story ≡ story
  pub sizes : v.shape ≡ shape

-- the view is that of a seat which owns a slot of this board
pub record IsOwning (story : Lists) (shape : Shape) (v : View) : Type 0 where
  pub role : v.role ≡ Owner
  pub told : IsTold story shape v

-- a clock word that an owner may raise its own to: the one that stands there, or one of a later
-- stamp that counts the words put, where all that are due below it are
pub data IsRaise (list : List StampedWord) (v : View) (word : ℕ) : Type 0 where
  same : word ≡ v.own → IsRaise list v word
  later : stamp_of v.own < stamp_of word → due_count word ≡ v.written →
      due list (stamp_of word) ≤ v.written → IsRaise list v word

-- A slot's clock word counts what is due at its stamp, and so many words of its area are the first
-- of its story. A slot that was not handed out has clock 0.
pub record IsSlot (story : Lists) (shape : Shape) (words : List ℕ) (handed slot : ℕ) : Type 0 where
  pub count : due_count (clock_in words slot) ≡
      due (list_of story slot) (stamp_of (clock_in words slot))
  pub due_words : (k : ℕ) → k < due_count (clock_in words slot) →
      area_in shape words slot k ≡ word_at (list_of story slot) k
  pub fresh : handed ≤ slot → clock_in words slot ≡ 0

-- An owner is the only one of its slot, and knows its clock word. What it has put are the first
-- words of the slot's story, at least those that are due, and their stamps are at most its clock.
pub record IsOwner (story : Lists) (shape : Shape) (words : List ℕ) (owner : ℕ → ℕ)
    (handed seat : ℕ) (v : View) : Type 0 where
  pub told : IsTold story shape v
  pub slot : v.slot < handed
  pub alone : owner v.slot ≡ seat
  pub own : v.own ≡ clock_in words v.slot
  pub least : due_count v.own ≤ v.written
  pub most : v.written ≤ length (list_of story v.slot)
  pub put_words : (k : ℕ) → k < v.written →
      area_in shape words v.slot k ≡ word_at (list_of story v.slot) k
  pub put_stamps : (k : ℕ) → k < v.written → stamp_at (list_of story v.slot) k ≤ stamp_of v.own

-- the maker is the only one, and knows how many slots were handed out
pub record IsMaker (story : Lists) (shape : Shape) (maker handed seat : ℕ) (v : View) : Type 0 where
  pub told : IsTold story shape v
  pub alone : maker ≡ seat
  pub count : v.handed ≡ handed

-- what a seat has seen is not past the clocks, and its stop mark is set only after a call
pub record IsTrueView (story : Lists) (shape : Shape) (words : List ℕ) (owner : ℕ → ℕ)
    (maker handed seat : ℕ) (v : View) : Type 0 where
  pub seen : (slot : ℕ) → slot < shape.slots → slice_index v.seen slot ≤ clock_in words slot
  pub stop : v.stop ≡ true → 0 < stop_in words
  pub as_maker : v.role ≡ Maker → IsMaker story shape maker handed seat v
  pub as_owner : v.role ≡ Owner → IsOwner story shape words owner handed seat v

-- some seat has its stop mark set
abbrev pub HasMark : List View → Type 0
HasMark views = (seat : ℕ) × (v : View) × (get_elem? views seat ≡ some v) × (v.stop ≡ true)

-- The rule. It knows of each slot the seat that owns it, the seat that hands slots out, and how
-- many it has handed out.
pub record IsKept {S : Type 0} (story : Lists) (shape : Shape) (s : State S View) : Type 0 where
  pub owner : ℕ → ℕ
  pub maker : ℕ
  pub handed : ℕ
  pub size : length s.words ≡ word_count shape
  pub most : handed ≤ shape.slots
  pub slots : (slot : ℕ) → slot < shape.slots → IsSlot story shape s.words handed slot
  pub seats : (seat : ℕ) (v : View) → get_elem? s.views seat ≡ some v →
      IsTrueView story shape s.words owner maker handed seat v
  pub called : 0 < stop_in s.words → HasMark s.views
