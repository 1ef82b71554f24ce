-- A board and its table, a seat and its place at the table.
use Rattle.std.proofs.Common.{ℕ, zero, suc, ◌^◌, ◌<◌, ◌≤◌, ◌≡◌, List, [], ◌∷◌, length, map, set, replicate, slice_index, refl, sym, ap, ◌∙◌, subst, arith}
use Rattle.std.proofs.lemmas.List.{length-map}
use Rattle.std.proofs.Math.ListN.{get_or-map}
use Rattle.atomic_table.specs.Seated.{TableId}
use Rattle.atomic_table.specs.declared.shared.Seat.{Seat}
use Rattle.clock_words.specs.Clocks.{stamp_of}
use Rattle.clock_words.specs.Places.{word_count}
use Rattle.clock_words.specs.Seats.{BoardView, IsAtTable, IsBoard, IsSeat, SeatView, seat_view}
use Rattle.clock_words.specs.Stories.{AreWithin, Lists, list_of}
use Rattle.clock_words.specs.declared.view.Role.TheVariants.{Owner}
use Rattle.clock_words.specs.declared.view.Shape.{Shape}
use Rattle.clock_words.specs.declared.view.View.{View}

-- the stamp seen of a slot
pub stamp_seen : (words : List ℕ) (slot : ℕ) → slice_index (map stamp_of words) slot ≡ stamp_of
    (slice_index words slot)
stamp_seen words slot = get_or-map stamp_of words slot 0

pub stamps_seen_set : (words : List ℕ) (slot word : ℕ) → map stamp_of (set words slot word) ≡ set
    (map stamp_of words) slot (stamp_of word)
stamps_seen_set [] slot word = refl
stamps_seen_set (x ∷ xs) zero word = refl
stamps_seen_set (x ∷ xs) (suc slot) word = ap (λ (l : List ℕ). stamp_of x ∷ l)
    (stamps_seen_set xs slot word)

pub stamps_of_zeros : (count : ℕ) → map stamp_of (replicate count 0) ≡ replicate count 0
stamps_of_zeros zero = refl
stamps_of_zeros (suc count) = ap (λ (l : List ℕ). 0 ∷ l) (stamps_of_zeros count)

module _ (shape : Shape) (story : Lists) (table : TableId) (key_shape : Shape) (key_story : Lists)
    (board : BoardView)
    (is : IsBoard shape story table key_shape key_story)
    (b : board ≡ record { table = table; shape = shape; story = story }) where
  -- a slot of the board is one of the table
  pub slot_known : (slot : ℕ) → slot < board.shape.slots → slot < shape.slots
  slot_known slot lt = let a : board.shape.slots ≡ shape.slots =
      ap (λ (z : BoardView). z.shape.slots) b in omega arith

  pub slot_told : (slot : ℕ) → slot < board.shape.slots → slot < key_shape.slots
  slot_told slot lt = let a : key_shape.slots ≡ shape.slots =
      ap (λ (z : Shape). z.slots) is.told_shape in
      let c = slot_known slot lt in omega arith

  -- the table has the words of the shape that it was told
  pub size_told : table.words ≡ word_count key_shape
  size_told = is.size ∙ ap word_count (sym is.told_shape)

  -- what is within the areas of the board is within those that the table was told
  pub within_told : AreWithin key_shape.area key_story
  within_told = let P : Shape → Lists → Type 0 = λ z l. AreWithin z.area l in
      subst (λ (z : Shape). P z key_story) (sym is.told_shape)
      (subst (λ (l : Lists). P shape l) (sym is.told_story) is.within)

  pub within_of : AreWithin shape.area key_story
  within_of = let P : Lists → Type 0 = λ l. AreWithin shape.area l in
      subst P (sym is.told_story) is.within

  pub list_told : (slot : ℕ) → list_of key_story slot ≡ list_of board.story slot
  list_told slot = ap (λ (l : Lists). list_of l slot) (is.told_story
      ∙ sym (ap (λ (z : BoardView). z.story) b))

module _ {S : Type 0} (shape : Shape) (story : Lists) (table : TableId) (key_shape : Shape)
    (key_story : Lists) (place : Seat S View)
    (board : BoardView) (s : SeatView) (is : IsBoard shape story table key_shape key_story)
    (b : board ≡ record { table = table; shape = shape; story = story })
    (v : s ≡ seat_view place.table_id place.me.0)
    (seat : IsSeat board s) where
  same_board : (seat_view place.table_id place.me.0).board
      ≡ record { table = table; shape = shape; story = story }
  same_board = ap (λ (z : SeatView). z.board) (sym v) ∙ (seat.same ∙ b)

  pub shape_of_view : place.me.0.shape ≡ shape
  shape_of_view = ap (λ (z : BoardView). z.shape) same_board

  pub story_of_view : place.me.0.story ≡ story
  story_of_view = ap (λ (z : BoardView). z.story) same_board

  pub table_of_place : place.table_id ≡ table
  table_of_place = ap (λ (z : BoardView). z.table) same_board

  pub at_table : place.me.0.role ≡ Owner → IsAtTable key_story key_shape table place
  at_table role = record {
    table_is = table_of_place;
    size = let P : Shape → Type 0 = λ z. table.words ≡ word_count z in
        subst P (sym is.told_shape) is.size;
    owning = record {
      role = role;
      told = record {
        lists = story_of_view ∙ sym is.told_story;
        sizes = shape_of_view
            ∙ sym is.told_shape;
      };
    };
  }

  pub slot_within : place.me.0.slot < shape.slots
  slot_within = let P : BoardView → Type 0 = λ z. s.slot < z.shape.slots in
      let Q : SeatView → Type 0 = λ z. z.slot < shape.slots in subst Q v (subst P b seat.own_slot)

  pub as_many_seen : length place.me.0.seen ≡ shape.slots
  as_many_seen = let a : length s.seen ≡ board.shape.slots = seat.size in
      let c : s.seen ≡ map stamp_of place.me.0.seen = ap (λ (z : SeatView). z.seen) v in
      let d : board.shape.slots ≡ shape.slots = ap (λ (z : BoardView). z.shape.slots) b in
      sym (length-map place.me.0.seen stamp_of) ∙ (ap length (sym c) ∙ (a ∙ d))

  -- a seat has put fewer words than the count of a clock word holds
  pub written_small : place.me.0.written ≤ length (list_of place.me.0.story place.me.0.slot)
      → place.me.0.written < 2 ^ 23
  written_small most =
      let P : Lists → Type 0 = λ l. place.me.0.written ≤ length (list_of l place.me.0.slot) in
      let a = subst P story_of_view most in let b = is.within.each place.me.0.slot in
      let c = is.sizes.most_words in omega arith
