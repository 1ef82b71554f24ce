-- What the calls of a board ask of the steps on its table, and what callers see afterwards.
use Rattle.std.proofs.Common.{ℕ, suc, ◌+◌, ◌^◌, ◌<◌, ◌≤◌, ◌≡◌, Bool, List, [], ◌∷◌, ◌++◌, length, map, take, drop, slice_index, refl, sym, ap, ◌∙◌, subst, arith}
use Rattle.std.proofs.Math.ListN.{length-set}
use Rattle.std.proofs.lemmas.List.{length-replicate}
use Rattle.atomic_table.specs.Seated.{TableId}
use Rattle.clock_words.specs.Clocks.{IsStamp, raised_word, stamp_of}
use Rattle.clock_words.specs.Mirrors.{IsMirror}
use Rattle.clock_words.specs.Rule.{IsRaise}
use Rattle.clock_words.specs.Seats.{BoardView, IsSeat, SeatView, clock_seen, due_seen, new_seat, new_seats, own_list, seat_view, with_fetch, with_join, with_look}
use Rattle.clock_words.specs.Stories.{Lists, due, list_of, stamped_word}
use Rattle.clock_words.specs.Views.{after_fetch, after_join, after_look, after_put, after_raise, newcomer, with_stop, zeros}
use Rattle.clock_words.specs.declared.seat.BoardSeat.TheInside.{Inside}
use Rattle.clock_words.specs.declared.view.Shape.{Shape}
use Rattle.clock_words.specs.declared.view.View.{View}
use Rattle.clock_words.proofs.Greater.{greater_length}
use Rattle.clock_words.proofs.Rows.{as_many_next}
use Rattle.clock_words.proofs.Stamps.{raised_is, stamps_rise}
use Rattle.clock_words.proofs.Surface.{view_after_fetch, view_after_join, view_after_look, view_after_put, view_after_raise, view_of_new, view_with_stop}
use Rattle.clock_words.proofs.Tables.{stamp_seen}

-- a seat, what callers see of it, and the lists that its table was told
module _ (inside : Inside) (s : SeatView) (story : Lists) (mirror : IsMirror inside)
    (seen_as : seat_view inside.place.table_id inside.place.me.0 ≡ s)
    (told : inside.place.me.0.story ≡ story) where
  abbrev table_view : View
  table_view = inside.place.me.0

  -- the words that callers know to be due are due at the table
  pub due_is : (slot n : ℕ) → n ≤ due_seen s slot
      → n ≤ due (list_of story slot) (stamp_of (slice_index inside.place.me.0.seen slot))
  due_is slot n le =
      let P : SeatView → Type 0 = λ z. n ≤ due_seen z slot in
      let a : n ≤ due_seen (seat_view inside.place.table_id table_view) slot =
      subst P (sym seen_as) le in
      let Q : ℕ → Type 0 = λ clock. n ≤ due (list_of table_view.story slot) clock in
      let b : n ≤ due (list_of table_view.story slot) (stamp_of
      (slice_index table_view.seen slot)) =
      subst Q (stamp_seen table_view.seen slot) a in
      subst (λ (l : Lists). n ≤ due (list_of l slot) (stamp_of
      (slice_index table_view.seen slot))) told b

  -- the next own words are those that the table is to take
  pub next_is : (words : List ℕ)
      → take (length words) (drop s.written (own_list s)) ≡ map (stamped_word s.own) words
      → take (length words) (drop inside.written (list_of story inside.slot))
      ≡ map (stamped_word (stamp_of inside.place.me.0.own)) words
  next_is words e =
      let P : SeatView → Type 0 = λ z. take (length words) (drop z.written (own_list z))
      ≡ map (stamped_word z.own) words in
      let a : P (seat_view inside.place.table_id table_view) = subst P (sym seen_as) e in
      let Q : Lists → ℕ → ℕ → Type 0 = λ l j k. take (length words) (drop k (list_of l j))
      ≡ map (stamped_word (stamp_of table_view.own)) words in
      let b : Q story table_view.slot table_view.written =
      subst (λ (l : Lists). Q l table_view.slot table_view.written) told a in
      let c : Q story inside.slot table_view.written =
      subst (λ (j : ℕ). Q story j table_view.written) (sym mirror.slot) b in
      subst (λ (k : ℕ). Q story inside.slot k) (sym mirror.written) c

  -- there are as many more words of the own slot
  pub put_most : (words : List ℕ)
      → take (length words) (drop s.written (own_list s)) ≡ map (stamped_word s.own) words
      → inside.place.me.0.written + length words
      ≤ length (list_of inside.place.me.0.story inside.place.me.0.slot)
  put_most words e =
      let P : SeatView → Type 0 = λ z. take (length words) (drop z.written (own_list z))
      ≡ map (stamped_word z.own) words in
      let a : P (seat_view inside.place.table_id table_view) = subst P (sym seen_as) e in
      as_many_next (list_of table_view.story table_view.slot) words table_view.written
      (stamp_of table_view.own) mirror.most a

  -- a raise that callers may make is one that the table takes
  pub raise_is : (stamp word : ℕ) → inside.place.me.0.written < 2 ^ 23 → IsStamp stamp
      → s.own ≤ stamp
      → due (own_list s) stamp ≤ s.written → word ≡ raised_word inside.own inside.written stamp
      → IsRaise (list_of story inside.slot) inside.place.me.0 word
  raise_is stamp word small ok above enough e =
      let P : SeatView → Type 0 = λ z. z.own ≤ stamp in
      let Q : SeatView → Type 0 = λ z. due (own_list z) stamp ≤ z.written in
      let above' : stamp_of table_view.own ≤ stamp = subst P (sym seen_as) above in
      let enough' : due (list_of table_view.story table_view.slot) stamp ≤ table_view.written =
      subst Q (sym seen_as) enough in
      let words : word ≡ raised_word table_view.own table_view.written stamp =
      e ∙ (ap (λ (n : ℕ). raised_word n inside.written stamp) mirror.own
      ∙ ap (λ (n : ℕ). raised_word table_view.own n stamp) mirror.written) in
      let R : Lists → ℕ → ℕ → Type 0 = λ l j n. IsRaise (list_of l j) table_view n in
      let a : R table_view.story table_view.slot
      (raised_word table_view.own table_view.written stamp) =
      raised_is (list_of table_view.story table_view.slot) table_view stamp ok above' enough' small
      in
      let b : R table_view.story table_view.slot word =
      subst (λ (n : ℕ). R table_view.story table_view.slot n) (sym words) a in
      let c : R story table_view.slot word =
      subst (λ (l : Lists). R l table_view.slot word) told b in
      subst (λ (j : ℕ). R story j word) (sym mirror.slot) c

-- what callers see after a step
module _ (table table' : TableId) (v v' : View) (s : SeatView) (same : table' ≡ table)
    (seen_as : seat_view table v ≡ s) where
  pub look_seen : (slot word clock : ℕ) → v' ≡ after_look slot word v → clock ≡ stamp_of word
      → seat_view table' v' ≡ with_look slot clock s
  look_seen slot word clock e is = view_after_look table table' v v' same slot word e
      ∙ (ap (λ (z : SeatView). with_look slot (stamp_of word) z) seen_as
      ∙ ap (λ (n : ℕ). with_look slot n s) (sym is))

  pub fetch_seen : (slot count : ℕ) → v' ≡ after_fetch slot count v
      → seat_view table' v' ≡ with_fetch slot count s
  fetch_seen slot count e = view_after_fetch table table' v v' same slot count e
      ∙ ap (λ (z : SeatView). with_fetch slot count z) seen_as

  pub put_seen : (count : ℕ) → v' ≡ after_put count v
      → seat_view table' v' ≡ record s { written = s.written + count }
  put_seen count e = view_after_put table table' v v' same count e
      ∙ ap (λ (z : SeatView). let y : SeatView = record z { written = z.written + count } in
      y) seen_as

  pub raise_seen : (word stamp : ℕ) → v' ≡ after_raise word v → stamp_of word ≡ stamp
      → seat_view table' v' ≡ record s { own = stamp }
  raise_seen word stamp e is = view_after_raise table table' v v' same word stamp e is
      ∙ ap (λ (z : SeatView). let y : SeatView = record z { own = stamp } in y) seen_as

  pub stop_seen : (stop : Bool) → v' ≡ with_stop stop v
      → seat_view table' v' ≡ record s { stop = stop }
  stop_seen stop e = view_with_stop table table' v v' same stop e
      ∙ ap (λ (z : SeatView). let y : SeatView = record z { stop = stop } in y) seen_as

  pub join_seen : (other : TableId) (u : View) (t : SeatView) → v' ≡ after_join v u
      → seat_view other u ≡ t → seat_view table' v' ≡ with_join s t
  join_seen other u t e is = view_after_join table table' v v' same other u e
      ∙ (ap (λ (z : SeatView). with_join z (seat_view other u)) seen_as
      ∙ ap (λ (z : SeatView). with_join s z) is)

-- a look gives no earlier clock than was seen
pub look_later : (table : TableId) (v : View) (s : SeatView) (slot word clock : ℕ)
    → seat_view table v ≡ s → slice_index v.seen slot ≤ word → clock ≡ stamp_of word
    → clock_seen s slot ≤ clock
look_later table v s slot word clock seen_as le is =
    let a = stamps_rise (slice_index v.seen slot) word le in let b = stamp_seen v.seen slot in
    let later : slice_index (map stamp_of v.seen) slot ≤ clock = omega arith in
    subst (λ (z : SeatView). clock_seen z slot ≤ clock) seen_as later

-- a seat of a board stays one
module _ (b : BoardView) (s s' : SeatView) (seat : IsSeat b s) where
  pub seat_after_look : (slot clock : ℕ) → s' ≡ with_look slot clock s → IsSeat b s'
  seat_after_look slot clock e = let P : SeatView → Type 0 = λ z. IsSeat b z in
      subst P (sym e) (record {
        same = seat.same;
        own_slot = seat.own_slot;
        size = length-set s.seen slot clock ∙ seat.size;
        looks_size = length-set s.looks slot (slice_index s.looks slot + 1) ∙ seat.looks_size;
        fetched_size = seat.fetched_size;
      })

  pub seat_after_fetch : (slot count : ℕ) → s' ≡ with_fetch slot count s → IsSeat b s'
  seat_after_fetch slot count e = let P : SeatView → Type 0 = λ z. IsSeat b z in
      subst P (sym e) (record { same = seat.same; own_slot = seat.own_slot; size = seat.size; looks_size = seat.looks_size; fetched_size = length-set s.fetched slot (slice_index s.fetched slot + count) ∙ seat.fetched_size })

  pub seat_after_put : (written : ℕ) → s' ≡ record s { written = written } → IsSeat b s'
  seat_after_put written e = let P : SeatView → Type 0 = λ z. IsSeat b z in
      subst P (sym e) (record { same = seat.same; own_slot = seat.own_slot; size = seat.size; looks_size = seat.looks_size; fetched_size = seat.fetched_size })

  pub seat_after_raise : (stamp : ℕ) → s' ≡ record s { own = stamp } → IsSeat b s'
  seat_after_raise stamp e = let P : SeatView → Type 0 = λ z. IsSeat b z in
      subst P (sym e) (record { same = seat.same; own_slot = seat.own_slot; size = seat.size; looks_size = seat.looks_size; fetched_size = seat.fetched_size })

  pub seat_after_stop : (stop : Bool) → s' ≡ record s { stop = stop } → IsSeat b s'
  seat_after_stop stop e = let P : SeatView → Type 0 = λ z. IsSeat b z in
      subst P (sym e) (record { same = seat.same; own_slot = seat.own_slot; size = seat.size; looks_size = seat.looks_size; fetched_size = seat.fetched_size })

  pub seat_after_join : (t : SeatView) → IsSeat b t → s' ≡ with_join s t → IsSeat b s'
  seat_after_join t other e = let P : SeatView → Type 0 = λ z. IsSeat b z in
      subst P (sym e) (record {
        same = seat.same;
        own_slot = seat.own_slot;
        size = greater_length s.seen t.seen (seat.size ∙ sym other.size) ∙ seat.size;
        looks_size = seat.looks_size;
        fetched_size = seat.fetched_size;
      })

-- one seat more is handed out
pub one_seat_more : (board : BoardView) (seats seats' : List SeatView) (s : SeatView) (slot : ℕ)
    → seats ≡ new_seats board slot → s ≡ new_seat board slot → seats' ≡ seats ++ s ∷ []
    → seats' ≡ new_seats board (slot + 1)
one_seat_more board seats seats' s slot before is e =
    let next : suc slot ≡ slot + 1 = omega arith in
    e ∙ (ap (λ (l : List SeatView). l ++ s ∷ []) before
    ∙ (ap (λ (z : SeatView). new_seats board slot ++ z ∷ []) is
    ∙ ap (λ (n : ℕ). new_seats board n) next))

-- what callers see of a seat that was handed out
pub handed_seen : (table' table : TableId) (v : View) (story : Lists) (shape : Shape) (slot : ℕ)
    → table' ≡ table → v ≡ newcomer story shape slot (zeros shape)
    → seat_view table' v ≡ new_seat (record { table = table; shape = shape; story = story }) slot
handed_seen table' table v story shape slot same e = ap (λ (t : TableId). seat_view t v) same
    ∙ (ap (λ (w : View). seat_view table w) e ∙ view_of_new table story shape slot)

-- a seat that a new board hands out is one of it
pub new_seat_is : (board : BoardView) (slot : ℕ) → slot < board.shape.slots
    → IsSeat board (new_seat board slot)
new_seat_is board slot lt =
    let all = length-replicate board.shape.slots 0 in record { same = refl; own_slot = lt; size = all; looks_size = all; fetched_size = all }
