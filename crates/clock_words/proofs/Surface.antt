-- What callers see of a seat after each step, and what the seat keeps beside its view.
use Rattle.std.proofs.Common.{ℕ, ◌+◌, ◌≤◌, ◌≡◌, Bool, List, [], length, set, slice_index, sym, ap, ◌∙◌, subst, arith}
use Rattle.std.proofs.lemmas.List.{length-map}
use Rattle.atomic_table.specs.Seated.{TableId}
use Rattle.clock_words.specs.Clocks.{due_count, stamp_of}
use Rattle.clock_words.specs.Mirrors.{IsMirror}
use Rattle.clock_words.specs.Seats.{SeatView, due_seen, new_seat, seat_view, with_fetch, with_join, with_look}
use Rattle.clock_words.specs.Stories.{Lists, due, list_of}
use Rattle.clock_words.specs.Views.{after_fetch, after_join, after_look, after_put, after_raise, greater_of, newcomer, with_stop, zeros}
use Rattle.clock_words.specs.declared.seat.BoardSeat.TheInside.{Inside}
use Rattle.clock_words.specs.declared.view.Role.TheVariants.{Owner}
use Rattle.clock_words.specs.declared.view.Shape.{Shape}
use Rattle.clock_words.specs.declared.view.View.{View}
use Rattle.clock_words.proofs.Greater.{greater_either, stamps_of_greater}
use Rattle.clock_words.proofs.Seen.{counts_after_look, zeros_count}
use Rattle.clock_words.proofs.Tables.{stamp_seen, stamps_of_zeros, stamps_seen_set}

module _ (table table' : TableId) (v v' : View) (same : table' ≡ table) where
  pub view_after_look : (slot word : ℕ) → v' ≡ after_look slot word v
      → seat_view table' v' ≡ with_look slot (stamp_of word) (seat_view table v)
  view_after_look slot word e =
      let a : seat_view table' v' ≡ seat_view table (after_look slot word v) =
      ap (λ (t : TableId). seat_view t v') same ∙ ap (λ (w : View). seat_view table w) e in
      let b : seat_view table (after_look slot word v) ≡ with_look slot (stamp_of word)
      (seat_view table v) =
      ap (λ (l : List ℕ). let s : SeatView = record (with_look slot (stamp_of word)
      (seat_view table v)) { seen = l } in s)
      (stamps_seen_set v.seen slot word) in a ∙ b

  pub view_after_fetch : (slot count : ℕ) → v' ≡ after_fetch slot count v
      → seat_view table' v' ≡ with_fetch slot count (seat_view table v)
  view_after_fetch slot count e = ap (λ (t : TableId). seat_view t v') same
      ∙ ap (λ (w : View). seat_view table w) e

  pub view_after_put : (count : ℕ) → v' ≡ after_put count v
      → seat_view table' v' ≡ record (seat_view table v) { written = v.written + count }
  view_after_put count e = ap (λ (t : TableId). seat_view t v') same
      ∙ ap (λ (w : View). seat_view table w) e

  pub view_after_raise : (word stamp : ℕ) → v' ≡ after_raise word v → stamp_of word ≡ stamp
      → seat_view table' v' ≡ record (seat_view table v) { own = stamp }
  view_after_raise word stamp e is = ap (λ (t : TableId). seat_view t v') same
      ∙ (ap (λ (w : View). seat_view table w) e
      ∙ ap (λ (n : ℕ). let s : SeatView = record (seat_view table v) { own = n } in s) is)

  pub view_with_stop : (stop : Bool) → v' ≡ with_stop stop v
      → seat_view table' v' ≡ record (seat_view table v) { stop = stop }
  view_with_stop stop e = ap (λ (t : TableId). seat_view t v') same
      ∙ ap (λ (w : View). seat_view table w) e

  pub view_after_join : (other : TableId) (u : View) → v' ≡ after_join v u
      → seat_view table' v' ≡ with_join (seat_view table v) (seat_view other u)
  view_after_join other u e =
      let a : seat_view table' v' ≡ seat_view table (after_join v u) =
      ap (λ (t : TableId). seat_view t v') same ∙ ap (λ (w : View). seat_view table w) e in
      let b : seat_view table (after_join v u) ≡ with_join (seat_view table v) (seat_view other u) =
      ap (λ (l : List ℕ). let s : SeatView = record (with_join (seat_view table v)
      (seat_view other u)) { seen = l } in s)
      (stamps_of_greater v.seen u.seen) in a ∙ b

-- what a seat keeps, when its view is another one, and its fields are those of that view
pub mirror_with : (s s' : Inside) (w : View) → s'.place.me ≡ (w, s.place.me.1) → IsMirror s
    → w.role ≡ Owner
    → s'.slot ≡ w.slot → s'.own ≡ w.own → s'.written ≡ w.written → s'.seen.items ≡ w.seen
    → w.written ≤ length (list_of w.story w.slot)
    → ((slot : ℕ) → due_count (slice_index w.seen slot) ≡ due (list_of w.story slot)
    (stamp_of (slice_index w.seen slot)))
    → IsMirror s'
mirror_with s s' w e m role slot own written seen most counts = let is : s'.place.me.0 ≡ w =
    ap (λ p. p.0) e in record {
      role = ap (λ (v : View). v.role) is ∙ role;
      slot = slot ∙ sym (ap (λ (v : View). v.slot) is);
      own = own ∙ sym (ap (λ (v : View). v.own) is);
      written = written ∙ sym (ap (λ (v : View). v.written) is);
      seen = seen ∙ sym (ap (λ (v : View). v.seen) is);
      most = let P : View → Type 0 = λ v. v.written ≤ length (list_of v.story v.slot) in
          subst P (sym is) most;
      none_held = ap (λ p. p.1) e ∙ m.none_held;
      counts = λ j. let P : View → Type 0 = λ v. due_count (slice_index v.seen j) ≡ due
          (list_of v.story j) (stamp_of (slice_index v.seen j)) in
          subst P (sym is) (counts j);
    }

pub mirror_after_look : (s s' : Inside) (slot word : ℕ) → IsMirror s
    → s'.place.me ≡ (after_look slot word s.place.me.0, s.place.me.1)
    → s'.slot ≡ s.slot → s'.own ≡ s.own → s'.written ≡ s.written
    → s'.seen.items ≡ set s.seen.items slot word
    → due_count word ≡ due (list_of s.place.me.0.story slot) (stamp_of word) → IsMirror s'
mirror_after_look s s' slot word m e a b c d found =
    mirror_with s s' (after_look slot word s.place.me.0) e m m.role (a ∙ m.slot) (b ∙ m.own)
    (c ∙ m.written)
    (d ∙ ap (λ (l : List ℕ). set l slot word) m.seen) m.most
    (counts_after_look s.place.me.0.story s.place.me.0.seen slot word m.counts found)

pub mirror_after_fetch : (s s' : Inside) (slot count : ℕ) → IsMirror s
    → s'.place.me ≡ (after_fetch slot count s.place.me.0, s.place.me.1)
    → s'.slot ≡ s.slot → s'.own ≡ s.own → s'.written ≡ s.written → s'.seen.items ≡ s.seen.items
    → IsMirror s'
mirror_after_fetch s s' slot count m e a b c d =
    mirror_with s s' (after_fetch slot count s.place.me.0) e m m.role (a ∙ m.slot) (b ∙ m.own)
    (c ∙ m.written) (d ∙ m.seen) m.most m.counts

pub mirror_after_put : (s s' : Inside) (count : ℕ) → IsMirror s
    → s.place.me.0.written + count ≤ length (list_of s.place.me.0.story s.place.me.0.slot)
    → s'.place.me ≡ (after_put count s.place.me.0, s.place.me.1)
    → s'.slot ≡ s.slot → s'.own ≡ s.own → s'.written ≡ s.written + count
    → s'.seen.items ≡ s.seen.items → IsMirror s'
mirror_after_put s s' count m most e a b c d =
    mirror_with s s' (after_put count s.place.me.0) e m m.role (a ∙ m.slot) (b ∙ m.own)
    (c ∙ ap (λ (n : ℕ). n + count) m.written) (d ∙ m.seen) most m.counts

pub mirror_after_raise : (s s' : Inside) (word : ℕ) → IsMirror s
    → s'.place.me ≡ (after_raise word s.place.me.0, s.place.me.1)
    → s'.slot ≡ s.slot → s'.own ≡ word → s'.written ≡ s.written → s'.seen.items ≡ s.seen.items
    → IsMirror s'
mirror_after_raise s s' word m e a b c d =
    mirror_with s s' (after_raise word s.place.me.0) e m m.role (a ∙ m.slot) b (c ∙ m.written)
    (d ∙ m.seen) m.most m.counts

pub mirror_with_stop : (s s' : Inside) (stop : Bool) → IsMirror s
    → s'.place.me ≡ (with_stop stop s.place.me.0, s.place.me.1)
    → s'.slot ≡ s.slot → s'.own ≡ s.own → s'.written ≡ s.written → s'.seen.items ≡ s.seen.items
    → IsMirror s'
mirror_with_stop s s' stop m e a b c d =
    mirror_with s s' (with_stop stop s.place.me.0) e m m.role (a ∙ m.slot) (b ∙ m.own)
    (c ∙ m.written) (d ∙ m.seen) m.most m.counts

pub mirror_after_join : (s s' t : Inside) → IsMirror s → IsMirror t
    → s.place.me.0.story ≡ t.place.me.0.story
    → s'.place.me ≡ (after_join s.place.me.0 t.place.me.0, s.place.me.1)
    → s'.slot ≡ s.slot → s'.own ≡ s.own → s'.written ≡ s.written
    → s'.seen.items ≡ greater_of s.seen.items t.seen.items → IsMirror s'
mirror_after_join s s' t m n stories e a b c d =
    mirror_with s s' (after_join s.place.me.0 t.place.me.0) e m m.role (a ∙ m.slot) (b ∙ m.own)
    (c ∙ m.written)
    (d ∙ (ap (λ (l : List ℕ). greater_of l t.seen.items) m.seen
    ∙ ap (λ (l : List ℕ). greater_of s.place.me.0.seen l) n.seen)) m.most
    (λ j. let P : ℕ → Type 0 = λ w. due_count w ≡ due (list_of s.place.me.0.story j) (stamp_of w) in
    let Q : Lists → Type 0 = λ l. due_count (slice_index t.place.me.0.seen j) ≡ due (list_of l j)
    (stamp_of (slice_index t.place.me.0.seen j)) in
    greater_either P s.place.me.0.seen t.place.me.0.seen j (m.counts j)
    (subst Q (sym stories) (n.counts j)))

-- the count that a seat keeps of a slot is how many words are due below the clock seen
pub count_of_seen : (s : Inside) (slot : ℕ) → IsMirror s
    → due_count (slice_index s.seen.items slot) ≡ due_seen
    (seat_view s.place.table_id s.place.me.0) slot
count_of_seen s slot m = let v : View = s.place.me.0 in
    ap (λ (l : List ℕ). due_count (slice_index l slot)) m.seen ∙ (m.counts slot
    ∙ ap (λ (n : ℕ). due (list_of v.story slot) n) (sym (stamp_seen v.seen slot)))

pub as_many_kept : (s : Inside) → IsMirror s → length s.seen.items ≡ length
    (seat_view s.place.table_id s.place.me.0).seen
as_many_kept s m = ap length m.seen ∙ sym (length-map s.place.me.0.seen stamp_of)

-- a seat as it is handed out, with a row of zeros for what it has seen
pub mirror_of_new : (s : Inside) (story : Lists) (shape : Shape) (slot : ℕ)
    → s.place.me ≡ (newcomer story shape slot (zeros shape), []) → s.slot ≡ slot → s.own ≡ 0
    → s.written ≡ 0
    → s.seen.items ≡ zeros shape → IsMirror s
mirror_of_new s story shape slot e a b c d = let v : View =
    newcomer story shape slot (zeros shape) in
    let is : s.place.me.0 ≡ v = ap (λ p. p.0) e in record {
      role = ap (λ (w : View). w.role) is;
      slot = a ∙ sym (ap (λ (w : View). w.slot) is);
      own = b ∙ sym (ap (λ (w : View). w.own) is);
      written = c ∙ sym (ap (λ (w : View). w.written) is);
      seen = d ∙ sym (ap (λ (w : View). w.seen) is);
      most = let P : View → Type 0 = λ w. w.written ≤ length (list_of w.story w.slot) in
          subst P (sym is) (omega arith);
      none_held = ap (λ p. p.1) e;
      counts = λ j. let P : View → Type 0 = λ w. due_count (slice_index w.seen j) ≡ due
          (list_of w.story j) (stamp_of (slice_index w.seen j)) in
          subst P (sym is) (zeros_count story shape.slots j);
    }

-- what callers see of it
pub view_of_new : (table : TableId) (story : Lists) (shape : Shape) (slot : ℕ)
    → seat_view table (newcomer story shape slot (zeros shape)) ≡ new_seat
    (record { table = table; shape = shape; story = story }) slot
view_of_new table story shape slot =
    ap (λ (l : List ℕ). let s : SeatView = record (new_seat
    (record { table = table; shape = shape; story = story }) slot) { seen = l } in s)
    (stamps_of_zeros shape.slots)
