-- What each step on the table asks, in the form of its condition.
use Rattle.std.proofs.Common.{ℕ, ◌+◌, ◌<◌, ◌≤◌, ◌≡◌, max, List, length, map, take, drop, slice_index, sym, ap, ◌∙◌, subst, arith}
use mathlib.Core.Option.{none}
use Rattle.atomic_table.specs.Seated.{TableId}
use Rattle.atomic_table.specs.Table.{Allows, Me, step}
use Rattle.atomic_table.specs.declared.shared.Seat.{Seat}
use Rattle.clock_words.specs.Clocks.{stamp_of}
use Rattle.clock_words.specs.Places.{area_place, clock_place, word_count}
use Rattle.clock_words.specs.Rule.{IsKept, IsOwning, IsRaise}
use Rattle.clock_words.specs.Seats.{IsAtTable}
use Rattle.clock_words.specs.Steps.{HasFetched, ask, call, fetch, look, put, raise}
use Rattle.clock_words.specs.Stories.{AreWithin, Lists, due, list_of, stamped_word, word_at}
use Rattle.clock_words.specs.Views.{after_fetch, after_put}
use Rattle.clock_words.specs.declared.view.Shape.{Shape}
use Rattle.clock_words.specs.declared.view.View.{View}
use Rattle.clock_words.proofs.Apart.{area_within, clock_within}
use Rattle.clock_words.proofs.DueWords.{due_within, due_words_most}
use Rattle.clock_words.proofs.Loads.{asks, fetches, looks}
use Rattle.clock_words.proofs.Rows.{HasItem, fetch_again, next_put, put_again}
use Rattle.clock_words.proofs.Writes.{calls, puts, raises}

-- what a store of the next own word tells
pub put_told : {S : Type 0} (i : ℕ) (entry place : Seat S View) (m' : Me S View)
    → place.me ≡ (after_put i entry.me.0, entry.me.1) → m' ≡ (after_put 1 place.me.0, place.me.1)
    → m' ≡ (after_put (i + 1) entry.me.0, entry.me.1)
put_told {S} i entry place m' me e =
    e ∙ (ap (λ (m : Me S View). let n : Me S View = (after_put 1 m.0, m.1) in n) me
    ∙ ap (λ (v : View). let n : Me S View = (v, entry.me.1) in n) (put_again i entry.me.0))

module _ {S : Type 0} (story : Lists) (table : TableId) (place : Seat S View) where
  pub look_asked : (shape : Shape) (slot word : ℕ) → IsAtTable story shape table place
      → slot < shape.slots
      → word ≡ clock_place slot → (place.table_id ≡ table) × (word < table.words)
      × Allows (IsKept story shape) table.slots place.id place.me word (λ n. n)
      (look (step table.slots word 0 0 none) place.me)
  look_asked shape slot word a lt e =
      let P : ℕ → Type 0 = λ w. (place.table_id ≡ table) × (w < table.words)
      × Allows (IsKept story shape) table.slots place.id place.me w (λ n. n)
      (look (step table.slots w 0 0 none) place.me) in
      let within = clock_within shape slot lt in let size = a.size in
      subst P (sym e) (
        a.table_is,
        omega arith,
        looks story shape table.slots place.id place.me slot a.owning lt,
      )

  pub fetch_asked : (key_shape shape : Shape) (slot from count i word : ℕ) (entry : Seat S View)
      → IsAtTable story key_shape table entry → key_shape ≡ shape → AreWithin shape.area story
      → slot < shape.slots
      → from + count ≤ due (list_of story slot) (stamp_of (slice_index entry.me.0.seen slot))
      → i < count
      → place.table_id ≡ entry.table_id → place.me ≡ (after_fetch slot i entry.me.0, entry.me.1)
      → word ≡ area_place shape slot (from + i) → (place.table_id ≡ table) × (word < table.words)
      × Allows (IsKept story key_shape) table.slots place.id place.me word (λ n. n)
      (fetch (step table.slots word 0 0 none) place.me)
  fetch_asked key_shape shape slot from count i word entry a same within lt are_due less ids me e =
      let P : ℕ → Type 0 = λ w. (place.table_id ≡ table) × (w < table.words)
      × Allows (IsKept story key_shape) table.slots place.id place.me w (λ n. n)
      (fetch (step table.slots w 0 0 none) place.me) in
      let Q : Shape → Type 0 = λ z. (place.table_id ≡ table)
      × (area_place shape slot (from + i) < table.words)
      × Allows (IsKept story z) table.slots place.id place.me (area_place shape slot (from + i))
      (λ n. n)
      (fetch (step table.slots (area_place shape slot (from + i)) 0 0 none) place.me) in
      let R : Me S View → Type 0 = λ m. Allows (IsKept story shape) table.slots place.id m
      (area_place shape slot (from + i)) (λ n. n)
      (fetch (step table.slots (area_place shape slot (from + i)) 0 0 none) m) in
      let owning : IsOwning story shape (after_fetch slot i entry.me.0) = record {
        role = a.owning.role;
        told = record { lists = a.owning.told.lists; sizes = a.owning.told.sizes ∙ same };
      } in
      let size : table.words ≡ word_count shape = a.size ∙ ap word_count same in
      let seen : ℕ = stamp_of (slice_index entry.me.0.seen slot) in
      let most : due (list_of story slot) seen ≤ length (list_of story slot) =
      due_words_most (list_of story slot) seen in
      let area : length (list_of story slot) ≤ shape.area = within.each slot in
      let inside = area_within shape slot (from + i) lt (omega arith) in
      subst P (sym e) (subst Q (sym same) (
        ids ∙ a.table_is,
        omega arith,
        subst R (sym me) (fetches story shape within table.slots place.id
            (after_fetch slot i entry.me.0, entry.me.1) slot (from + i) owning lt (omega arith)),
      ))

  -- what a load of the next due word tells
  pub fetch_told : (key_shape shape : Shape) (slot from count i word found : ℕ)
      (entry : Seat S View)
      (m' : Me S View) → IsAtTable story key_shape table entry → key_shape ≡ shape
      → AreWithin shape.area story
      → from + count ≤ due (list_of story slot) (stamp_of (slice_index entry.me.0.seen slot))
      → i < count → place.me ≡ (after_fetch slot i entry.me.0, entry.me.1)
      → word ≡ area_place shape slot (from + i)
      → fetch (step table.slots word 0 0 none) place.me found m'
      → (m' ≡ (after_fetch slot (i + 1) entry.me.0, entry.me.1))
      × (found ≡ word_at (list_of story slot) (from + i))
  fetch_told key_shape shape slot from count i word found entry m' a same within are_due less me e
      fetched =
      let k : ℕ = from + i in
      let most = due_within shape.area slot
      (stamp_of (slice_index entry.me.0.seen slot)) story within in
      let shapes : place.me.0.shape ≡ shape = ap (λ (m : Me S View). m.0.shape) me
      ∙ (a.owning.told.sizes ∙ same) in
      let P : Shape → Type 0 = λ z. k < z.area in
      let short : k < place.me.0.shape.area = subst P (sym shapes) (omega arith) in
      let places : word ≡ area_place place.me.0.shape slot k =
      e ∙ ap (λ (z : Shape). area_place z slot k) (sym shapes) in
      let told : HasFetched slot k place.me found m' = fetched slot k short places in
      let stories : place.me.0.story ≡ story = ap (λ (m : Me S View). m.0.story) me
      ∙ a.owning.told.lists in (
        told.view ∙ (ap (λ (m : Me S View). let n : Me S View = (after_fetch slot 1 m.0, m.1) in
            n) me
            ∙ ap (λ (v : View). let n : Me S View = (v, entry.me.1) in n)
            (fetch_again slot i entry.me.0)),
        told.word ∙ ap (λ (l : Lists). word_at (list_of l slot) k) stories,
      )

  pub put_asked : (key_shape shape : Shape) (slot written i word x : ℕ) (next : List ℕ)
      (entry : Seat S View)
      → IsAtTable story key_shape table entry → key_shape ≡ shape → AreWithin shape.area story
      → slot ≡ entry.me.0.slot → slot < shape.slots → written ≡ entry.me.0.written
      → take (length next) (drop written (list_of story slot)) ≡ map
      (stamped_word (stamp_of entry.me.0.own)) next
      → i < length next → x ≡ slice_index next i
      → place.table_id ≡ entry.table_id → place.me ≡ (after_put i entry.me.0, entry.me.1)
      → word ≡ area_place shape slot (written + i) → (place.table_id ≡ table) × (word < table.words)
      × Allows (IsKept story key_shape) table.slots place.id place.me word (λ _. x)
      (λ _. put (step table.slots word x 0 none) place.me x)
  put_asked key_shape shape slot written i word x next entry a same within own lt count is_next less
      is ids me e =
      let v : View = entry.me.0 in
      let P : ℕ → Type 0 = λ w. (place.table_id ≡ table) × (w < table.words)
      × Allows (IsKept story key_shape) table.slots place.id place.me w (λ _. x)
      (λ _. put (step table.slots w x 0 none) place.me x) in
      let there : ℕ = area_place shape v.slot (v.written + i) in
      let Q : Shape → Type 0 = λ z. (place.table_id ≡ table) × (there < table.words)
      × Allows (IsKept story z) table.slots place.id place.me there (λ _. x)
      (λ _. put (step table.slots there x 0 none) place.me x) in
      let R : Me S View → Type 0 = λ m. Allows (IsKept story shape) table.slots place.id m there
      (λ _. x)
      (λ _. put (step table.slots there x 0 none) m x) in
      let owning : IsOwning story shape (after_put i v) = record {
        role = a.owning.role;
        told = record { lists = a.owning.told.lists; sizes = a.owning.told.sizes ∙ same };
      } in
      let size : table.words ≡ word_count shape = a.size ∙ ap word_count same in
      let item = next_put (list_of story slot) next written (stamp_of v.own) i is_next less in
      let I : ℕ → ℕ → Type 0 = λ j k. HasItem (list_of story j) (k + i) (slice_index next i)
      (stamp_of v.own) in
      let item' : HasItem (list_of story v.slot) (v.written + i) (slice_index next i)
      (stamp_of v.own) =
      subst (λ (j : ℕ). I j v.written) own (subst (λ (k : ℕ). I slot k) count item) in
      let short = item'.short in let area = within.each v.slot in let stamp = item'.stamp_is in
      let inside = area_within shape v.slot (v.written + i) (omega arith) (omega arith) in
      let places : area_place shape slot (written + i) ≡ there =
      ap (λ (j : ℕ). area_place shape j (written + i)) own
      ∙ ap (λ (k : ℕ). area_place shape v.slot (k + i)) count in
      subst P (sym (e ∙ places)) (subst Q (sym same) (
        ids ∙ a.table_is,
        omega arith,
        subst R (sym me) (puts story shape within table.slots place.id
            (after_put i v, entry.me.1) x owning short (is ∙ item'.word_is) (omega arith)),
      ))

  pub raise_asked : (shape : Shape) (slot word n : ℕ) → IsAtTable story shape table place
      → AreWithin shape.area story
      → slot ≡ place.me.0.slot → slot < shape.slots → IsRaise (list_of story slot) place.me.0 n
      → word ≡ clock_place slot
      → (place.table_id ≡ table) × (word < table.words)
      × Allows (IsKept story shape) table.slots place.id place.me word (λ c. max c n)
      (raise (step table.slots word n 0 none) place.me)
  raise_asked shape slot word n a within own lt is e =
      let v : View = place.me.0 in
      let P : ℕ → Type 0 = λ w. (place.table_id ≡ table) × (w < table.words)
      × Allows (IsKept story shape) table.slots place.id place.me w (λ c. max c n)
      (raise (step table.slots w n 0 none) place.me) in
      let inside = clock_within shape v.slot (omega arith) in let size = a.size in
      let is' : IsRaise (list_of story v.slot) v n = subst
      (λ (j : ℕ). IsRaise (list_of story j) v n) own is in
      subst P (sym (e ∙ ap clock_place own)) (
        a.table_is,
        omega arith,
        raises story shape within table.slots place.id place.me n a.owning
            is',
      )

  pub call_asked : (shape : Shape) → IsAtTable story shape table place → AreWithin shape.area story
      → (place.table_id ≡ table) × (0 < table.words)
      × Allows (IsKept story shape) table.slots place.id place.me 0 (λ c. max c 1)
      (call (step table.slots 0 1 0 none) place.me)
  call_asked shape a within = let size = a.size in
      (a.table_is, omega arith, calls story shape within table.slots place.id place.me a.owning)

  pub ask_asked : (shape : Shape) → IsAtTable story shape table place
      → (place.table_id ≡ table) × (0 < table.words)
      × Allows (IsKept story shape) table.slots place.id place.me 0 (λ n. n)
      (ask (step table.slots 0 0 0 none) place.me)
  ask_asked shape a = let size = a.size in
      (a.table_is, omega arith, asks story shape table.slots place.id place.me a.owning)
