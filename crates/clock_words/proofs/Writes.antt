-- The steps that change a word: a store of an own word, a raise of the own clock word, and a call
-- of the stop.
use Rattle.std.proofs.Common.{ℕ, ◌+◌, ◌<◌, ◌≤◌, ◌≡◌, ◌≢◌, true, max, List, length, set, get_or, refl, sym, ap, ◌∙◌, subst, arith}
use Rattle.std.proofs.lemmas.List.{get_or-set_same, get_or-set_other}
use Rattle.std.proofs.Math.ListN.{length-set}
use mathlib.Core.Option.{none, some}
use mathlib.Core.Logic.{dite}
use native.Mathlib.Decide.{dec_le, ℕ_discrete}
use lib.ListN.{get_elem?}
use Rattle.atomic_table.specs.Table.{Allows, Me, State, keeps, step}
use Rattle.atomic_table.proofs.Lists.{set_here}
use Rattle.clock_words.specs.Clocks.{due_count, stamp_of}
use Rattle.clock_words.specs.Places.{area_in, area_place, clock_in, clock_place, stop_in}
use Rattle.clock_words.specs.Rule.{IsKept, IsOwner, IsOwning, IsRaise, IsSlot, IsTrueView, later, same}
use Rattle.clock_words.specs.Steps.{call, put, raise}
use Rattle.clock_words.specs.Stories.{AreWithin, Lists, due, list_of, stamp_at, word_at}
use Rattle.clock_words.specs.Views.{after_put, after_raise, with_stop}
use Rattle.clock_words.specs.declared.story.StampedWord.{StampedWord}
use Rattle.clock_words.specs.declared.view.Role.TheVariants.{Maker, Owner}
use Rattle.clock_words.specs.declared.view.Shape.{Shape}
use Rattle.clock_words.specs.declared.view.View.{View}
use Rattle.clock_words.proofs.Apart.{area_within, clock_before_area, clock_within, same_place, same_slot}
use Rattle.clock_words.proofs.DueWords.{due_words_least, due_words_most}
use Rattle.clock_words.proofs.Kept.{after_change, is_there, mark_stays, slot_stays, view_learns, view_stays}
use Rattle.clock_words.proofs.Stamps.{stamps_rise}

module _ {S : Type 0} (story : Lists) (shape : Shape) (within : AreWithin shape.area story)
    (s : State S View)
    (k : IsKept story shape s) (seat : ℕ) (v : View) (own : IsOwning story shape v)
    (at : get_elem? s.views seat ≡ some v) where
  mine : IsOwner story shape s.words k.owner k.handed seat v
  mine = (k.seats seat v at).as_owner own.role

  in_slots : v.slot < shape.slots
  in_slots = let a = mine.slot in let b = k.most in omega arith

  other_slot : (j : ℕ) (u : View) → j ≢ seat → IsOwner story shape s.words k.owner k.handed j u
      → u.slot ≢ v.slot
  other_slot j u ne o e = ne (sym o.alone ∙ (ap k.owner e ∙ mine.alone))

  slot_of_other : (j : ℕ) (u : View) → IsOwner story shape s.words k.owner k.handed j u
      → u.slot < shape.slots
  slot_of_other j u o = let a = o.slot in let b = k.most in omega arith

  -- the next own word is stored
  module _ (x : ℕ) (short : v.written < length (list_of story v.slot))
      (word : x ≡ word_at (list_of story v.slot) v.written)
      (stamp : stamp_at (list_of story v.slot) v.written ≤ stamp_of v.own) where
    abbrev place : ℕ
    place = area_place shape v.slot v.written

    abbrev words' : List ℕ
    words' = set s.words place x

    short_area : v.written < shape.area
    short_area = let b = within.each v.slot in omega arith

    clock_same : (j : ℕ) → j < shape.slots → clock_in words' j ≡ clock_in s.words j
    clock_same j lt = get_or-set_other s.words place (clock_place j) x 0
        (λ e. let a = clock_before_area shape j v.slot v.written lt in omega arith)

    stop_same : stop_in words' ≡ stop_in s.words
    stop_same = get_or-set_other s.words place 0 x 0 (λ e. omega arith)

    area_same : (j l : ℕ) → l < shape.area → (j ≡ v.slot → l ≢ v.written)
        → area_in shape words' j l ≡ area_in shape s.words j l
    area_same j l lt apart = get_or-set_other s.words place (area_place shape j l) x 0
        (λ e. let a : j ≡ v.slot = same_slot shape j l v.slot v.written lt short_area e in
        apart a (same_place shape v.slot l v.written (ap (λ (i : ℕ). area_place shape i l) (sym a)
        ∙ e)))

    area_here : area_in shape words' v.slot v.written ≡ x
    area_here = get_or-set_same s.words place x 0
        (let a = area_within shape v.slot v.written in_slots short_area in let b = k.size in
        omega arith)

    put_word : (l : ℕ) → l < v.written + 1 → area_in shape words' v.slot l ≡ word_at
        (list_of story v.slot) l
    put_word l lt = let P : ℕ → Type 0 = λ i. area_in shape words' v.slot i ≡ word_at
        (list_of story v.slot) i in
        let b = short_area in dite (ℕ_discrete l v.written)
        (λ e. subst P (sym e) (area_here ∙ word))
        (λ ne. area_same v.slot l (omega arith) (λ _. ne) ∙ mine.put_words l (omega arith))

    put_stamp : (l : ℕ) → l < v.written + 1 → stamp_at (list_of story v.slot) l ≤ stamp_of v.own
    put_stamp l lt = let P : ℕ → Type 0 = λ i. stamp_at (list_of story v.slot) i ≤ stamp_of v.own in
        dite (ℕ_discrete l v.written) (λ e. subst P (sym e) stamp)
        (λ ne. mine.put_stamps l (omega arith))

    slot_after_put : (j : ℕ) → j < shape.slots → IsSlot story shape words' k.handed j
    slot_after_put j lt = let c : ℕ = clock_in s.words j in
        let count : due_count c ≡ due (list_of story j) (stamp_of c) = (k.slots j lt).count in
        let most = due_words_most (list_of story j) (stamp_of c) in let area = within.each j in
        slot_stays story shape s.words words' k.handed k.handed j (omega arith) (clock_same j lt)
        (λ l less. area_same j l (omega arith)
        (λ e is. let a : due_count c ≡ due_count v.own =
        ap due_count (ap (clock_in s.words) e ∙ sym mine.own) in let b = mine.least in
        omega arith))
        (k.slots j lt)

    view_after_put : IsTrueView story shape words' k.owner k.maker k.handed seat (after_put 1 v)
    view_after_put = let t = k.seats seat v at in record {
      seen = λ j lt. let a = t.seen j lt in let b = clock_same j lt in omega arith;
      stop = λ is. let a = t.stop is in let b = stop_same in omega arith;
      as_maker = λ is. absurd (let e : Owner ≡ Maker = sym own.role ∙ is in cc);
      as_owner = λ is. record {
        told = record { lists = own.told.lists; sizes = own.told.sizes };
        slot = mine.slot;
        alone = mine.alone;
        own = mine.own ∙ sym (clock_same v.slot in_slots);
        least = let a = mine.least in omega arith;
        most = omega arith;
        put_words = put_word;
        put_stamps = put_stamp;
      };
    }

    others_after_put : (j : ℕ) (u : View) → j ≢ seat → get_elem? s.views j ≡ some u
        → IsTrueView story shape words' k.owner k.maker k.handed j u
    others_after_put j u ne there =
        view_stays story shape s.words words' k.owner k.owner k.maker k.handed k.handed j u
        (omega arith) (λ i lt. let a = clock_same i lt in omega arith)
        (λ above. let b = stop_same in omega arith) (λ _ m. m)
        (λ is o. (
          refl,
          clock_same u.slot (slot_of_other j u o),
          λ l lt. area_same u.slot l (let a = o.most in let b = within.each u.slot in omega arith)
              (λ e. absurd (other_slot j u ne o e)),
        ))
        (k.seats j u there)

    pub kept_by_put : IsKept story shape
        (record { words = words'; homes = s.homes; views = set s.views seat (after_put 1 v) })
    kept_by_put = record {
      owner = k.owner;
      maker = k.maker;
      handed = k.handed;
      size = length-set s.words place x ∙ k.size;
      most = k.most;
      slots = slot_after_put;
      seats = after_change (λ j u. IsTrueView story shape words' k.owner k.maker k.handed j u)
          s.views seat (after_put 1 v)
          view_after_put others_after_put;
      called = λ above. mark_stays s.views seat v (after_put 1 v) at (λ is. is)
          (k.called (let b = stop_same in omega arith));
    }

  -- the own clock word is raised to one that counts what is due
  module _ (n : ℕ) (rises : v.own ≤ n) (count : due_count n ≡ due (list_of story v.slot)
      (stamp_of n))
      (enough : due_count n ≤ v.written) (stamp : stamp_of v.own ≤ stamp_of n) where
    abbrev clock' : ℕ
    clock' = max (get_or s.words (clock_place v.slot) 0) n

    abbrev raised_words : List ℕ
    raised_words = set s.words (clock_place v.slot) clock'

    clock_here : clock_in raised_words v.slot ≡ n
    clock_here = let a = mine.own in let b : clock' ≡ n = omega arith in
        get_or-set_same s.words (clock_place v.slot) clock' 0
        (let c = clock_within shape v.slot in_slots in let d = k.size in omega arith) ∙ b

    clock_other : (j : ℕ) → j ≢ v.slot → clock_in raised_words j ≡ clock_in s.words j
    clock_other j ne = get_or-set_other s.words (clock_place v.slot) (clock_place j) clock' 0
        (λ e. ne (omega arith))

    clock_rises : (j : ℕ) → clock_in s.words j ≤ clock_in raised_words j
    clock_rises j = let P : ℕ → Type 0 = λ i. clock_in s.words i ≤ clock_in raised_words i in
        dite (ℕ_discrete j v.slot)
        (λ e. subst P (sym e) (let a = mine.own in let b = clock_here in omega arith))
        (λ ne. let a = clock_other j ne in omega arith)

    area_stays : (j l : ℕ) → area_in shape raised_words j l ≡ area_in shape s.words j l
    area_stays j l = get_or-set_other s.words (clock_place v.slot) (area_place shape j l) clock' 0
        (λ e. let a = clock_before_area shape v.slot j l in_slots in omega arith)

    stop_stays : stop_in raised_words ≡ stop_in s.words
    stop_stays = get_or-set_other s.words (clock_place v.slot) 0 clock' 0 (λ e. omega arith)

    own_slot : IsSlot story shape raised_words k.handed v.slot
    own_slot = record {
      count = rw clock_here count;
      due_words = λ l lt. let c : due_count (clock_in raised_words v.slot) ≡ due_count n =
          ap due_count clock_here in
          area_stays v.slot l ∙ mine.put_words l (omega arith);
      fresh = λ le. absurd (let a = mine.slot in omega arith);
    }

    slot_after_raise : (j : ℕ) → j < shape.slots → IsSlot story shape raised_words k.handed j
    slot_after_raise j lt = let P : ℕ → Type 0 = λ i. IsSlot story shape raised_words k.handed i in
        dite (ℕ_discrete j v.slot)
        (λ e. subst P (sym e) own_slot)
        (λ ne. slot_stays story shape s.words raised_words k.handed k.handed j (omega arith)
        (clock_other j ne) (λ l _. area_stays j l) (k.slots j lt))

    view_after_raise : IsTrueView story shape raised_words k.owner k.maker k.handed seat
        (after_raise n v)
    view_after_raise = let t = k.seats seat v at in record {
      seen = λ j lt. let a = t.seen j lt in let b = clock_rises j in omega arith;
      stop = λ is. let a = t.stop is in let b = stop_stays in omega arith;
      as_maker = λ is. absurd (let e : Owner ≡ Maker = sym own.role ∙ is in cc);
      as_owner = λ is. record {
        told = record { lists = own.told.lists; sizes = own.told.sizes };
        slot = mine.slot;
        alone = mine.alone;
        own = sym clock_here;
        least = enough;
        most = mine.most;
        put_words = λ l lt. area_stays v.slot l ∙ mine.put_words l lt;
        put_stamps = λ l lt. let a = mine.put_stamps l lt in omega arith;
      };
    }

    others_after_raise : (j : ℕ) (u : View) → j ≢ seat → get_elem? s.views j ≡ some u
        → IsTrueView story shape raised_words k.owner k.maker k.handed j u
    others_after_raise j u ne there =
        view_stays story shape s.words raised_words k.owner k.owner k.maker k.handed k.handed j u
        (omega arith) (λ i lt. clock_rises i) (λ above. let b = stop_stays in omega arith)
        (λ _ m. m)
        (λ is o. (refl, clock_other u.slot (other_slot j u ne o), λ l lt. area_stays u.slot l))
        (k.seats j u there)

    pub kept_by_raise : IsKept story shape
        (record {
          words = raised_words;
          homes = s.homes;
          views =
              set s.views seat (after_raise n v);
        })
    kept_by_raise = record {
      owner = k.owner;
      maker = k.maker;
      handed = k.handed;
      size = length-set s.words (clock_place v.slot) clock' ∙ k.size;
      most = k.most;
      slots = slot_after_raise;
      seats = after_change (λ j u. IsTrueView story shape raised_words k.owner k.maker k.handed j u)
          s.views seat (after_raise n v)
          view_after_raise others_after_raise;
      called = λ above. mark_stays s.views seat v (after_raise n v) at (λ is. is)
          (k.called (let b = stop_stays in omega arith));
    }

  -- the two kinds of raise
  pub kept_by_any_raise : (n : ℕ) → IsRaise (list_of story v.slot) v n
      → IsKept story shape (record {
        words = set s.words (clock_place v.slot) (max (get_or s.words (clock_place v.slot) 0) n);
        homes = s.homes;
        views = set s.views seat (after_raise n v);
      })
  kept_by_any_raise n (same e) =
      let P : ℕ → Type 0 = λ c. due_count c ≡ due (list_of story v.slot) (stamp_of c) in
      let count : due_count v.own ≡ due (list_of story v.slot) (stamp_of v.own) =
      subst P (sym mine.own) (k.slots v.slot in_slots).count in
      let Q : ℕ → Type 0 = λ c. due_count c ≤ v.written in let R : ℕ
      → Type 0 = λ c. stamp_of v.own ≤ stamp_of c in
      kept_by_raise n (omega arith) (subst P (sym e) count) (subst Q (sym e) mine.least)
      (subst R (sym e) (omega arith))
  kept_by_any_raise n (later stamp count enough) =
      let list : List StampedWord = list_of story v.slot in
      let least : v.written ≤ due list (stamp_of n) = due_words_least list v.written
      (stamp_of n) mine.most
      (λ l lt. let a = mine.put_stamps l lt in omega arith) in
      let above : v.own ≤ n = dite (dec_le v.own n) (λ le. le)
      (λ gt. let a = stamps_rise n v.own (omega arith) in absurd (omega arith)) in
      kept_by_raise n above (omega arith) (omega arith) (omega arith)

  -- the stop is called
  abbrev called_stop : ℕ
  called_stop = max (get_or s.words 0 0) 1

  abbrev called_words : List ℕ
  called_words = set s.words 0 called_stop

  stop_here : 0 < stop_in called_words
  stop_here = let e : stop_in called_words ≡ called_stop =
      get_or-set_same s.words 0 called_stop 0 (let b = k.size in omega arith) in omega arith

  clock_too : (j : ℕ) → clock_in called_words j ≡ clock_in s.words j
  clock_too j = get_or-set_other s.words 0 (clock_place j) called_stop 0 (λ e. omega arith)

  area_too : (j l : ℕ) → area_in shape called_words j l ≡ area_in shape s.words j l
  area_too j l = get_or-set_other s.words 0 (area_place shape j l) called_stop 0 (λ e. omega arith)

  stays_when_called : (j : ℕ) (u : View) → get_elem? s.views j ≡ some u
      → IsTrueView story shape called_words k.owner k.maker k.handed j u
  stays_when_called j u there = view_stays story shape s.words called_words k.owner k.owner k.maker
      k.handed k.handed j u
      (omega arith) (λ i lt. let a = clock_too i in omega arith) (λ above. stop_here) (λ _ m. m)
      (λ is o. (refl, clock_too u.slot, λ l lt. area_too u.slot l)) (k.seats j u there)

  pub kept_by_call : IsKept story shape
      (record {
        words = called_words;
        homes = s.homes;
        views =
            set s.views seat (with_stop true v);
      })
  kept_by_call = let t = stays_when_called seat v at in record {
    owner = k.owner;
    maker = k.maker;
    handed = k.handed;
    size = length-set s.words 0 called_stop ∙ k.size;
    most = k.most;
    slots = λ j lt. slot_stays story shape s.words called_words k.handed k.handed j (omega arith)
        (clock_too j) (λ l _. area_too j l) (k.slots j lt);
    seats = after_change (λ j u. IsTrueView story shape called_words k.owner k.maker k.handed j u)
        s.views seat (with_stop true v)
        (view_learns story shape called_words k.owner k.maker k.handed seat v v.seen v.looks
        v.fetched true own.role t.seen (λ _. stop_here) t)
        (λ j u _ there. stays_when_called j u there);
    called = λ above. (
      seat,
      with_stop true v,
      set_here s.views seat (with_stop true v)
          (is_there s.views seat v at),
      refl,
    );
  }

module _ {S : Type 0} (story : Lists) (shape : Shape) (within : AreWithin shape.area story) where
  pub puts : (count seat : ℕ) (me : Me S View) (x : ℕ) → IsOwning story shape me.0
      → me.0.written < length (list_of story me.0.slot)
      → x ≡ word_at (list_of story me.0.slot) me.0.written
      → stamp_at (list_of story me.0.slot) me.0.written ≤ stamp_of me.0.own
      → Allows (IsKept story shape) count seat me (area_place shape me.0.slot me.0.written) (λ _. x)
      (λ _. put (step count (area_place shape me.0.slot me.0.written) x 0 none) me x)
  puts count seat me x own short word stamp s k homes at fits = (
    after_put 1 me.0,
    keeps,
    tt,
    kept_by_put story shape within s k seat me.0 own at x short word
        stamp,
    refl,
  )

  pub raises : (count seat : ℕ) (me : Me S View) (n : ℕ) → IsOwning story shape me.0
      → IsRaise (list_of story me.0.slot) me.0 n
      → Allows (IsKept story shape) count seat me (clock_place me.0.slot) (λ c. max c n)
      (raise (step count (clock_place me.0.slot) n 0 none) me)
  raises count seat me n own is s k homes at fits = (
    after_raise n me.0,
    keeps,
    tt,
    kept_by_any_raise story shape within s k seat me.0 own at n is,
    refl,
  )

  pub calls : (count seat : ℕ) (me : Me S View) → IsOwning story shape me.0
      → Allows (IsKept story shape) count seat me 0 (λ c. max c 1) (call (step count 0 1 0 none) me)
  calls count seat me own s k homes at fits =
      (with_stop true me.0, keeps, tt, kept_by_call story shape within s k seat me.0 own at, refl)
