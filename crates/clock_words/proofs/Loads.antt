-- Each kind of step keeps the rule, and tells what it is to tell.
use Rattle.std.proofs.Common.{ℕ, ◌<◌, ◌≤◌, ◌≡◌, nat_lt, List, length, set, get_or, slice_index, refl, sym, ap, ◌∙◌, subst, arith}
use Rattle.std.proofs.lemmas.Bool.{lt-ltb, ltb-true}
use Rattle.std.proofs.lemmas.List.{set-get_or, get_or-set_same, get_or-set_other, set_past}
use Rattle.std.proofs.Math.Decide.{dec_lt}
use mathlib.Core.Option.{none}
use mathlib.Core.Logic.{dite}
use native.Mathlib.Decide.{ℕ_discrete}
use Rattle.atomic_table.specs.Table.{Allows, Me, State, keeps, step}
use Rattle.clock_words.specs.Clocks.{due_count, stamp_of}
use Rattle.clock_words.specs.Places.{area_place, clock_in, clock_place}
use Rattle.clock_words.specs.Rule.{IsKept, IsOwning}
use Rattle.clock_words.specs.Steps.{HasFetched, HasLooked, ask, fetch, look}
use Rattle.clock_words.specs.Stories.{AreWithin, Lists, due, list_of, word_at}
use Rattle.clock_words.specs.Views.{after_fetch, after_look, with_stop}
use Rattle.clock_words.specs.declared.story.StampedWord.{StampedWord}
use Rattle.clock_words.specs.declared.view.Shape.{Shape}
use Rattle.clock_words.specs.declared.view.View.{View}
use Rattle.clock_words.proofs.Apart.{same_place, same_slot}
use Rattle.clock_words.proofs.DueWords.{due_words_most, due_words_rise}
use Rattle.clock_words.proofs.Kept.{kept_by_load, view_learns}
use Rattle.clock_words.proofs.Stamps.{stamps_rise}

-- what a look at a slot has seen is within the clocks again
seen_after_look : (shape : Shape) (words seen : List ℕ) (slot : ℕ)
    → ((j : ℕ) → j < shape.slots → slice_index seen j ≤ clock_in words j)
    → (j : ℕ) → j < shape.slots → slice_index (set seen slot (clock_in words slot)) j
    ≤ clock_in words j
seen_after_look shape words seen slot sees j lt = let n : ℕ = clock_in words slot in
    dite (ℕ_discrete j slot)
    (λ e. dite (dec_lt slot (length seen))
    (λ here. let P : ℕ → Type 0 = λ i. slice_index (set seen slot n) i ≤ clock_in words i in
    let a : slice_index (set seen slot n) slot ≡ n = get_or-set_same seen slot n 0 here in
    subst P (sym e) (omega arith))
    (λ past. let P : List ℕ → Type 0 = λ l. slice_index l j ≤ clock_in words j in
    subst P (sym (set_past seen slot n (omega arith))) (sees j lt)))
    (λ ne. let a : slice_index (set seen slot n) j ≡ slice_index seen j =
    get_or-set_other seen slot j n 0 ne in
    let b = sees j lt in omega arith)

module _ {S : Type 0} (story : Lists) (shape : Shape) where
  -- the rule, after a load and a change of one view
  kept_after_load : (s : State S View) (place i : ℕ) (w : View) → IsKept story shape
      (record s { views = set s.views i w })
      → IsKept story shape (record {
        words = set s.words place (get_or s.words place 0);
        homes =
            s.homes;
        views = set s.views i w;
      })
  kept_after_load s place i w k =
      let P : List ℕ → Type 0 = λ ws. IsKept story shape
      (record { words = ws; homes = s.homes; views = set s.views i w }) in
      subst P (sym (set-get_or s.words place 0)) k

  pub looks : (count seat : ℕ) (me : Me S View) (slot : ℕ) → IsOwning story shape me.0
      → slot < shape.slots
      → Allows (IsKept story shape) count seat me (clock_place slot) (λ n. n)
      (look (step count (clock_place slot) 0 0 none) me)
  looks count seat me slot own lt s k homes at fits =
      let v : View = me.0 in let n : ℕ = slice_index s.words (clock_place slot) in
      let t = k.seats seat v at in
      let w : View = after_look slot n v in
      let counts : due_count n ≡ due (list_of v.story slot) (stamp_of n) =
      (let P : Lists → Type 0 = λ l. due_count n ≡ due (list_of l slot) (stamp_of n) in
      subst P (sym own.told.lists) (k.slots slot lt).count) in
      let told : HasLooked slot me n (w, me.1) = record {
        view = refl;
        count = counts;
        later =
            t.seen slot lt;
      } in (
        w,
        keeps,
        tt,
        kept_after_load s (clock_place slot) seat w (kept_by_load story shape s seat v w k at
            (λ is. is)
            (view_learns story shape s.words k.owner k.maker k.handed seat v w.seen w.looks
            v.fetched v.stop own.role
            (seen_after_look shape s.words v.seen slot t.seen) t.stop t)),
        λ other less e. let same : slot ≡ other = omega arith in
            (let P : ℕ → Type 0 = λ j. HasLooked j me n (after_look slot n v, me.1) in
            subst P same told),
      )

  pub fetches : AreWithin shape.area story → (count seat : ℕ) (me : Me S View) (slot k : ℕ)
      → IsOwning story shape me.0
      → slot < shape.slots → k < due (list_of story slot) (stamp_of (slice_index me.0.seen slot))
      → Allows (IsKept story shape) count seat me (area_place shape slot k) (λ n. n)
      (fetch (step count (area_place shape slot k) 0 0 none) me)
  fetches within count seat me slot k own lt is_due s kept homes at fits =
      let v : View = me.0 in let n : ℕ = slice_index s.words (area_place shape slot k) in
      let t = kept.seats seat v at in
      let list : List StampedWord = list_of story slot in let w : View = after_fetch slot 1 v in
      let seen : ℕ = slice_index v.seen slot in let clock : ℕ = clock_in s.words slot in
      let more : due list (stamp_of seen) ≤ due list (stamp_of clock) =
      due_words_rise list (stamp_of seen) (stamp_of clock)
      (stamps_rise seen clock (t.seen slot lt)) in
      let counts : due_count clock ≡ due list (stamp_of clock) = (kept.slots slot lt).count in
      let found : n ≡ word_at list k = (kept.slots slot lt).due_words k (omega arith) in
      let most : due list (stamp_of seen) ≤ length list = due_words_most list (stamp_of seen) in
      let area : length list ≤ shape.area = within.each slot in
      let short : k < shape.area = omega arith in
      let told : HasFetched slot k me n (w, me.1) = record {
        view = refl;
        word = let P : Lists → Type 0 = λ l. n ≡ word_at (list_of l slot) k in
            subst P (sym own.told.lists) found;
      } in (
        w,
        keeps,
        tt,
        kept_after_load s (area_place shape slot k) seat w
            (kept_by_load story shape s seat v w kept at
            (λ is. is)
            (view_learns story shape s.words kept.owner kept.maker kept.handed seat v v.seen v.looks
            w.fetched v.stop own.role t.seen t.stop t)),
        λ i l less e.
            let e' : area_place shape slot k ≡ area_place shape i l = e
            ∙ ap (λ (z : Shape). area_place z i l) own.told.sizes in
            let P : Shape → Type 0 = λ z. l < z.area in
            let less' : l < shape.area = subst P own.told.sizes less in
            let slots : slot ≡ i = same_slot shape slot k i l short less' e' in
            let places : k ≡ l = same_place shape slot k l
            (e' ∙ ap (λ (j : ℕ). area_place shape j l) (sym slots)) in
            let Q : ℕ → Type 0 = λ j. HasFetched j k me n (w, me.1) in
            let R : ℕ → Type 0 = λ j. HasFetched i j me n (w, me.1) in
            subst R places (subst Q slots told),
      )

  -- a load of the stop word
  pub asks : (count seat : ℕ) (me : Me S View) → IsOwning story shape me.0
      → Allows (IsKept story shape) count seat me 0 (λ n. n) (ask (step count 0 0 0 none) me)
  asks count seat me own s kept homes at fits =
      let v : View = me.0 in let n : ℕ = slice_index s.words 0 in let t = kept.seats seat v at in
      let w : View = with_stop (nat_lt 0 n) v in (
        w,
        keeps,
        tt,
        kept_after_load s 0 seat w (kept_by_load story shape s seat v w kept at
            (λ is. lt-ltb 0 n (t.stop is))
            (view_learns story shape s.words kept.owner kept.maker kept.handed seat v v.seen v.looks
            v.fetched (nat_lt 0 n) own.role t.seen (λ is. ltb-true 0 n is) t)),
        record { view = refl; stays = t.stop },
      )
