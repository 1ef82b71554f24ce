-- Words, stores and clocks: what the history and the slots never go past.
use Rattle.std.proofs.Common.{◌≡◌, ℕ, zero, suc, ◌+◌, ◌-◌, ◌*◌, ◌<◌, ◌≤◌, ◌^◌, Bool, true, false, List, [], ◌∷◌, ◌++◌, length, map, set, Option, Some, None, refl, sym, ap, ◌∙◌, subst, arith}
use Rattle.std.specs.Prelude.{All, nat_eq, nat_lt}
use Rattle.std.proofs.lemmas.List.{append-nil}
use Rattle.std.proofs.lemmas.List.Elements.{All-head, All-tail, filter-append}
use Rattle.std.proofs.Math.Nat.{mul-le-mul_left}
use Rattle.work_stamp.specs.Histories.{under}
use Rattle.work_stamp.specs.Taskers.{Rules, Standing, view_of, IsLawful}
use Rattle.work_stamp.specs.Writable.{HasWords}
use Rattle.work_stamp.specs.declared.entry.Entry.{Entry}
use Rattle.work_stamp.specs.declared.key.Key.{Key}
use Rattle.work_stamp.specs.declared.stamped.KeyedEntry.{KeyedEntry}
use Rattle.stamp_machine.specs.Limits.{AreLimits}
use Rattle.stamp_machine.specs.Slots.{at, key_of, next_slot, standing_of}
use Rattle.stamp_machine.specs.Machine.{State, word_count, turn, after_turn, move_next, move_of, moves, last, final}
use Rattle.stamp_machine.specs.Kept.{one_when_over}
use Rattle.stamp_machine.specs.Orders.{Each}
use Rattle.stamp_machine.specs.Ranges.{keyed_word_count, EntriesHaveWords, HaveLowClocks, AreCounted, FitStores, AreTurnsOfMachine, IsKeptByHistory, OwnMovesKeep}
use Rattle.stamp_machine.specs.Runs.{of_slot, state_of, entries_by, count_of}
use Rattle.stamp_machine.specs.declared.limits.Limits.{Limits}
use Rattle.stamp_machine.specs.declared.slot.Slot.{Slot}
use Rattle.stamp_machine.specs.declared.slot.Live.{Live}
use Rattle.stamp_machine.proofs.Histories.{before, other_slot, own_slot, played}
use Rattle.stamp_machine.proofs.Keeping.{keeps}
use Rattle.stamp_machine.proofs.Least.{next_is}
use Rattle.stamp_machine.proofs.Occurrences.{ends_known, occurs, over_last, slot_there}
use Rattle.stamp_machine.proofs.Orders.{each_append, each_under, set_each}
use Rattle.stamp_machine.proofs.Playing.{turns}
use Rattle.stamp_machine.proofs.Places.{at-get_or, at-map, none_is_no_some, same_some, set_all}
use Rattle.stamp_machine.proofs.Standings.{fresh_at, kept, moves_stand, one_at_most, short}

pub keyed-append : (xs ys : List KeyedEntry) → keyed_word_count (xs ++ ys) ≡ keyed_word_count xs + keyed_word_count ys
keyed-append [] ys = omega arith
keyed-append (x ∷ xs) ys = omega (arith, keyed-append xs ys)

pub keyed-under : (k : Key) (es : List Entry) → keyed_word_count (under k es) ≡ word_count es
keyed-under k [] = refl
keyed-under k (e ∷ es) = omega (arith, keyed-under k es)

three_each : (es : List KeyedEntry) → 3 * length es ≤ keyed_word_count es
three_each [] = omega arith
three_each (e ∷ es) = omega (arith, three_each es)

words_under : (k : Key) (es : List Entry) → All HasWords es → Each (λ e. HasWords e.entry) (under k es)
words_under k [] all = tt
words_under k (e ∷ es) all = (All-head HasWords e es all, words_under k es (All-tail HasWords e es all))

pub each-at : {A : Type 0} (P : A → Type 0) (xs : List A) (k : ℕ) (x : A) → Each P xs → at xs k ≡ Some x → P x
each-at P [] k x each e = absurd (none_is_no_some x e)
each-at P (y ∷ xs) zero x each e = subst P (same_some y x e) each.0
each-at P (y ∷ xs) (suc k) x each e = each-at P xs k x each.1 e

-- the words that a slot counts, and those of a Halt where it is over
abbrev counted : {L : Type 0} → Slot L → ℕ
counted slot = slot.words + 3 * one_when_over slot.live

abbrev counted_all : {L : Type 0} → List (Slot L) → ℕ
counted_all [] = 0
counted_all (slot ∷ slots) = counted slot + counted_all slots

counted_set : {L : Type 0} (slots : List (Slot L)) (k : ℕ) (old new : Slot L) → at slots k ≡ Some old → counted_all (set slots k new) + counted old ≡ counted_all slots + counted new
counted_set [] k old new e = cc
counted_set (s ∷ slots) zero old new e = let q : s ≡ old = cc in omega (arith, ap counted q)
counted_set (s ∷ slots) (suc k) old new e = omega (arith, counted_set slots k old new e)

counted_bound : {L : Type 0} (slots : List (Slot L)) (most : ℕ) → ((k : ℕ) (slot : Slot L) → at slots k ≡ Some slot → slot.words ≤ most) → counted_all slots ≤ length slots * (most + 3)
counted_bound [] most each = omega arith
counted_bound (s ∷ slots) most each =
    let here = each 0 s refl in
    let rest = counted_bound slots most (λ k slot e. each (suc k) slot e) in
    omega (arith, here, rest, one_at_most s.live)

module _ (V L : Type 0) (r : Rules V L) (FitsView : V → Type 0) (FitsLocal : L → Type 0) (MayFollow : List KeyedEntry → Entry → Type 0) (Agrees : List KeyedEntry → List (Option (Standing L)) → Type 0)
    (law : IsLawful r FitsView FitsLocal MayFollow Agrees) (limits : Limits) (ranges : AreLimits limits) where
  abbrev H : List KeyedEntry
  H = (final r limits).entries

  record IsInRange (state : State L) : Type 0 where
    words : Each (λ e. HasWords e.entry) state.entries
    stamps : Each (λ e. e.key.stamp ≤ limits.work + 2 ^ 40) state.entries
    all : keyed_word_count state.entries ≤ counted_all state.slots
    own : (number : ℕ) (slot : Slot L) → at state.slots number ≡ Some slot → keyed_word_count (of_slot number state.entries) ≤ counted slot
    low : (number : ℕ) (slot : Slot L) → at state.slots number ≡ Some slot → slot.clock ≤ limits.work + 2 ^ 40

  turn_in_range : (n number : ℕ) (slot : Slot L) (live : Live L) → at (moves r limits n).slots number ≡ Some slot → slot.live ≡ Some live → IsInRange (moves r limits n) →
      IsInRange (after_turn (moves r limits n) number slot (turn r limits number (view_of r (moves r limits n).entries) slot))
  turn_in_range n number slot live there lives i =
      let state = moves r limits n in
      let t = turn r limits number (view_of r state.entries) slot in
      let key = key_of number slot in
      let k = kept V L r FitsView FitsLocal MayFollow Agrees law limits ranges state (moves_stand V L r FitsView FitsLocal MayFollow Agrees law limits ranges n) number slot live there lives in
      let none : one_when_over slot.live ≡ 0 = ap one_when_over lives in
      let more = keyed-under key t.entries in
      record {
        words = each_append _ state.entries (under key t.entries) i.words (words_under key t.entries k.words.each);
        stamps = each_append _ state.entries (under key t.entries) i.stamps (each_under (λ x. x.stamp ≤ limits.work + 2 ^ 40) key t.entries (i.low number slot there));
        all = omega (arith, i.all, k.fills, none, more, keyed-append state.entries (under key t.entries), counted_set state.slots number slot t.slot there);
        own = set_each (λ j s. keyed_word_count (of_slot j (state.entries ++ under key t.entries)) ≤ counted s) state.slots number t.slot
            (λ j s ne here.
            let parts = filter-append (λ e. nat_eq e.key.slot j) state.entries (under key t.entries) in
            let others = other_slot V L r FitsView FitsLocal MayFollow Agrees law limits ranges number j slot.clock t.entries ne in
            let same : of_slot j (state.entries ++ under key t.entries) ≡ of_slot j state.entries = parts ∙ (ap (λ (es : List KeyedEntry). of_slot j state.entries ++ es) others ∙ append-nil (of_slot j state.entries)) in
            omega (arith, ap keyed_word_count same, i.own j s here))
            (let parts = filter-append (λ e. nat_eq e.key.slot number) state.entries (under key t.entries) in
            let mine = own_slot V L r FitsView FitsLocal MayFollow Agrees law limits ranges number slot.clock t.entries in
            let same : of_slot number (state.entries ++ under key t.entries) ≡ of_slot number state.entries ++ under key t.entries = parts ∙ ap (λ (es : List KeyedEntry). of_slot number state.entries ++ es) mine in
            omega (arith, ap keyed_word_count same, keyed-append (of_slot number state.entries) (under key t.entries), more, i.own number slot there, k.fills, none));
        low = λ j s here. set_all (λ x. x.clock ≤ limits.work + 2 ^ 40) state.slots number t.slot i.low (k.low (i.low number slot there)) j s here;
      }

  move_in_range : (n : ℕ) (o : Option ℕ) → next_slot (moves r limits n).slots ≡ o → IsInRange (moves r limits n) → IsInRange (move_next r limits (moves r limits n) o)
  move_in_range n None e i = i
  move_in_range n (Some number) e i =
      let x = next_is (moves r limits n).slots number e in
      subst (λ o. IsInRange (move_of r limits (moves r limits n) number o)) (sym x.there) (turn_in_range n number x.slot x.live x.there x.lives i)

  in_range : (n : ℕ) → IsInRange (moves r limits n)
  unfolding moves
  in_range zero = record {
    words = tt;
    stamps = tt;
    all = omega arith;
    own = λ number slot there. omega arith;
    low = λ number slot there.
        let h = fresh_at r 0 limits.slots number slot there in
        omega (arith, ap (λ (x : Slot L). x.clock) h.0);
  }
  in_range (suc n) = move_in_range n (next_slot (moves r limits n).slots) refl (in_range n)

  -- each entry of the history has words
  pub words_of_each : Each (λ e. HasWords e.entry) H
  words_of_each = (in_range (last limits)).words

  pub entries_have_words : EntriesHaveWords r limits
  entries_have_words place e there = each-at (λ e. HasWords e.entry) H place e words_of_each there

  -- every state of a slot by its own moves is one of the machine, with what it has published
  record IsOfMachine (number m : ℕ) : Type 0 where
    n : ℕ
    there : at (moves r limits n).slots number ≡ Some (state_of r limits H number m)
    entries : of_slot number (moves r limits n).entries ≡ entries_by r limits H number m

  of_machine : (number m : ℕ) (o : Option (Live L)) → number < limits.slots → (state_of r limits H number m).live ≡ o → IsOfMachine number m
  of_machine number m None few over = record {
    n = last limits;
    there = over_last V L r FitsView FitsLocal MayFollow Agrees law limits ranges number m few over;
    entries = ends_known V L r FitsView FitsLocal MayFollow Agrees law limits ranges number m few over;
  }
  of_machine number m (Some live) few lives =
      let x = occurs V L r FitsView FitsLocal MayFollow Agrees law limits ranges number m live few lives in
      let p = played V L r FitsView FitsLocal MayFollow Agrees law limits ranges x.n number (state_of r limits H number m) x.there in
      record { n = x.n; there = x.there; entries = p.entries ∙ ap (entries_by r limits H number) x.count }

  pub low_clocks : HaveLowClocks r limits
  low_clocks = record {
    slots = λ number m few.
        let x = of_machine number m (state_of r limits H number m).live few refl in
        (in_range x.n).low number (state_of r limits H number m) x.there;
    stamps = λ place e there. each-at (λ e. e.key.stamp ≤ limits.work + 2 ^ 40) H place e (in_range (last limits)).stamps there;
  }

  are_counted : AreCounted r limits
  are_counted number m few =
      let x = of_machine number m (state_of r limits H number m).live few refl in
      let own = (in_range x.n).own number (state_of r limits H number m) x.there in
      omega (arith, own, ap keyed_word_count x.entries)

  abbrev EachFits : ℕ → Type 0
  EachFits number = keyed_word_count (of_slot number H) < limits.store

  each_fits : (number : ℕ) (b : Bool) → nat_lt number limits.slots ≡ b → EachFits number
  each_fits number true e =
      let few : number < limits.slots = grind arith in
      let slot = slot_there V L r FitsView FitsLocal MayFollow Agrees law limits ranges (last limits) number few in
      let s = moves_stand V L r FitsView FitsLocal MayFollow Agrees law limits ranges (last limits) in
      let its = state_of r limits H number (count_of r limits number (last limits)) in
      omega (arith, (in_range (last limits)).own number its slot, s.store number its slot, one_at_most its.live, ranges.some_store)
  each_fits number false e =
      let past : limits.slots ≤ number = grind arith in
      let none = (keeps V L r FitsView FitsLocal MayFollow Agrees law limits ranges (last limits)).slots number past in
      omega (arith, ap keyed_word_count none, ranges.some_store)

  pub stores_fit : FitStores r limits
  stores_fit =
      let i = in_range (last limits) in
      let s = moves_stand V L r FitsView FitsLocal MayFollow Agrees law limits ranges (last limits) in
      let most = counted_bound (final r limits).slots (limits.store - 4) s.store in
      let one : limits.store - 4 + 3 + 1 ≤ limits.store = omega (arith, ranges.some_store) in
      let all = mul-le-mul_left limits.slots one in
      let slots : length (final r limits).slots * (limits.store - 4 + 3) ≡ limits.slots * (limits.store - 4 + 3) = ap (λ (n : ℕ). n * (limits.store - 4 + 3)) s.number in
      record {
        counted = are_counted;
        each = λ number. each_fits number (nat_lt number limits.slots) refl;
        all = omega (arith, i.all, most, slots, all, ranges.some_slots);
        few = three_each H;
      }

  pub turns_of_machine : AreTurnsOfMachine r limits
  turns_of_machine n number slot next there =
      ap (λ (es : List KeyedEntry). turn r limits number (view_of r es) slot) (before V L r FitsView FitsLocal MayFollow Agrees law limits ranges n number slot next there)

  pub own_moves_keep : OwnMovesKeep r FitsView FitsLocal MayFollow Agrees limits
  own_moves_keep number m live few lives =
      let x = occurs V L r FitsView FitsLocal MayFollow Agrees law limits ranges number m live few lives in
      let slot = state_of r limits H number m in
      let state = moves r limits x.n in
      let s = moves_stand V L r FitsView FitsLocal MayFollow Agrees law limits ranges x.n in
      subst (λ h. IsKeptByHistory r FitsView FitsLocal MayFollow Agrees limits h number slot) (sym (before V L r FitsView FitsLocal MayFollow Agrees law limits ranges x.n number slot x.next x.there))
      (record {
        slots = map standing_of state.slots;
        agrees = s.agrees;
        there = at-get_or None (map standing_of state.slots) number (standing_of slot) (at-map standing_of state.slots number slot x.there);
        can = turns V L r FitsView FitsLocal MayFollow Agrees law limits ranges x.n number slot x.next x.there;
        room = short V L r FitsView FitsLocal MayFollow Agrees law limits ranges state s;
        keeps = kept V L r FitsView FitsLocal MayFollow Agrees law limits ranges state s number slot live x.there lives;
      })
