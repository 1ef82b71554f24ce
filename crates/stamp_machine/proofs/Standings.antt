-- What holds before and after every move.
use Rattle.std.proofs.Common.{◌≡◌, ℕ, zero, suc, ◌+◌, ◌-◌, ◌*◌, ◌<◌, ◌≤◌, ◌^◌, List, [], ◌∷◌, ◌++◌, length, map, set, Option, Some, None, refl, sym, ap, ◌∙◌, subst, length-append, length-set, arith}
use Rattle.std.proofs.Math.Nat.{mul-le-mul_left}
use Rattle.work_stamp.specs.Histories.{under}
use Rattle.work_stamp.specs.Taskers.{Rules, Standing, standing, view_of, IsLawful, fresh_standings}
use Rattle.work_stamp.specs.declared.entry.Entry.{Entry}
use Rattle.work_stamp.specs.declared.stamped.KeyedEntry.{KeyedEntry}
use Rattle.stamp_machine.specs.Limits.{AreLimits}
use Rattle.stamp_machine.specs.Slots.{at, key_of, standing_of, standing_while_live, fresh_slot, fresh_slots, next_slot}
use Rattle.stamp_machine.specs.Machine.{State, turn, turn_while_live, after_turn, move_next, move_of, moves, first}
use Rattle.stamp_machine.specs.Kept.{IsFittingWhileLive, IsKept, tally, tally_all, one_when_over, IsSound}
use Rattle.stamp_machine.specs.declared.limits.Limits.{Limits}
use Rattle.stamp_machine.specs.declared.slot.Slot.{Slot}
use Rattle.stamp_machine.specs.declared.slot.Live.{Live}
use Rattle.stamp_machine.proofs.Places.{at-get_or, at-map, map-set, set_all}
use Rattle.stamp_machine.proofs.Follows.{length-under}
use Rattle.stamp_machine.proofs.Turns.{CanMove, live_kept, views_fit}
use Rattle.stamp_machine.proofs.Least.{next_is}

-- the tally of all slots after one is replaced
tally_set : {L : Type 0} (slots : List (Slot L)) (k : ℕ) (old new : Slot L) → at slots k ≡ Some old → tally_all (set slots k new) + tally old ≡ tally_all slots + tally new
tally_set [] k old new e = cc
tally_set (s ∷ slots) zero old new e = let q : s ≡ old = cc in omega (arith, ap tally q)
tally_set (s ∷ slots) (suc k) old new e = omega (arith, tally_set slots k old new e)

pub one_at_most : {L : Type 0} (live : Option (Live L)) → one_when_over live ≤ 1
one_at_most None = omega arith
one_at_most (Some live) = omega arith

-- no slot publishes more than its store and a Halt
tally_bound : {L : Type 0} (slots : List (Slot L)) (store : ℕ) → ((k : ℕ) (slot : Slot L) → at slots k ≡ Some slot → slot.words ≤ store) → tally_all slots ≤ length slots * (store + 1)
tally_bound [] store each = omega arith
tally_bound (s ∷ slots) store each =
    let here = each 0 s refl in
    let rest = tally_bound slots store (λ k slot e. each (suc k) slot e) in
    omega (arith, here, rest, one_at_most s.live)

nothing_there : {A : Type 0} (x : A) → None ≡ Some x → ⊥
nothing_there x e = cc

pub fresh_at : {V L : Type 0} (r : Rules V L) (from count k : ℕ) (slot : Slot L) → at (fresh_slots r from count) k ≡ Some slot → (slot ≡ fresh_slot r (from + k)) × (k < count)
fresh_at r from zero k slot e = absurd (nothing_there slot e)
fresh_at r from (suc count) zero slot e = (let q : fresh_slot r from ≡ slot = cc in sym q ∙ ap (fresh_slot r) (omega arith), omega arith)
fresh_at r from (suc count) (suc k) slot e =
    let h = fresh_at r (suc from) count k slot e in
    (h.0 ∙ ap (fresh_slot r) (omega arith), omega (arith, h.1))

fresh_length : {V L : Type 0} (r : Rules V L) (from count : ℕ) → length (fresh_slots r from count) ≡ count
fresh_length r from zero = refl
fresh_length r from (suc count) = ap suc (fresh_length r (suc from) count)

fresh_stand : {V L : Type 0} (r : Rules V L) (from count : ℕ) → map standing_of (fresh_slots r from count) ≡ fresh_standings r from count
fresh_stand r from zero = refl
fresh_stand r from (suc count) = ap (λ rest. standing (r.fresh_local from) [] ∷ rest) (fresh_stand r (suc from) count)

module _ (V L : Type 0) (r : Rules V L) (FitsView : V → Type 0) (FitsLocal : L → Type 0) (MayFollow : List KeyedEntry → Entry → Type 0) (Agrees : List KeyedEntry → List (Option (Standing L)) → Type 0)
    (law : IsLawful r FitsView FitsLocal MayFollow Agrees) (limits : Limits) (ranges : AreLimits limits) where
  abbrev StandsSo : State L → Type 0
  StandsSo state = IsSound r FitsView FitsLocal Agrees limits state

  -- the history stays short: fewer than 2^23 entries, with room for a store
  pub short : (state : State L) → StandsSo state → length state.entries + limits.store ≤ 2 ^ 23
  short state s =
      let most = tally_bound state.slots (limits.store - 4) s.store in
      let one : limits.store - 4 + 1 ≤ limits.store = omega (arith, ranges.some_store) in
      let all = mul-le-mul_left (length state.slots) one in
      let slots : length state.slots * limits.store ≡ limits.slots * limits.store = ap (λ (n : ℕ). n * limits.store) s.number in
      let single = mul-le-mul_left limits.store ranges.some_slots in
      omega (arith, most, all, slots, single, s.few, ranges.small_store)

  pub can_move : (state : State L) → StandsSo state → (number : ℕ) (slot : Slot L) (live : Live L) → at state.slots number ≡ Some slot → slot.live ≡ Some live →
      CanMove V L r FitsView FitsLocal MayFollow Agrees law limits state.entries (map standing_of state.slots) number slot live
  can_move state s number slot live there lives = record {
    agrees = s.agrees;
    there = at-get_or None (map standing_of state.slots) number (standing_of slot) (at-map standing_of state.slots number slot there) ∙ ap standing_while_live lives;
    fits = subst (IsFittingWhileLive FitsLocal) lives (s.fits number slot there);
    view = s.view;
    store = s.store number slot there;
    some = omega (arith, ranges.some_store);
    room = omega (arith, short state s);
  }

  pub kept : (state : State L) → StandsSo state → (number : ℕ) (slot : Slot L) (live : Live L) → at state.slots number ≡ Some slot → slot.live ≡ Some live →
      IsKept r FitsLocal MayFollow Agrees limits state.entries (map standing_of state.slots) number slot (turn r limits number (view_of r state.entries) slot)
  kept state s number slot live there lives =
      subst (λ o. IsKept r FitsLocal MayFollow Agrees limits state.entries (map standing_of state.slots) number slot (turn_while_live r limits number (view_of r state.entries) slot o)) (sym lives)
      (live_kept V L r FitsView FitsLocal MayFollow Agrees law limits state.entries (map standing_of state.slots) number slot live (can_move state s number slot live there lives))

  pub after_stands : (state : State L) → StandsSo state → (number : ℕ) (slot : Slot L) (live : Live L) → at state.slots number ≡ Some slot → slot.live ≡ Some live →
      StandsSo (after_turn state number slot (turn r limits number (view_of r state.entries) slot))
  after_stands state s number slot live there lives =
      let t = turn r limits number (view_of r state.entries) slot in
      let k = kept state s number slot live there lives in
      let tallied = tally_set state.slots number slot t.slot there in
      let size = length-under (key_of number slot) t.entries in
      let most = one_at_most t.slot.live in
      let none : one_when_over slot.live ≡ 0 = ap one_when_over lives in
      let long = length-append state.entries (under (key_of number slot) t.entries) in
      let few : length state.entries + length (under (key_of number slot) t.entries) ≤ 2 ^ 31 = omega (arith, size, k.few, k.store, most, short state s) in
      record {
        agrees = subst (Agrees (state.entries ++ under (key_of number slot) t.entries)) (sym (map-set standing_of state.slots number t.slot)) k.agrees;
        view = views_fit V L r FitsView FitsLocal MayFollow Agrees law state.entries (under (key_of number slot) t.entries) few s.view k.follow;
        fits = λ j other e. set_all (λ x. IsFittingWhileLive FitsLocal x.live) state.slots number t.slot s.fits k.fits j other e;
        store = λ j other e. set_all (λ x. x.words ≤ limits.store - 4) state.slots number t.slot s.store k.store j other e;
        number = length-set state.slots number t.slot ∙ s.number;
        few = omega (arith, long, size, k.few, s.few, tallied, none);
      }

  fresh_fits : (j : ℕ) (slot : Slot L) → at (fresh_slots r 0 limits.slots) j ≡ Some slot → IsFittingWhileLive FitsLocal slot.live
  fresh_fits j slot e =
      let h = fresh_at r 0 limits.slots j slot e in
      let few : 0 + j < 64 = omega (arith, h.1, ranges.few_slots) in
      subst (λ (x : Slot L). IsFittingWhileLive FitsLocal x.live) (sym h.0) (record { local = law.fresh_local_fits (0 + j) few; words = record { each = λ k d lt. absurd (omega arith) } })

  fresh_store : (j : ℕ) (slot : Slot L) → at (fresh_slots r 0 limits.slots) j ≡ Some slot → slot.words ≤ limits.store - 4
  fresh_store j slot e = let h = fresh_at r 0 limits.slots j slot e in omega (arith, ap (λ (x : Slot L). x.words) h.0)

  first_stands : StandsSo (first r limits)
  first_stands = record {
    agrees = subst (Agrees []) (sym (fresh_stand r 0 limits.slots)) (law.agrees_at_first limits.slots ranges.few_slots);
    view = law.fresh_view_fits;
    fits = fresh_fits;
    store = fresh_store;
    number = fresh_length r 0 limits.slots;
    few = omega arith;
  }

  next_stands : (state : State L) (o : Option ℕ) → next_slot state.slots ≡ o → StandsSo state → StandsSo (move_next r limits state o)
  next_stands state None e s = s
  next_stands state (Some number) e s =
      let n = next_is state.slots number e in
      subst (λ o. StandsSo (move_of r limits state number o)) (sym n.there) (after_stands state s number n.slot n.live n.there n.lives)

  -- after any number of moves
  pub moves_stand : (n : ℕ) → StandsSo (moves r limits n)
  unfolding moves
  moves_stand zero = first_stands
  moves_stand (suc n) = next_stands (moves r limits n) _ refl (moves_stand n)
