-- After the stated number of moves no slot lives, and nothing happens any more.
use Rattle.std.proofs.Common.{◌≡◌, ℕ, zero, suc, ◌+◌, ◌-◌, ◌*◌, ◌<◌, ◌≤◌, Bool, List, [], ◌∷◌, set, Option, Some, None, refl, sym, ap, ◌∙◌, subst, arith}
use Rattle.std.specs.Prelude.{if◌then◌else◌}
use Rattle.std.proofs.lemmas.Bool.{eq-eqb, ne_eqb}
use Rattle.work_stamp.specs.Taskers.{Rules, Standing, view_of, IsLawful}
use Rattle.work_stamp.specs.declared.entry.Entry.{Entry}
use Rattle.work_stamp.specs.declared.stamped.KeyedEntry.{KeyedEntry}
use Rattle.stamp_machine.specs.Limits.{AreLimits}
use Rattle.stamp_machine.specs.Slots.{at, fresh_slots, moves_left, moves_while_live, next_slot}
use Rattle.stamp_machine.specs.Machine.{State, turn, after_turn, move, move_next, move_of, moves, last, final}
use Rattle.stamp_machine.specs.Kept.{IsSound}
use Rattle.stamp_machine.specs.Plays.{moves_left_all}
use Rattle.stamp_machine.specs.Runs.{one_if, count_of}
use Rattle.stamp_machine.specs.declared.limits.Limits.{Limits}
use Rattle.stamp_machine.specs.declared.slot.Slot.{Slot}
use Rattle.stamp_machine.specs.declared.slot.Live.{Live}
use Rattle.stamp_machine.proofs.Least.{next_is, none_lives}
use Rattle.stamp_machine.proofs.Orders.{set_each}
use Rattle.stamp_machine.proofs.Places.{some_at}
use Rattle.stamp_machine.proofs.Standings.{kept, moves_stand, fresh_at}

left_set : {L : Type 0} (limits : Limits) (slots : List (Slot L)) (k : ℕ) (old new : Slot L) → at slots k ≡ Some old →
    moves_left_all limits (set slots k new) + moves_left limits old ≡ moves_left_all limits slots + moves_left limits new
left_set limits [] k old new e = cc
left_set limits (s ∷ slots) zero old new e = let q : s ≡ old = cc in omega (arith, ap (moves_left limits) q)
left_set limits (s ∷ slots) (suc k) old new e = omega (arith, left_set limits slots k old new e)

left_of_live : {L : Type 0} (limits : Limits) (slot : Slot L) (live : Live L) → slot.live ≡ Some live → moves_left limits slot ≡ limits.work - slot.clock + 1
left_of_live limits slot live e = ap (moves_while_live limits.work slot.clock) e

nothing_left : {A : Type 0} (x : A) → None ≡ Some x → ⊥
nothing_left x e = cc

left_at : {L : Type 0} (limits : Limits) (slots : List (Slot L)) (k : ℕ) (slot : Slot L) → at slots k ≡ Some slot → moves_left limits slot ≤ moves_left_all limits slots
left_at limits [] k slot e = absurd (nothing_left slot e)
left_at limits (s ∷ slots) zero slot e = let q : s ≡ slot = cc in omega (arith, ap (moves_left limits) q)
left_at limits (s ∷ slots) (suc k) slot e = omega (arith, left_at limits slots k slot e)

over_left : {L : Type 0} (limits : Limits) (slot : Slot L) (o : Option (Live L)) → slot.live ≡ o → ((live : Live L) → slot.live ≡ Some live → ⊥) → moves_while_live limits.work slot.clock o ≡ 0
over_left limits slot None e none = refl
over_left limits slot (Some live) e none = absurd (none live e)

all_over_left : {L : Type 0} (limits : Limits) (slots : List (Slot L)) → ((j : ℕ) (slot : Slot L) (live : Live L) → at slots j ≡ Some slot → slot.live ≡ Some live → ⊥) → moves_left_all limits slots ≡ 0
all_over_left limits [] none = refl
all_over_left limits (s ∷ slots) none =
    let here : moves_left limits s ≡ 0 = over_left limits s s.live refl (λ live e. none 0 s live refl e) in
    omega (arith, here, all_over_left limits slots (λ j slot live a b. none (suc j) slot live a b))

fresh_left : {V L : Type 0} (r : Rules V L) (limits : Limits) (from count : ℕ) → moves_left_all limits (fresh_slots r from count) ≡ count * (limits.work + 1)
fresh_left r limits from zero = omega arith
fresh_left r limits from (suc count) = omega (arith, fresh_left r limits (suc from) count)

module _ (V L : Type 0) (r : Rules V L) (FitsView : V → Type 0) (FitsLocal : L → Type 0) (MayFollow : List KeyedEntry → Entry → Type 0) (Agrees : List KeyedEntry → List (Option (Standing L)) → Type 0)
    (law : IsLawful r FitsView FitsLocal MayFollow Agrees) (limits : Limits) (ranges : AreLimits limits) where
  -- a move leaves fewer moves to make
  pub fewer_left : (state : State L) → IsSound r FitsView FitsLocal Agrees limits state → (number : ℕ) (slot : Slot L) (live : Live L) → at state.slots number ≡ Some slot → slot.live ≡ Some live →
      moves_left_all limits (after_turn state number slot (turn r limits number (view_of r state.entries) slot)).slots < moves_left_all limits state.slots
  fewer_left state s number slot live there lives =
      let t = turn r limits number (view_of r state.entries) slot in
      let k = kept V L r FitsView FitsLocal MayFollow Agrees law limits ranges state s number slot live there lives in
      omega (arith, k.left, left_set limits state.slots number slot t.slot there, left_of_live limits slot live lives, left_at limits state.slots number slot there)

  next_left : (n : ℕ) (o : Option ℕ) → next_slot (moves r limits n).slots ≡ o → moves_left_all limits (moves r limits n).slots ≤ last limits - n →
      moves_left_all limits (move_next r limits (moves r limits n) o).slots ≤ last limits - (n + 1)
  next_left n None e most =
      let none = all_over_left limits (moves r limits n).slots (λ j slot live a b. none_lives (moves r limits n).slots j slot live e a b) in
      omega (arith, none)
  next_left n (Some number) e most =
      let x = next_is (moves r limits n).slots number e in
      let less = fewer_left (moves r limits n) (moves_stand V L r FitsView FitsLocal MayFollow Agrees law limits ranges n) number x.slot x.live x.there x.lives in
      subst (λ o. moves_left_all limits (move_of r limits (moves r limits n) number o).slots ≤ last limits - (n + 1)) (sym x.there) (omega (arith, less, most))

  moves_left_after : (n : ℕ) → moves_left_all limits (moves r limits n).slots ≤ last limits - n
  unfolding moves
  moves_left_after zero = omega (arith, fresh_left r limits 0 limits.slots)
  moves_left_after (suc n) =
      let h = next_left n (next_slot (moves r limits n).slots) refl (moves_left_after n) in
      omega (arith, h)

  stopped : (o : Option ℕ) → next_slot (final r limits).slots ≡ o → o ≡ None
  stopped None e = refl
  stopped (Some number) e =
      let x = next_is (final r limits).slots number e in
      let some = left_of_live limits x.slot x.live x.lives in
      let less = left_at limits (final r limits).slots number x.slot x.there in
      absurd (omega (arith, moves_left_after (last limits), some, less))

  pub stops : next_slot (final r limits).slots ≡ None
  stops = stopped (next_slot (final r limits).slots) refl

  -- where no slot lives, nothing happens
  pub stays : (n m : ℕ) → next_slot (moves r limits n).slots ≡ None → moves r limits (n + m) ≡ moves r limits n
  unfolding moves
  stays n zero e = let none : n + zero ≡ n = omega arith in ap (moves r limits) none
  stays n (suc m) e =
      let before = stays n m e in
      let here : move r limits (moves r limits n) ≡ moves r limits n = ap (move_next r limits (moves r limits n)) e in
      let there : n + suc m ≡ suc (n + m) = omega arith in
      ap (moves r limits) there ∙ (ap (move r limits) before ∙ here)

  pub whole : (n : ℕ) → next_slot (moves r limits n).slots ≡ None → moves r limits n ≡ final r limits
  whole n e =
      let both : n + last limits ≡ last limits + n = omega arith in
      sym (stays n (last limits) e) ∙ (ap (moves r limits) both ∙ stays (last limits) n stops)

  -- the moves that a slot has made, and those that it may still make
  abbrev FewMoves : (ℕ → ℕ) → List (Slot L) → Type 0
  FewMoves count slots = (number : ℕ) (slot : Slot L) → at slots number ≡ Some slot → count number + moves_left limits slot ≤ limits.work + 1

  turn_counts : (n k : ℕ) (slot : Slot L) (live : Live L) (count : ℕ → ℕ) → at (moves r limits n).slots k ≡ Some slot → slot.live ≡ Some live → FewMoves count (moves r limits n).slots →
      FewMoves (λ number. count number + one_if (Some k) number) (after_turn (moves r limits n) k slot (turn r limits k (view_of r (moves r limits n).entries) slot)).slots
  turn_counts n k slot live count there lives few =
      let state = moves r limits n in
      let t = turn r limits k (view_of r state.entries) slot in
      let its = kept V L r FitsView FitsLocal MayFollow Agrees law limits ranges state (moves_stand V L r FitsView FitsLocal MayFollow Agrees law limits ranges n) k slot live there lives in
      let one : one_if (Some k) k ≡ 1 = ap (λ (b : Bool). if b then 1 else 0) (eq-eqb k k refl) in
      set_each (λ number s. count number + one_if (Some k) number + moves_left limits s ≤ limits.work + 1) state.slots k t.slot
      (λ number s ne here.
      let none : one_if (Some k) number ≡ 0 = ap (λ (b : Bool). if b then 1 else 0) (ne_eqb k number ne) in
      omega (arith, none, few number s here))
      (omega (arith, one, its.left, few k slot there, left_of_live limits slot live lives))

  move_counts : (n : ℕ) (count : ℕ → ℕ) (o : Option ℕ) → next_slot (moves r limits n).slots ≡ o → FewMoves count (moves r limits n).slots →
      FewMoves (λ number. count number + one_if o number) (move_next r limits (moves r limits n) o).slots
  move_counts n count None e few = λ number slot there. omega (arith, few number slot there)
  move_counts n count (Some k) e few =
      let x = next_is (moves r limits n).slots k e in
      subst (λ o. FewMoves (λ number. count number + one_if (Some k) number) (move_of r limits (moves r limits n) k o).slots) (sym x.there) (turn_counts n k x.slot x.live count x.there x.lives few)

  few_moves : (n : ℕ) → FewMoves (λ number. count_of r limits number n) (moves r limits n).slots
  unfolding moves
  few_moves zero = λ number slot there.
      let h = fresh_at r 0 limits.slots number slot there in
      omega (arith, ap (moves_left limits) h.0)
  few_moves (suc n) = move_counts n (λ number. count_of r limits number n) (next_slot (moves r limits n).slots) refl (few_moves n)

  -- a slot makes at most work + 1 moves
  pub few : (number n : ℕ) → number < limits.slots → count_of r limits number n ≤ limits.work + 1
  few number n h =
      let s = moves_stand V L r FitsView FitsLocal MayFollow Agrees law limits ranges n in
      let x = some_at (moves r limits n).slots number (omega (arith, h, s.number)) in
      omega (arith, few_moves n number x.0 x.1)
