-- The history in the order of its keys, and what each slot makes of it.
use Rattle.std.proofs.Common.{◌≡◌, ℕ, zero, suc, ◌+◌, ◌<◌, ◌≤◌, Bool, true, false, List, [], ◌++◌, set, Option, Some, None, refl, sym, ap, ◌∙◌, subst, append_assoc, add-one, add-zero, arith}
use Rattle.std.specs.Prelude.{nat_eq, if◌then◌else◌}
use Rattle.std.proofs.lemmas.List.{append-nil}
use Rattle.std.proofs.lemmas.Bool.{eq-eqb, ne_eqb}
use Rattle.std.proofs.lemmas.List.Elements.{filter-append}
use Rattle.work_stamp.specs.Keys.{is_below}
use Rattle.work_stamp.specs.Histories.{under}
use Rattle.work_stamp.specs.Taskers.{Rules, Standing, view_of, IsLawful}
use Rattle.work_stamp.specs.declared.entry.Entry.{Entry}
use Rattle.work_stamp.specs.declared.key.Key.{Key}
use Rattle.work_stamp.specs.declared.stamped.KeyedEntry.{KeyedEntry}
use Rattle.stamp_machine.specs.Limits.{AreLimits}
use Rattle.stamp_machine.specs.Slots.{at, key_of, fresh_slot, next_slot}
use Rattle.stamp_machine.specs.Machine.{State, turn, after_turn, move_next, move_of, moves, last, final}
use Rattle.stamp_machine.specs.Kept.{HasRisen, IsPast}
use Rattle.stamp_machine.specs.Laws.{HasRisingClocks, HasRisingKeys, HasLastMove, HasLesserKeysBefore, ArePlayed}
use Rattle.stamp_machine.specs.Orders.{IsLess, IsNotLess, Each, AreInOrder, IsSorted}
use Rattle.stamp_machine.specs.Runs.{below, of_slot, turn_in, state_of, entries_by, one_if, count_of}
use Rattle.stamp_machine.specs.declared.limits.Limits.{Limits}
use Rattle.stamp_machine.specs.declared.opening.Turn.{Turn}
use Rattle.stamp_machine.specs.declared.slot.Slot.{Slot}
use Rattle.stamp_machine.specs.declared.slot.Live.{Live}
use Rattle.stamp_machine.proofs.Least.{IsNext, next_is}
use Rattle.stamp_machine.proofs.Orders.{less_test, not_less_test, less_trans, not_less, not_less_trans, each_append, each_map, each_under, in_order_append, in_order_filtered, filter_all, filter_none, set_each}
use Rattle.stamp_machine.proofs.Playing.{next_state}
use Rattle.stamp_machine.proofs.Standings.{kept, moves_stand, fresh_at}
use Rattle.stamp_machine.proofs.Stops.{few, stops, stays, whole}

none_lives_on : {L : Type 0} (slot : Slot L) (live : Live L) → None ≡ Some live → ⊥
none_lives_on slot live e = cc

-- a number that isn't below another
at_or_after : (a b : ℕ) → (b < a → ⊥) → a ≤ b
at_or_after a b never = omega (arith, never)

module _ (V L : Type 0) (r : Rules V L) (FitsView : V → Type 0) (FitsLocal : L → Type 0) (MayFollow : List KeyedEntry → Entry → Type 0) (Agrees : List KeyedEntry → List (Option (Standing L)) → Type 0)
    (law : IsLawful r FitsView FitsLocal MayFollow Agrees) (limits : Limits) (ranges : AreLimits limits) where
  same_next : (n number : ℕ) (slot : Slot L) (next : next_slot (moves r limits n).slots ≡ Some number) → at (moves r limits n).slots number ≡ Some slot → (next_is (moves r limits n).slots number next).slot ≡ slot
  same_next n number slot next there = let x = next_is (moves r limits n).slots number next in cc (x.there, there)

  pub rises : HasRisingClocks r limits
  rises n number slot next there =
      let x = next_is (moves r limits n).slots number next in
      let same = same_next n number slot next there in
      (kept V L r FitsView FitsLocal MayFollow Agrees law limits ranges (moves r limits n) (moves_stand V L r FitsView FitsLocal MayFollow Agrees law limits ranges n) number slot x.live there (ap (λ (y : Slot L). y.live) (sym same) ∙ x.lives)).rises

  pub stops_law : HasLastMove r limits
  stops_law = record {
    few = λ number n h. few V L r FitsView FitsLocal MayFollow Agrees law limits ranges number n h;
    none_lives = stops V L r FitsView FitsLocal MayFollow Agrees law limits ranges;
    stays = λ n none. whole V L r FitsView FitsLocal MayFollow Agrees law limits ranges n none;
  }

  -- the entries of a history come before the next move of every live slot
  abbrev AllBefore : State L → Type 0
  AllBefore state = (j : ℕ) (slot : Slot L) → at state.slots j ≡ Some slot → (live : Live L) → slot.live ≡ Some live → Each (λ e. IsLess e.key (key_of j slot)) state.entries

  record Ordered (state : State L) : Type 0 where
    before : AllBefore state
    in_order : AreInOrder state.entries

  past_less : (j clock : ℕ) (slot : Slot L) (o : Option (Live L)) → slot.live ≡ o → IsPast clock slot.clock o → (live : Live L) → slot.live ≡ Some live → clock < slot.clock
  past_less j clock slot None e p live h = absurd (none_lives_on slot live (sym e ∙ h))
  past_less j clock slot (Some l) e p live h = p

  risen_less : (number : ℕ) (old new : Slot L) → HasRisen old new → (live : Live L) → new.live ≡ Some live → IsLess (key_of number old) (key_of number new)
  risen_less number old new p live h = let more = past_less number old.clock new new.live refl p live h in record { stamps = omega arith; slots = λ q. absurd (omega arith) }

  -- the key of the slot that moves is the least of all live ones
  least_key : (slots : List (Slot L)) (number : ℕ) (x : IsNext slots number) (j : ℕ) (other : Slot L) (its : Live L) → at slots j ≡ Some other → other.live ≡ Some its → IsNotLess (key_of j other) (key_of number x.slot)
  least_key slots number x j other its there lives =
      record { stamps = x.no_less j other its there lives; slots = λ h. at_or_after number j (λ lt. let less = x.first j other its lt there lives in omega arith) }

  other_less : (slots : List (Slot L)) (number : ℕ) (x : IsNext slots number) (j : ℕ) (other : Slot L) (its : Live L) → (number ≡ j → ⊥) → at slots j ≡ Some other → other.live ≡ Some its → IsLess (key_of number x.slot) (key_of j other)
  other_less slots number x j other its ne there lives =
      let k = least_key slots number x j other its there lives in
      record { stamps = k.stamps; slots = λ h. let le = k.slots h in omega (arith, le, ne) }

  pub keys_rise : HasRisingKeys r limits
  keys_rise n number next slot following chosen there later here =
      let state = moves r limits n in
      let t = turn r limits number (view_of r state.entries) slot in
      let x = next_is state.slots number chosen in
      let same = same_next n number slot chosen there in
      let y = next_is (moves r limits (suc n)).slots next later in
      let lives : following.live ≡ Some y.live = ap (λ (z : Slot L). z.live) (sym (same_next (suc n) next following later here)) ∙ y.lives in
      let after : moves r limits (suc n) ≡ after_turn state number slot t = next_state V L r FitsView FitsLocal MayFollow Agrees law limits ranges n number slot chosen there in
      let at_after : at (set state.slots number t.slot) next ≡ Some following = ap (λ (s : State L). at s.slots next) (sym after) ∙ here in
      let less = set_each (λ j s. (live : Live L) → s.live ≡ Some live → IsLess (key_of number slot) (key_of j s)) state.slots number t.slot
      (λ j s ne its live alive. subst (λ (z : Slot L). IsLess (key_of number z) (key_of j s)) same (other_less state.slots number x j s live ne its alive))
      (λ live alive. risen_less number slot t.slot (rises n number slot chosen there) live alive) in
      less_test (key_of number slot) (key_of next following) (less next following at_after y.live lives)

  turn_ordered : (n number : ℕ) (slot : Slot L) → next_slot (moves r limits n).slots ≡ Some number → at (moves r limits n).slots number ≡ Some slot → Ordered (moves r limits n) →
      Ordered (after_turn (moves r limits n) number slot (turn r limits number (view_of r (moves r limits n).entries) slot))
  turn_ordered n number slot next there o =
      let state = moves r limits n in
      let t = turn r limits number (view_of r state.entries) slot in
      let x = next_is state.slots number next in
      let same = same_next n number slot next there in
      let lives : slot.live ≡ Some x.live = ap (λ (y : Slot L). y.live) (sym same) ∙ x.lives in
      let old = o.before number slot there x.live lives in
      let others : (j : ℕ) (other : Slot L) → (number ≡ j → ⊥) → at state.slots j ≡ Some other → (live : Live L) → other.live ≡ Some live → Each (λ e. IsLess e.key (key_of j other)) (state.entries ++ under (key_of number slot) t.entries) =
      λ j other ne here live its. each_append _ state.entries (under (key_of number slot) t.entries) (o.before j other here live its)
      (each_under (λ k. IsLess k (key_of j other)) (key_of number slot) t.entries (subst (λ (s : Slot L). IsLess (key_of number s) (key_of j other)) same (other_less state.slots number x j other live ne here its))) in
      let mine : (live : Live L) → t.slot.live ≡ Some live → Each (λ e. IsLess e.key (key_of number t.slot)) (state.entries ++ under (key_of number slot) t.entries) =
      λ live its.
      let less = risen_less number slot t.slot (rises n number slot next there) live its in
      each_append _ state.entries (under (key_of number slot) t.entries)
      (each_map _ _ state.entries (λ e h. less_trans e.key (key_of number slot) (key_of number t.slot) h (not_less (key_of number slot) (key_of number t.slot) less)) old)
      (each_under (λ k. IsLess k (key_of number t.slot)) (key_of number slot) t.entries less) in
      record {
        before = set_each (λ j s. (live : Live L) → s.live ≡ Some live → Each (λ e. IsLess e.key (key_of j s)) (state.entries ++ under (key_of number slot) t.entries)) state.slots number t.slot others mine;
        in_order = in_order_append state.entries (key_of number slot) t.entries o.in_order old;
      }

  move_ordered : (n : ℕ) (o : Option ℕ) → next_slot (moves r limits n).slots ≡ o → Ordered (moves r limits n) → Ordered (move_next r limits (moves r limits n) o)
  move_ordered n None e h = h
  move_ordered n (Some number) e h =
      let x = next_is (moves r limits n).slots number e in
      subst (λ o. Ordered (move_of r limits (moves r limits n) number o)) (sym x.there) (turn_ordered n number x.slot e x.there h)

  ordered : (n : ℕ) → Ordered (moves r limits n)
  unfolding moves
  ordered zero = record { before = λ j slot there live lives. tt; in_order = tt }
  ordered (suc n) = move_ordered n (next_slot (moves r limits n).slots) refl (ordered n)

  pub sorted : IsSorted (final r limits).entries
  sorted = record { in_order = (ordered (last limits)).in_order }

  pub slot_sorted : (number : ℕ) → IsSorted (of_slot number (final r limits).entries)
  slot_sorted number = record { in_order = in_order_filtered (λ e. nat_eq e.key.slot number) (final r limits).entries sorted.in_order }

  -- a state some moves later: the machine has only appended entries whose keys don't come before a key that no live slot was below

  pub record Later (n m : ℕ) (b : Key) (state : State L) : Type 0 where
    pub more : List KeyedEntry
    pub longer : state.entries ≡ (moves r limits n).entries ++ more
    pub floor : Each (λ e. IsNotLess e.key b) more
    pub live : (j : ℕ) (slot : Slot L) → at state.slots j ≡ Some slot → (its : Live L) → slot.live ≡ Some its → IsNotLess (key_of j slot) b

  later_step : (n m k : ℕ) (b : Key) (o : Option ℕ) → next_slot (moves r limits k).slots ≡ o → Later n m b (moves r limits k) → Later n m b (move_next r limits (moves r limits k) o)
  later_step n m k b None e l = l
  later_step n m k b (Some number) e l =
      let state = moves r limits k in
      let x = next_is state.slots number e in
      let t = turn r limits number (view_of r state.entries) x.slot in
      let key = key_of number x.slot in
      let high = l.live number x.slot x.there x.live x.lives in
      let risen = rises k number x.slot e x.there in
      let next : Later n m b (after_turn state number x.slot t) =
      record {
        more = l.more ++ under key t.entries;
        longer = ap (λ (es : List KeyedEntry). es ++ under key t.entries) l.longer ∙ append_assoc (moves r limits n).entries l.more (under key t.entries);
        floor = each_append _ l.more (under key t.entries) l.floor (each_under (λ y. IsNotLess y b) key t.entries high);
        live = set_each (λ j s. (its : Live L) → s.live ≡ Some its → IsNotLess (key_of j s) b) state.slots number t.slot
            (λ j s ne here its lives. l.live j s here its lives)
            (λ its lives. not_less_trans b key (key_of number t.slot) high (not_less key (key_of number t.slot) (risen_less number x.slot t.slot risen its lives)));
      } in
      subst (λ o. Later n m b (move_of r limits state number o)) (sym x.there) next

  later : (n m : ℕ) (b : Key) → ((j : ℕ) (slot : Slot L) → at (moves r limits n).slots j ≡ Some slot → (its : Live L) → slot.live ≡ Some its → IsNotLess (key_of j slot) b) → Later n m b (moves r limits (n + m))
  unfolding moves
  later n zero b live =
      let same : n + zero ≡ n = omega arith in
      subst (λ k. Later n zero b (moves r limits k)) (sym same) (record { more = []; longer = sym (append-nil (moves r limits n).entries); floor = tt; live = live })
  later n (suc m) b live =
      let same : n + suc m ≡ suc (n + m) = omega arith in
      let before = later n m b live in
      let here : Later n (suc m) b (moves r limits (n + m)) = record { more = before.more; longer = before.longer; floor = before.floor; live = before.live } in
      subst (λ k. Later n (suc m) b (moves r limits k)) (sym same) (later_step n (suc m) (n + m) b (next_slot (moves r limits (n + m)).slots) refl here)

  pub in_the_end : (n : ℕ) (b : Key) → ((j : ℕ) (slot : Slot L) → at (moves r limits n).slots j ≡ Some slot → (its : Live L) → slot.live ≡ Some its → IsNotLess (key_of j slot) b) → Later n (last limits) b (final r limits)
  in_the_end n b live =
      let both : n + last limits ≡ last limits + n = omega arith in
      let end : moves r limits (n + last limits) ≡ final r limits = ap (moves r limits) both ∙ stays V L r FitsView FitsLocal MayFollow Agrees law limits ranges (last limits) n (stops V L r FitsView FitsLocal MayFollow Agrees law limits ranges) in
      subst (Later n (last limits) b) end (later n (last limits) b live)

  -- after a slot was chosen no entry has a lesser key
  pub chosen_end : (n number : ℕ) (slot : Slot L) → next_slot (moves r limits n).slots ≡ Some number → at (moves r limits n).slots number ≡ Some slot → Later n (last limits) (key_of number slot) (final r limits)
  chosen_end n number slot next there =
      let state = moves r limits n in
      let x = next_is state.slots number next in
      let same = same_next n number slot next there in
      in_the_end n (key_of number slot) (λ j other here its h. subst (λ (s : Slot L). IsNotLess (key_of j other) (key_of number s)) same (least_key state.slots number x j other its here h))

  -- and before it all have
  pub old_entries : (n number : ℕ) (slot : Slot L) → next_slot (moves r limits n).slots ≡ Some number → at (moves r limits n).slots number ≡ Some slot → Each (λ e. IsLess e.key (key_of number slot)) (moves r limits n).entries
  old_entries n number slot next there =
      let x = next_is (moves r limits n).slots number next in
      let same = same_next n number slot next there in
      (ordered n).before number slot there x.live (ap (λ (y : Slot L). y.live) (sym same) ∙ x.lives)

  -- what stands below the key of the slot that moves is the history so far
  pub before : HasLesserKeysBefore r limits
  before n number slot next there =
      let state = moves r limits n in
      let key = key_of number slot in
      let l = chosen_end n number slot next there in
      let old = old_entries n number slot next there in
      let lower = filter_all (λ e. is_below e.key key) state.entries (each_map _ _ state.entries (λ e h. less_test e.key key h) old) in
      let upper = filter_none (λ e. is_below e.key key) l.more (each_map _ _ l.more (λ e h. not_less_test e.key key h) l.floor) in
      ap (below key) l.longer
      ∙ (filter-append (λ e. is_below e.key key) state.entries l.more
      ∙ (ap (λ (es : List KeyedEntry). es ++ below key l.more) lower
      ∙ (ap (λ (es : List KeyedEntry). state.entries ++ es) upper ∙ append-nil state.entries)))

  abbrev H : List KeyedEntry
  H = (final r limits).entries

  -- each slot is what a count of its own moves makes of it
  abbrev PlaysBy : (ℕ → ℕ) → State L → Type 0
  PlaysBy count state = (number : ℕ) (slot : Slot L) → at state.slots number ≡ Some slot →
      (slot ≡ state_of r limits H number (count number)) × (of_slot number state.entries ≡ entries_by r limits H number (count number))

  pub other_slot : (k number : ℕ) (clock : ℕ) (es : List Entry) → (k ≡ number → ⊥) → of_slot number (under (record { stamp = clock; slot = k }) es) ≡ []
  other_slot k number clock es ne =
      filter_none (λ e. nat_eq e.key.slot number) (under (record { stamp = clock; slot = k }) es) (each_under (λ x. nat_eq x.slot number ≡ false) (record { stamp = clock; slot = k }) es (ne_eqb k number ne))

  pub own_slot : (k clock : ℕ) (es : List Entry) → of_slot k (under (record { stamp = clock; slot = k }) es) ≡ under (record { stamp = clock; slot = k }) es
  own_slot k clock es =
      filter_all (λ e. nat_eq e.key.slot k) (under (record { stamp = clock; slot = k }) es) (each_under (λ x. nat_eq x.slot k ≡ true) (record { stamp = clock; slot = k }) es (eq-eqb k k refl))

  -- one more move of the slot that plays by the history
  own_turn : (n k m : ℕ) (slot : Slot L) → next_slot (moves r limits n).slots ≡ Some k → at (moves r limits n).slots k ≡ Some slot → slot ≡ state_of r limits H k m →
      turn r limits k (view_of r (moves r limits n).entries) slot ≡ turn_in r limits H k (state_of r limits H k m)
  own_turn n k m slot next there e =
      ap (λ (es : List KeyedEntry). turn r limits k (view_of r es) slot) (sym (before n k slot next there)) ∙ ap (turn_in r limits H k) e

  turn_plays : (n k : ℕ) (slot : Slot L) (count : ℕ → ℕ) → next_slot (moves r limits n).slots ≡ Some k → at (moves r limits n).slots k ≡ Some slot → PlaysBy count (moves r limits n) →
      PlaysBy (λ number. count number + one_if (Some k) number) (after_turn (moves r limits n) k slot (turn r limits k (view_of r (moves r limits n).entries) slot))
  turn_plays n k slot count next there plays =
      let state = moves r limits n in
      let t = turn r limits k (view_of r state.entries) slot in
      let key = key_of k slot in
      let mine = plays k slot there in
      let same = own_turn n k (count k) slot next there mine.0 in
      let one : count k + one_if (Some k) k ≡ suc (count k) = ap (λ (b : Bool). count k + (if b then 1 else 0)) (eq-eqb k k refl) ∙ add-one (count k) in
      set_each (λ number s. (s ≡ state_of r limits H number (count number + one_if (Some k) number)) × (of_slot number (state.entries ++ under key t.entries) ≡ entries_by r limits H number (count number + one_if (Some k) number))) state.slots k t.slot
      (λ number s ne here.
      let p = plays number s here in
      let none : count number + one_if (Some k) number ≡ count number = ap (λ (b : Bool). count number + (if b then 1 else 0)) (ne_eqb k number ne) ∙ add-zero (count number) in
      let entries = filter-append (λ e. nat_eq e.key.slot number) state.entries (under key t.entries) ∙ (ap (λ (es : List KeyedEntry). of_slot number state.entries ++ es) (other_slot k number slot.clock t.entries ne) ∙ append-nil (of_slot number state.entries)) in
      (p.0 ∙ ap (state_of r limits H number) (sym none), entries ∙ (p.1 ∙ ap (entries_by r limits H number) (sym none))))
      (let entries = filter-append (λ e. nat_eq e.key.slot k) state.entries (under key t.entries) ∙ (ap (λ (es : List KeyedEntry). of_slot k state.entries ++ es) (own_slot k slot.clock t.entries) ∙ ap (λ (es : List KeyedEntry). es ++ under key t.entries) mine.1) in
      let after_move : under key t.entries ≡ under (key_of k (state_of r limits H k (count k))) (turn_in r limits H k (state_of r limits H k (count k))).entries =
      ap (λ (s : Slot L). under (key_of k s) t.entries) mine.0 ∙ ap (λ (x : Turn L). under (key_of k (state_of r limits H k (count k))) x.entries) same in
      (ap (λ (x : Turn L). x.slot) same ∙ ap (state_of r limits H k) (sym one), entries ∙ (ap (λ (es : List KeyedEntry). entries_by r limits H k (count k) ++ es) after_move ∙ ap (entries_by r limits H k) (sym one))))

  move_plays : (n : ℕ) (count : ℕ → ℕ) (o : Option ℕ) → next_slot (moves r limits n).slots ≡ o → PlaysBy count (moves r limits n) →
      PlaysBy (λ number. count number + one_if o number) (move_next r limits (moves r limits n) o)
  move_plays n count None e plays = λ number slot there.
      let p = plays number slot there in
      let none : count number + zero ≡ count number = add-zero (count number) in
      (p.0 ∙ ap (state_of r limits H number) (sym none), p.1 ∙ ap (entries_by r limits H number) (sym none))
  move_plays n count (Some k) e plays =
      let x = next_is (moves r limits n).slots k e in
      subst (λ o. PlaysBy (λ number. count number + one_if (Some k) number) (move_of r limits (moves r limits n) k o)) (sym x.there) (turn_plays n k x.slot count e x.there plays)

  plays_by : (n : ℕ) → PlaysBy (λ number. count_of r limits number n) (moves r limits n)
  unfolding moves
  plays_by zero = λ number slot there.
      let h = fresh_at r 0 limits.slots number slot there in
      let same : 0 + number ≡ number = omega arith in
      (h.0 ∙ ap (fresh_slot r) same, refl)
  plays_by (suc n) = move_plays n (λ number. count_of r limits number n) (next_slot (moves r limits n).slots) refl (plays_by n)

  pub played : ArePlayed r limits
  played n number slot there = let p = plays_by n number slot there in record { state = p.0; entries = p.1 }
