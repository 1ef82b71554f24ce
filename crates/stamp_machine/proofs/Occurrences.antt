-- Each live slot, by its own moves, is chosen at some move of the machine. So what it has published is known.
use Rattle.std.proofs.Common.{◌≡◌, ℕ, zero, suc, ◌+◌, ◌-◌, ◌<◌, ◌≤◌, Bool, true, false, ◌&&◌, List, [], ◌∷◌, ◌++◌, Option, Some, None, refl, sym, ap, ◌∙◌, subst, add-zero, arith}
use Rattle.std.specs.Prelude.{filter, nat_eq, nat_lt, if◌then◌else◌}
use Rattle.std.proofs.lemmas.Bool.{eqb-true}
use Rattle.std.proofs.lemmas.List.{append-nil}
use Rattle.std.proofs.lemmas.List.Elements.{filter-append}
use Rattle.work_stamp.specs.Histories.{under}
use Rattle.work_stamp.specs.Taskers.{Rules, Standing, view_of, IsLawful}
use Rattle.work_stamp.specs.declared.entry.Entry.{Entry}
use Rattle.work_stamp.specs.declared.stamped.KeyedEntry.{KeyedEntry}
use Rattle.stamp_machine.specs.Limits.{AreLimits}
use Rattle.stamp_machine.specs.Slots.{at, key_of, next_slot}
use Rattle.stamp_machine.specs.Machine.{State, turn, turn_while_live, after_turn, moves, last, final}
use Rattle.stamp_machine.specs.Laws.{IsChosen, AreChosen, HaveKnownLogs, HaveKnownEnds, HaveFronts, HaveFittingLocals}
use Rattle.stamp_machine.specs.Kept.{IsFittingWhileLive}
use Rattle.stamp_machine.specs.Orders.{IsLess, Each}
use Rattle.stamp_machine.specs.Ranges.{OverSlotsAreLast}
use Rattle.stamp_machine.specs.Runs.{below, of_slot, log, turn_in, state_of, entries_by, one_if, count_of}
use Rattle.stamp_machine.specs.declared.limits.Limits.{Limits}
use Rattle.stamp_machine.specs.declared.opening.Turn.{Turn}
use Rattle.stamp_machine.specs.declared.slot.Slot.{Slot}
use Rattle.stamp_machine.specs.declared.slot.Live.{Live}
use Rattle.stamp_machine.proofs.Least.{next_is, none_lives}
use Rattle.stamp_machine.proofs.Places.{some_at}
use Rattle.stamp_machine.proofs.Standings.{moves_stand}
use Rattle.stamp_machine.proofs.Stops.{stops}
use Rattle.stamp_machine.proofs.Histories.{played, before, in_the_end, chosen_end, old_entries}
use Rattle.stamp_machine.proofs.Playing.{next_state}
use Rattle.stamp_machine.proofs.Orders.{each_map, filter_none}
use Rattle.stamp_machine.proofs.Merges.{filter_both}

one_is_by : (b : Bool) (k number : ℕ) → nat_eq k number ≡ b → 1 ≤ (if b then 1 else 0) → Some k ≡ Some number
one_is_by true k number e h = ap Some (eqb-true k number e)
one_is_by false k number e h = absurd (omega arith)

one_at_most_by : (b : Bool) → (if b then 1 else 0) ≤ 1
one_at_most_by true = omega arith
one_at_most_by false = omega arith

one_is : (o : Option ℕ) (number : ℕ) → 1 ≤ one_if o number → o ≡ Some number
one_is None number h = absurd (omega arith)
one_is (Some k) number h = one_is_by (nat_eq k number) k number refl h

none_some_live : {L : Type 0} (live : Live L) → None ≡ Some live → ⊥
none_some_live live e = cc

late_test : (b : Bool) (stamp limit : ℕ) → limit ≤ stamp → (b && nat_lt stamp limit) ≡ false
late_test true stamp limit h = grind arith
late_test false stamp limit h = refl

and_swap : (a b : Bool) → (a && b) ≡ (b && a)
and_swap true true = refl
and_swap true false = refl
and_swap false true = refl
and_swap false false = refl

-- a front of a list
record FrontOf (xs ys : List KeyedEntry) : Type 0 where
  rest : List KeyedEntry
  whole : ys ≡ xs ++ rest

-- entries of a slot before its key have lesser stamps
early_stamp_by : (b : Bool) (stamp clock slot number : ℕ) → nat_lt stamp clock ≡ b → (clock ≤ stamp → slot < number) → slot ≡ number → stamp < clock
early_stamp_by true stamp clock slot number e more same = grind arith
early_stamp_by false stamp clock slot number e more same = let late : clock ≤ stamp = grind arith in absurd (let less : slot < number = more late in omega arith)

early_stamp : (stamp clock slot number : ℕ) → stamp ≤ clock → (clock ≤ stamp → slot < number) → slot ≡ number → stamp < clock
early_stamp stamp clock slot number le more same = early_stamp_by (nat_lt stamp clock) stamp clock slot number refl more same

early_one : (slot stamp number clock : ℕ) (b : Bool) → nat_eq slot number ≡ b → IsLess (record { stamp = stamp; slot = slot }) (record { stamp = clock; slot = number }) → b ≡ true → nat_lt stamp clock ≡ true
early_one slot stamp number clock true e h t = let same : slot ≡ number = eqb-true slot number e in let lt : stamp < clock = early_stamp stamp clock slot number h.stamps h.slots same in grind arith
early_one slot stamp number clock false e h t = cc

early_by : (e : KeyedEntry) (es : List KeyedEntry) (number clock : ℕ) (b : Bool) → nat_eq e.key.slot number ≡ b → IsLess e.key (record { stamp = clock; slot = number }) → filter (λ e. nat_lt e.key.stamp clock) (of_slot number es) ≡ of_slot number es →
    filter (λ e. nat_lt e.key.stamp clock) (if b then e ∷ of_slot number es else of_slot number es) ≡ (if b then e ∷ of_slot number es else of_slot number es)
early_by e es number clock true t h rest =
    ap (λ (c : Bool). if c then e ∷ filter (λ e. nat_lt e.key.stamp clock) (of_slot number es) else filter (λ e. nat_lt e.key.stamp clock) (of_slot number es)) (early_one e.key.slot e.key.stamp number clock true t h refl) ∙ ap (λ (r : List KeyedEntry). e ∷ r) rest
early_by e es number clock false t h rest = rest

early_all : (es : List KeyedEntry) (number clock : ℕ) → Each (λ e. IsLess e.key (record { stamp = clock; slot = number })) es → filter (λ e. nat_lt e.key.stamp clock) (of_slot number es) ≡ of_slot number es
early_all [] number clock p = refl
early_all (e ∷ es) number clock p = early_by e es number clock (nat_eq e.key.slot number) refl p.0 (early_all es number clock p.1)

module _ (V L : Type 0) (r : Rules V L) (FitsView : V → Type 0) (FitsLocal : L → Type 0) (MayFollow : List KeyedEntry → Entry → Type 0) (Agrees : List KeyedEntry → List (Option (Standing L)) → Type 0)
    (law : IsLawful r FitsView FitsLocal MayFollow Agrees) (limits : Limits) (ranges : AreLimits limits) where
  abbrev H : List KeyedEntry
  H = (final r limits).entries

  record MovesThen (number m : ℕ) : Type 0 where
    n : ℕ
    next : next_slot (moves r limits n).slots ≡ Some number
    count : count_of r limits number n ≡ m

  one_at_most : (o : Option ℕ) (number : ℕ) → one_if o number ≤ 1
  one_at_most None number = omega arith
  one_at_most (Some k) number = one_at_most_by (nat_eq k number)

  find_by : (number m n : ℕ) (b : Bool) → nat_lt m (count_of r limits number n) ≡ b → (m < count_of r limits number n → MovesThen number m) → m < count_of r limits number n + one_if (next_slot (moves r limits n).slots) number → MovesThen number m
  find_by number m n true e earlier h = let lt : m < count_of r limits number n = grind arith in earlier lt
  find_by number m n false e earlier h =
      let ge : count_of r limits number n ≤ m = grind arith in
      let one : 1 ≤ one_if (next_slot (moves r limits n).slots) number = omega arith in
      let most = one_at_most (next_slot (moves r limits n).slots) number in
      record { n = n; next = one_is (next_slot (moves r limits n).slots) number one; count = omega arith }

  -- a move of this count is among the first ones, where more are
  find : (number m n : ℕ) → m < count_of r limits number n → MovesThen number m
  find number m zero h = absurd (omega arith)
  find number m (suc n) h = find_by number m n (nat_lt m (count_of r limits number n)) refl (λ lt. find number m n lt) h

  -- a slot that is over stays as it is
  over_turn : (number : ℕ) (slot : Slot L) → slot.live ≡ None → turn_in r limits H number slot ≡ record { entries = []; slot = slot }
  over_turn number slot e = ap (turn_while_live r limits number (view_of r (below (key_of number slot) H)) slot) e

  over_stays : (number m d : ℕ) → (state_of r limits H number m).live ≡ None → (state_of r limits H number (m + d) ≡ state_of r limits H number m) × (entries_by r limits H number (m + d) ≡ entries_by r limits H number m)
  over_stays number m zero e = (ap (state_of r limits H number) (add-zero m), ap (entries_by r limits H number) (add-zero m))
  over_stays number m (suc d) e =
      let h = over_stays number m d e in
      let same : m + suc d ≡ suc (m + d) = omega arith in
      let over : (state_of r limits H number (m + d)).live ≡ None = ap (λ (s : Slot L). s.live) h.0 ∙ e in
      let t = over_turn number (state_of r limits H number (m + d)) over in (
        ap (state_of r limits H number) same ∙ (ap (λ (x : Turn L). x.slot) t ∙ h.0),
        ap (entries_by r limits H number) same ∙ (ap (λ (x : Turn L). entries_by r limits H number (m + d) ++ under (key_of number (state_of r limits H number (m + d))) x.entries) t ∙ (append-nil (entries_by r limits H number (m + d)) ∙ h.1)),
      )

  -- the slot of a number, and its play
  pub slot_there : (n number : ℕ) → number < limits.slots → at (moves r limits n).slots number ≡ Some (state_of r limits H number (count_of r limits number n))
  slot_there n number few =
      let s = moves_stand V L r FitsView FitsLocal MayFollow Agrees law limits ranges n in
      let x = some_at (moves r limits n).slots number (omega (arith, s.number)) in
      let p = played V L r FitsView FitsLocal MayFollow Agrees law limits ranges n number x.0 x.1 in
      x.1 ∙ ap Some p.state

  all_over : (number : ℕ) (o : Option (Live L)) → number < limits.slots → (state_of r limits H number (count_of r limits number (last limits))).live ≡ o → o ≡ None
  all_over number None few e = refl
  all_over number (Some live) few e =
      absurd (none_lives (final r limits).slots number (state_of r limits H number (count_of r limits number (last limits))) live (stops V L r FitsView FitsLocal MayFollow Agrees law limits ranges) (slot_there (last limits) number few) e)

  occurs_by : (number m : ℕ) (live : Live L) (b : Bool) → nat_lt m (count_of r limits number (last limits)) ≡ b → number < limits.slots → (state_of r limits H number m).live ≡ Some live → IsChosen r limits number m
  occurs_by number m live true e few lives =
      let lt : m < count_of r limits number (last limits) = grind arith in
      let f = find number m (last limits) lt in
      record { n = f.n; next = f.next; count = f.count; there = slot_there f.n number few ∙ ap (λ (k : ℕ). Some (state_of r limits H number k)) f.count }
  occurs_by number m live false e few lives =
      let c = count_of r limits number (last limits) in
      let ge : c ≤ m = grind arith in
      let same : c + (m - c) ≡ m = omega arith in
      let over = all_over number (state_of r limits H number c).live few refl in
      let h = over_stays number c (m - c) over in
      absurd (none_some_live live (sym over ∙ (ap (λ (s : Slot L). s.live) (sym h.0) ∙ (ap (λ (k : ℕ). (state_of r limits H number k).live) same ∙ lives))))

  pub occurs : AreChosen r limits
  occurs number m live few lives = occurs_by number m live (nat_lt m (count_of r limits number (last limits))) refl few lives

  -- a slot that is over has made all its moves
  past_all : (number m : ℕ) (b : Bool) → nat_lt m (count_of r limits number (last limits)) ≡ b → number < limits.slots → (state_of r limits H number m).live ≡ None → count_of r limits number (last limits) ≤ m
  past_all number m true e few over =
      let lt : m < count_of r limits number (last limits) = grind arith in
      let f = find number m (last limits) lt in
      let x = next_is (moves r limits f.n).slots number f.next in
      let there = slot_there f.n number few ∙ ap (λ (k : ℕ). Some (state_of r limits H number k)) f.count in
      let same : x.slot ≡ state_of r limits H number m = cc (x.there, there) in
      absurd (none_some_live x.live (sym over ∙ (ap (λ (s : Slot L). s.live) (sym same) ∙ x.lives)))
  past_all number m false e few over = grind arith

  -- and is as it was after the last one
  over_same : (number m : ℕ) → number < limits.slots → (state_of r limits H number m).live ≡ None →
      (state_of r limits H number (count_of r limits number (last limits)) ≡ state_of r limits H number m) × (entries_by r limits H number (count_of r limits number (last limits)) ≡ entries_by r limits H number m)
  over_same number m few over =
      let c = count_of r limits number (last limits) in
      let ge = past_all number m (nat_lt m c) refl few over in
      let same : c + (m - c) ≡ m = omega (arith, ge) in
      let h = over_stays number c (m - c) (all_over number (state_of r limits H number c).live few refl) in
      (sym h.0 ∙ ap (state_of r limits H number) same, sym h.1 ∙ ap (entries_by r limits H number) same)

  -- where a slot is over, it is that slot of the last state
  pub over_last : OverSlotsAreLast r limits
  over_last number m few over = slot_there (last limits) number few ∙ ap Some (over_same number m few over).0

  pub ends_known : HaveKnownEnds r limits
  ends_known number m few over =
      let there = slot_there (last limits) number few in
      let p = played V L r FitsView FitsLocal MayFollow Agrees law limits ranges (last limits) number (state_of r limits H number (count_of r limits number (last limits))) there in
      p.entries ∙ (over_same number m few over).1

  entries_front : (n : ℕ) → FrontOf (moves r limits n).entries H
  entries_front n =
      let l = in_the_end V L r FitsView FitsLocal MayFollow Agrees law limits ranges n (record { stamp = 0; slot = 0 }) (λ j slot there its lives. record { stamps = omega arith; slots = λ h. omega arith }) in
      record { rest = l.more; whole = l.longer }

  pub fronts_after : HaveFronts r limits
  fronts_after number m live few lives =
      let x = occurs number m live few lives in
      let slot = state_of r limits H number m in
      let now = before V L r FitsView FitsLocal MayFollow Agrees law limits ranges x.n number slot x.next x.there in
      let next : moves r limits (suc x.n) ≡ after_turn (moves r limits x.n) number slot (turn r limits number (view_of r (moves r limits x.n).entries) slot) = next_state V L r FitsView FitsLocal MayFollow Agrees law limits ranges x.n number slot x.next x.there in
      let front = entries_front (suc x.n) in
      let entries : (moves r limits (suc x.n)).entries ≡ below (key_of number slot) H ++ under (key_of number slot) (turn_in r limits H number slot).entries =
      ap (λ (s : State L). s.entries) next ∙ ap (λ (es : List KeyedEntry). es ++ under (key_of number slot) (turn r limits number (view_of r es) slot).entries) (sym now) in
      record { rest = front.rest; whole = front.whole ∙ ap (λ (es : List KeyedEntry). es ++ front.rest) entries }

  -- what a slot publishes after it was chosen has no lesser stamp
  pub logs_known : HaveKnownLogs r limits
  logs_known number m live few lives =
      let x = occurs number m live few lives in
      let slot = state_of r limits H number m in
      let l = chosen_end V L r FitsView FitsLocal MayFollow Agrees law limits ranges x.n number slot x.next x.there in
      let p = played V L r FitsView FitsLocal MayFollow Agrees law limits ranges x.n number slot x.there in
      let mine : of_slot number (moves r limits x.n).entries ≡ entries_by r limits H number m = p.entries ∙ ap (entries_by r limits H number) x.count in
      let known : (stamp : ℕ) → stamp ≤ slot.clock → log number stamp H ≡ filter (λ e. nat_lt e.key.stamp stamp) (entries_by r limits H number m) =
      λ stamp le.
      ap (log number stamp) l.longer
      ∙ (filter-append (λ e. nat_eq e.key.slot number && nat_lt e.key.stamp stamp) (moves r limits x.n).entries l.more
      ∙ (ap (λ (es : List KeyedEntry). log number stamp (moves r limits x.n).entries ++ es) (filter_none (λ e. nat_eq e.key.slot number && nat_lt e.key.stamp stamp) l.more (each_map _ _ l.more (λ e h. late_test (nat_eq e.key.slot number) e.key.stamp stamp (omega (arith, h.stamps, le))) l.floor))
      ∙ (append-nil (log number stamp (moves r limits x.n).entries)
      ∙ (sym (filter_both (λ e. nat_eq e.key.slot number) (λ e. nat_lt e.key.stamp stamp) (λ e. nat_eq e.key.slot number && nat_lt e.key.stamp stamp) (moves r limits x.n).entries (λ e. and_swap (nat_lt e.key.stamp stamp) (nat_eq e.key.slot number)))
      ∙ ap (filter (λ e. nat_lt e.key.stamp stamp)) mine)))) in
      record {
        below_clock = known;
        at_clock = (known slot.clock (omega arith) ∙ (ap (filter (λ e. nat_lt e.key.stamp slot.clock)) (sym mine) ∙ (early_all (moves r limits x.n).entries number slot.clock (old_entries V L r FitsView FitsLocal MayFollow Agrees law limits ranges x.n number slot x.next x.there) ∙ mine)));
        rest = of_slot number l.more;
        front = ap (of_slot number) l.longer ∙ (filter-append (λ e. nat_eq e.key.slot number) (moves r limits x.n).entries l.more ∙ ap (λ (es : List KeyedEntry). es ++ of_slot number l.more) mine);
      }

  pub locals_fit : HaveFittingLocals r FitsLocal limits
  locals_fit number m live few lives =
      let x = occurs number m live few lives in
      let s = moves_stand V L r FitsView FitsLocal MayFollow Agrees law limits ranges x.n in
      let f : IsFittingWhileLive FitsLocal (Some live) = subst (IsFittingWhileLive FitsLocal) lives (s.fits number (state_of r limits H number m) x.there) in
      f.local
