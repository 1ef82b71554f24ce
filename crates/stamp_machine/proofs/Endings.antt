-- Why a Halt stands in a history, and why a slot is over.
use Rattle.std.proofs.Common.{◌≡◌, ◌∙◌, ℕ, zero, suc, ◌+◌, ◌-◌, ◌<◌, ◌≤◌, ◌⊎◌, inl, inr, Bool, true, false, ◌||◌, if◌then◌else◌, List, [], ◌∷◌, ◌++◌, Option, Some, None, refl, sym, ap, subst, arith, append_assoc}
use Rattle.std.specs.Prelude.{nat_le}
use Rattle.std.proofs.lemmas.Bool.{false≢true}
use Rattle.std.proofs.lemmas.List.{append-nil}
use Rattle.work_stamp.specs.Histories.{keyed_entry, under}
use Rattle.work_stamp.specs.Taskers.{Rules, view_after, view_of}
use Rattle.work_stamp.specs.declared.entry.Entry.{Entry}
use Rattle.work_stamp.specs.declared.entry.Entry.TheVariants.{Start, CutStart, HeurStart, Done, Found, Cut, Split, Closed, Halt}
use Rattle.work_stamp.specs.declared.key.Key.{Key}
use Rattle.work_stamp.specs.declared.stamped.KeyedEntry.{KeyedEntry}
use Rattle.work_stamp.specs.declared.task.Begin.{Begin}
use Rattle.work_stamp.specs.declared.task.Begin.TheVariants.{Take, Idle, End}
use Rattle.stamp_machine.specs.Endings.{is_halt, has_halt, entries_of, HasNoOwnHalt, begin_entries, due_entries, IsFullAt, HasHalt, HaltsHaveCauses, IsOverOnFront, IsEndCause, EndsHaveCauses, Spent, Full, NothingLeft}
use Rattle.stamp_machine.specs.Machine.{State, turn_of_begin, slot_after_chunk, final, first, fits, slot_after_idle, slot_after_join, last, move_next, move_of, moves, turn, turn_while_live, word_count}
use Rattle.stamp_machine.specs.Slots.{at, key_of, next_slot}
use Rattle.stamp_machine.specs.declared.limits.Limits.{Limits}
use Rattle.stamp_machine.specs.declared.opening.Turn.{Turn}
use Rattle.stamp_machine.specs.declared.slot.Slot.{Slot}
use Rattle.stamp_machine.specs.declared.slot.Live.{Live}
use Rattle.stamp_machine.proofs.Choices.{by_test}
use Rattle.stamp_machine.proofs.Follows.{view_after-append}
use Rattle.stamp_machine.proofs.Least.{next_is, none_lives}
use Rattle.stamp_machine.proofs.Orders.{set_each}
use Rattle.stamp_machine.proofs.Places.{at-append, at-front, at-behind, none_is_no_some, same_some}
use Rattle.stamp_machine.proofs.Standings.{fresh_at}

-- ---- Halts among entries

or_left : (a b : Bool) → a ≡ true → (a || b) ≡ true
or_left true b h = refl
or_left false b h = absurd (false≢true h)

or_right : (a b : Bool) → b ≡ true → (a || b) ≡ true
or_right true b h = refl
or_right false b h = h

or_none : (a b : Bool) → (a || b) ≡ false → (a ≡ false) × (b ≡ false)
or_none true b h = absurd (false≢true (sym h))
or_none false b h = (refl, h)

none_of_both : (a b : Bool) → a ≡ false → b ≡ false → (a || b) ≡ false
none_of_both true b h g = absurd (false≢true (sym h))
none_of_both false b h g = g

pub no_halt-append : (xs ys : List Entry) → has_halt xs ≡ false → has_halt ys ≡ false → has_halt (xs ++ ys) ≡ false
no_halt-append [] ys h g = g
no_halt-append (x ∷ xs) ys h g =
    let o = or_none (is_halt x) (has_halt xs) h in
    none_of_both (is_halt x) (has_halt (xs ++ ys)) o.0 (no_halt-append xs ys o.1 g)

halt_behind : (xs : List Entry) → has_halt (xs ++ Halt ∷ []) ≡ true
halt_behind [] = refl
halt_behind (x ∷ xs) = or_right (is_halt x) (has_halt (xs ++ Halt ∷ [])) (halt_behind xs)

pub halt_is : (e : Entry) → is_halt e ≡ true → e ≡ Halt
halt_is (Start node) h = absurd (false≢true h)
halt_is CutStart h = absurd (false≢true h)
halt_is (HeurStart node) h = absurd (false≢true h)
halt_is Done h = absurd (false≢true h)
halt_is (Found value point) h = absurd (false≢true h)
halt_is (Cut derivation) h = absurd (false≢true h)
halt_is (Split node col at first keep bound) h = absurd (false≢true h)
halt_is (Closed node) h = absurd (false≢true h)
halt_is Halt h = refl

some_is_no_none : {A : Type 0} (x : A) → Some x ≡ None → ⊥
some_is_no_none x e = cc

-- a Halt under a key is one among the entries under that key
halt_under : (k other : Key) (es : List Entry) (place : ℕ) → at (under k es) place ≡ Some (keyed_entry other Halt) → (other ≡ k) × (has_halt es ≡ true)
halt_under k other [] place e = absurd (none_is_no_some (keyed_entry other Halt) e)
halt_under k other (x ∷ es) zero e =
    let same = same_some (keyed_entry k x) (keyed_entry other Halt) e in
    (sym (ap (λ (y : KeyedEntry). y.key) same), or_left (is_halt x) (has_halt es) (ap (λ (y : KeyedEntry). is_halt y.entry) same))
halt_under k other (x ∷ es) (suc place) e =
    let h = halt_under k other es place e in
    (h.0, or_right (is_halt x) (has_halt es) h.1)

place_of : (k : Key) (x : Entry) (es : List Entry) (b : Bool) → is_halt x ≡ b → (b || has_halt es) ≡ true → (has_halt es ≡ true → HasHalt (under k es) k) → HasHalt (under k (x ∷ es)) k
place_of k x es true is h later = record { place = 0; there = ap (λ y. Some (keyed_entry k y)) (halt_is x is) }
place_of k x es false is h later = let l = later h in record { place = suc l.place; there = l.there }

under_halt : (k : Key) (es : List Entry) → has_halt es ≡ true → HasHalt (under k es) k
under_halt k [] h = absurd (false≢true h)
under_halt k (x ∷ es) h = place_of k x es (is_halt x) refl h (under_halt k es)

-- ---- Halts in a longer history

halt_in_front : (xs ys : List KeyedEntry) (k : Key) → HasHalt xs k → HasHalt (xs ++ ys) k
halt_in_front xs ys k h = record { place = h.place; there = at-front xs ys h.place (keyed_entry k Halt) h.there }

halt_in_rest : (xs ys : List KeyedEntry) (k : Key) → HasHalt ys k → HasHalt (xs ++ ys) k
halt_in_rest xs ys k h = let r = at-behind xs ys h.place (keyed_entry k Halt) h.there in record { place = r.0; there = r.1 }

-- ---- words

pub word_count-append : (xs ys : List Entry) → word_count (xs ++ ys) ≡ word_count xs + word_count ys
word_count-append [] ys = omega arith
word_count-append (x ∷ xs) ys = omega (arith, word_count-append xs ys)

le_of_test : (a b : ℕ) → nat_le a b ≡ true → a ≤ b
le_of_test a b h = grind arith

lt_of_test : (a b : ℕ) → nat_le a b ≡ false → b < a
lt_of_test a b h = grind arith

-- ---- a move

-- no Halt is pending
abbrev IsQuiet : {L : Type 0} → Option (Live L) → Type 0
IsQuiet None = Unit {0}
IsQuiet (Some live) = has_halt live.pending ≡ false

module _ (V L : Type 0) (r : Rules V L) (limits : Limits) (own : HasNoOwnHalt r) where
  -- why a slot is over after a move with the key k, from a history
  abbrev IsOverBy : List KeyedEntry → ℕ → Key → Turn L → Type 0
  IsOverBy history number k t =
      (limits.work ≤ t.slot.clock)
      ⊎ (((has_halt t.entries ≡ true) × (key_of number t.slot ≡ k)) ⊎ IsOverOnFront r (history ++ under k t.entries))

  -- what a move's Halts and a slot's end come of
  record IsExplained (history : List KeyedEntry) (number : ℕ) (k : Key) (t : Turn L) : Type 0 where
    halts : has_halt t.entries ≡ true → IsFullAt r limits k
    over : t.slot.live ≡ None → IsOverBy history number k t
    quiet : IsQuiet t.slot.live

  -- a move of the slot that moves after n moves
  record IsMove (n number : ℕ) (slot : Slot L) (live : Live L) : Type 0 where
    moves_next : next_slot (moves r limits n).slots ≡ Some number
    there : at (moves r limits n).slots number ≡ Some slot
    lives : slot.live ≡ Some live
    quiet : has_halt live.pending ≡ false

  module _ (n number : ℕ) (slot : Slot L) (live : Live L) (move : IsMove n number slot live) where
    abbrev before : List KeyedEntry
    before = (moves r limits n).entries

    abbrev v : V
    v = view_of r (moves r limits n).entries

    abbrev k : Key
    k = key_of number slot

    abbrev w : V
    w = view_after r v (under k live.pending)

    abbrev Explained : Turn L → Type 0
    Explained t = IsExplained before number k t

    full : slot.clock < limits.work → limits.store < slot.words + word_count (due_entries r number v slot live) + 4 → IsFullAt r limits k
    full early past = record {
      n = n;
      slot = slot;
      live = live;
      moves_next = move.moves_next;
      there = move.there;
      lives = move.lives;
      stamp = refl;
      early = early;
      past = past;
    }

    goes_on : (s : Slot L) (its : Live L) → s.live ≡ Some its → has_halt its.pending ≡ false → Explained (record { entries = live.pending; slot = s })
    goes_on s its lives quiet = record {
      halts = λ h. absurd (false≢true (sym move.quiet ∙ h));
      over = λ none. absurd (some_is_no_none its (sym lives ∙ none));
      quiet = subst IsQuiet (sym lives) quiet;
    }

    begins : slot.clock < limits.work → (does : Begin) → r.at_start live.local ≡ true → (r.begin w live.local).does ≡ does →
        Explained (turn_of_begin r limits (slot_after_join slot live) live.pending (r.begin w live.local).local does)
    begins early End free is = record {
      halts = λ h. absurd (false≢true (sym move.quiet ∙ h));
      over = λ none. inr (inr (record {
        front = before ++ under k live.pending;
        rest = [];
        whole = sym (append-nil (before ++ under k live.pending));
        local = live.local;
        starts = free;
        over = ap (λ (u : V). (r.begin u live.local).does) (view_after-append r r.fresh_view before (under k live.pending)) ∙ is;
      }));
      quiet = tt;
    }
    begins early Idle free is = goes_on (slot_after_idle (slot_after_join slot live) (r.begin w live.local).local) (record { local = (r.begin w live.local).local; pending = []; leaves = [] }) refl refl
    begins early (Take es) free is =
        let none : has_halt es ≡ false = sym (ap (λ (d : Begin). has_halt (entries_of d)) is) ∙ own.begin w live.local in
        let due : due_entries r number v slot live ≡ live.pending ++ es =
        ap (λ (t : Bool). live.pending ++ (if t then entries_of (r.begin w live.local).does else [])) free ∙ ap (λ (d : Begin). live.pending ++ entries_of d) is in
        by_test Explained (fits limits (slot_after_join slot live).words es) _ _
        (λ fit. record {
          halts = λ h. absurd (false≢true (sym (no_halt-append live.pending es move.quiet none) ∙ h));
          over = λ no. absurd (some_is_no_none _ no);
          quiet = own.chunk (r.begin w live.local).local;
        })
        (λ past. record {
          halts = λ h. full early (omega (arith, ap word_count due, word_count-append live.pending es, lt_of_test (slot.words + word_count live.pending + word_count es) (limits.store - 4) past));
          over = λ no. inr (inl (halt_behind live.pending, refl));
          quiet = tt;
        })

    explained_live : Explained (turn_while_live r limits number v slot (Some live))
    explained_live =
        by_test Explained (nat_le limits.work slot.clock) _ _
        (λ late. record { halts = λ h. absurd (false≢true h); over = λ none. inl (le_of_test limits.work slot.clock late); quiet = tt })
        (λ early. by_test Explained (fits limits slot.words live.pending) _ _
        (λ fit. by_test Explained (r.at_start live.local) _ _
        (λ free. begins (lt_of_test limits.work slot.clock early) (r.begin w live.local).does free refl)
        (λ busy. goes_on (slot_after_chunk r (slot_after_join slot live) live.local) _ refl (own.chunk live.local)))
        (λ past. record {
          halts = λ h. full (lt_of_test limits.work slot.clock early)
              (omega (arith, word_count-append live.pending (begin_entries r number v slot live), lt_of_test (slot.words + word_count live.pending) (limits.store - 4) past));
          over = λ none. inr (inl (refl, refl));
          quiet = tt;
        }))

    explained : Explained (turn r limits number v slot)
    explained = subst (λ o. Explained (turn_while_live r limits number v slot o)) (sym move.lives) explained_live

  -- ---- all moves

  record AreExplained (state : State L) : Type 0 where
    halts : (k : Key) → HasHalt state.entries k → IsFullAt r limits k
    ends : (number : ℕ) (slot : Slot L) → at state.slots number ≡ Some slot → slot.live ≡ None → IsEndCause r limits state.entries number slot
    quiet : (number : ℕ) (slot : Slot L) → at state.slots number ≡ Some slot → IsQuiet slot.live

  first_explained : AreExplained (first r limits)
  first_explained = record {
    halts = λ k h. absurd (none_is_no_some (keyed_entry k Halt) h.there);
    ends = λ number slot there none.
        let f = fresh_at r 0 limits.slots number slot there in
        absurd (some_is_no_none _ (sym (ap (λ (s : Slot L). s.live) f.0) ∙ none));
    quiet = λ number slot there.
        let f = fresh_at r 0 limits.slots number slot there in
        subst IsQuiet (sym (ap (λ (s : Slot L). s.live) f.0)) refl;
  }

  longer : (xs more : List KeyedEntry) (number : ℕ) (slot : Slot L) → IsEndCause r limits xs number slot → IsEndCause r limits (xs ++ more) number slot
  longer xs more number slot (Spent late) = Spent late
  longer xs more number slot (Full h) = Full (halt_in_front xs more (key_of number slot) h)
  longer xs more number slot (NothingLeft over) = NothingLeft (record {
    front = over.front;
    rest = over.rest ++ more;
    whole = ap (λ (es : List KeyedEntry). es ++ more) over.whole ∙ append_assoc over.front over.rest more;
    local = over.local;
    starts = over.starts;
    over = over.over;
  })

  ended_by : (history : List KeyedEntry) (number : ℕ) (k : Key) (t : Turn L) → IsOverBy history number k t → IsEndCause r limits (history ++ under k t.entries) number t.slot
  ended_by history number k t (inl late) = Spent late
  ended_by history number k t (inr (inl (has, same))) =
      Full (subst (λ (y : Key). HasHalt (history ++ under k t.entries) y) (sym same) (halt_in_rest history (under k t.entries) k (under_halt k t.entries has)))
  ended_by history number k t (inr (inr over)) = NothingLeft over

  old_or_new : (history : List KeyedEntry) (number : ℕ) (k : Key) (t : Turn L) → IsExplained history number k t → ((other : Key) → HasHalt history other → IsFullAt r limits other) →
      (other : Key) → HasHalt (history ++ under k t.entries) other → IsFullAt r limits other
  old_or_new history number k t explained old other h = by_place (at-append history (under k t.entries) h.place (keyed_entry other Halt) h.there) where
    by_place : (at history h.place ≡ Some (keyed_entry other Halt)) ⊎ ((later : ℕ) × (at (under k t.entries) later ≡ Some (keyed_entry other Halt))) → IsFullAt r limits other
    by_place (inl before) = old other (record { place = h.place; there = before })
    by_place (inr (later, there)) =
        let u = halt_under k other t.entries later there in
        subst (λ (y : Key). IsFullAt r limits y) (sym u.0) (explained.halts u.1)

  next_explained : (n : ℕ) (o : Option ℕ) → next_slot (moves r limits n).slots ≡ o → AreExplained (moves r limits n) → AreExplained (move_next r limits (moves r limits n) o)
  next_explained n None e c = c
  next_explained n (Some number) e c =
      let state = moves r limits n in
      let x = next_is state.slots number e in
      let t = turn r limits number (view_of r state.entries) x.slot in
      let k = key_of number x.slot in
      let quiet : has_halt x.live.pending ≡ false = subst IsQuiet x.lives (c.quiet number x.slot x.there) in
      let its = explained n number x.slot x.live (record { moves_next = e; there = x.there; lives = x.lives; quiet = quiet }) in
      subst (λ o. AreExplained (move_of r limits state number o)) (sym x.there) (record {
        halts = old_or_new state.entries number k t its c.halts;
        ends = set_each (λ j (y : Slot L). y.live ≡ None → IsEndCause r limits (state.entries ++ under k t.entries) j y) state.slots number t.slot
            (λ j other ne there none. longer state.entries (under k t.entries) j other (c.ends j other there none))
            (λ none. ended_by state.entries number k t (its.over none));
        quiet = set_each (λ j (y : Slot L). IsQuiet y.live) state.slots number t.slot (λ j other ne there. c.quiet j other there) its.quiet;
      })

  all_explained : (n : ℕ) → AreExplained (moves r limits n)
  unfolding moves
  all_explained zero = first_explained
  all_explained (suc n) = next_explained n (next_slot (moves r limits n).slots) refl (all_explained n)

  pub halts_explained : HaltsHaveCauses r limits
  halts_explained = (all_explained (last limits)).halts

  pub over_where_none_lives : (slots : List (Slot L)) (number : ℕ) (slot : Slot L) (live : Option (Live L)) → slot.live ≡ live → next_slot slots ≡ None → at slots number ≡ Some slot → live ≡ None
  over_where_none_lives slots number slot None is none there = refl
  over_where_none_lives slots number slot (Some live) is none there = absurd (none_lives slots number slot live none there is)

  pub ends_explained : next_slot (final r limits).slots ≡ None → EndsHaveCauses r limits
  ends_explained none number slot there =
      (all_explained (last limits)).ends number slot there (over_where_none_lives (final r limits).slots number slot slot.live refl none there)
