-- An entry that is taken from what waits, and absorbed.
use Rattle.std.proofs.Common.{ℕ, zero, suc, set, drop, ◌+◌, ◌<◌, ◌≤◌, ◌≡◌, ◌≢◌, Bool, true, false, List, [], ◌∷◌, ◌++◌, length, map, Option, Some, None, refl, sym, ap, ◌∙◌, subst, append_assoc, arith}
use Rattle.std.specs.Prelude.{All, not, nat_eq, nat_lt, if◌then◌else◌}
use mathlib.Core.Logic.{dite}
use native.Mathlib.Decide.{ℕ_discrete}
use Rattle.std.proofs.Math.Decide.{dec_lt}
use Rattle.std.proofs.lemmas.Bool.{eq-eqb, ne_eqb}
use Rattle.std.proofs.lemmas.Bool.Decides.{nat_tests}
use Rattle.std.proofs.lemmas.List.{append-nil, append_cancel_left, get_or_past, length-append}
use Rattle.std.proofs.lemmas.List.Elements.{All-head, filter-append}
use Rattle.commit_order.specs.Merges.{AreNotBelow, IsLeast, after_take, slot_entry, waiting_entries}
use Rattle.commit_order.specs.Queues.{Queue, empty_queue, queue_of, without_first}
use Rattle.commit_order.proofs.Waiting.{waited_first}
use Rattle.stamp_machine.specs.Limits.{AreLimits}
use Rattle.stamp_machine.specs.Machine.{final, last}
use Rattle.stamp_machine.specs.Orders.{AreInOrder, Each}
use Rattle.stamp_machine.specs.Runs.{log, of_slot, state_of}
use Rattle.stamp_machine.specs.Slots.{key_of}
use Rattle.stamp_machine.specs.declared.limits.Limits.{Limits}
use Rattle.stamp_machine.specs.declared.slot.Live.{Live}
use Rattle.stamp_machine.proofs.Follows.{follow-right, view_after-append}
use Rattle.stamp_machine.proofs.Histories.{slot_sorted, sorted}
use Rattle.stamp_machine.proofs.Keeping.{keeps}
use Rattle.stamp_machine.proofs.Occurrences.{logs_known}
use Rattle.stamp_machine.proofs.Orders.{each_append, each_filtered}
use Rattle.work_stamp.specs.Histories.{FollowInTurn}
use Rattle.work_stamp.specs.Keys.{is_below}
use Rattle.work_stamp.specs.Taskers.{CanJoin, IsLawful, Rules, Standing, view_of}
use Rattle.work_stamp.specs.declared.entry.Entry.{Entry}
use Rattle.work_stamp.specs.declared.key.Key.{Key}
use Rattle.work_stamp.specs.declared.stamped.KeyedEntry.{KeyedEntry}
use Rattle.work_stamp.specs.declared.stamped.Stamped.{Stamped}
use Rattle.version_store.specs.Absorbing.{CanAbsorb, HasAbsorbed}
use Rattle.version_store.specs.Carriers.{AreBelow, AreBelowWhileLive, clock_heard}
use Rattle.version_store.specs.Hearing.{from_stamp, is_enough}
use Rattle.version_store.specs.declared.playing.Playing.{Playing}
use Rattle.version_store.proofs.Absorbs.{HasWaiting, IsPast, done_is_below, next_is_least, none_left_below}
use Rattle.version_store.proofs.EntryWords.{log_is, parts_by_stamp}
use Rattle.version_store.proofs.Hears.{from_there}
use Rattle.version_store.proofs.HearsAll.{each_own}

in_order_right : (xs ys : List KeyedEntry) → AreInOrder (xs ++ ys) → AreInOrder ys
in_order_right [] ys h = h
in_order_right (x ∷ xs) ys h = in_order_right xs ys h.1

-- entries of a slot from a clock on that is enough are not below the key
past_by : (key : Key) (slot clock : ℕ) (es : List KeyedEntry) → slot ≢ key.slot →
    is_enough key slot clock ≡ true → Each (λ e. clock ≤ e.key.stamp) es →
    Each (λ e. e.key.slot ≡ slot) es → Each (IsPast key) es
past_by key slot clock [] apart enough stamps own = tt
past_by key slot clock (e ∷ es) apart enough stamps own =
    (past_one key slot clock e apart enough stamps.0 own.0, past_by key slot clock es apart enough stamps.1 own.1) where
      past_one : (key : Key) (slot clock : ℕ) (e : KeyedEntry) → slot ≢ key.slot →
          is_enough key slot clock ≡ true → clock ≤ e.key.stamp → e.key.slot ≡ slot → IsPast key e
      past_one key slot clock e apart enough le own = grind (arith, nat_tests)

module _ (V L : Type 0) (r : Rules V L) (FitsView : V → Type 0) (FitsLocal : L → Type 0)
    (MayFollow : List KeyedEntry → Entry → Type 0)
    (Agrees : List KeyedEntry → List (Option (Standing L)) → Type 0)
    (law : IsLawful r FitsView FitsLocal MayFollow Agrees) (limits : Limits)
    (ranges : AreLimits limits) where
  abbrev H : List KeyedEntry
  H = (final r limits).entries

  -- each front of the history is one that its next entry may follow
  pub front_joins : (done rest : List KeyedEntry) (e : KeyedEntry) (view : V) →
      H ≡ done ++ e ∷ rest → view ≡ view_of r done → CanJoin r MayFollow view e.entry
  front_joins done rest e view whole is =
      let k = keeps V L r FitsView FitsLocal MayFollow Agrees law limits ranges (last limits) in
      let all : FollowInTurn MayFollow [] (done ++ e ∷ rest) =
      subst (λ (l : List KeyedEntry). FollowInTurn MayFollow [] l) whole k.follow in
      let right : FollowInTurn MayFollow ([] ++ done) (e ∷ rest) = follow-right MayFollow [] done (e ∷ rest) all in
      let size = ap length whole in
      let parts = length-append done (e ∷ rest) in
      record {
        history = done;
        few = omega (arith, k.short, size, parts);
        is_view = is;
        follows = right.0;
      }

  -- what was absorbed and what waits of a slot stays the same when a waiting entry is absorbed
  of_one_by : (b : Bool) (slot : ℕ) (e : KeyedEntry) → nat_eq e.key.slot slot ≡ b →
      of_slot slot (e ∷ []) ≡ (if b then e ∷ [] else [])
  of_one_by b slot e t = ap (λ (c : Bool). if c then e ∷ [] else []) t

  pub own_moved : (queues : List Queue) (key : Key) (e : KeyedEntry) (done : List KeyedEntry)
      (slot : ℕ) → IsLeast queues key e →
      of_slot slot (done ++ e ∷ []) ++ waiting_entries (after_take queues (Some e)) slot ≡
      of_slot slot done ++ waiting_entries queues slot
  own_moved queues key e done slot l =
      let w = waited_first queues key e l in
      let parts : of_slot slot (done ++ e ∷ []) ≡ of_slot slot done ++ of_slot slot (e ∷ []) =
      filter-append (λ (x : KeyedEntry). nat_eq x.key.slot slot) done (e ∷ []) in
      let after : List KeyedEntry = waiting_entries (after_take queues (Some e)) slot in
      dite (ℕ_discrete slot e.key.slot)
      (λ q. let one : of_slot slot (e ∷ []) ≡ e ∷ [] = of_one_by true slot e (eq-eqb e.key.slot slot (sym q)) in
      let own : waiting_entries queues slot ≡ e ∷ after =
      subst (λ (n : ℕ). waiting_entries queues n ≡ e ∷ waiting_entries (after_take queues (Some e)) n) (sym q) w.own in
      ap (λ (l : List KeyedEntry). l ++ after) (parts ∙ ap (λ (l : List KeyedEntry). of_slot slot done ++ l) one)
      ∙ (append_assoc (of_slot slot done) (e ∷ []) after
      ∙ ap (λ (l : List KeyedEntry). of_slot slot done ++ l) (sym own)))
      (λ ne. let none : of_slot slot (e ∷ []) ≡ [] = of_one_by false slot e (ne_eqb e.key.slot slot (λ q. ne (sym q))) in
      let same : after ≡ waiting_entries queues slot = ap (λ (x : Queue). map (slot_entry slot) x.entries) (w.others slot ne) in
      ap (λ (l : List KeyedEntry). l ++ after) (parts ∙ (ap (λ (l : List KeyedEntry). of_slot slot done ++ l) none ∙ append-nil (of_slot slot done)))
      ∙ ap (λ (l : List KeyedEntry). of_slot slot done ++ l) same)

  last_kept : (queues : List Queue) (key : Key) (e : KeyedEntry) (slot : ℕ) → IsLeast queues key e →
      (queue_of (after_take queues (Some e)) slot).last_stamp ≡ (queue_of queues slot).last_stamp
  last_kept queues key e slot l =
      let w = waited_first queues key e l in
      dite (ℕ_discrete slot e.key.slot)
      (λ q. subst (λ (n : ℕ). (queue_of (after_take queues (Some e)) n).last_stamp ≡ (queue_of queues n).last_stamp) (sym q) w.last)
      (λ ne. ap (λ (x : Queue). x.last_stamp) (w.others slot ne))

  past_live : (o : Option (Live L)) (live : Live L) (key : Key) (es : List KeyedEntry) → o ≡ Some live →
      AreBelowWhileLive o key es → AreBelow key es
  past_live None live key es e h = absurd cc
  past_live (Some x) live key es e h = h

  live_past : (o : Option (Live L)) (key : Key) (es : List KeyedEntry) →
      AreBelow key es → AreBelowWhileLive o key es
  live_past None key es h = tt
  live_past (Some x) key es h = h

  module _ (key : Key) (p : Playing V L) (can : CanAbsorb r FitsView limits key p) where
    abbrev S : ℕ → List KeyedEntry
    S slot = of_slot slot H

    abbrev stamp_of : ℕ → ℕ
    stamp_of slot = if nat_eq slot key.slot then key.stamp else clock_heard p.heard slot

    abbrev more_of : ℕ → List KeyedEntry
    more_of slot = from_stamp (stamp_of slot) (S slot)

    order_of : (slot : ℕ) → AreInOrder (S slot)
    order_of slot = (slot_sorted V L r FitsView FitsLocal MayFollow Agrees law limits ranges slot).in_order

    whole_of : (slot : ℕ) → S slot ≡ of_slot slot can.at.done ++ of_slot slot can.at.left
    whole_of slot = ap (of_slot slot) can.at.whole
        ∙ filter-append (λ (x : KeyedEntry). nat_eq x.key.slot slot) can.at.done can.at.left

    own_stamp : stamp_of key.slot ≡ key.stamp
    own_stamp = ap (λ (b : Bool). if b then key.stamp else clock_heard p.heard key.slot) (eq-eqb key.slot key.slot refl)

    other_stamp : (slot : ℕ) → slot ≢ key.slot → stamp_of slot ≡ clock_heard p.heard slot
    other_stamp slot ne = ap (λ (b : Bool). if b then key.stamp else clock_heard p.heard slot) (ne_eqb slot key.slot ne)

    -- the log of each slot up to its stamp was absorbed or waits
    log_own : of_slot key.slot can.at.done ++ waiting_entries p.merge key.slot ≡ log key.slot key.stamp H
    log_own =
        let k = logs_known V L r FitsView FitsLocal MayFollow Agrees law limits ranges key.slot p.moves can.live can.number can.lives in
        can.at.own ∙ (sym k.at_clock
        ∙ ap (λ (x : Key). log key.slot x.stamp H) (sym can.key_is))

    log_of : (slot : ℕ) → slot < limits.slots →
        of_slot slot can.at.done ++ waiting_entries p.merge slot ≡ log slot (stamp_of slot) H
    log_of slot lt = dite (ℕ_discrete slot key.slot)
        (λ q. subst (λ (n : ℕ). of_slot n can.at.done ++ waiting_entries p.merge n ≡ log n (stamp_of n) H) (sym q)
        (log_own ∙ ap (λ (n : ℕ). log key.slot n H) (sym own_stamp)))
        (λ ne. can.at.heard.logs slot lt ne ∙ ap (λ (n : ℕ). log slot n H) (sym (other_stamp slot ne)))

    nil_left : (xs ys : List KeyedEntry) → [] ≡ xs ++ ys → ys ≡ []
    nil_left [] ys e = sym e
    nil_left (x ∷ xs) ys e = absurd cc

    none_waits : (slot : ℕ) → limits.slots ≤ slot → waiting_entries p.merge slot ≡ []
    none_waits slot le = ap (λ (q : Queue). map (slot_entry slot) q.entries)
        (get_or_past p.merge slot empty_queue (omega (arith, can.at.queues)))

    parts_of : (slot : ℕ) → of_slot slot can.at.left ≡ waiting_entries p.merge slot ++ more_of slot
    parts_of slot = dite (dec_lt slot limits.slots)
        (λ lt. append_cancel_left (of_slot slot can.at.done) (of_slot slot can.at.left) (waiting_entries p.merge slot ++ more_of slot)
        (sym (whole_of slot) ∙ (parts_by_stamp (stamp_of slot) (S slot) (order_of slot)
        ∙ (ap (λ (l : List KeyedEntry). l ++ more_of slot) (log_is slot (stamp_of slot) H ∙ sym (log_of slot lt))
        ∙ append_assoc (of_slot slot can.at.done) (waiting_entries p.merge slot) (more_of slot)))))
        (λ ge. let k = keeps V L r FitsView FitsLocal MayFollow Agrees law limits ranges (last limits) in
        let none : S slot ≡ [] = k.slots slot (omega arith) in
        nil_left (of_slot slot can.at.done) (of_slot slot can.at.left) (sym none ∙ whole_of slot)
        ∙ sym (ap (λ (l : List KeyedEntry). l ++ more_of slot) (none_waits slot (omega arith))
        ∙ ap (λ (l : List KeyedEntry). from_stamp (stamp_of slot) l) none))

    own_past : (es : List KeyedEntry) → Each (λ e. key.stamp ≤ e.key.stamp) es →
        Each (λ e. e.key.slot ≡ key.slot) es → Each (IsPast key) es
    own_past [] stamps own = tt
    own_past (e ∷ es) stamps own = (own_one e stamps.0 own.0, own_past es stamps.1 own.1) where
      own_one : (e : KeyedEntry) → key.stamp ≤ e.key.stamp → e.key.slot ≡ key.slot → IsPast key e
      own_one e le own = grind (arith, nat_tests)

    past_of : (slot : ℕ) → Each (IsPast key) (more_of slot)
    past_of slot = dite (dec_lt slot limits.slots)
        (λ lt. dite (ℕ_discrete slot key.slot)
        (λ q. let here : Each (λ e. key.stamp ≤ e.key.stamp) (from_stamp key.stamp (S slot)) = from_there key.stamp (S slot) in
        let own : Each (λ e. e.key.slot ≡ slot) (from_stamp key.stamp (S slot)) = each_filtered (λ e. e.key.slot ≡ slot) (λ e. not (nat_lt e.key.stamp key.stamp)) (S slot) (each_own slot H) in
        subst (λ (n : ℕ). Each (IsPast key) (from_stamp n (S slot))) (sym (ap stamp_of q ∙ own_stamp))
        (own_past (from_stamp key.stamp (S slot)) here (subst (λ (n : ℕ). Each (λ e. e.key.slot ≡ n) (from_stamp key.stamp (S slot))) q own)))
        (λ ne. let clock : ℕ = clock_heard p.heard slot in
        subst (λ (n : ℕ). Each (IsPast key) (from_stamp n (S slot))) (sym (other_stamp slot ne))
        (past_by key slot clock (from_stamp clock (S slot)) ne (can.enough.each slot lt ne) (from_there clock (S slot))
        (each_filtered (λ e. e.key.slot ≡ slot) (λ e. not (nat_lt e.key.stamp clock)) (S slot) (each_own slot H)))))
        (λ ge. let k = keeps V L r FitsView FitsLocal MayFollow Agrees law limits ranges (last limits) in
        let none : S slot ≡ [] = k.slots slot (omega arith) in
        subst (λ (l : List KeyedEntry). Each (IsPast key) (from_stamp (stamp_of slot) l)) (sym none) tt)

    pub waiting : HasWaiting key can.at.left (waiting_entries p.merge) more_of
    waiting = record {
      sorted = record { in_order = in_order_right can.at.done can.at.left (subst AreInOrder can.at.whole (sorted V L r FitsView FitsLocal MayFollow Agrees law limits ranges).in_order) };
      parts = parts_of;
      later = past_of;
    }

    least_head : (queues : List Queue) (k : Key) → AreNotBelow queues k → (slot : ℕ) (f : KeyedEntry)
        (fs : List KeyedEntry) → waiting_entries queues slot ≡ f ∷ fs → is_below f.key k ≡ false
    least_head queues k n slot f fs is =
        All-head (λ (e : KeyedEntry). is_below e.key k ≡ false) f fs (subst (λ (l : List KeyedEntry). All (λ (e : KeyedEntry). is_below e.key k ≡ false) l) is (n.each slot))

    pub next_left : (e : KeyedEntry) → IsLeast p.merge key e →
        (rest : List KeyedEntry) × (can.at.left ≡ e ∷ rest)
    next_left e l = next_is_least key can.at.left (waiting_entries p.merge) more_of e l.later waiting l.first l.below
        (least_head p.merge e.key l.least)

    pub next_joins : (e : KeyedEntry) → IsLeast p.merge key e → CanJoin r MayFollow p.view e.entry
    next_joins e l = let n = next_left e l in
        front_joins can.at.done n.0 e p.view (can.at.whole ∙ ap (λ (l : List KeyedEntry). can.at.done ++ l) n.1) can.at.view_is

    pub absorbed_next : (e : KeyedEntry) → IsLeast p.merge key e → (view : V) (mine : List KeyedEntry) →
        view ≡ r.absorb p.view e.key e.entry → mine ≡ p.mine ++ of_slot key.slot (e ∷ []) →
        CanAbsorb r FitsView limits key (record p { view = view; merge = after_take p.merge (Some e); mine = mine })
    absorbed_next e l view mine view_is mine_is =
        let n = next_left e l in
        let w = waited_first p.merge key e l in
        let joins = next_joins e l in
        let done : List KeyedEntry = can.at.done in
        record {
          number = can.number;
          live = can.live;
          lives = can.lives;
          key_is = can.key_is;
          at = record {
            done = done ++ e ∷ [];
            left = n.0;
            whole = can.at.whole ∙ (ap (λ (l : List KeyedEntry). done ++ l) n.1 ∙ sym (append_assoc done (e ∷ []) n.0));
            past = live_past (state_of r limits H key.slot p.moves).live (key_of key.slot (state_of r limits H key.slot p.moves)) (done ++ e ∷ [])
                (record {
                  each = each_append (λ x. is_below x.key (key_of key.slot (state_of r limits H key.slot p.moves)) ≡ true) done (e ∷ [])
                      (past_live (state_of r limits H key.slot p.moves).live can.live (key_of key.slot (state_of r limits H key.slot p.moves)) done can.lives can.at.past).each
                      (subst (λ (k : Key). is_below e.key k ≡ true) can.key_is l.below, tt);
                });
            view_is = view_is ∙ (ap (λ (v : V). r.absorb v e.key e.entry) can.at.view_is ∙ sym (view_after-append r r.fresh_view done (e ∷ [])));
            view_fits = subst FitsView (sym view_is) (law.absorb_fits p.view e.key e.entry can.at.view_fits joins);
            mine_is = mine_is ∙ (ap (λ (l : List KeyedEntry). l ++ of_slot key.slot (e ∷ [])) can.at.mine_is
                ∙ sym (filter-append (λ (x : KeyedEntry). nat_eq x.key.slot key.slot) done (e ∷ [])));
            own = own_moved p.merge key e done key.slot l ∙ can.at.own;
            last = omega (arith, last_kept p.merge key e key.slot l, can.at.last);
            heard = record {
              logs = λ slot lt ne. own_moved p.merge key e done slot l ∙ can.at.heard.logs slot lt ne;
              counts = can.at.heard.counts;
              last = λ slot lt ne. omega (arith, last_kept p.merge key e slot l, can.at.heard.last slot lt ne);
              size = can.at.heard.size;
            };
            queues = w.slots ∙ can.at.queues;
          };
          enough = record { each = can.enough.each };
        }

    pub absorbed_all : AreNotBelow p.merge key → HasAbsorbed r FitsView limits key p p
    absorbed_all none =
        let left = none_left_below key can.at.left (waiting_entries p.merge) more_of waiting (least_head p.merge key none) in
        let past = (past_live (state_of r limits H key.slot p.moves).live can.live (key_of key.slot (state_of r limits H key.slot p.moves)) can.at.done can.lives can.at.past).each in
        let is = done_is_below key H can.at.done can.at.left can.at.whole
        (subst (λ (k : Key). Each (λ e. is_below e.key k ≡ true) can.at.done) (sym can.key_is) past) left in
        record {
          at = can.at;
          view_is = can.at.view_is ∙ ap (view_of r) is;
          done_is = is;
          heard_stays = refl;
          slot_stays = refl;
          moves_stay = refl;
        }

-- how many entries wait in all
abbrev pub total : List Queue → ℕ
total [] = 0
total (q ∷ qs) = length q.entries + total qs

pub total_set : (queues : List Queue) (slot : ℕ) (q : Queue) → slot < length queues →
    total (set queues slot q) + length (queue_of queues slot).entries ≡ total queues + length q.entries
total_set [] slot q lt = absurd (omega arith)
total_set (x ∷ xs) zero q lt = omega arith
total_set (x ∷ xs) (suc slot) q lt = let rest = total_set xs slot q (omega arith) in omega (arith, rest)

dropped : (slot : ℕ) (items : List Stamped) (e : KeyedEntry) (later : List KeyedEntry) →
    map (slot_entry slot) items ≡ e ∷ later → length (drop 1 items) + 1 ≡ length items
dropped slot [] e later is = absurd cc
dropped slot (item ∷ items) e later is = omega arith

pub total_less : (queues : List Queue) (key : Key) (e : KeyedEntry) → IsLeast queues key e →
    total (after_take queues (Some e)) < total queues
total_less queues key e l =
    let q : Queue = queue_of queues e.key.slot in
    let t = total_set queues e.key.slot (without_first q) l.within in
    let d = dropped e.key.slot q.entries e l.later l.first in
    omega (arith, t, d)
