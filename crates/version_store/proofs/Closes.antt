-- The last part of a move before its chunk: its entries may be put, and the carrier comes to stand
-- at its next move.
use Rattle.std.proofs.Common.{ℕ, suc, ◌+◌, ◌-◌, ◌<◌, ◌≤◌, ◌^◌, ◌≡◌, true, List, [], ◌∷◌, ◌++◌, length, map, Option, Some, None, Result, Ok, Err, inl, inr, refl, sym, ap, ◌∙◌, subst, append_assoc, arith}
use Rattle.std.specs.Prelude.{All, IsErr, nat_le}
use Rattle.std.proofs.lemmas.List.{append-nil, length-append}
use Rattle.std.proofs.lemmas.List.Elements.{All-tail}
use Rattle.clock_words.specs.Clocks.{IsStamp}
use Rattle.clock_words.specs.Seats.{BoardView, SeatView, own_list}
use Rattle.clock_words.specs.Stories.{due}
use Rattle.clock_words.specs.declared.story.StampedWord.{StampedWord}
use Rattle.clock_words.proofs.DueWords.{due_words_most}
use Rattle.commit_order.specs.Merges.{slot_entry, waiting_entries}
use Rattle.commit_order.specs.Queues.{Queue, queue_of}
use Rattle.ip_core.specs.declared.memory.OutOfMemory.{OutOfMemory}
use Rattle.stamp_machine.specs.Kept.{IsPast}
use Rattle.stamp_machine.specs.Machine.{final, fits, slot_after_chunk, slot_after_join, turn, turn_of_begin, turn_while_live}
use Rattle.stamp_machine.specs.Openings.{CanRun, CanRunAfter, prefixed, turn_of_opening}
use Rattle.stamp_machine.specs.Orders.{IsNotLess}
use Rattle.stamp_machine.specs.Ranges.{IsKeptByHistory}
use Rattle.stamp_machine.specs.Runs.{below, entries_by, of_slot, state_of, turn_in}
use Rattle.stamp_machine.specs.Slots.{key_of}
use Rattle.stamp_machine.specs.declared.limits.Limits.{Limits}
use Rattle.stamp_machine.specs.declared.opening.Turn.{Turn}
use Rattle.stamp_machine.specs.declared.slot.Live.{Live}
use Rattle.stamp_machine.specs.declared.slot.Slot.{Slot}
use Rattle.stamp_machine.proofs.Choices.{by_test}
use Rattle.stamp_machine.proofs.Follows.{under-append}
use Rattle.stamp_machine.proofs.Occurrences.{ends_known, logs_known}
use Rattle.stamp_machine.proofs.Orders.{each_map, each_under, less_test}
use Rattle.stamp_machine.proofs.Ranges.{low_clocks, own_moves_keep}
use Rattle.work_stamp.specs.Histories.{under}
use Rattle.work_stamp.specs.Keys.{is_below}
use Rattle.work_stamp.specs.Taskers.{HaveWords, IsLawful, Rules, Standing}
use Rattle.work_stamp.specs.Writable.{HasWords}
use Rattle.work_stamp.specs.declared.entry.Entry.{Entry}
use Rattle.work_stamp.specs.declared.key.Key.{Key}
use Rattle.work_stamp.specs.declared.stamped.KeyedEntry.{KeyedEntry}
use Rattle.work_stamp.specs.declared.task.Begin.{Begin}
use Rattle.work_stamp.specs.declared.task.Begin.TheVariants.{Take, Idle, End}
use Rattle.version_store.specs.Advances.{has_live}
use Rattle.version_store.specs.Carriers.{AreBelow, AreBelowWhileLive, AreFewWhileLive, HasBegun, HasFetched, IsAtMove, IsSeated, IsStanding, clock_heard, clock_while_live, seat_clock}
use Rattle.version_store.specs.Closing.{AreUpTo, CloseFails, GoesAt, HasClosed, IsClosed, IsOpening, StaysOpen, opening_of, slot_before}
use Rattle.version_store.specs.Hearing.{after_feeds}
use Rattle.version_store.specs.Publishing.{CanPublish, HasPublished, IsPutting}
use Rattle.version_store.specs.Stories.{entry_list, stamped}
use Rattle.version_store.specs.declared.playing.Playing.{Playing}
use Rattle.version_store.specs.declared.playing.Start.{Start}
use Rattle.version_store.specs.declared.playing.Start.TheVariants as start
use Rattle.version_store.proofs.EntryWords.{due_is_length, entry_list-append, log_is}
use Rattle.version_store.proofs.Hears.{run_history}
use Rattle.version_store.proofs.NextWords.{HasRest, has_rest, next_words, own_words}
use Rattle.version_store.proofs.HearsAll.{AreFed, all_fed, own_again, stamps_again}

-- no move turns a clock back
module _ {V L : Type 0} (r : Rules V L) (limits : Limits) where
  begin_never_falls : (slot : Slot L) (pending : List Entry) (local : L) (b : Begin) →
      slot.clock ≤ (turn_of_begin r limits slot pending local b).slot.clock
  begin_never_falls slot pending local End = omega arith
  begin_never_falls slot pending local Idle = omega arith
  begin_never_falls slot pending local (Take es) =
      by_test (λ (t : Turn L). slot.clock ≤ t.slot.clock) (fits limits slot.words es) _ _
      (λ e. omega arith) (λ e. omega arith)

  live_never_falls : (number : ℕ) (view : V) (slot : Slot L) (live : Option (Live L)) →
      slot.clock ≤ (turn_while_live r limits number view slot live).slot.clock
  live_never_falls number view slot None = omega arith
  live_never_falls number view slot (Some live) =
      by_test (λ (t : Turn L). slot.clock ≤ t.slot.clock) (nat_le limits.work slot.clock) _ _
      (λ e. omega arith)
      (λ e. by_test (λ (t : Turn L). slot.clock ≤ t.slot.clock) (fits limits slot.words live.pending) _ _
      (λ e. by_test (λ (t : Turn L). slot.clock ≤ t.slot.clock) (r.at_start live.local) _ _
      (λ e. begin_never_falls (slot_after_join slot live) live.pending _ _)
      (λ e. omega arith))
      (λ e. omega arith))

  never_falls : (number : ℕ) (view : V) (slot : Slot L) →
      slot.clock ≤ (turn r limits number view slot).slot.clock
  never_falls number view slot = live_never_falls number view slot slot.live

words_right : (xs ys : List Entry) → All HasWords (xs ++ ys) → All HasWords ys
words_right [] ys h = h
words_right (x ∷ xs) ys h = words_right xs ys (All-tail HasWords x (xs ++ ys) h)

-- the slot after a part of a move, its chunk included
abbrev pub slot_then : {V L : Type 0} → Rules V L → Slot L → Option L → Slot L
slot_then r slot None = slot
slot_then r slot (Some local) = slot_after_chunk r slot local

turn_then : {V L : Type 0} (r : Rules V L) (joined es : List Entry) (slot : Slot L)
    (local : Option L) → prefixed joined (turn_of_opening r (opening_of es slot local)) ≡
    record { entries = joined ++ es; slot = slot_then r slot local }
turn_then r joined es slot None = refl
turn_then r joined es slot (Some local) = refl

-- keys up to one lie below a later one
below_later : (key next : Key) → key.stamp < next.stamp → (done : List KeyedEntry) →
    AreUpTo key done → AreBelow next done
below_later key next lt done h = record {
  each = each_map (λ (e : KeyedEntry). IsNotLess key e.key) (λ (e : KeyedEntry). is_below e.key next ≡ true)
      done (λ e n. less_test e.key next (record {
        stamps = omega (arith, n.stamps, lt);
        slots = λ le. absurd (omega (arith, n.stamps, lt, le));
      })) h.each;
}

past_later : {L : Type 0} (live : Option (Live L)) (key next : Key) (done : List KeyedEntry) →
    IsPast key.stamp next.stamp live → AreUpTo key done → AreBelowWhileLive live next done
past_later None key next done past h = tt
past_later (Some live) key next done past h = below_later key next past done h

few_later : {L : Type 0} (live : Option (Live L)) (moves before clock : ℕ) → moves ≤ before →
    IsPast before clock live → AreFewWhileLive (suc moves) clock live
few_later None moves before clock le past = tt
few_later (Some live) moves before clock le past = omega (arith, le, past)

clock_later : {L : Type 0} (live : Option (Live L)) (before clock : ℕ) → IsPast before clock live →
    has_live live ≡ true → before < clock
clock_later None before clock past lives = absurd cc
clock_later (Some live) before clock past lives = past

stamp_fits : {L : Type 0} (live : Option (Live L)) (clock : ℕ) → clock < 2 ^ 41 - 1 →
    IsStamp (clock_while_live clock live)
stamp_fits None clock low = inr refl
stamp_fits (Some live) clock low = inl low

stamp_rises : {L : Type 0} (live : Option (Live L)) (own clock : ℕ) → own ≤ clock →
    clock < 2 ^ 41 - 1 → own ≤ clock_while_live clock live
stamp_rises None own clock le low = omega (arith, le, low)
stamp_rises (Some live) own clock le low = le

module _ (V L : Type 0) (r : Rules V L) (FitsView : V → Type 0) (FitsLocal : L → Type 0)
    (MayFollow : List KeyedEntry → Entry → Type 0)
    (Agrees : List KeyedEntry → List (Option (Standing L)) → Type 0)
    (law : IsLawful r FitsView FitsLocal MayFollow Agrees) (limits : Limits) (seat : SeatView)
    (p : Playing V L) (es : List Entry) (local : Option L)
    (o : IsOpening r FitsView FitsLocal limits seat p (opening_of es p.slot local)) where
  abbrev H : List KeyedEntry
  H = (final r limits).entries

  abbrev before : Slot L
  before = slot_before r limits seat.slot p

  abbrev next : Slot L
  next = state_of r limits H seat.slot (suc p.moves)

  abbrev K : Key
  K = key_of seat.slot before

  -- what the slot has published up to now, and what it publishes now
  abbrev old_entries : List KeyedEntry
  old_entries = entries_by r limits H seat.slot p.moves ++ under K o.joined

  abbrev next_entries : List KeyedEntry
  next_entries = entries_by r limits H seat.slot (suc p.moves)

  turn_is : turn_in r limits H seat.slot before ≡
      record { entries = o.joined ++ es; slot = slot_then r p.slot local }
  turn_is = o.parts ∙ turn_then r o.joined es p.slot local

  state_next : next ≡ slot_then r p.slot local
  state_next = ap (λ (t : Turn L). t.slot) turn_is

  entries_next : next_entries ≡ old_entries ++ under K es
  entries_next =
      let A : List KeyedEntry = entries_by r limits H seat.slot p.moves in
      ap (λ (t : Turn L). A ++ under K t.entries) turn_is
      ∙ (ap (λ (l : List KeyedEntry). A ++ l) (under-append K o.joined es)
      ∙ sym (append_assoc A (under K o.joined) (under K es)))

  -- the slot's entries begin with what it has published after the move
  abbrev rest_next : HasRest V L r FitsView FitsLocal MayFollow Agrees law limits o.ranges seat.slot o.number (suc p.moves)
  rest_next = has_rest V L r FitsView FitsLocal MayFollow Agrees law limits o.ranges seat.slot o.number (suc p.moves)

  words_are : own_list seat ≡ entry_list (of_slot seat.slot H)
  words_are = own_words V L r FitsView FitsLocal MayFollow Agrees law limits o.ranges seat.slot o.number seat refl o.seated.story

  words_next : entry_list next_entries ≡ entry_list old_entries ++ entry_list (under K es)
  words_next = ap entry_list entries_next ∙ entry_list-append old_entries (under K es)

  kept : IsKeptByHistory r FitsView FitsLocal MayFollow Agrees limits (below K H) seat.slot before
  kept = own_moves_keep V L r FitsView FitsLocal MayFollow Agrees law limits o.ranges seat.slot p.moves o.live o.number o.lives

  have_words : HaveWords es
  have_words = record {
    each = words_right o.joined es (subst (λ (t : Turn L). All HasWords t.entries) turn_is kept.keeps.words.each);
  }

  can_publish : CanPublish K seat es
  can_publish = next_words V L r FitsView FitsLocal MayFollow Agrees law limits o.ranges seat.slot o.number p.moves o.joined es []
      (ap (λ (t : Turn L). t.entries) turn_is ∙ ap (λ (l : List Entry). o.joined ++ l) (sym (append-nil es)))
      seat refl o.seated have_words

  risen : IsPast before.clock next.clock next.live
  risen = kept.keeps.rises

  not_earlier : before.clock ≤ next.clock
  not_earlier = never_falls r limits seat.slot _ before

  low : next.clock < 2 ^ 41 - 1
  low = let most = (low_clocks V L r FitsView FitsLocal MayFollow Agrees law limits o.ranges).slots seat.slot (suc p.moves) o.number in
      omega (arith, most, o.ranges.little_work)

  -- the carrier with what waits after the entries were put, at the next move
  module _ (after : List Queue)
      (fed : after ≡ after_feeds p.merge seat.slot (map stamped (under K es))) where
    are_fed : AreFed p.merge seat.slot (map stamped (under K es)) after
    are_fed = subst (AreFed p.merge seat.slot (map stamped (under K es))) (sym fed)
        (all_fed p.merge seat.slot (map stamped (under K es))
        (subst (λ (n : ℕ). seat.slot < n) (sym o.amid.queues) o.number))

    own_next : of_slot seat.slot o.amid.done ++ waiting_entries after seat.slot ≡ next_entries
    own_next =
        let D : List KeyedEntry = of_slot seat.slot o.amid.done in
        let W : List KeyedEntry = waiting_entries p.merge seat.slot in
        let U : List KeyedEntry = under K es in
        let again : map (slot_entry seat.slot) (map stamped U) ≡ U =
        own_again seat.slot U (each_under (λ (k : Key). k.slot ≡ seat.slot) K es refl) in
        ap (λ (l : List KeyedEntry). D ++ l) (are_fed.own ∙ ap (λ (l : List KeyedEntry). W ++ l) again)
        ∙ (sym (append_assoc D W U)
        ∙ (ap (λ (l : List KeyedEntry). l ++ U) o.amid.own ∙ sym entries_next))

    last_next : (queue_of after seat.slot).last_stamp ≤ next.clock
    last_next =
        let le = are_fed.last before.clock o.amid.last (stamps_again before.clock (under K es)
        (each_under (λ (k : Key). k.stamp ≤ before.clock) K es (omega arith))) in
        omega (arith, le, not_earlier)

    at_next : IsAtMove r FitsView limits seat.slot (record p { merge = after; moves = suc p.moves })
    at_next = record {
      done = o.amid.done;
      left = o.amid.left;
      whole = o.amid.whole;
      past = past_later next.live K (key_of seat.slot next) o.amid.done risen o.amid.past;
      view_is = o.amid.view_is;
      view_fits = o.amid.view_fits;
      mine_is = o.amid.mine_is;
      own = own_next;
      last = last_next;
      heard = record {
        logs = λ slot lt apart.
            ap (λ (q : Queue). of_slot slot o.amid.done ++ map (slot_entry slot) q.entries) (are_fed.others slot apart)
            ∙ o.amid.heard.logs slot lt apart;
        counts = o.amid.heard.counts;
        last = λ slot lt apart. subst (λ (q : Queue). q.last_stamp ≤ clock_heard p.heard slot)
            (sym (are_fed.others slot apart)) (o.amid.heard.last slot lt apart);
        size = o.amid.heard.size;
      };
      queues = are_fed.slots ∙ o.amid.queues;
    }

  few_next : AreFewWhileLive (suc p.moves) next.clock next.live
  few_next = few_later next.live p.moves before.clock next.clock o.few risen

  -- all words of the slot that are due at the clock after the move were put
  module _ (written : ℕ) (put : written ≡ seat.written + length (entry_list (under K es))) where
    put_next : written ≡ length (entry_list next_entries)
    put_next =
        let size : length (entry_list next_entries) ≡ length (entry_list old_entries) + length (entry_list (under K es)) =
        ap length words_next ∙ length-append (entry_list old_entries) (entry_list (under K es)) in
        omega (arith, put, o.seated.put, size)

    seated_next : (own clock : ℕ) → own ≡ clock →
        IsSeated r limits (record seat { own = own; written = written }) clock next_entries
    seated_next own clock is = record {
      owns = record {
        same = o.seated.owns.same;
        own_slot = o.seated.owns.own_slot;
        size = o.seated.owns.size;
        looks_size = o.seated.owns.looks_size;
        fetched_size = o.seated.owns.fetched_size;
      };
      story = o.seated.story;
      own = is;
      put = put_next;
    }

    fetched_next : (own : ℕ) →
        HasFetched limits.slots (record seat { own = own; written = written }) p.heard
    fetched_next own = record { clocks = o.fetched.clocks; words = o.fetched.words }

    due_by : (live : Option (Live L)) → next.live ≡ live →
        due (own_list seat) (clock_while_live next.clock live) ≤ written
    due_by None over =
        let known = ends_known V L r FitsView FitsLocal MayFollow Agrees law limits o.ranges seat.slot (suc p.moves) o.number over in
        let size : length (own_list seat) ≡ length (entry_list next_entries) = ap length (words_are ∙ ap entry_list known) in
        let most = due_words_most (own_list seat) (2 ^ 62) in
        omega (arith, size, most, put_next)
    due_by (Some live) lives =
        let known = logs_known V L r FitsView FitsLocal MayFollow Agrees law limits o.ranges seat.slot (suc p.moves) live o.number lives in
        let order = ((run_history V L r FitsView FitsLocal MayFollow Agrees law limits o.ranges).sorted seat.slot).in_order in
        let all : due (own_list seat) next.clock ≡ length (entry_list next_entries) =
        ap (λ (l : List StampedWord). due l next.clock) words_are
        ∙ (due_is_length next.clock (of_slot seat.slot H) order
        ∙ ap (λ (l : List KeyedEntry). length (entry_list l)) (log_is seat.slot next.clock H ∙ known.at_clock)) in
        omega (arith, all, put_next)

    due_next : due (own_list seat) (seat_clock next) ≤ written
    due_next = due_by next.live refl

    short : written < 2 ^ 23
    short =
        let all = (run_history V L r FitsView FitsLocal MayFollow Agrees law limits o.ranges).short seat.slot in
        let size : length (entry_list (of_slot seat.slot H)) ≡ length (entry_list next_entries) + length (entry_list rest_next.rest) =
        ap length (ap entry_list rest_next.whole ∙ entry_list-append next_entries rest_next.rest)
        ∙ length-append (entry_list next_entries) (entry_list rest_next.rest) in
        omega (arith, all, size, put_next)

  pub can_publish_at : (key : Key) → key ≡ K → CanPublish key seat es
  can_publish_at key is = subst (λ (k : Key). CanPublish k seat es) (sym is) can_publish

  pub moves_fit : p.moves + 1 < 2 ^ 64
  moves_fit = omega (arith, o.few, not_earlier, low)

  -- after the entries were put
  module _ (board : BoardView) (key : Key) (is : key ≡ K) (seat' : SeatView) (after : List Queue)
      (putting : IsPutting board seat seat')
      (published : HasPublished key seat seat' p.merge after es) where
    abbrev q : ℕ → Playing V L
    q moves = record p { merge = after; moves = moves }

    counted : suc p.moves ≡ p.moves + 1
    counted = omega arith

    written : seat'.written ≡ seat.written + length (entry_list (under K es))
    written = published.put ∙ ap (λ (k : Key). seat.written + length (entry_list (under k es))) is

    fed : after ≡ after_feeds p.merge seat.slot (map stamped (under K es))
    fed = published.queues_are ∙ ap (λ (k : Key). after_feeds p.merge k.slot (map stamped (under k es))) is

    same_own : seat'.own ≡ seat.own
    same_own = ap (λ (s : SeatView). s.own) putting.same

    same_list : own_list seat' ≡ own_list seat
    same_list = ap own_list putting.same

    -- a slot that goes on with a chunk
    module _ (x : L) (goes : local ≡ Some x) where
      goes_next : next ≡ slot_after_chunk r p.slot x
      goes_next = state_next ∙ ap (slot_then r p.slot) goes

      can_run : CanRun r FitsLocal p.slot x
      can_run = subst (λ (l : Option L). CanRunAfter r FitsLocal (opening_of es p.slot l)) goes o.can

      clock_is : p.slot.clock ≡ before.clock
      clock_is = subst (λ (l : Option L). GoesAt before.clock (opening_of es p.slot l)) goes o.clock

      begun_at : HasBegun r FitsView FitsLocal limits (record seat { own = seat.own; written = seat'.written })
          (q (suc p.moves)) x
      begun_at = record {
        ranges = o.ranges;
        number = o.number;
        can = can_run;
        state = sym goes_next;
        few = subst (λ (s : Slot L). AreFewWhileLive (suc p.moves) s.clock s.live) goes_next few_next;
        at = at_next after fed;
        seated = seated_next seat'.written written seat.own p.slot.clock (o.seated.own ∙ sym clock_is);
        fetched = fetched_next seat'.written written seat.own;
        low = subst (λ (s : Slot L). s.clock < 2 ^ 41 - 1) goes_next low;
        put = subst (λ (s : Slot L). due (own_list seat) (seat_clock s) ≤ seat'.written) goes_next
            (due_next seat'.written written);
        short = short seat'.written written;
      }

      begun : HasBegun r FitsView FitsLocal limits seat' (q (p.moves + 1)) x
      begun = subst (λ (n : ℕ). HasBegun r FitsView FitsLocal limits seat' (q n) x) counted
          (subst (λ (s : SeatView). HasBegun r FitsView FitsLocal limits s (q (suc p.moves)) x)
          (sym putting.same) begun_at)

      pub goes_on : HasClosed r FitsView FitsLocal limits seat' seat.slot p
          (Ok (start.Goes (q (p.moves + 1)) x))
      goes_on = StaysOpen (q (p.moves + 1)) x refl begun (sym goes_next) refl refl
          (subst (λ (s : Slot L). has_live s.live ≡ true → before.clock < s.clock) goes_next
          (clock_later next.live before.clock next.clock risen) refl)

    -- a slot that waits or is over
    module _ (ends : local ≡ None) (stamp : ℕ) (stamp_is : stamp ≡ seat_clock p.slot) where
      ends_next : next ≡ p.slot
      ends_next = state_next ∙ ap (slot_then r p.slot) ends

      stamp_next : seat_clock next ≡ stamp
      stamp_next = ap seat_clock ends_next ∙ sym stamp_is

      pub raise_stamp : IsStamp stamp
      raise_stamp = subst IsStamp stamp_next (stamp_fits next.live next.clock low)

      pub raise_later : seat'.own ≤ stamp
      raise_later =
          let le = stamp_rises next.live before.clock next.clock not_earlier low in
          omega (arith, le, stamp_next, same_own, o.seated.own)

      pub raise_put : due (own_list seat') stamp ≤ seat'.written
      raise_put = subst (λ (n : ℕ). due (own_list seat') n ≤ seat'.written) stamp_next
          (subst (λ (l : List StampedWord). due l (seat_clock next) ≤ seat'.written) (sym same_list)
          (due_next seat'.written written))

      stands_at : IsStanding r FitsView limits (record seat { own = stamp; written = seat'.written })
          (q (suc p.moves))
      stands_at = record {
        ranges = o.ranges;
        number = o.number;
        state = sym ends_next;
        few = subst (λ (s : Slot L). AreFewWhileLive (suc p.moves) s.clock s.live) ends_next few_next;
        at = at_next after fed;
        seated = seated_next seat'.written written stamp (seat_clock p.slot) stamp_is;
        fetched = fetched_next seat'.written written stamp;
      }

      pub ends_here : (new : SeatView) → new ≡ record seat' { own = stamp } →
          HasClosed r FitsView FitsLocal limits new seat.slot p (Ok (start.Done (q (p.moves + 1))))
      ends_here new raised =
          let same : new ≡ record seat { own = stamp; written = seat'.written } = raised
          ∙ ap (λ (s : SeatView). let x : SeatView = record s { own = stamp } in x) putting.same in
          IsClosed (q (p.moves + 1)) refl
          (subst (λ (n : ℕ). IsStanding r FitsView limits new (q n)) counted
          (subst (λ (s : SeatView). IsStanding r FitsView limits s (q (suc p.moves))) (sym same) stands_at))
          (sym ends_next) refl refl
          (subst (λ (s : Slot L). has_live s.live ≡ true → before.clock < s.clock) ends_next
          (clock_later next.live before.clock next.clock risen))

-- want of memory
pub fails : {V L : Type 0} (r : Rules V L) (FitsView : V → Type 0) (FitsLocal : L → Type 0)
    (limits : Limits) (new : SeatView) (number : ℕ) (p : Playing V L)
    (result : Result (Start V L) OutOfMemory) → IsErr result →
    HasClosed r FitsView FitsLocal limits new number p result
fails r FitsView FitsLocal limits new number p (Ok x) e = absurd cc
fails r FitsView FitsLocal limits new number p (Err x) e = CloseFails x refl
