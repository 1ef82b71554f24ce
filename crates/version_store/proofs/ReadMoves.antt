-- A move that reads the history: what is pending joins behind what was absorbed.
use Rattle.std.proofs.Common.{ℕ, ◌+◌, ◌≡◌, ◌-◌, ◌≤◌, ◌≢◌, Bool, true, List, [], ◌++◌, length, Option, Some, Result, refl, sym, ap, ◌∙◌, subst, append_assoc, arith}
use Rattle.std.specs.Prelude.{if◌then◌else◌, nat_eq}
use Rattle.std.proofs.lemmas.List.{append-nil, append_cancel_left, length-append}
use Rattle.std.proofs.lemmas.List.Elements.{filter-append}
use Rattle.clock_words.specs.Seats.{BoardView, SeatView}
use Rattle.commit_order.specs.Merges.{waiting_entries}
use Rattle.commit_order.specs.Queues.{Queue}
use Rattle.ip_core.specs.declared.memory.OutOfMemory.{OutOfMemory}
use Rattle.stamp_machine.specs.Kept.{IsFittingWhileLive}
use Rattle.stamp_machine.specs.Machine.{final}
use Rattle.stamp_machine.specs.Merges.{reads}
use Rattle.stamp_machine.specs.Openings.{pending_opening, prefixed, task_opening, turn_from, turn_of_opening}
use Rattle.stamp_machine.specs.Orders.{Each, IsNotLess}
use Rattle.stamp_machine.specs.Plays.{CanGrow, with_entries}
use Rattle.stamp_machine.specs.Runs.{below, entries_by, of_slot, turn_in}
use Rattle.stamp_machine.specs.Slots.{key_of}
use Rattle.stamp_machine.specs.declared.limits.Limits.{Limits}
use Rattle.stamp_machine.specs.declared.opening.Opening.{Opening}
use Rattle.stamp_machine.specs.declared.opening.Opening.TheVariants as opening
use Rattle.stamp_machine.specs.declared.opening.Turn.{Turn}
use Rattle.stamp_machine.specs.declared.play.HistoryView.{HistoryView}
use Rattle.stamp_machine.specs.declared.slot.Live.{Live}
use Rattle.stamp_machine.specs.declared.slot.Slot.{Slot}
use Rattle.stamp_machine.proofs.Follows.{under-append, view_after-append}
use Rattle.stamp_machine.proofs.Histories.{other_slot, own_slot}
use Rattle.stamp_machine.proofs.Merges.{sides}
use Rattle.stamp_machine.proofs.Occurrences.{fronts_after, logs_known}
use Rattle.stamp_machine.proofs.Openings.{IsGoing, begun_grows, can_work, going, parts, pending_grows}
use Rattle.stamp_machine.proofs.Orders.{each_append, each_under, same_not_less}
use Rattle.work_stamp.specs.Histories.{under}
use Rattle.work_stamp.specs.Taskers.{HaveWords, IsLawful, Rules, Standing, view_after, view_of}
use Rattle.work_stamp.specs.declared.entry.Entry.{Entry}
use Rattle.work_stamp.specs.declared.key.Key.{Key}
use Rattle.work_stamp.specs.declared.stamped.KeyedEntry.{KeyedEntry}
use Rattle.version_store.specs.Absorbing.{CanAbsorb, HasAbsorbed}
use Rattle.version_store.specs.Advances.{has_live, pending_while_live, view_read}
use Rattle.version_store.specs.Carriers.{AreBelow, HasFetched, IsSeated, IsStanding}
use Rattle.version_store.specs.Closing.{HasClosed, IsAmidMove, opening_of, slot_before}
use Rattle.version_store.specs.Hearing.{IsAllEnough}
use Rattle.version_store.specs.Moving.{CanBegin, HasMoved}
use Rattle.version_store.specs.Publishing.{CanJoinAll, CanPublish, HasJoined, IsPutting}
use Rattle.version_store.specs.Stories.{entry_list}
use Rattle.version_store.specs.declared.heard.Heard.{Heard}
use Rattle.version_store.specs.declared.playing.Playing.{Playing}
use Rattle.version_store.specs.declared.playing.Start.{Start}
use Rattle.version_store.proofs.EntryWords.{entry_list-append}
use Rattle.version_store.proofs.Moves.{below_live, closed_moves, few, kept, live, lives, own_clock, up_to}
use Rattle.version_store.proofs.NextWords.{next_words}

-- a part of a move after which the slot goes on
pub goes_on : {L : Type 0} (limits : Limits) (before slot : Slot L) (opened : Opening L)
    (es : List Entry) (after : Option L) (local : L) → opened ≡ pending_opening limits before →
    opening_of es slot after ≡ opened → after ≡ Some local →
    pending_opening limits before ≡ opening.Goes (record { entries = es; slot = slot }) local
goes_on limits before slot opened es after local is parts_are some =
    sym (ap (opening_of es slot) (sym some) ∙ (parts_are ∙ is))

module _ (V L : Type 0) (r : Rules V L) (FitsView : V → Type 0) (FitsLocal : L → Type 0)
    (MayFollow : List KeyedEntry → Entry → Type 0)
    (Agrees : List KeyedEntry → List (Option (Standing L)) → Type 0)
    (law : IsLawful r FitsView FitsLocal MayFollow Agrees) (limits : Limits) (seat : SeatView)
    (p : Playing V L) (s : IsStanding r FitsView limits seat p)
    (alive : has_live p.slot.live ≡ true) (key : Key) (key_is : key ≡ key_of seat.slot p.slot) where
  abbrev H : List KeyedEntry
  H = (final r limits).entries

  abbrev number : ℕ
  number = seat.slot

  abbrev before : Slot L
  before = slot_before r limits number p

  abbrev K : Key
  K = key_of number before

  abbrev D : List KeyedEntry
  D = below K H

  -- what the slot has published before the move
  abbrev A : List KeyedEntry
  A = entries_by r limits H number p.moves

  abbrev its : Live L
  its = live V L r FitsView FitsLocal MayFollow Agrees law limits seat p s alive

  its_live : before.live ≡ Some its
  its_live = lives V L r FitsView FitsLocal MayFollow Agrees law limits seat p s alive

  same_key : key ≡ K
  same_key = key_is ∙ ap (λ (x : Slot L). key_of number x) s.state

  pub can_absorb : IsAllEnough limits.slots key p.heard → CanAbsorb r FitsView limits key p
  can_absorb = subst (λ (k : Key). IsAllEnough limits.slots k p.heard → CanAbsorb r FitsView limits k p)
      (sym same_key) (λ enough. record {
        number = s.number;
        live = its;
        lives = its_live;
        key_is = refl;
        at = s.at;
        enough = enough;
      })

  -- all below the key was absorbed
  module _ (reading : reads r limits p.slot ≡ true) (q : Playing V L)
      (absorbed : HasAbsorbed r FitsView limits key p q) where
    abbrev Q : Playing V L
    Q = record q { moves = p.moves }

    same_moves : q ≡ Q
    same_moves = ap (λ (n : ℕ). let x : Playing V L = record q { moves = n } in x) absorbed.moves_stay

    all_below : HasAbsorbed r FitsView limits K p Q
    all_below = subst (λ (k : Key). HasAbsorbed r FitsView limits k p Q) same_key
        (subst (λ (x : Playing V L). HasAbsorbed r FitsView limits key p x) same_moves absorbed)

    slot_still : q.slot ≡ before
    slot_still = absorbed.slot_stays ∙ s.state

    pub fits_still : IsFittingWhileLive FitsLocal q.slot.live
    fits_still = subst (λ (x : Slot L). IsFittingWhileLive FitsLocal x.live) (sym slot_still)
        (kept V L r FitsView FitsLocal MayFollow Agrees law limits seat p s alive).can.fits

    pub store_still : q.slot.words ≤ limits.store - 4
    store_still = subst (λ (x : Slot L). x.words ≤ limits.store - 4) (sym slot_still)
        (kept V L r FitsView FitsLocal MayFollow Agrees law limits seat p s alive).can.store

    -- what is pending may join
    module _ (es : List Entry) (slot : Slot L) (local : L)
        (goes : pending_opening limits q.slot ≡ opening.Goes (record { entries = es; slot = slot }) local) where
      abbrev t : Turn L
      t = record { entries = es; slot = slot }

      abbrev U : List KeyedEntry
      U = under K es

      abbrev so_far : HistoryView V
      so_far = record { entries = D; view = view_of r D }

      -- the view when what was pending joined
      abbrev seen : V
      seen = view_after r (view_of r D) U

      abbrev begun : Turn L
      begun = turn_of_opening r (task_opening r limits seen slot local)

      goes_before : pending_opening limits before ≡ opening.Goes t local
      goes_before = ap (λ (x : Slot L). pending_opening limits x) (sym slot_still) ∙ goes

      start : r.at_start local ≡ true
      start = sym ((parts r limits).starts before t local goes_before)
          ∙ (ap (λ (x : Slot L). reads r limits x) (sym s.state) ∙ reading)

      g : IsGoing limits before before.live t local
      g = going limits before t local goes_before

      whole : turn_in r limits H number before ≡ turn_from r limits K (view_of r D) (opening.Goes t local)
      whole = (parts r limits).whole number (view_of r D) before
          ∙ ap (λ (o : Opening L). turn_from r limits K (view_of r D) o) goes_before

      grow_whole : CanGrow r FitsView MayFollow so_far K (turn_from r limits K (view_of r D) (opening.Goes t local)).entries
      grow_whole = subst (λ (w : Turn L). CanGrow r FitsView MayFollow so_far K w.entries) whole
          (kept V L r FitsView FitsLocal MayFollow Agrees law limits seat p s alive).can.grow

      grow : CanGrow r FitsView MayFollow so_far K es
      grow = pending_grows V L r FitsView FitsLocal MayFollow Agrees law limits so_far K t local grow_whole

      started : turn_in r limits H number before ≡ prefixed es begun
      started = whole ∙ ap (λ (b : Bool). if b then prefixed es begun else turn_of_opening r (opening.Goes t local)) start

      entries_are : (turn_in r limits H number before).entries ≡ es ++ begun.entries
      entries_are = ap (λ (w : Turn L). w.entries) started

      have_words : HaveWords es
      have_words = subst (λ (w : Turn L). HaveWords w.entries) (sym g.turn_is)
          (subst (λ (o : Option (Live L)). IsFittingWhileLive FitsLocal o) g.lives
          (kept V L r FitsView FitsLocal MayFollow Agrees law limits seat p s alive).can.fits).words

      pub can_join_all : CanJoinAll r FitsView MayFollow q.view key es
      can_join_all = subst (λ (k : Key). CanJoinAll r FitsView MayFollow q.view k es) (sym same_key) (record {
        history = D;
        is_view = all_below.view_is;
        fits = absorbed.at.view_fits;
        follow = grow.follow;
        few = grow.few;
      })

      seated_before : IsSeated r limits seat before.clock (A ++ [])
      seated_before = record {
        owns = s.seated.owns;
        story = s.seated.story;
        own = own_clock V L r FitsView FitsLocal MayFollow Agrees law limits seat p s alive;
        put = s.seated.put ∙ ap (λ (l : List KeyedEntry). length (entry_list l)) (sym (append-nil A));
      }

      pub can_publish : CanPublish key seat es
      can_publish = subst (λ (k : Key). CanPublish k seat es) (sym same_key)
          (next_words V L r FitsView FitsLocal MayFollow Agrees law limits s.ranges number s.number p.moves [] es begun.entries entries_are seat refl seated_before have_words)

      -- the slot's own entries, and those of others, when what was pending joined
      abbrev E : List KeyedEntry
      E = D ++ U

      below_each : Each (λ e. IsNotLess K e.key) E
      below_each = each_append (λ (e : KeyedEntry). IsNotLess K e.key) D U
          (up_to K D (subst (λ (l : List KeyedEntry). AreBelow K l) all_below.done_is
          (below_live before.live its K all_below.at.done its_live all_below.at.past)))
          (each_under (λ (k : Key). IsNotLess K k) K es (same_not_less K))

      of_both : (slot : ℕ) → of_slot slot E ≡ of_slot slot D ++ of_slot slot U
      of_both slot = filter-append (λ (x : KeyedEntry). nat_eq x.key.slot slot) D U

      own_done : of_slot number D ≡ A
      own_done = (sides H K number).own refl
          ∙ (logs_known V L r FitsView FitsLocal MayFollow Agrees law limits s.ranges number p.moves its s.number its_live).at_clock

      own_under : of_slot number U ≡ U
      own_under = own_slot V L r FitsView FitsLocal MayFollow Agrees law limits s.ranges number before.clock es

      own_both : of_slot number E ≡ of_slot number D ++ U
      own_both = of_both number ∙ ap (λ (l : List KeyedEntry). of_slot number D ++ l) own_under

      others_same : (slot : ℕ) → slot ≢ number → of_slot slot E ≡ of_slot slot D
      others_same slot apart = of_both slot
          ∙ (ap (λ (l : List KeyedEntry). of_slot slot D ++ l)
          (other_slot V L r FitsView FitsLocal MayFollow Agrees law limits s.ranges number slot before.clock es (λ e. apart (sym e)))
          ∙ append-nil (of_slot slot D))

      own_waits : of_slot number D ++ waiting_entries q.merge number ≡ A
      own_waits = subst (λ (d : List KeyedEntry). of_slot number d ++ waiting_entries q.merge number ≡ A)
          all_below.done_is all_below.at.own

      none_waits : waiting_entries q.merge number ≡ []
      none_waits = append_cancel_left (of_slot number D) (waiting_entries q.merge number) []
          (own_waits ∙ (sym own_done ∙ sym (append-nil (of_slot number D))))

      own_next : of_slot number E ++ waiting_entries q.merge number ≡ A ++ U
      own_next = ap (λ (l : List KeyedEntry). of_slot number E ++ l) none_waits
          ∙ (append-nil (of_slot number E)
          ∙ (own_both ∙ ap (λ (l : List KeyedEntry). l ++ U) own_done))

      abbrev M : List KeyedEntry
      M = under K begun.entries

      abbrev rest : List KeyedEntry
      rest = (fronts_after V L r FitsView FitsLocal MayFollow Agrees law limits s.ranges number p.moves its s.number its_live).rest

      front : H ≡ E ++ (M ++ rest)
      front = (fronts_after V L r FitsView FitsLocal MayFollow Agrees law limits s.ranges number p.moves its s.number its_live).whole
          ∙ (ap (λ (l : List Entry). (D ++ under K l) ++ rest) entries_are
          ∙ (ap (λ (l : List KeyedEntry). (D ++ l) ++ rest) (under-append K es begun.entries)
          ∙ (ap (λ (l : List KeyedEntry). l ++ rest) (sym (append_assoc D U M))
          ∙ append_assoc E M rest)))

      seen_is : seen ≡ view_of r E
      seen_is = sym (view_after-append r r.fresh_view D U)

      seen_fits : FitsView seen
      seen_fits = (begun_grows V L r FitsView FitsLocal MayFollow Agrees law limits so_far K t local
          (with_entries r so_far K es) grow_whole start refl).fits

      -- what was pending joined
      module _ (board : BoardView) (after : SeatView) (j : Playing V L)
          (put : IsPutting board seat after)
          (joined : HasJoined r key seat after (record q { slot = slot }) j es) where
        abbrev N : Playing V L
        N = record Q { view = j.view; mine = j.mine; slot = slot }

        next_is : j ≡ N
        next_is = ap (λ (m : List Queue). let x : Playing V L = record j { merge = m } in x) joined.merge_stays
            ∙ (ap (λ (h : List Heard). let x : Playing V L = record N { heard = h; slot = j.slot; moves = j.moves } in x) joined.heard_stays
            ∙ (ap (λ (k : Slot L). let x : Playing V L = record N { slot = k; moves = j.moves } in x) joined.slot_stays
            ∙ ap (λ (n : ℕ). let x : Playing V L = record N { moves = n } in x) (joined.moves_stay ∙ absorbed.moves_stay)))

        joined_at : HasJoined r K seat after (record q { slot = slot }) j es
        joined_at = subst (λ (k : Key). HasJoined r k seat after (record q { slot = slot }) j es) same_key joined

        view_seen : j.view ≡ seen
        view_seen = joined_at.view_is ∙ ap (λ (v : V). view_after r v U) all_below.view_is

        amid : IsAmidMove r FitsView limits number N es
        amid = record {
          done = E;
          left = M ++ rest;
          whole = front;
          past = record { each = below_each };
          view_is = view_seen ∙ seen_is;
          view_fits = subst FitsView (sym view_seen) seen_fits;
          mine_is = joined_at.mine_is
              ∙ (ap (λ (l : List KeyedEntry). l ++ U) (all_below.at.mine_is ∙ ap (λ (l : List KeyedEntry). of_slot number l) all_below.done_is)
              ∙ sym own_both);
          own = own_next;
          last = all_below.at.last;
          heard = record {
            logs = λ other lt apart.
                ap (λ (l : List KeyedEntry). l ++ waiting_entries q.merge other)
                (others_same other apart ∙ ap (λ (l : List KeyedEntry). of_slot other l) (sym all_below.done_is))
                ∙ all_below.at.heard.logs other lt apart;
            counts = all_below.at.heard.counts;
            last = all_below.at.heard.last;
            size = all_below.at.heard.size;
          };
          queues = all_below.at.queues;
        }

        abbrev putting : SeatView
        putting = record seat { written = after.written }

        seated : IsSeated r limits putting before.clock (A ++ U)
        seated = record {
          owns = record {
            same = refl;
            own_slot = s.seated.owns.own_slot;
            size = s.seated.owns.size;
            looks_size = s.seated.owns.looks_size;
            fetched_size = s.seated.owns.fetched_size;
          };
          story = s.seated.story;
          own = seated_before.own;
          put = let size : length (entry_list (A ++ U)) ≡ length (entry_list A) + length (entry_list U) =
              ap length (entry_list-append A U) ∙ length-append (entry_list A) (entry_list U) in
              omega (arith, joined_at.put, s.seated.put, size);
        }

        fetched : HasFetched limits.slots seat q.heard
        fetched = subst (λ (h : List Heard). HasFetched limits.slots seat h) (sym absorbed.heard_stays) s.fetched

        begins : CanBegin r FitsView FitsLocal limits putting N local
        begins = record {
          joined = es;
          ranges = s.ranges;
          number = s.number;
          live = its;
          lives = its_live;
          few = few V L r FitsView FitsLocal MayFollow Agrees law limits seat p s alive;
          parts = started ∙ ap (λ (v : V). prefixed es (turn_of_opening r (task_opening r limits v slot local))) (sym view_seen);
          can = can_work FitsLocal limits before t local s.ranges (kept V L r FitsView FitsLocal MayFollow Agrees law limits seat p s alive).can.fits goes_before;
          starts = start;
          clock = ap (λ (w : Turn L). w.slot.clock) g.turn_is;
          amid = amid;
          seated = seated;
          fetched = record { clocks = fetched.clocks; words = fetched.words };
        }

        pub can_begin : CanBegin r FitsView FitsLocal limits after j local
        can_begin = subst (λ (x : SeatView). CanBegin r FitsView FitsLocal limits x j local) (sym put.same)
            (subst (λ (x : Playing V L). CanBegin r FitsView FitsLocal limits putting x local) (sym next_is) begins)

        view_joined : j.view ≡ view_read r limits number p.slot
        view_joined =
            let pending : es ≡ pending_while_live before.live =
            ap (λ (w : Turn L). w.entries) g.turn_is ∙ ap pending_while_live (sym g.lives) in
            view_seen ∙ (seen_is ∙ (ap (λ (l : List Entry). view_of r (D ++ under K l)) pending
            ∙ ap (λ (x : Slot L). view_read r limits number x) (sym s.state)))

        -- and what the rest of the move comes to
        pub read_moves : (new : SeatView) (result : Result (Start V L) OutOfMemory) →
            HasClosed r FitsView FitsLocal limits new after.slot j result →
            HasMoved r FitsView FitsLocal limits new number p result
        read_moves new result closed =
            closed_moves V L r FitsView FitsLocal MayFollow Agrees law limits seat p s alive new j result
            (joined.moves_stay ∙ absorbed.moves_stay) (λ reads_it. view_joined)
            (subst (λ (n : ℕ). HasClosed r FitsView FitsLocal limits new n j result)
            (ap (λ (x : SeatView). x.slot) put.same) closed)
