-- A move that doesn't wait: what is asked of its parts, and what they come to.
use Rattle.std.proofs.Common.{ℕ, ◌+◌, ◌<◌, ◌≤◌, ◌-◌, ◌≡◌, Bool, true, false, List, [], length, Option, Some, None, Result, Ok, Err, refl, sym, ap, ◌∙◌, subst}
use Rattle.std.specs.Prelude.{IsErr}
use Rattle.std.proofs.lemmas.List.{append-nil}
use Rattle.clock_words.specs.Seats.{SeatView}
use Rattle.ip_core.specs.declared.memory.OutOfMemory.{OutOfMemory}
use Rattle.stamp_machine.specs.Kept.{IsFittingWhileLive}
use Rattle.stamp_machine.specs.Machine.{final, slot_after_chunk}
use Rattle.stamp_machine.specs.Merges.{reads}
use Rattle.stamp_machine.specs.Openings.{CanRunAfter, HavePendingWords, pending_opening, turn_of_opening}
use Rattle.stamp_machine.specs.Orders.{Each, IsNotLess}
use Rattle.stamp_machine.specs.Ranges.{IsKeptByHistory}
use Rattle.stamp_machine.specs.Runs.{below, entries_by, state_of, turn_in}
use Rattle.stamp_machine.specs.Slots.{key_of}
use Rattle.stamp_machine.specs.declared.limits.Limits.{Limits}
use Rattle.stamp_machine.specs.declared.opening.Opening.{Opening}
use Rattle.stamp_machine.specs.declared.opening.Opening.TheVariants as opening
use Rattle.stamp_machine.specs.declared.opening.Turn.{Turn}
use Rattle.stamp_machine.specs.declared.slot.Live.{Live}
use Rattle.stamp_machine.specs.declared.slot.Slot.{Slot}
use Rattle.stamp_machine.proofs.Openings.{going, going_runs, parts}
use Rattle.stamp_machine.proofs.Orders.{each_map, not_less}
use Rattle.stamp_machine.proofs.Ranges.{own_moves_keep}
use Rattle.work_stamp.specs.Keys.{is_below}
use Rattle.work_stamp.specs.Taskers.{IsLawful, Rules, Standing, view_of}
use Rattle.work_stamp.specs.declared.entry.Entry.{Entry}
use Rattle.work_stamp.specs.declared.key.Key.{Key}
use Rattle.work_stamp.specs.declared.stamped.KeyedEntry.{KeyedEntry}
use Rattle.version_store.specs.Advances.{has_live, view_read}
use Rattle.version_store.specs.Carriers.{AreBelow, AreBelowWhileLive, AreFewWhileLive, IsStanding, clock_while_live}
use Rattle.version_store.specs.Closing.{CloseFails, GoesAt, HasClosed, IsClosed, IsOpening, StaysOpen, opening_of, slot_before}
use Rattle.version_store.specs.Moving.{HasMoved, MoveFails, MoveGoesOn, MoveIsDone}
use Rattle.version_store.specs.Stories.{entry_list}
use Rattle.version_store.specs.declared.playing.Playing.{Playing}
use Rattle.version_store.specs.declared.playing.Start.{Start}
use Rattle.version_store.proofs.Absorbs.{less_of}

-- what is said of a slot that lives
pub live_of : {L : Type 0} (o : Option (Live L)) → has_live o ≡ true → (live : Live L) × (o ≡ Some live)
live_of None e = absurd cc
live_of (Some live) e = (live, refl)

pub below_live : {L : Type 0} (o : Option (Live L)) (live : Live L) (key : Key)
    (es : List KeyedEntry) → o ≡ Some live → AreBelowWhileLive o key es → AreBelow key es
below_live None live key es e h = absurd cc
below_live (Some x) live key es e h = h

few_live : {L : Type 0} (o : Option (Live L)) (live : Live L) (moves clock : ℕ) → o ≡ Some live →
    AreFewWhileLive moves clock o → moves ≤ clock
few_live None live moves clock e h = absurd cc
few_live (Some x) live moves clock e h = h

pub pending_words : {L : Type 0} (FitsLocal : L → Type 0) (o : Option (Live L)) →
    IsFittingWhileLive FitsLocal o → HavePendingWords o
pending_words FitsLocal None fit = tt
pending_words FitsLocal (Some live) fit = fit.words

pub never : (b : Bool) → b ≡ true → b ≡ false → ⊥
never b e f = cc

-- keys below one are up to it
pub up_to : (key : Key) (es : List KeyedEntry) → AreBelow key es →
    Each (λ e. IsNotLess key e.key) es
up_to key es h = each_map (λ (e : KeyedEntry). is_below e.key key ≡ true) (λ (e : KeyedEntry). IsNotLess key e.key)
    es (λ e is. not_less e.key key (less_of e.key key is)) h.each

-- a slot that goes on, with what joins first
module _ {V L : Type 0} (r : Rules V L) (FitsLocal : L → Type 0) (limits : Limits)
    (slot : Slot L) where
  goes_at : (left : Opening L) → pending_opening limits slot ≡ left → GoesAt slot.clock left
  goes_at (opening.Done t) e = tt
  goes_at (opening.Goes t local) e =
      ap (λ (x : Turn L). x.slot.clock) (going limits slot t local e).turn_is

-- a move that found no memory
pub failed_moves : {V L : Type 0} (r : Rules V L) (FitsView : V → Type 0) (FitsLocal : L → Type 0)
    (limits : Limits) (new : SeatView) (number : ℕ) (p : Playing V L)
    (result : Result (Start V L) OutOfMemory) → IsErr result →
    HasMoved r FitsView FitsLocal limits new number p result
failed_moves r FitsView FitsLocal limits new number p (Ok x) e = absurd cc
failed_moves r FitsView FitsLocal limits new number p (Err e) is = MoveFails e refl

module _ (V L : Type 0) (r : Rules V L) (FitsView : V → Type 0) (FitsLocal : L → Type 0)
    (MayFollow : List KeyedEntry → Entry → Type 0)
    (Agrees : List KeyedEntry → List (Option (Standing L)) → Type 0)
    (law : IsLawful r FitsView FitsLocal MayFollow Agrees) (limits : Limits) (seat : SeatView)
    (p : Playing V L) (s : IsStanding r FitsView limits seat p)
    (alive : has_live p.slot.live ≡ true) where
  abbrev pub H : List KeyedEntry
  H = (final r limits).entries

  abbrev pub before : Slot L
  before = slot_before r limits seat.slot p

  abbrev pub K : Key
  K = key_of seat.slot before

  abbrev pub live : Live L
  live = (live_of p.slot.live alive).0

  pub lives : before.live ≡ Some live
  lives = ap (λ (x : Slot L). x.live) (sym s.state) ∙ (live_of p.slot.live alive).1

  pub kept : IsKeptByHistory r FitsView FitsLocal MayFollow Agrees limits (below K H) seat.slot before
  kept = own_moves_keep V L r FitsView FitsLocal MayFollow Agrees law limits s.ranges seat.slot p.moves live s.number lives

  pub fits_live : IsFittingWhileLive FitsLocal p.slot.live
  fits_live = subst (λ (x : Slot L). IsFittingWhileLive FitsLocal x.live) (sym s.state) kept.can.fits

  pub words_live : HavePendingWords p.slot.live
  words_live = pending_words FitsLocal p.slot.live fits_live

  pub store_live : p.slot.words ≤ limits.store - 4
  store_live = subst (λ (x : Slot L). x.words ≤ limits.store - 4) (sym s.state) kept.can.store

  pub few : p.moves ≤ before.clock
  few = subst (λ (x : Slot L). p.moves ≤ x.clock) s.state
      (few_live p.slot.live live p.moves p.slot.clock (live_of p.slot.live alive).1 s.few)

  pub own_clock : seat.own ≡ before.clock
  own_clock = s.seated.own ∙ (ap (λ (o : Option (Live L)). clock_while_live p.slot.clock o) (live_of p.slot.live alive).1
      ∙ ap (λ (x : Slot L). x.clock) s.state)

  -- a move that doesn't read the history
  module _ (unread : reads r limits p.slot ≡ false) (es : List Entry) (slot : Slot L)
      (local : Option L) (is : opening_of es slot local ≡ pending_opening limits p.slot) where
    abbrev left : Opening L
    left = opening_of es slot local

    left_is : pending_opening limits before ≡ left
    left_is = ap (λ (x : Slot L). pending_opening limits x) (sym s.state) ∙ sym is

    unread_before : reads r limits before ≡ false
    unread_before = ap (λ (x : Slot L). reads r limits x) (sym s.state) ∙ unread

    runs_by : (left : Opening L) → pending_opening limits before ≡ left → CanRunAfter r FitsLocal left
    runs_by (opening.Done t) e = tt
    runs_by (opening.Goes t local) e =
        going_runs r FitsLocal limits before t local s.ranges kept.can.fits unread_before e

    pub unread_opening : IsOpening r FitsView FitsLocal limits seat (record p { slot = slot }) (opening_of es slot local)
    unread_opening = record {
      joined = [];
      ranges = s.ranges;
      number = s.number;
      live = live;
      lives = lives;
      few = few;
      parts = (parts r limits).unread seat.slot (view_of r (below K H)) before unread_before
          ∙ ap (turn_of_opening r) left_is;
      can = runs_by left left_is;
      clock = goes_at r FitsLocal limits before left left_is;
      amid = record {
        done = s.at.done;
        left = s.at.left;
        whole = s.at.whole;
        past = record { each = up_to K s.at.done (below_live before.live live K s.at.done lives s.at.past) };
        view_is = s.at.view_is;
        view_fits = s.at.view_fits;
        mine_is = s.at.mine_is;
        own = s.at.own ∙ sym (append-nil (entries_by r limits H seat.slot p.moves));
        last = s.at.last;
        heard = record { logs = s.at.heard.logs; counts = s.at.heard.counts; last = s.at.heard.last; size = s.at.heard.size };
        queues = s.at.queues;
      };
      seated = record {
        owns = s.seated.owns;
        story = s.seated.story;
        own = own_clock;
        put = s.seated.put ∙ ap (λ (l : List KeyedEntry). length (entry_list l)) (sym (append-nil (entries_by r limits H seat.slot p.moves)));
      };
      fetched = record { clocks = s.fetched.clocks; words = s.fetched.words };
    }

  -- what the end of a move's opening comes to
  pub closed_moves : (new : SeatView) (q : Playing V L) (result : Result (Start V L) OutOfMemory) →
      q.moves ≡ p.moves →
      (reads r limits p.slot ≡ true → q.view ≡ view_read r limits seat.slot p.slot) →
      HasClosed r FitsView FitsLocal limits new seat.slot q result →
      HasMoved r FitsView FitsLocal limits new seat.slot p result
  closed_moves new q result same view h = closed_by result h where
    state : slot_before r limits seat.slot q ≡ p.slot
    state = ap (λ (n : ℕ). state_of r limits H seat.slot n) same ∙ sym s.state

    turn_is : (turn_in r limits H seat.slot (slot_before r limits seat.slot q)).slot ≡
        (turn_in r limits H seat.slot p.slot).slot
    turn_is = ap (λ (x : Slot L). (turn_in r limits H seat.slot x).slot) state

    later : (clock : ℕ) → (slot_before r limits seat.slot q).clock < clock → p.slot.clock < clock
    later clock lt = subst (λ (x : Slot L). x.clock < clock) state lt

    closed_by : (result : Result (Start V L) OutOfMemory) →
        HasClosed r FitsView FitsLocal limits new seat.slot q result →
        HasMoved r FitsView FitsLocal limits new seat.slot p result
    closed_by result (IsClosed x e stands slot_is view_is moves_are rises) = MoveIsDone x e stands (record {
      slot_is = slot_is ∙ turn_is;
      view_is = λ reading. view_is ∙ view reading;
      counted = moves_are ∙ ap (λ (n : ℕ). n + 1) same;
    }) (λ alive. later x.slot.clock (rises alive))
    closed_by result (StaysOpen x local e begun slot_is view_is moves_are rises) = MoveGoesOn x local e begun (record {
      slot_is = slot_is ∙ turn_is;
      view_is = λ reading. view_is ∙ view reading;
      counted = moves_are ∙ ap (λ (n : ℕ). n + 1) same;
    }) (later (slot_after_chunk r x.slot local).clock rises)
    closed_by result (CloseFails e is) = MoveFails e is
