-- What a carrier keeps: where it stands among the moves of its slot, what it has absorbed and what
-- waits, and what its seat has put and fetched.
use Rattle.std.specs.Prelude.{ℕ, ◌≡◌, ◌≢◌, ◌≤◌, ◌<◌, ◌-◌, ◌^◌, true, List, [], ◌++◌, length, get_or, replicate, slice_index, Option, Some, None}
use Rattle.clock_words.specs.Seats.{BoardView, IsSeat, SeatView, clock_seen, new_seat, own_list}
use Rattle.clock_words.specs.Stories.{due}
use Rattle.commit_order.specs.Merges.{waiting_entries}
use Rattle.commit_order.specs.Queues.{Queue, empty_queue, queue_of}
use Rattle.stamp_machine.specs.Limits.{AreLimits}
use Rattle.stamp_machine.specs.Machine.{final, slot_after_chunk}
use Rattle.stamp_machine.specs.Openings.{CanRun}
use Rattle.stamp_machine.specs.Orders.{Each}
use Rattle.stamp_machine.specs.Runs.{entries_by, log, of_slot, state_of}
use Rattle.stamp_machine.specs.Slots.{fresh_slot, key_of}
use Rattle.stamp_machine.specs.declared.limits.Limits.{Limits}
use Rattle.stamp_machine.specs.declared.slot.Live.{Live}
use Rattle.stamp_machine.specs.declared.slot.Slot.{Slot}
use Rattle.work_stamp.specs.Keys.{is_below}
use Rattle.work_stamp.specs.Taskers.{Rules, view_of}
use Rattle.work_stamp.specs.declared.key.Key.{Key}
use Rattle.work_stamp.specs.declared.stamped.KeyedEntry.{KeyedEntry}
use Rattle.version_store.specs.Stories.{entry_list, run_lists}
use Rattle.version_store.specs.declared.heard.Heard.{Heard}
use Rattle.version_store.specs.declared.playing.Playing.{Playing}
use Rattle.version_store.specs.declared.playing.Parts.{Parts}

-- what was fetched of a slot
abbrev pub heard_of : List Heard → ℕ → Heard
heard_of heard slot = get_or heard slot (record { clock = 0; count = 0 })

-- the clock below which all words of a slot were fetched
abbrev pub clock_heard : List Heard → ℕ → ℕ
clock_heard heard slot = (heard_of heard slot).clock

-- the keys of entries lie below one
pub record AreBelow (key : Key) (entries : List KeyedEntry) : Type 0 where
  pub each : Each (λ e. is_below e.key key ≡ true) entries

-- the same, with nothing to say of a slot that is over
abbrev pub AreBelowWhileLive : {L : Type 0} → Option (Live L) → Key → List KeyedEntry → Type 0
AreBelowWhileLive None key entries = Unit {0}
AreBelowWhileLive (Some live) key entries = AreBelow key entries

-- Of each other slot, the entries that were absorbed and those that wait are its log below the clock
-- heard. So many words were fetched of it as are due below that clock.
pub record AreHeard (history : List KeyedEntry) (slots number : ℕ) (done : List KeyedEntry)
    (queues : List Queue) (heard : List Heard) : Type 0 where
  pub logs : (slot : ℕ) → slot < slots → slot ≢ number →
      of_slot slot done ++ waiting_entries queues slot ≡ log slot (clock_heard heard slot) history
  pub counts : (slot : ℕ) → slot < slots → slot ≢ number →
      (heard_of heard slot).count ≡
      due (entry_list (of_slot slot history)) (clock_heard heard slot)
  pub last : (slot : ℕ) → slot < slots → slot ≢ number →
      (queue_of queues slot).last_stamp ≤ clock_heard heard slot
  pub size : length heard ≡ slots

-- The replica is the view of a front of the history, whose keys lie below the slot's own while it
-- lives. The slot's own entries among those absorbed, and those that wait, are what it has published
-- before its move of this number.
pub record IsAtMove {V L : Type 0} (r : Rules V L) (FitsView : V → Type 0) (limits : Limits)
    (number : ℕ) (p : Playing V L) : Type 0 where
  pub done : List KeyedEntry
  pub left : List KeyedEntry
  pub whole : (final r limits).entries ≡ done ++ left
  pub past : AreBelowWhileLive
      (state_of r limits (final r limits).entries number p.moves).live
      (key_of number (state_of r limits (final r limits).entries number p.moves)) done
  pub view_is : p.view ≡ view_of r done
  pub view_fits : FitsView p.view
  pub mine_is : p.mine ≡ of_slot number done
  pub own : of_slot number done ++ waiting_entries p.merge number ≡
      entries_by r limits (final r limits).entries number p.moves
  pub last : (queue_of p.merge number).last_stamp ≤
      (state_of r limits (final r limits).entries number p.moves).clock
  pub heard : AreHeard (final r limits).entries limits.slots number done p.merge p.heard
  pub queues : length p.merge ≡ limits.slots

-- a seat of a board with the words of this run, whose own clock is this and which has put the words
-- of these entries
pub record IsSeated {V L : Type 0} (r : Rules V L) (limits : Limits) (seat : SeatView) (clock : ℕ)
    (entries : List KeyedEntry) : Type 0 where
  pub owns : IsSeat seat.board seat
  pub story : seat.board.story ≡ run_lists r limits
  pub own : seat.own ≡ clock
  pub put : seat.written ≡ length (entry_list entries)

-- of each other slot, the seat has seen the clock that was heard, and has fetched the words that are
-- due below it
pub record HasFetched (slots : ℕ) (seat : SeatView) (heard : List Heard) : Type 0 where
  pub clocks : (slot : ℕ) → slot < slots → slot ≢ seat.slot →
      clock_heard heard slot ≤ clock_seen seat slot
  pub words : (slot : ℕ) → slot < slots → slot ≢ seat.slot →
      (heard_of heard slot).count ≤ slice_index seat.fetched slot

-- the own clock of a seat: its slot's, and the last stamp when the slot is over
abbrev pub clock_while_live : {L : Type 0} → ℕ → Option (Live L) → ℕ
clock_while_live clock None = 2 ^ 62
clock_while_live clock (Some live) = clock

-- the same of a slot
abbrev pub seat_clock : {L : Type 0} → Slot L → ℕ
seat_clock slot = clock_while_live slot.clock slot.live

-- a slot that lives has made at most as many moves as its clock counts
abbrev pub AreFewWhileLive : {L : Type 0} → ℕ → ℕ → Option (Live L) → Type 0
AreFewWhileLive moves clock None = Unit {0}
AreFewWhileLive moves clock (Some live) = moves ≤ clock

-- a carrier that isn't broken stands at some move of its run, or at its slot's end
pub record IsStanding {V L : Type 0} (r : Rules V L) (FitsView : V → Type 0) (limits : Limits)
    (seat : SeatView) (p : Playing V L) : Type 0 where
  pub ranges : AreLimits limits
  pub number : seat.slot < limits.slots
  pub state : p.slot ≡ state_of r limits (final r limits).entries seat.slot p.moves
  pub few : AreFewWhileLive p.moves p.slot.clock p.slot.live
  pub at : IsAtMove r FitsView limits seat.slot p
  pub seated : IsSeated r limits seat (seat_clock p.slot)
      (entries_by r limits (final r limits).entries seat.slot p.moves)
  pub fetched : HasFetched limits.slots seat p.heard

-- A move that goes on with a chunk at this local: it is counted already, the slot comes to be what
-- its own moves make of it, and no word of the slot is left to put before the clock is there.
pub record HasBegun {V L : Type 0} (r : Rules V L) (FitsView : V → Type 0)
    (FitsLocal : L → Type 0) (limits : Limits) (seat : SeatView) (p : Playing V L)
    (local : L) : Type 0 where
  pub ranges : AreLimits limits
  pub number : seat.slot < limits.slots
  pub can : CanRun r FitsLocal p.slot local
  pub state : slot_after_chunk r p.slot local ≡
      state_of r limits (final r limits).entries seat.slot p.moves
  pub few : p.moves ≤ (slot_after_chunk r p.slot local).clock
  pub at : IsAtMove r FitsView limits seat.slot p
  pub seated : IsSeated r limits seat p.slot.clock
      (entries_by r limits (final r limits).entries seat.slot p.moves)
  pub fetched : HasFetched limits.slots seat p.heard
  pub low : (slot_after_chunk r p.slot local).clock < 2 ^ 41 - 1
  pub put : due (own_list seat) (slot_after_chunk r p.slot local).clock ≤ seat.written
  pub short : seat.written < 2 ^ 23

-- the same of a carrier that may be broken
abbrev pub IsStandingWhileWhole : {V L : Type 0} → Rules V L → (V → Type 0) → Limits → SeatView →
    Option (Playing V L) → Type 0
IsStandingWhileWhole r FitsView limits seat None = Unit {0}
IsStandingWhileWhole r FitsView limits seat (Some p) = IsStanding r FitsView limits seat p

-- what the parts of a carrier keep
pub record IsWhole {V L : Type 0} (r : Rules V L) (FitsView : V → Type 0) (limits : Limits)
    (parts : Parts V L) : Type 0 where
  pub seat : IsSeat parts.seat.board parts.seat
  pub stands : IsStandingWhileWhole r FitsView limits parts.seat parts.playing

-- the same of parts that are there
abbrev pub IsCarrier : {V L : Type 0} → Rules V L → (V → Type 0) → Limits → Option (Parts V L) →
    Type 0
IsCarrier r FitsView limits None = ⊥
IsCarrier r FitsView limits (Some parts) = IsWhole r FitsView limits parts

-- A carrier: the plain data of its run, its seat, and what it works with unless it is broken.
pub record CarrierView (T V L : Type 0) : Type 0 where
  pub tasker : T
  pub limits : Limits
  pub seat : SeatView
  pub playing : Option (Playing V L)

-- no board, and no seat, which no carrier has
abbrev pub no_board : BoardView
no_board = record {
  table = record { words = 0; slots = 0; views_name = 0; atom = 0; block = 0; offset = 0; slot_names = [] };
  shape = record { slots = 0; area = 0 };
  story = [];
}

abbrev pub no_seat : SeatView
no_seat = new_seat no_board 0

-- a carrier of these parts
abbrev pub carrier_view : {T V L : Type 0} → T → Limits → Option (Parts V L) → CarrierView T V L
carrier_view tasker limits None =
    record { tasker = tasker; limits = limits; seat = no_seat; playing = None }
carrier_view tasker limits (Some parts) =
    record { tasker = tasker; limits = limits; seat = parts.seat; playing = parts.playing }

-- what a carrier works with before its slot's first move
abbrev pub fresh_playing : {V L : Type 0} → Rules V L → Limits → ℕ → Playing V L
fresh_playing r limits number = record {
  view = r.fresh_view;
  merge = replicate limits.slots empty_queue;
  heard = replicate limits.slots (record { clock = 0; count = 0 });
  mine = [];
  slot = fresh_slot r number;
  moves = 0;
}
