-- The last part of a move up to its chunk: its entries are published, the move is counted, and the
-- slot goes on with a chunk, waits or is over.
use Rattle.std.specs.Prelude.{ℕ, ◌≡◌, ◌≤◌, ◌<◌, ◌+◌, true, List, ◌++◌, length, Option, Some, None, Result, Ok, Err}
use Rattle.clock_words.specs.Seats.{SeatView}
use Rattle.commit_order.specs.Merges.{waiting_entries}
use Rattle.commit_order.specs.Queues.{queue_of}
use Rattle.ip_core.specs.declared.memory.OutOfMemory.{OutOfMemory}
use Rattle.stamp_machine.specs.Limits.{AreLimits}
use Rattle.stamp_machine.specs.Machine.{final, slot_after_chunk}
use Rattle.stamp_machine.specs.Openings.{CanRunAfter, prefixed, turn_of_opening}
use Rattle.stamp_machine.specs.Orders.{Each, IsNotLess}
use Rattle.stamp_machine.specs.Runs.{entries_by, of_slot, state_of, turn_in}
use Rattle.stamp_machine.specs.Slots.{key_of}
use Rattle.stamp_machine.specs.declared.limits.Limits.{Limits}
use Rattle.stamp_machine.specs.declared.opening.Opening.{Opening}
use Rattle.stamp_machine.specs.declared.opening.Opening.TheVariants as opening
use Rattle.stamp_machine.specs.declared.slot.Live.{Live}
use Rattle.stamp_machine.specs.declared.slot.Slot.{Slot}
use Rattle.work_stamp.specs.Histories.{under}
use Rattle.work_stamp.specs.Taskers.{Rules, view_of}
use Rattle.work_stamp.specs.declared.entry.Entry.{Entry}
use Rattle.work_stamp.specs.declared.key.Key.{Key}
use Rattle.work_stamp.specs.declared.stamped.KeyedEntry.{KeyedEntry}
use Rattle.version_store.specs.Advances.{has_live}
use Rattle.version_store.specs.Carriers.{AreHeard, HasBegun, HasFetched, IsSeated, IsStanding}
use Rattle.version_store.specs.declared.playing.Playing.{Playing}
use Rattle.version_store.specs.declared.playing.Start.{Start}
use Rattle.version_store.specs.declared.playing.Start.TheVariants as start

-- a part of a move: these entries join, and the slot is this, or goes on with a local
abbrev pub opening_of : {L : Type 0} → List Entry → Slot L → Option L → Opening L
opening_of entries slot None = opening.Done (record { entries = entries; slot = slot })
opening_of entries slot (Some local) =
    opening.Goes (record { entries = entries; slot = slot }) local

-- a slot that goes on after this does so at this clock
abbrev pub GoesAt : {L : Type 0} → ℕ → Opening L → Type 0
GoesAt clock (opening.Done t) = Unit {0}
GoesAt clock (opening.Goes t local) = t.slot.clock ≡ clock

-- keys that are at most this one
pub record AreUpTo (key : Key) (entries : List KeyedEntry) : Type 0 where
  pub each : Each (λ e. IsNotLess key e.key) entries

-- The slot before its move of this number, and the move itself.
abbrev pub slot_before : {V L : Type 0} → Rules V L → Limits → ℕ → Playing V L → Slot L
slot_before r limits number p = state_of r limits (final r limits).entries number p.moves

-- The replica is the view of a front of the history, whose keys are at most the move's. The slot's own
-- entries among those absorbed, and those that wait, are what it published before the move and
-- these of the move that joined already.
pub record IsAmidMove {V L : Type 0} (r : Rules V L) (FitsView : V → Type 0) (limits : Limits)
    (number : ℕ) (p : Playing V L) (joined : List Entry) : Type 0 where
  pub done : List KeyedEntry
  pub left : List KeyedEntry
  pub whole : (final r limits).entries ≡ done ++ left
  pub past : AreUpTo (key_of number (slot_before r limits number p)) done
  pub view_is : p.view ≡ view_of r done
  pub view_fits : FitsView p.view
  pub mine_is : p.mine ≡ of_slot number done
  pub own : of_slot number done ++ waiting_entries p.merge number ≡
      entries_by r limits (final r limits).entries number p.moves
      ++ under (key_of number (slot_before r limits number p)) joined
  pub last : (queue_of p.merge number).last_stamp ≤ (slot_before r limits number p).clock
  pub heard : AreHeard (final r limits).entries limits.slots number done p.merge p.heard
  pub queues : length p.merge ≡ limits.slots

-- A live slot is in the middle of its move: some of the move's entries joined and were put, and this
-- part of it is left, which has counted no work yet. The slot among what the carrier works with isn't
-- looked at.
pub record IsOpening {V L : Type 0} (r : Rules V L) (FitsView : V → Type 0)
    (FitsLocal : L → Type 0) (limits : Limits) (seat : SeatView) (p : Playing V L)
    (left : Opening L) : Type 0 where
  pub joined : List Entry
  pub ranges : AreLimits limits
  pub number : seat.slot < limits.slots
  pub live : Live L
  pub lives : (slot_before r limits seat.slot p).live ≡ Some live
  pub few : p.moves ≤ (slot_before r limits seat.slot p).clock
  pub parts : turn_in r limits (final r limits).entries seat.slot (slot_before r limits seat.slot p) ≡
      prefixed joined (turn_of_opening r left)
  pub can : CanRunAfter r FitsLocal left
  pub clock : GoesAt (slot_before r limits seat.slot p).clock left
  pub amid : IsAmidMove r FitsView limits seat.slot p joined
  pub seated : IsSeated r limits seat (slot_before r limits seat.slot p).clock
      (entries_by r limits (final r limits).entries seat.slot p.moves
      ++ under (key_of seat.slot (slot_before r limits seat.slot p)) joined)
  pub fetched : HasFetched limits.slots seat p.heard

-- what the end of a move's opening leaves: the move is counted
pub data HasClosed {V L : Type 0} (r : Rules V L) (FitsView : V → Type 0) (FitsLocal : L → Type 0)
    (limits : Limits) (new : SeatView) (number : ℕ) (p : Playing V L)
    (result : Result (Start V L) OutOfMemory) : Type 0 where
  IsClosed : (q : Playing V L) → result ≡ Ok (start.Done q) →
      IsStanding r FitsView limits new q →
      q.slot ≡ (turn_in r limits (final r limits).entries number (slot_before r limits number p)).slot →
      q.view ≡ p.view → q.moves ≡ p.moves + 1 →
      (has_live q.slot.live ≡ true → (slot_before r limits number p).clock < q.slot.clock) →
      HasClosed r FitsView FitsLocal limits new number p result
  StaysOpen : (q : Playing V L) (local : L) → result ≡ Ok (start.Goes q local) →
      HasBegun r FitsView FitsLocal limits new q local →
      slot_after_chunk r q.slot local ≡
      (turn_in r limits (final r limits).entries number (slot_before r limits number p)).slot →
      q.view ≡ p.view → q.moves ≡ p.moves + 1 →
      (slot_before r limits number p).clock < (slot_after_chunk r q.slot local).clock →
      HasClosed r FitsView FitsLocal limits new number p result
  CloseFails : (e : OutOfMemory) → result ≡ Err e →
      HasClosed r FitsView FitsLocal limits new number p result
