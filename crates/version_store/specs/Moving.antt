-- A move that doesn't wait, up to its chunk.
use Rattle.std.specs.Prelude.{ℕ, ◌≡◌, ◌≤◌, ◌<◌, true, List, ◌++◌, Some, Result, Ok, Err}
use Rattle.clock_words.specs.Seats.{SeatView}
use Rattle.ip_core.specs.declared.memory.OutOfMemory.{OutOfMemory}
use Rattle.stamp_machine.specs.Limits.{AreLimits}
use Rattle.stamp_machine.specs.Machine.{final, slot_after_chunk}
use Rattle.stamp_machine.specs.Openings.{prefixed, task_opening, turn_of_opening}
use Rattle.stamp_machine.specs.Plays.{CanWork}
use Rattle.stamp_machine.specs.Runs.{entries_by, turn_in}
use Rattle.stamp_machine.specs.Slots.{key_of}
use Rattle.stamp_machine.specs.declared.limits.Limits.{Limits}
use Rattle.stamp_machine.specs.declared.slot.Live.{Live}
use Rattle.work_stamp.specs.Histories.{under}
use Rattle.work_stamp.specs.Taskers.{Rules}
use Rattle.work_stamp.specs.declared.entry.Entry.{Entry}
use Rattle.version_store.specs.Advances.{IsMove, has_live}
use Rattle.version_store.specs.Carriers.{HasBegun, HasFetched, IsSeated, IsStanding}
use Rattle.version_store.specs.Closing.{IsAmidMove, slot_before}
use Rattle.version_store.specs.declared.playing.Playing.{Playing}
use Rattle.version_store.specs.declared.playing.Start.{Start}
use Rattle.version_store.specs.declared.playing.Start.TheVariants as start

-- A slot between tasks is in the middle of its move: what was pending joined and was put, and what
-- it does on the view is left. The slot, which has counted no work yet, isn't live here.
pub record CanBegin {V L : Type 0} (r : Rules V L) (FitsView : V → Type 0)
    (FitsLocal : L → Type 0) (limits : Limits) (seat : SeatView) (p : Playing V L)
    (local : L) : Type 0 where
  pub joined : List Entry
  pub ranges : AreLimits limits
  pub number : seat.slot < limits.slots
  pub live : Live L
  pub lives : (slot_before r limits seat.slot p).live ≡ Some live
  pub few : p.moves ≤ (slot_before r limits seat.slot p).clock
  pub parts : turn_in r limits (final r limits).entries seat.slot
      (slot_before r limits seat.slot p) ≡
      prefixed joined (turn_of_opening r (task_opening r limits p.view p.slot local))
  pub can : CanWork FitsLocal limits p.slot local
  pub starts : r.at_start local ≡ true
  pub clock : p.slot.clock ≡ (slot_before r limits seat.slot p).clock
  pub amid : IsAmidMove r FitsView limits seat.slot p joined
  pub seated : IsSeated r limits seat (slot_before r limits seat.slot p).clock
      (entries_by r limits (final r limits).entries seat.slot p.moves
      ++ under (key_of seat.slot (slot_before r limits seat.slot p)) joined)
  pub fetched : HasFetched limits.slots seat p.heard

-- what a move that doesn't wait is, up to its chunk
pub data HasMoved {V L : Type 0} (r : Rules V L) (FitsView : V → Type 0) (FitsLocal : L → Type 0)
    (limits : Limits) (new : SeatView) (number : ℕ) (p : Playing V L)
    (result : Result (Start V L) OutOfMemory) : Type 0 where
  MoveIsDone : (q : Playing V L) → result ≡ Ok (start.Done q) →
      IsStanding r FitsView limits new q → IsMove r limits number p q.slot q.view q.moves →
      (has_live q.slot.live ≡ true → p.slot.clock < q.slot.clock) →
      HasMoved r FitsView FitsLocal limits new number p result
  MoveGoesOn : (q : Playing V L) (local : L) → result ≡ Ok (start.Goes q local) →
      HasBegun r FitsView FitsLocal limits new q local →
      IsMove r limits number p (slot_after_chunk r q.slot local) q.view q.moves →
      p.slot.clock < (slot_after_chunk r q.slot local).clock →
      HasMoved r FitsView FitsLocal limits new number p result
  MoveFails : (e : OutOfMemory) → result ≡ Err e →
      HasMoved r FitsView FitsLocal limits new number p result
