-- What an advance of a carrier leaves.
use Rattle.std.specs.Prelude.{ℕ, ◌≡◌, ◌≢◌, ◌≤◌, ◌<◌, ◌+◌, Bool, true, false, not, List, [], ◌++◌, slice_index, Option, Some, None, Result, Ok, Err}
use Rattle.clock_words.specs.Seats.{IsSeat, SeatView, clock_seen}
use Rattle.ip_core.specs.declared.memory.OutOfMemory.{OutOfMemory}
use Rattle.stamp_machine.specs.Machine.{final, slot_after_chunk}
use Rattle.stamp_machine.specs.Merges.{reads}
use Rattle.stamp_machine.specs.Runs.{below, turn_in}
use Rattle.stamp_machine.specs.Slots.{key_of}
use Rattle.stamp_machine.specs.declared.limits.Limits.{Limits}
use Rattle.stamp_machine.specs.declared.slot.Live.{Live}
use Rattle.stamp_machine.specs.declared.slot.Slot.{Slot}
use Rattle.work_stamp.specs.Histories.{under}
use Rattle.work_stamp.specs.Taskers.{Rules, view_of}
use Rattle.work_stamp.specs.declared.entry.Entry.{Entry}
use Rattle.version_store.specs.Carriers.{CarrierView, HasBegun, IsStanding, clock_heard}
use Rattle.version_store.specs.declared.advance.Advance.{Advance}
use Rattle.version_store.specs.declared.advance.Advance.TheVariants.{Moved, Blocked, Ended}
use Rattle.version_store.specs.declared.playing.Playing.{Playing}
use Rattle.version_store.specs.declared.playing.Start.{Start}
use Rattle.version_store.specs.declared.playing.Start.TheVariants as start
use Rattle.version_store.specs.declared.playing.Stepped.{Stepped}

-- the run of a carrier stays: its tasker and limits, the board of its seat, and its slot
pub record IsSameRun {T V L : Type 0} (old new : CarrierView T V L) : Type 0 where
  pub tasker : new.tasker ≡ old.tasker
  pub limits : new.limits ≡ old.limits
  pub board : new.seat.board ≡ old.seat.board
  pub slot : new.seat.slot ≡ old.seat.slot

-- whether a slot lives
abbrev pub has_live : {L : Type 0} → Option (Live L) → Bool
has_live None = false
has_live (Some live) = true

-- whether a carrier can advance: it isn't broken, and its slot lives
abbrev pub lives_while_whole : {V L : Type 0} → Option (Playing V L) → Bool
lives_while_whole None = false
lives_while_whole (Some p) = has_live p.slot.live

abbrev pub lives : {T V L : Type 0} → CarrierView T V L → Bool
lives c = lives_while_whole c.playing

-- whether a carrier stands at its slot's end
abbrev pub ended_while_whole : {V L : Type 0} → Option (Playing V L) → Bool
ended_while_whole None = false
ended_while_whole (Some p) = not (has_live p.slot.live)

abbrev pub has_ended : {T V L : Type 0} → CarrierView T V L → Bool
has_ended c = ended_while_whole c.playing

-- the clock of a carrier's slot, 0 where the carrier is broken
abbrev pub clock_while_whole : {V L : Type 0} → Option (Playing V L) → ℕ
clock_while_whole None = 0
clock_while_whole (Some p) = p.slot.clock

abbrev pub clock_of : {T V L : Type 0} → CarrierView T V L → ℕ
clock_of c = clock_while_whole c.playing

-- A clock heard of another slot is enough for a move of this slot at this clock: it is above it for a
-- smaller slot, and at least it for a larger one.
pub record IsEnough (number clock other heard : ℕ) : Type 0 where
  pub smaller : other < number → clock < heard
  pub larger : number < other → clock ≤ heard

-- the entries of a slot's last chunk
abbrev pub pending_while_live : {L : Type 0} → Option (Live L) → List Entry
pending_while_live None = []
pending_while_live (Some live) = live.pending

-- what a move that reads the history sees: what lies below its key, and the own entries that joined
-- before the reading
abbrev pub view_read : {V L : Type 0} → Rules V L → Limits → ℕ → Slot L → V
view_read r limits number slot = view_of r (below (key_of number slot) (final r limits).entries
    ++ under (key_of number slot) (pending_while_live slot.live))

-- a move of the machine: the slot is what the move on what lies below its key makes of it, and after
-- a move that read the history the replica is the view that it saw
pub record IsMove {V L : Type 0} (r : Rules V L) (limits : Limits) (number : ℕ) (p : Playing V L)
    (slot : Slot L) (view : V) (moves : ℕ) : Type 0 where
  pub slot_is : slot ≡ (turn_in r limits (final r limits).entries number p.slot).slot
  pub view_is : reads r limits p.slot ≡ true → view ≡ view_read r limits number p.slot
  pub counted : moves ≡ p.moves + 1

-- A move waits: it reads the history, a look of this call found the slot's clock at this value, which
-- isn't enough, and nothing was put or moved.
pub record IsWaiting {V L : Type 0} (r : Rules V L) (limits : Limits) (old new : SeatView)
    (p q : Playing V L) (slot clock : ℕ) : Type 0 where
  pub reading : reads r limits p.slot ≡ true
  pub other : slot ≢ old.slot
  pub within : slot < limits.slots
  pub looked : slice_index new.looks slot ≡ slice_index old.looks slot + 1
  pub found : clock_seen new slot ≡ clock
  pub smaller : slot < old.slot → clock ≤ p.slot.clock
  pub larger : old.slot < slot → clock < p.slot.clock
  pub slot_stays : q.slot ≡ p.slot
  pub view_stays : q.view ≡ p.view
  pub moves_stay : q.moves ≡ p.moves
  pub put_stays : new.written ≡ old.written
  pub clock_stays : new.own ≡ old.own

-- A call looks at slots only for a move that reads the history, and then at those alone whose clock
-- heard isn't enough.
pub record HasSparedLooks {V L : Type 0} (r : Rules V L) (limits : Limits) (old new : SeatView)
    (p : Playing V L) : Type 0 where
  pub unread : reads r limits p.slot ≡ false → new.looks ≡ old.looks
  pub enough : (slot : ℕ) → slot < limits.slots →
      IsEnough old.slot p.slot.clock slot (clock_heard p.heard slot) →
      slice_index new.looks slot ≡ slice_index old.looks slot

-- the same seat of the same board
pub record IsSameSeat (old new : SeatView) : Type 0 where
  pub seat : IsSeat old.board new
  pub slot : new.slot ≡ old.slot

-- what a move is, up to its chunk
pub data HasOpened {V L : Type 0} (r : Rules V L) (FitsView : V → Type 0) (FitsLocal : L → Type 0)
    (limits : Limits) (old new : SeatView) (p : Playing V L)
    (result : Result (Start V L) OutOfMemory) : Type 0 where
  IsDone : (q : Playing V L) → result ≡ Ok (start.Done q) →
      IsStanding r FitsView limits new q → IsMove r limits old.slot p q.slot q.view q.moves →
      (has_live q.slot.live ≡ true → p.slot.clock < q.slot.clock) →
      HasOpened r FitsView FitsLocal limits old new p result
  IsBlocked : (q : Playing V L) (slot clock : ℕ) → result ≡ Ok (start.Blocked q slot clock) →
      IsStanding r FitsView limits new q → IsWaiting r limits old new p q slot clock →
      HasOpened r FitsView FitsLocal limits old new p result
  GoesOn : (q : Playing V L) (local : L) → result ≡ Ok (start.Goes q local) →
      HasBegun r FitsView FitsLocal limits new q local →
      IsMove r limits old.slot p (slot_after_chunk r q.slot local) q.view q.moves →
      p.slot.clock < (slot_after_chunk r q.slot local).clock →
      HasOpened r FitsView FitsLocal limits old new p result
  OpenFails : (e : OutOfMemory) → result ≡ Err e →
      HasOpened r FitsView FitsLocal limits old new p result

-- a move that is done: the slot lives, or it is over
abbrev pub advance_while_live : {L : Type 0} → Option (Live L) → Advance
advance_while_live None = Ended
advance_while_live (Some live) = Moved

abbrev pub stepped : {V L : Type 0} → Playing V L → Stepped V L
stepped p = record { playing = p; advance = advance_while_live p.slot.live }

-- a move whose chunk is done, or that found no memory
abbrev pub moved_outcome : {V L : Type 0} → Result (Playing V L) OutOfMemory →
    Result (Stepped V L) OutOfMemory
moved_outcome (Ok p) = Ok (record { playing = p; advance = Moved })
moved_outcome (Err e) = Err e

-- what is left to work with after a step, and what the step came to
abbrev pub playing_of : {V L : Type 0} → Result (Stepped V L) OutOfMemory → Option (Playing V L)
playing_of (Ok s) = Some s.playing
playing_of (Err e) = None

abbrev pub advance_of : {V L : Type 0} → Result (Stepped V L) OutOfMemory → Result Advance OutOfMemory
advance_of (Ok s) = Ok s.advance
advance_of (Err e) = Err e

-- what a step of a carrier's parts is
pub data HasStepped {V L : Type 0} (r : Rules V L) (FitsView : V → Type 0)
    (limits : Limits) (old new : SeatView) (p : Playing V L)
    (result : Result (Stepped V L) OutOfMemory) : Type 0 where
  StepMoves : (q : Playing V L) → result ≡ Ok (record { playing = q; advance = Moved }) →
      IsStanding r FitsView limits new q → IsMove r limits old.slot p q.slot q.view q.moves →
      has_live q.slot.live ≡ true → p.slot.clock < q.slot.clock →
      HasStepped r FitsView limits old new p result
  StepEnds : (q : Playing V L) → result ≡ Ok (record { playing = q; advance = Ended }) →
      IsStanding r FitsView limits new q → IsMove r limits old.slot p q.slot q.view q.moves →
      has_live q.slot.live ≡ false →
      HasStepped r FitsView limits old new p result
  StepWaits : (q : Playing V L) (slot clock : ℕ) →
      result ≡ Ok (record { playing = q; advance = Blocked slot clock }) →
      IsStanding r FitsView limits new q → IsWaiting r limits old new p q slot clock →
      HasStepped r FitsView limits old new p result
  StepFails : (e : OutOfMemory) → result ≡ Err e →
      HasStepped r FitsView limits old new p result

-- What an advance of a carrier is. Moved: the slot made its move and lives, and its clock rose. Ended:
-- the slot made its move and is over. Blocked: the move waits. After want of memory the carrier is
-- broken.
pub data HasAdvanced {T V L : Type 0} (r : Rules V L) (old new : CarrierView T V L)
    (result : Result Advance OutOfMemory) : Type 0 where
  Moves : (p q : Playing V L) → result ≡ Ok Moved →
      old.playing ≡ Some p → new.playing ≡ Some q →
      IsMove r old.limits old.seat.slot p q.slot q.view q.moves →
      has_live q.slot.live ≡ true → p.slot.clock < q.slot.clock →
      HasSparedLooks r old.limits old.seat new.seat p → HasAdvanced r old new result
  Ends : (p q : Playing V L) → result ≡ Ok Ended →
      old.playing ≡ Some p → new.playing ≡ Some q →
      IsMove r old.limits old.seat.slot p q.slot q.view q.moves →
      has_live q.slot.live ≡ false →
      HasSparedLooks r old.limits old.seat new.seat p → HasAdvanced r old new result
  Waits : (p q : Playing V L) (slot clock : ℕ) → result ≡ Ok (Blocked slot clock) →
      old.playing ≡ Some p → new.playing ≡ Some q →
      IsWaiting r old.limits old.seat new.seat p q slot clock →
      HasSparedLooks r old.limits old.seat new.seat p → HasAdvanced r old new result
  Breaks : (e : OutOfMemory) → result ≡ Err e → new.playing ≡ None →
      HasAdvanced r old new result
