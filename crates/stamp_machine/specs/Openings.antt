-- A move in parts: what joins before a slot begins a task or goes on with one, what it begins with, and its chunk.
use Rattle.std.specs.Prelude.{ℕ, ◌≡◌, ◌<◌, ◌+◌, ◌^◌, false, nat_le, if◌then◌else◌, List, [], ◌∷◌, ◌++◌, Option, Some, None}
use Rattle.work_stamp.specs.Histories.{under}
use Rattle.work_stamp.specs.Taskers.{Rules, view_after, HaveWords}
use Rattle.work_stamp.specs.declared.entry.Entry.{Entry}
use Rattle.work_stamp.specs.declared.entry.Entry.TheVariants.{Halt}
use Rattle.work_stamp.specs.declared.key.Key.{Key}
use Rattle.work_stamp.specs.declared.task.Begin.{Begin}
use Rattle.work_stamp.specs.declared.task.Begin.TheVariants.{Take, Idle, End}
use Rattle.stamp_machine.specs.Merges.{reads}
use Rattle.stamp_machine.specs.Machine.{fits, slot_after_chunk, slot_after_idle, slot_after_join, turn, word_count}
use Rattle.stamp_machine.specs.Slots.{key_of, slot_after_end}
use Rattle.stamp_machine.specs.declared.limits.Limits.{Limits}
use Rattle.stamp_machine.specs.declared.opening.Opening.{Opening}
use Rattle.stamp_machine.specs.declared.opening.Opening.TheVariants.{Done, Goes}
use Rattle.stamp_machine.specs.declared.opening.Turn.{Turn}
use Rattle.stamp_machine.specs.declared.slot.Slot.{Slot}
use Rattle.stamp_machine.specs.declared.slot.Live.{Live}

-- what is pending joins, unless a limit ends the slot
abbrev pub opening_while_live : {L : Type 0} → Limits → Slot L → Option (Live L) → Opening L
opening_while_live limits slot None = Done (record { entries = []; slot = slot_after_end slot })
opening_while_live limits slot (Some live) =
    if nat_le limits.work slot.clock
    then Done (record { entries = []; slot = slot_after_end slot })
    else (if fits limits slot.words live.pending
    then Goes (record {
      entries = live.pending;
      slot = slot_after_end (slot_after_join slot live);
    }) live.local
    else Done (record { entries = Halt ∷ []; slot = slot_after_end slot }))

-- the same of a slot
abbrev pub pending_opening : {L : Type 0} → Limits → Slot L → Opening L
pending_opening limits slot = opening_while_live limits slot slot.live

-- a task is taken where its entries fit, and else a Halt joins and the slot is over
abbrev pub opening_of_take : {L : Type 0} → Limits → Slot L → L → List Entry → Opening L
opening_of_take limits slot local es =
    if fits limits slot.words es
    then Goes (record {
      entries = es;
      slot = slot_after_end (record slot { words = slot.words + word_count es });
    }) local
    else Done (record { entries = Halt ∷ []; slot = slot_after_end slot })

-- by what a slot between tasks does
abbrev pub opening_of_begin : {L : Type 0} → Limits → Slot L → L → Begin → Opening L
opening_of_begin limits slot local End = Done (record { entries = []; slot = slot_after_end slot })
opening_of_begin limits slot local Idle =
    Done (record { entries = []; slot = slot_after_idle slot local })
opening_of_begin limits slot local (Take es) = opening_of_take limits slot local es

-- what a slot between tasks does on a view, up to the chunk of a task that it takes
abbrev pub task_opening : {V L : Type 0} → Rules V L → Limits → V → Slot L → L → Opening L
task_opening r limits view slot local =
    opening_of_begin limits slot (r.begin view local).local (r.begin view local).does

-- the slot runs its chunk, if it goes on
abbrev pub turn_of_opening : {V L : Type 0} → Rules V L → Opening L → Turn L
turn_of_opening r (Done t) = t
turn_of_opening r (Goes t local) =
    record { entries = t.entries; slot = slot_after_chunk r t.slot local }

-- further entries before those of a move
abbrev pub prefixed : {L : Type 0} → List Entry → Turn L → Turn L
prefixed es t = record { entries = es ++ t.entries; slot = t.slot }

-- what was pending has joined: a slot between tasks begins, and another one goes on with its task
abbrev pub turn_from : {V L : Type 0} → Rules V L → Limits → Key → V → Opening L → Turn L
turn_from r limits k view (Done t) = t
turn_from r limits k view (Goes t local) =
    if r.at_start local
    then prefixed t.entries (turn_of_opening r (task_opening r limits
    (view_after r view (under k t.entries)) t.slot local))
    else turn_of_opening r (Goes t local)

-- what is pending has words
abbrev pub HavePendingWords : {L : Type 0} → Option (Live L) → Type 0
HavePendingWords None = Unit {0}
HavePendingWords (Some live) = HaveWords live.pending

-- a slot that may run a chunk of this local
pub record CanRun {V L : Type 0} (r : Rules V L) (FitsLocal : L → Type 0) (slot : Slot L)
    (local : L) : Type 0 where
  pub fits : FitsLocal local
  pub begun : r.at_start local ≡ false
  pub early : slot.clock < 10 ^ 12

-- a slot that goes on after this may run its chunk
abbrev pub CanRunAfter : {V L : Type 0} → Rules V L → (L → Type 0) → Opening L → Type 0
CanRunAfter r FitsLocal (Done t) = Unit {0}
CanRunAfter r FitsLocal (Goes t local) = CanRun r FitsLocal t.slot local

-- A move is what its parts come to. A slot that goes on once what was pending has joined reads the history where it is
-- between tasks. A move that doesn't read it is done with what is pending and a chunk, on every view.
pub record HaveParts {V L : Type 0} (r : Rules V L) (limits : Limits) : Type 0 where
  pub whole : (number : ℕ) (view : V) (slot : Slot L) →
      turn r limits number view slot ≡
      turn_from r limits (key_of number slot) view (pending_opening limits slot)
  pub starts : (slot : Slot L) (t : Turn L) (local : L) →
      pending_opening limits slot ≡ Goes t local → reads r limits slot ≡ r.at_start local
  pub unread : (number : ℕ) (view : V) (slot : Slot L) → reads r limits slot ≡ false →
      turn r limits number view slot ≡ turn_of_opening r (pending_opening limits slot)
