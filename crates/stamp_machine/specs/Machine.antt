-- The machine, as functions of plain data over the definitions of a system of tasks and the limits.
use Rattle.std.specs.Prelude.{ℕ, zero, suc, ◌+◌, ◌-◌, ◌*◌, Bool, nat_le, if◌then◌else◌, List, [], ◌∷◌, ◌++◌, length, map, set, Option, Some, None}
use Rattle.work_stamp.specs.Histories.{under}
use Rattle.work_stamp.specs.Taskers.{Rules, AfterBegin, view_after, view_of}
use Rattle.work_stamp.specs.Words.{further_words}
use Rattle.work_stamp.specs.declared.entry.Entry.{Entry}
use Rattle.work_stamp.specs.declared.entry.Entry.TheVariants.{Halt}
use Rattle.work_stamp.specs.declared.stamped.KeyedEntry.{KeyedEntry}
use Rattle.work_stamp.specs.declared.task.Begin.{Begin}
use Rattle.work_stamp.specs.declared.task.Begin.TheVariants.{Take, Idle, End}
use Rattle.stamp_machine.specs.Slots.{at, fresh_slots, slot_after_end, key_of, next_slot}
use Rattle.stamp_machine.specs.declared.history.History.{History}
use Rattle.stamp_machine.specs.declared.limits.Limits.{Limits}
use Rattle.stamp_machine.specs.declared.opening.Turn.{Turn}
use Rattle.stamp_machine.specs.declared.slot.Slot.{Slot}
use Rattle.stamp_machine.specs.declared.slot.Live.{Live}

-- the words of entries: no stamp changes their number
abbrev pub entry_count : Entry → ℕ
entry_count e = 3 + length (further_words e)

-- the words of several entries
abbrev pub word_count : List Entry → ℕ
word_count [] = 0
word_count (e ∷ es) = entry_count e + word_count es

-- whether a slot may publish these entries: four words of its store stay free
abbrev pub fits : Limits → ℕ → List Entry → Bool
fits limits words es = nat_le (words + word_count es) (limits.store - 4)

-- the slot after a chunk of its task, whose entries and records are pending
abbrev pub slot_after_chunk : {V L : Type 0} → Rules V L → Slot L → L → Slot L
slot_after_chunk r slot local = record slot {
  clock = slot.clock + (r.chunk local).gives.work;
  live = Some (record {
    local = (r.chunk local).local;
    pending =
        (r.chunk local).gives.entries;
    leaves = (r.chunk local).gives.records;
  });
}

-- what was pending has joined
abbrev pub slot_after_join : {L : Type 0} → Slot L → Live L → Slot L
slot_after_join slot live = record slot {
  words = slot.words + word_count live.pending;
  records =
      slot.records ++ live.leaves;
}

-- the slot waits
abbrev pub slot_after_idle : {L : Type 0} → Slot L → L → Slot L
slot_after_idle slot local = record slot
    { clock = slot.clock + 1000; live = Some (record { local = local; pending = []; leaves = [] }) }

-- a task is taken: its entries join where they fit, and else a Halt joins and the slot is over
abbrev pub turn_of_take : {V L : Type 0} → Rules V L → Limits → Slot L → List Entry → List Entry →
    L → Turn L
turn_of_take r limits slot pending es local =
    if fits limits slot.words es
    then record {
      entries = pending ++ es;
      slot =
          slot_after_chunk r (record slot { words = slot.words + word_count es }) local;
    }
    else record { entries = pending ++ Halt ∷ []; slot = slot_after_end slot }

-- between tasks, by what the slot does next
abbrev pub turn_of_begin : {V L : Type 0} → Rules V L → Limits → Slot L → List Entry → L → Begin →
    Turn L
turn_of_begin r limits slot pending local End =
    record { entries = pending; slot = slot_after_end slot }
turn_of_begin r limits slot pending local Idle =
    record { entries = pending; slot = slot_after_idle slot local }
turn_of_begin r limits slot pending local (Take es) = turn_of_take r limits slot pending es local

-- the same of what the rules say
abbrev pub turn_after_begin : {V L : Type 0} → Rules V L → Limits → Slot L → List Entry →
    AfterBegin L → Turn L
turn_after_begin r limits slot pending b = turn_of_begin r limits slot pending b.local b.does

-- what was pending has joined, and the slot begins a task or goes on with one
abbrev pub turn_after_join : {V L : Type 0} → Rules V L → Limits → ℕ → V → Slot L → Live L → Turn L
turn_after_join r limits number view slot live =
    if r.at_start live.local
    then turn_after_begin r limits (slot_after_join slot live) live.pending
    (r.begin (view_after r view (under (key_of number slot) live.pending)) live.local)
    else record {
      entries = live.pending;
      slot =
          slot_after_chunk r (slot_after_join slot live) live.local;
    }

-- at the limit of work a slot is over; where what is pending doesn't fit, a Halt joins and the slot is over
abbrev pub turn_while_live : {V L : Type 0} → Rules V L → Limits → ℕ → V → Slot L →
    Option (Live L) → Turn L
turn_while_live r limits number view slot None = record { entries = []; slot = slot }
turn_while_live r limits number view slot (Some live) =
    if nat_le limits.work slot.clock
    then record { entries = []; slot = slot_after_end slot }
    else (if fits limits slot.words live.pending
    then turn_after_join r limits number view slot live
    else record { entries = Halt ∷ []; slot = slot_after_end slot })

-- a move of a slot that sees a view of the history
abbrev pub turn : {V L : Type 0} → Rules V L → Limits → ℕ → V → Slot L → Turn L
turn r limits number view slot = turn_while_live r limits number view slot slot.live

-- the history so far, and the slots
pub record State (L : Type 0) : Type 0 where
  pub entries : List KeyedEntry
  pub slots : List (Slot L)

-- the slot's entries join under its key
abbrev pub after_turn : {L : Type 0} → State L → ℕ → Slot L → Turn L → State L
after_turn state number slot t = record {
  entries =
      state.entries ++ under (key_of number slot) t.entries;
  slots = set state.slots number t.slot;
}

-- a move of the slot at a place
abbrev pub move_of : {V L : Type 0} → Rules V L → Limits → State L → ℕ → Option (Slot L) → State L
move_of r limits state number None = state
move_of r limits state number (Some slot) =
    after_turn state number slot (turn r limits number (view_of r state.entries) slot)

-- a move of the slot whose turn it is
abbrev pub move_next : {V L : Type 0} → Rules V L → Limits → State L → Option ℕ → State L
move_next r limits state None = state
move_next r limits state (Some number) = move_of r limits state number (at state.slots number)

-- the live slot of the least key moves, on the view of the whole history so far; where no slot lives nothing happens
abbrev pub move : {V L : Type 0} → Rules V L → Limits → State L → State L
move r limits state = move_next r limits state (next_slot state.slots)

-- the empty history, and fresh slots
abbrev pub first : {V L : Type 0} → Rules V L → Limits → State L
first r limits = record { entries = []; slots = fresh_slots r 0 limits.slots }

-- the machine after so many moves
unfoldable pub moves : {V L : Type 0} → Rules V L → Limits → ℕ → State L
moves r limits zero = first r limits
moves r limits (suc n) = move r limits (moves r limits n)

-- a slot makes at most work + 1 moves, so after these none lives
abbrev pub last : Limits → ℕ
last limits = limits.slots * (limits.work + 1)

-- the machine when no slot lives
abbrev pub final : {V L : Type 0} → Rules V L → Limits → State L
final r limits = moves r limits (last limits)

-- the entries, and of each slot its records and its clock
abbrev pub as_history : {L : Type 0} → State L → History
as_history state = record {
  entries = state.entries;
  records =
      map (λ slot. slot.records) state.slots;
  ends = map (λ slot. slot.clock) state.slots;
}

-- the history that the slots leave
abbrev pub history : {V L : Type 0} → Rules V L → Limits → History
history r limits = as_history (final r limits)
