-- Why a Halt stands in a history, and why a slot is over.
use Rattle.std.specs.Prelude.{ℕ, ◌≡◌, ◌≤◌, ◌<◌, ◌+◌, Bool, true, false, ◌||◌, if◌then◌else◌, List, [], ◌∷◌, ◌++◌, Some}
use Rattle.work_stamp.specs.Histories.{keyed_entry, under}
use Rattle.work_stamp.specs.Taskers.{Rules, view_after, view_of}
use Rattle.work_stamp.specs.declared.entry.Entry.{Entry}
use Rattle.work_stamp.specs.declared.entry.Entry.TheVariants.{Start, CutStart, HeurStart, Done, Found, Cut, Split, Closed, Halt}
use Rattle.work_stamp.specs.declared.key.Key.{Key}
use Rattle.work_stamp.specs.declared.stamped.KeyedEntry.{KeyedEntry}
use Rattle.work_stamp.specs.declared.task.Begin.{Begin}
use Rattle.work_stamp.specs.declared.task.Begin.TheVariants.{Take, Idle, End}
use Rattle.stamp_machine.specs.Machine.{final, history, moves, word_count}
use Rattle.stamp_machine.specs.Slots.{at, key_of, next_slot}
use Rattle.stamp_machine.specs.declared.limits.Limits.{Limits}
use Rattle.stamp_machine.specs.declared.slot.Slot.{Slot}
use Rattle.stamp_machine.specs.declared.slot.Live.{Live}

-- whether an entry is a Halt
abbrev pub is_halt : Entry → Bool
is_halt (Start node) = false
is_halt CutStart = false
is_halt (HeurStart node) = false
is_halt Done = false
is_halt (Found value point) = false
is_halt (Cut derivation) = false
is_halt (Split node col at first keep bound) = false
is_halt (Closed node) = false
is_halt Halt = true

-- whether a Halt is among entries
abbrev pub has_halt : List Entry → Bool
has_halt [] = false
has_halt (e ∷ es) = is_halt e || has_halt es

-- the entries of what a slot between tasks does
abbrev pub entries_of : Begin → List Entry
entries_of (Take es) = es
entries_of Idle = []
entries_of End = []

-- no task gives a Halt: the machine alone does
pub record HasNoOwnHalt {V L : Type 0} (r : Rules V L) : Type 0 where
  pub begin : (view : V) (l : L) → has_halt (entries_of (r.begin view l).does) ≡ false
  pub chunk : (l : L) → has_halt (r.chunk l).gives.entries ≡ false

-- the entries of the task that a slot takes, on the view with what it had pending
abbrev pub begin_entries : {V L : Type 0} → Rules V L → ℕ → V → Slot L → Live L → List Entry
begin_entries r number view slot live =
    if r.at_start live.local
    then entries_of
    (r.begin (view_after r view (under (key_of number slot) live.pending)) live.local).does
    else []

-- what a live slot has to publish at a move: what is pending, and the entries of the task that it takes
abbrev pub due_entries : {V L : Type 0} → Rules V L → ℕ → V → Slot L → Live L → List Entry
due_entries r number view slot live = live.pending ++ begin_entries r number view slot live

-- The slot of this key moved at this stamp below the limit on work, and the words of what it had to publish, with those that it
-- had published before, were past its store less four.
pub record IsFullAt {V L : Type 0} (r : Rules V L) (limits : Limits) (k : Key) : Type 0 where
  pub n : ℕ
  pub slot : Slot L
  pub live : Live L
  pub moves_next : next_slot (moves r limits n).slots ≡ Some k.slot
  pub there : at (moves r limits n).slots k.slot ≡ Some slot
  pub lives : slot.live ≡ Some live
  pub stamp : slot.clock ≡ k.stamp
  pub early : slot.clock < limits.work
  pub past : limits.store < slot.words
      + word_count (due_entries r k.slot (view_of r (moves r limits n).entries) slot live) + 4

-- a Halt stands in a history under a key
pub record HasHalt (entries : List KeyedEntry) (k : Key) : Type 0 where
  pub place : ℕ
  pub there : at entries place ≡ Some (keyed_entry k Halt)

-- each Halt of the machine's history is that of a slot whose store was full
abbrev pub HaltsHaveCauses : {V L : Type 0} → Rules V L → Limits → Type 0
HaltsHaveCauses r limits = (k : Key) → HasHalt (final r limits).entries k → IsFullAt r limits k

-- on a front of these entries a slot between tasks has nothing more to do
pub record IsOverOnFront {V L : Type 0} (r : Rules V L) (entries : List KeyedEntry) : Type 0 where
  pub front : List KeyedEntry
  pub rest : List KeyedEntry
  pub whole : entries ≡ front ++ rest
  pub local : L
  pub starts : r.at_start local ≡ true
  pub over : (r.begin (view_of r front) local).does ≡ End

-- why a slot is over: its clock came to the limit on work, its store was full, or nothing was left to do
pub data IsEndCause {V L : Type 0} (r : Rules V L) (limits : Limits) (entries : List KeyedEntry)
    (number : ℕ) (slot : Slot L) : Type 0 where
  Spent : limits.work ≤ slot.clock → IsEndCause r limits entries number slot
  Full : HasHalt entries (key_of number slot) → IsEndCause r limits entries number slot
  NothingLeft : IsOverOnFront r entries → IsEndCause r limits entries number slot

-- each slot has such a cause in the end
abbrev pub EndsHaveCauses : {V L : Type 0} → Rules V L → Limits → Type 0
EndsHaveCauses r limits = (number : ℕ) (slot : Slot _) →
    at (final r limits).slots number ≡ Some slot →
    IsEndCause r limits (final r limits).entries number slot

-- a Halt stands in the machine's history, and the store of its slot was full
pub record HasFullSlot {V L : Type 0} (r : Rules V L) (limits : Limits) : Type 0 where
  pub key : Key
  pub stands : HasHalt (history r limits).entries key
  pub full : IsFullAt r limits key

-- every slot's clock ended at the limit on work or past it, and no Halt stands
pub record IsAllSpent {V L : Type 0} (r : Rules V L) (limits : Limits) : Type 0 where
  pub no_halt : (k : Key) → HasHalt (history r limits).entries k → ⊥
  pub ends : (number clock : ℕ) → at (history r limits).ends number ≡ Some clock →
      limits.work ≤ clock
