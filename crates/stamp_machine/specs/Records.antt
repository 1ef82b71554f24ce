-- Where the entries of the history and the records of its slots come from.
use Rattle.std.specs.Prelude.{ℕ, ◌≡◌, true, false, List, [], ◌++◌, get_or, Option, Some, None}
use Rattle.ip_core.specs.declared.leaf.Record.{Record}
use Rattle.work_stamp.specs.Histories.{under}
use Rattle.work_stamp.specs.Taskers.{Rules, Standing, standing, view_of}
use Rattle.work_stamp.specs.declared.entry.Entry.{Entry}
use Rattle.work_stamp.specs.declared.entry.Entry.TheVariants.{Halt}
use Rattle.work_stamp.specs.declared.key.Key.{Key}
use Rattle.work_stamp.specs.declared.stamped.KeyedEntry.{KeyedEntry}
use Rattle.work_stamp.specs.declared.task.Begin.TheVariants.{Take}
use Rattle.stamp_machine.specs.Machine.{history}
use Rattle.stamp_machine.specs.Slots.{at}
use Rattle.stamp_machine.specs.declared.history.History.{History}
use Rattle.stamp_machine.specs.declared.limits.Limits.{Limits}

-- items that stand in a list one after the other
pub record IsPart {A : Type 0} (xs whole : List A) : Type 0 where
  pub front : List A
  pub rest : List A
  pub is : whole ≡ (front ++ xs) ++ rest

-- a front of the history, with which slots agreed, in which this slot stood at this local with nothing pending
pub record HasStanding {L : Type 0} (FitsLocal : L → Type 0)
    (Agrees : List KeyedEntry → List (Option (Standing L)) → Type 0) (entries : List KeyedEntry)
    (number : ℕ) (local : L) : Type 0 where
  pub front : List KeyedEntry
  pub later : List KeyedEntry
  pub whole : entries ≡ front ++ later
  pub slots : List (Option (Standing L))
  pub agrees : Agrees front slots
  pub there : get_or slots number None ≡ standing local []
  pub fits : FitsLocal local

-- A chunk that joined: where it was run, its slot stood at this local and had begun a task. Later all its entries joined the
-- history under this key of the slot, and all its records those of the slot.
pub record IsJoinedChunk {V L : Type 0} (r : Rules V L) (FitsLocal : L → Type 0)
    (Agrees : List KeyedEntry → List (Option (Standing L)) → Type 0) (entries : List KeyedEntry)
    (records : List Record) (key : Key) (local : L) : Type 0 where
  pub stood : HasStanding FitsLocal Agrees entries key.slot local
  pub busy : r.at_start local ≡ false
  pub entry_part : IsPart (under key (r.chunk local).gives.entries) stood.later
  pub record_part : IsPart (r.chunk local).gives.records records

-- a record of a slot is one of a chunk of that slot that joined
pub record HasChunk {V L : Type 0} (r : Rules V L) (FitsLocal : L → Type 0)
    (Agrees : List KeyedEntry → List (Option (Standing L)) → Type 0) (entries : List KeyedEntry)
    (records : List Record) (number : ℕ) (item : Record) : Type 0 where
  pub key : Key
  pub own : key.slot ≡ number
  pub local : L
  pub chunk : IsJoinedChunk r FitsLocal Agrees entries records key local
  pub place : ℕ
  pub there : at (r.chunk local).gives.records place ≡ Some item

-- an entry is one of a chunk that joined under its key
pub record IsOfChunk {V L : Type 0} (r : Rules V L) (FitsLocal : L → Type 0)
    (Agrees : List KeyedEntry → List (Option (Standing L)) → Type 0) (entries : List KeyedEntry)
    (records : List Record) (e : KeyedEntry) : Type 0 where
  pub local : L
  pub chunk : IsJoinedChunk r FitsLocal Agrees entries records e.key local
  pub place : ℕ
  pub there : at (r.chunk local).gives.entries place ≡ Some e.entry

-- an entry is one of a task that its slot, between tasks, took on the view of a front of the history, behind which all the
-- task's entries joined under its key
pub record IsOfTake {V L : Type 0} (r : Rules V L) (FitsLocal : L → Type 0)
    (Agrees : List KeyedEntry → List (Option (Standing L)) → Type 0) (entries : List KeyedEntry)
    (e : KeyedEntry) : Type 0 where
  pub local : L
  pub stood : HasStanding FitsLocal Agrees entries e.key.slot local
  pub starts : r.at_start local ≡ true
  pub takes : List Entry
  pub does : (r.begin (view_of r stood.front) local).does ≡ Take takes
  pub rest : List KeyedEntry
  pub joins : stood.later ≡ under e.key takes ++ rest
  pub place : ℕ
  pub there : at takes place ≡ Some e.entry

-- where an entry of the history comes from: it is a Halt, or its slot took it with a task, or a chunk of its slot gave it
pub data HasOrigin {V L : Type 0} (r : Rules V L) (FitsLocal : L → Type 0)
    (Agrees : List KeyedEntry → List (Option (Standing L)) → Type 0) (entries : List KeyedEntry)
    (records : List Record) (e : KeyedEntry) : Type 0 where
  OfHalt : e.entry ≡ Halt → HasOrigin r FitsLocal Agrees entries records e
  OfTake : IsOfTake r FitsLocal Agrees entries e → HasOrigin r FitsLocal Agrees entries records e
  OfChunk : IsOfChunk r FitsLocal Agrees entries records e →
      HasOrigin r FitsLocal Agrees entries records e

-- the records of a slot
abbrev pub records_of : History → ℕ → List Record
records_of history number = get_or history.records number []

-- each record of a slot is one of a chunk that joined
abbrev pub RecordsHaveChunks : {V L : Type 0} → Rules V L → (L → Type 0) →
    (List KeyedEntry → List (Option (Standing L)) → Type 0) → Limits → Type 0
RecordsHaveChunks r FitsLocal Agrees limits = (number place : ℕ) (item : Record) →
    at (records_of (history r limits) number) place ≡ Some item →
    HasChunk r FitsLocal Agrees (history r limits).entries
    (records_of (history r limits) number) number item

-- each entry of the history has an origin
abbrev pub EntriesHaveOrigins : {V L : Type 0} → Rules V L → (L → Type 0) →
    (List KeyedEntry → List (Option (Standing L)) → Type 0) → Limits → Type 0
EntriesHaveOrigins r FitsLocal Agrees limits = (place : ℕ) (e : KeyedEntry) →
    at (history r limits).entries place ≡ Some e →
    HasOrigin r FitsLocal Agrees (history r limits).entries
    (records_of (history r limits) e.key.slot) e
