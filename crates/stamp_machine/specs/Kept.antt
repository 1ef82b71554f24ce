-- What every move of the machine keeps, for a lawful system of tasks.
use Rattle.std.specs.Prelude.{ℕ, ◌≡◌, ◌≤◌, ◌<◌, ◌+◌, ◌*◌, ◌-◌, ◌^◌, List, [], ◌∷◌, ◌++◌, length, map, set, Option, Some, None}
use Rattle.work_stamp.specs.Histories.{under, FollowInTurn}
use Rattle.work_stamp.specs.Taskers.{Rules, Standing, view_of, HaveWords}
use Rattle.work_stamp.specs.declared.entry.Entry.{Entry}
use Rattle.work_stamp.specs.declared.stamped.KeyedEntry.{KeyedEntry}
use Rattle.stamp_machine.specs.Slots.{at, key_of, standing_of, moves_left}
use Rattle.stamp_machine.specs.Machine.{State, word_count}
use Rattle.stamp_machine.specs.declared.limits.Limits.{Limits}
use Rattle.stamp_machine.specs.declared.opening.Turn.{Turn}
use Rattle.stamp_machine.specs.declared.slot.Slot.{Slot}
use Rattle.stamp_machine.specs.declared.slot.Live.{Live}

-- the local fits, and what is pending has words
pub record IsFitting {L : Type 0} (FitsLocal : L → Type 0) (live : Live L) : Type 0 where
  pub local : FitsLocal live.local
  pub words : HaveWords live.pending

-- the same of a slot, with nothing to say where it is over
abbrev pub IsFittingWhileLive : {L : Type 0} → (L → Type 0) → Option (Live L) → Type 0
IsFittingWhileLive FitsLocal None = Unit {0}
IsFittingWhileLive FitsLocal (Some live) = IsFitting FitsLocal live

-- the clock has passed a count of work, or the slot is over
abbrev pub IsPast : {L : Type 0} → ℕ → ℕ → Option (Live L) → Type 0
IsPast before clock None = Unit {0}
IsPast before clock (Some live) = before < clock

-- the clock has risen, or the slot is over
abbrev pub HasRisen : {L : Type 0} → Slot L → Slot L → Type 0
HasRisen old new = IsPast old.clock new.clock new.live

-- a slot that is over may have published one entry more than its words count: a Halt
abbrev pub one_when_over : {L : Type 0} → Option (Live L) → ℕ
one_when_over None = 1
one_when_over (Some live) = 0

-- how many entries a slot can have published
abbrev pub tally : {L : Type 0} → Slot L → ℕ
tally slot = slot.words + one_when_over slot.live

-- A move of a live slot keeps agreement: its entries may follow one after the other. They have words, of which the
-- slot's count misses those of a Halt alone. The clock doesn't pass the limit on work by more than a chunk.
pub record IsKept {V L : Type 0} (r : Rules V L) (FitsLocal : L → Type 0)
    (MayFollow : List KeyedEntry → Entry → Type 0)
    (Agrees : List KeyedEntry → List (Option (Standing L)) → Type 0)
    (limits : Limits) (history : List KeyedEntry) (slots : List (Option (Standing L))) (number : ℕ)
    (old : Slot L) (t : Turn L) : Type 0 where
  pub follow : FollowInTurn MayFollow history (under (key_of number old) t.entries)
  pub agrees : Agrees (history ++ under (key_of number old) t.entries)
      (set slots number (standing_of t.slot))
  pub fits : IsFittingWhileLive FitsLocal t.slot.live
  pub rises : HasRisen old t.slot
  pub left : moves_left limits t.slot ≤ limits.work - old.clock
  pub low : old.clock ≤ limits.work + 2 ^ 40 → t.slot.clock ≤ limits.work + 2 ^ 40
  pub few : length t.entries + old.words ≤ tally t.slot
  pub words : HaveWords t.entries
  pub fills : word_count t.entries + old.words ≤ t.slot.words + 3 * one_when_over t.slot.live
  pub store : t.slot.words ≤ limits.store - 4

-- so many entries can all slots together have published
abbrev pub tally_all : {L : Type 0} → List (Slot L) → ℕ
tally_all [] = 0
tally_all (slot ∷ slots) = tally slot + tally_all slots

-- what holds before and after every move: history and slots agree, views and locals fit, and no store overflows
pub record IsSound {V L : Type 0} (r : Rules V L) (FitsView : V → Type 0) (FitsLocal : L → Type 0)
    (Agrees : List KeyedEntry → List (Option (Standing L)) → Type 0)
    (limits : Limits) (state : State L) : Type 0 where
  pub agrees : Agrees state.entries (map standing_of state.slots)
  pub view : FitsView (view_of r state.entries)
  pub fits : (number : ℕ) (slot : Slot L) → at state.slots number ≡ Some slot →
      IsFittingWhileLive FitsLocal slot.live
  pub store : (number : ℕ) (slot : Slot L) → at state.slots number ≡ Some slot →
      slot.words ≤ limits.store - 4
  pub number : length state.slots ≡ limits.slots
  pub few : length state.entries ≤ tally_all state.slots
