-- Words, stores and clocks: what the history and the slots never go past.
use Rattle.std.specs.Prelude.{ℕ, ◌≡◌, ◌≤◌, ◌<◌, ◌+◌, ◌*◌, ◌^◌, List, [], ◌∷◌, length, get_or, Option, Some, None}
use Rattle.work_stamp.specs.Taskers.{Rules, Standing, view_of}
use Rattle.work_stamp.specs.Writable.{HasWords}
use Rattle.work_stamp.specs.declared.entry.Entry.{Entry}
use Rattle.work_stamp.specs.declared.stamped.KeyedEntry.{KeyedEntry}
use Rattle.stamp_machine.specs.Kept.{IsKept, one_when_over}
use Rattle.stamp_machine.specs.Machine.{entry_count, final, moves, turn}
use Rattle.stamp_machine.specs.Plays.{CanTurn}
use Rattle.stamp_machine.specs.Runs.{below, of_slot, turn_in, state_of, entries_by}
use Rattle.stamp_machine.specs.Slots.{at, key_of, next_slot, standing_of}
use Rattle.stamp_machine.specs.declared.limits.Limits.{Limits}
use Rattle.stamp_machine.specs.declared.slot.Slot.{Slot}
use Rattle.stamp_machine.specs.declared.slot.Live.{Live}

-- the words of the entries of a history
abbrev pub keyed_word_count : List KeyedEntry → ℕ
keyed_word_count [] = 0
keyed_word_count (e ∷ es) = entry_count e.entry + keyed_word_count es

-- each entry of the history has words from which it is read again
abbrev pub EntriesHaveWords : {V L : Type 0} → Rules V L → Limits → Type 0
EntriesHaveWords r limits = (place : ℕ) (e : KeyedEntry) →
    at (final r limits).entries place ≡ Some e → HasWords e.entry

-- no slot's clock passes the limit on work by more than a chunk, and no entry's stamp does
pub record HaveLowClocks {V L : Type 0} (r : Rules V L) (limits : Limits) : Type 0 where
  pub slots : (number m : ℕ) → number < limits.slots →
      (state_of r limits (final r limits).entries number m).clock ≤ limits.work + 2 ^ 40
  pub stamps : (place : ℕ) (e : KeyedEntry) → at (final r limits).entries place ≡ Some e →
      e.key.stamp ≤ limits.work + 2 ^ 40

-- what a slot has published before a move has no more words than the slot counts, but for a Halt at its end
abbrev pub AreCounted : {V L : Type 0} → Rules V L → Limits → Type 0
AreCounted r limits = (number m : ℕ) → number < limits.slots →
    keyed_word_count (entries_by r limits (final r limits).entries number m) ≤
    (state_of r limits (final r limits).entries number m).words
    + 3 * one_when_over (state_of r limits (final r limits).entries number m).live

-- The entries of each slot have fewer words than its store takes, and so have all entries than all stores. An entry has
-- three words or more.
pub record FitStores {V L : Type 0} (r : Rules V L) (limits : Limits) : Type 0 where
  pub counted : AreCounted r limits
  pub each : (number : ℕ) →
      keyed_word_count (of_slot number (final r limits).entries) < limits.store
  pub all : keyed_word_count (final r limits).entries < limits.slots * limits.store
  pub few : 3 * length (final r limits).entries ≤ keyed_word_count (final r limits).entries

-- where a slot, by its own moves, is over, it is that slot of the last state
abbrev pub OverSlotsAreLast : {V L : Type 0} → Rules V L → Limits → Type 0
OverSlotsAreLast r limits = (number m : ℕ) → number < limits.slots →
    (state_of r limits (final r limits).entries number m).live ≡ None →
    at (final r limits).slots number ≡ Some (state_of r limits (final r limits).entries number m)

-- the move of the slot that is chosen is the one that it makes by the history
abbrev pub AreTurnsOfMachine : {V L : Type 0} → Rules V L → Limits → Type 0
AreTurnsOfMachine r limits = (n number : ℕ) (slot : Slot _) →
    next_slot (moves r limits n).slots ≡ Some number →
    at (moves r limits n).slots number ≡ Some slot →
    turn_in r limits (final r limits).entries number slot ≡
    turn r limits number (view_of r (moves r limits n).entries) slot

-- A slot's own move on what stands below its key in the history: there are slots which agree with that, and among which
-- the slot stands as it is. The slot can move there, and the move keeps what every move of the machine keeps; so the
-- slot's clock rises, or it is over.
pub record IsKeptByHistory {V L : Type 0} (r : Rules V L) (FitsView : V → Type 0)
    (FitsLocal : L → Type 0) (MayFollow : List KeyedEntry → Entry → Type 0)
    (Agrees : List KeyedEntry → List (Option (Standing L)) → Type 0) (limits : Limits)
    (history : List KeyedEntry) (number : ℕ) (slot : Slot L) : Type 0 where
  pub slots : List (Option (Standing L))
  pub agrees : Agrees history slots
  pub there : get_or slots number None ≡ standing_of slot
  pub can : CanTurn r FitsView FitsLocal MayFollow limits
      (record { entries = history; view = view_of r history }) number slot
  pub room : length history + limits.store ≤ 2 ^ 23
  pub keeps : IsKept r FitsLocal MayFollow Agrees limits history slots number slot
      (turn r limits number (view_of r history) slot)

-- of each live slot, by its own moves
abbrev pub OwnMovesKeep : {V L : Type 0} → Rules V L → (V → Type 0) → (L → Type 0) →
    (List KeyedEntry → Entry → Type 0) →
    (List KeyedEntry → List (Option (Standing L)) → Type 0) → Limits → Type 0
OwnMovesKeep r FitsView FitsLocal MayFollow Agrees limits = (number m : ℕ) (live : Live _) →
    number < limits.slots →
    (state_of r limits (final r limits).entries number m).live ≡ Some live →
    IsKeptByHistory r FitsView FitsLocal MayFollow Agrees limits
    (below (key_of number (state_of r limits (final r limits).entries number m))
    (final r limits).entries) number (state_of r limits (final r limits).entries number m)
