-- The laws of the machine. In them the history is the last one, when no slot lives.
use Rattle.std.specs.Prelude.{ℕ, suc, ◌≡◌, ◌≤◌, ◌<◌, ◌+◌, ◌^◌, true, nat_lt, List, [], ◌++◌, length, map, filter, Option, Some, None}
use Rattle.work_stamp.specs.Histories.{under, FollowInTurn}
use Rattle.work_stamp.specs.Keys.{is_below}
use Rattle.work_stamp.specs.declared.entry.Entry.{Entry}
use Rattle.work_stamp.specs.Taskers.{Rules}
use Rattle.work_stamp.specs.declared.stamped.KeyedEntry.{KeyedEntry}
use Rattle.stamp_machine.specs.Slots.{at, key_of, next_slot, standing_of}
use Rattle.stamp_machine.specs.Machine.{moves, final, turn}
use Rattle.work_stamp.specs.Taskers.{Standing, view_of}
use Rattle.stamp_machine.specs.Kept.{HasRisen, IsKept, IsSound}
use Rattle.stamp_machine.specs.Runs.{below, of_slot, log, turn_in, state_of, entries_by, count_of}
use Rattle.stamp_machine.specs.declared.limits.Limits.{Limits}
use Rattle.stamp_machine.specs.declared.slot.Slot.{Slot}
use Rattle.stamp_machine.specs.declared.slot.Live.{Live}

-- the slot that moves has a greater clock afterwards, or is over
abbrev pub HasRisingClocks : {V L : Type 0} → Rules V L → Limits → Type 0
HasRisingClocks r limits = (n number : ℕ) (slot : Slot _) →
    next_slot (moves r limits n).slots ≡ Some number →
    at (moves r limits n).slots number ≡ Some slot →
    HasRisen slot (turn r limits number (view_of r (moves r limits n).entries) slot).slot

-- the key of a move is below that of the next one
abbrev pub HasRisingKeys : {V L : Type 0} → Rules V L → Limits → Type 0
HasRisingKeys r limits = (n number next : ℕ) (slot following : Slot _) →
    next_slot (moves r limits n).slots ≡ Some number →
    at (moves r limits n).slots number ≡ Some slot →
    next_slot (moves r limits (suc n)).slots ≡ Some next →
    at (moves r limits (suc n)).slots next ≡ Some following →
    is_below (key_of number slot) (key_of next following) ≡ true

-- a slot makes at most work + 1 moves; after as many for each slot none lives, and where none lives the machine stays as it is
pub record HasLastMove {V L : Type 0} (r : Rules V L) (limits : Limits) : Type 0 where
  pub few : (number n : ℕ) → number < limits.slots → count_of r limits number n ≤ limits.work + 1
  pub none_lives : next_slot (final r limits).slots ≡ None
  pub stays : (n : ℕ) → next_slot (moves r limits n).slots ≡ None →
      moves r limits n ≡ final r limits

-- when a slot is chosen, what stands below its key in the history is the history so far
abbrev pub HasLesserKeysBefore : {V L : Type 0} → Rules V L → Limits → Type 0
HasLesserKeysBefore r limits = (n number : ℕ) (slot : Slot _) →
    next_slot (moves r limits n).slots ≡ Some number →
    at (moves r limits n).slots number ≡ Some slot →
    below (key_of number slot) (final r limits).entries ≡ (moves r limits n).entries

-- each slot plays by the history: after any number of the machine's moves it is what its own moves make of it
pub record IsPlayed {V L : Type 0} (r : Rules V L) (limits : Limits) (n number : ℕ)
    (slot : Slot L) : Type 0 where
  pub state : slot ≡ state_of r limits (final r limits).entries number (count_of r limits number n)
  pub entries : of_slot number (moves r limits n).entries ≡
      entries_by r limits (final r limits).entries number (count_of r limits number n)

-- each slot plays by the history
abbrev pub ArePlayed : {V L : Type 0} → Rules V L → Limits → Type 0
ArePlayed r limits = (n number : ℕ) (slot : Slot _) →
    at (moves r limits n).slots number ≡ Some slot → IsPlayed r limits n number slot

-- a live slot, by its own moves, is chosen at some move of the machine
pub record IsChosen {V L : Type 0} (r : Rules V L) (limits : Limits) (number m : ℕ) : Type 0 where
  pub n : ℕ
  pub next : next_slot (moves r limits n).slots ≡ Some number
  pub count : count_of r limits number n ≡ m
  pub there : at (moves r limits n).slots number ≡
      Some (state_of r limits (final r limits).entries number m)

-- each live slot is chosen
abbrev pub AreChosen : {V L : Type 0} → Rules V L → Limits → Type 0
AreChosen r limits = (number m : ℕ) (live : Live _) → number < limits.slots →
    (state_of r limits (final r limits).entries number m).live ≡ Some live →
    IsChosen r limits number m

-- of a live slot whose clock is at least a stamp, all is known below the stamp: it is what the slot has published so far, with
-- which its entries begin
pub record HasKnownLog {V L : Type 0} (r : Rules V L) (limits : Limits)
    (number m : ℕ) : Type 0 where
  pub below_clock : (stamp : ℕ) → stamp ≤
      (state_of r limits (final r limits).entries number m).clock →
      log number stamp (final r limits).entries ≡
      filter (λ e. nat_lt e.key.stamp stamp)
      (entries_by r limits (final r limits).entries number m)
  pub at_clock : log number (state_of r limits (final r limits).entries number m).clock
      (final r limits).entries ≡ entries_by r limits (final r limits).entries number m
  pub rest : List KeyedEntry
  pub front : of_slot number (final r limits).entries ≡
      entries_by r limits (final r limits).entries number m ++ rest

-- of each live slot
abbrev pub HaveKnownLogs : {V L : Type 0} → Rules V L → Limits → Type 0
HaveKnownLogs r limits = (number m : ℕ) (live : Live _) → number < limits.slots →
    (state_of r limits (final r limits).entries number m).live ≡ Some live →
    HasKnownLog r limits number m

-- when a slot is over, it has published all that it ever will
abbrev pub HaveKnownEnds : {V L : Type 0} → Rules V L → Limits → Type 0
HaveKnownEnds r limits = (number m : ℕ) → number < limits.slots →
    (state_of r limits (final r limits).entries number m).live ≡ None →
    of_slot number (final r limits).entries ≡ entries_by r limits (final r limits).entries number m

-- the history begins with what stands below a live slot's key and then that move's entries
pub record HasFront {V L : Type 0} (r : Rules V L) (limits : Limits) (number : ℕ)
    (slot : Slot L) : Type 0 where
  pub rest : List KeyedEntry
  pub whole : (final r limits).entries ≡
      (below (key_of number slot) (final r limits).entries ++ under (key_of number slot)
      (turn_in r limits (final r limits).entries number slot).entries) ++ rest

-- for each live slot
abbrev pub HaveFronts : {V L : Type 0} → Rules V L → Limits → Type 0
HaveFronts r limits = (number m : ℕ) (live : Live _) → number < limits.slots →
    (state_of r limits (final r limits).entries number m).live ≡ Some live →
    HasFront r limits number (state_of r limits (final r limits).entries number m)

-- what a lawful system of tasks keeps through every move: history and slots agree, entries may follow one after the other,
-- and the history stays short of 2^31 entries
pub record IsLawfulAfter {V L : Type 0} (r : Rules V L) (FitsView : V → Type 0)
    (FitsLocal : L → Type 0) (MayFollow : List KeyedEntry → Entry → Type 0)
    (Agrees : List KeyedEntry → List (Option (Standing L)) → Type 0) (limits : Limits)
    (n : ℕ) : Type 0 where
  pub stands : IsSound r FitsView FitsLocal Agrees limits (moves r limits n)
  pub follow : FollowInTurn MayFollow [] (moves r limits n).entries
  pub short : length (moves r limits n).entries < 2 ^ 31
  pub slots : (number : ℕ) → limits.slots ≤ number → of_slot number (moves r limits n).entries ≡ []
  pub turn_keeps : (number : ℕ) (slot : Slot L) (live : Live L) →
      at (moves r limits n).slots number ≡ Some slot → slot.live ≡ Some live →
      IsKept r FitsLocal MayFollow Agrees limits (moves r limits n).entries
      (map standing_of (moves r limits n).slots) number slot
      (turn r limits number (view_of r (moves r limits n).entries) slot)

-- the local of each live slot, by its own moves, fits
abbrev pub HaveFittingLocals : {V L : Type 0} → Rules V L → (L → Type 0) → Limits → Type 0
HaveFittingLocals r FitsLocal limits = (number m : ℕ) (live : Live _) → number < limits.slots →
    (state_of r limits (final r limits).entries number m).live ≡ Some live → FitsLocal live.local
