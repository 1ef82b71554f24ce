-- The history as a whole: what stands in it below a key, of one slot, and what a slot comes to by it alone.
use Rattle.std.specs.Prelude.{ℕ, zero, suc, ◌+◌, ◌&&◌, nat_eq, nat_lt, if◌then◌else◌, List, [], ◌++◌, filter, Option, Some, None}
use Rattle.work_stamp.specs.Histories.{under}
use Rattle.work_stamp.specs.Keys.{is_below}
use Rattle.work_stamp.specs.Taskers.{Rules, view_of}
use Rattle.work_stamp.specs.declared.key.Key.{Key}
use Rattle.work_stamp.specs.declared.stamped.KeyedEntry.{KeyedEntry}
use Rattle.stamp_machine.specs.Slots.{fresh_slot, key_of, next_slot}
use Rattle.stamp_machine.specs.Machine.{turn, moves}
use Rattle.stamp_machine.specs.declared.limits.Limits.{Limits}
use Rattle.stamp_machine.specs.declared.opening.Turn.{Turn}
use Rattle.stamp_machine.specs.declared.slot.Slot.{Slot}

-- what stands below a key
abbrev pub below : Key → List KeyedEntry → List KeyedEntry
below k history = filter (λ e. is_below e.key k) history

-- what a slot has published
abbrev pub of_slot : ℕ → List KeyedEntry → List KeyedEntry
of_slot number history = filter (λ e. nat_eq e.key.slot number) history

-- what a slot has published below a stamp
abbrev pub log : ℕ → ℕ → List KeyedEntry → List KeyedEntry
log number stamp history = filter (λ e. nat_eq e.key.slot number && nat_lt e.key.stamp stamp)
    history

-- a move of a slot that sees what stands below its key in a history
abbrev pub turn_in : {V L : Type 0} → Rules V L → Limits → List KeyedEntry → ℕ → Slot L → Turn L
turn_in r limits history number slot = turn r limits number
    (view_of r (below (key_of number slot) history)) slot

-- a slot before its move of this number, by a history
abbrev pub state_of : {V L : Type 0} → Rules V L → Limits → List KeyedEntry → ℕ → ℕ → Slot L
state_of r limits history number zero = fresh_slot r number
state_of r limits history number (suc m) =
    (turn_in r limits history number (state_of r limits history number m)).slot

-- what a slot has published before its move of this number
abbrev pub entries_by : {V L : Type 0} → Rules V L → Limits → List KeyedEntry → ℕ → ℕ →
    List KeyedEntry
entries_by r limits history number zero = []
entries_by r limits history number (suc m) =
    entries_by r limits history number m
    ++ under (key_of number (state_of r limits history number m))
    (turn_in r limits history number (state_of r limits history number m)).entries

-- one where a slot is the one that moves
abbrev pub one_if : Option ℕ → ℕ → ℕ
one_if None number = 0
one_if (Some k) number = if nat_eq k number then 1 else 0

-- how many of the machine's first moves are those of a slot
abbrev pub count_of : {V L : Type 0} → Rules V L → Limits → ℕ → ℕ → ℕ
count_of r limits number zero = 0
count_of r limits number (suc n) = count_of r limits number n + one_if
    (next_slot (moves r limits n).slots) number
