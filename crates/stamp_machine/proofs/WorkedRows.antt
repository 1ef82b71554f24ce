-- Histories of the relay, worked out by hand.
use Rattle.std.proofs.Common.{◌≡◌, ℕ, List, [], ◌∷◌, Some, None, refl}
use Rattle.work_stamp.specs.Histories.{keyed_entry}
use Rattle.work_stamp.specs.declared.entry.Entry.{Entry}
use Rattle.work_stamp.specs.declared.entry.Entry.TheVariants.{Start, Done, Halt}
use Rattle.work_stamp.specs.declared.stamped.KeyedEntry.{KeyedEntry}
use Rattle.stamp_machine.specs.Machine.{history}
use Rattle.stamp_machine.specs.Relay.{relay, found_entry, leaf}
use Rattle.stamp_machine.specs.declared.history.History.{History}
use Rattle.stamp_machine.specs.declared.limits.Limits.{Limits}
use Rattle.stamp_machine.specs.Machine.{moves, as_history}
use Rattle.stamp_machine.specs.Openings.{pending_opening, task_opening}
use Rattle.stamp_machine.specs.declared.opening.Opening.TheVariants as opening
use Rattle.stamp_machine.specs.declared.slot.Slot.{Slot}
use Rattle.ip_core.specs.declared.leaf.Record.{Record}

abbrev limits : ℕ → ℕ → ℕ → Limits
limits slots work store = record { slots = slots; work = work; store = store }

abbrev by : ℕ → ℕ → Entry → KeyedEntry
by stamp slot e = keyed_entry (record { stamp = stamp; slot = slot }) e

-- the history after so many moves
abbrev after : ℕ → Limits → History
after n l = as_history (moves relay l n)

-- Two slots. At 700 slot 1 waits for slot 0, and both are over once three tasks have ended.
pub two_slots : after 12 (limits 2 2000 1000) ≡ record {
  entries = by 0 0 (Start 0) ∷ by 0 1 (Start 1) ∷ by 400 0 found_entry ∷ by 400 1 found_entry ∷ by 700 0 Done ∷ by 700 0 (Start 2) ∷ by 700 1 Done ∷ by 1100 0 found_entry ∷ by 1400 0 Done ∷ [];
  records = (leaf ∷ leaf ∷ []) ∷ (leaf ∷ []) ∷ [];
  ends = 1400 ∷ 1700 ∷ [];
}
unfolding moves
two_slots = refl

-- The last Done of slot 0 would be its words 60 to 62, of 60 that it may publish: it halts, and its record is dropped.
-- Slot 1 waits in vain, past the limit of work.
pub small_store : after 12 (limits 2 2000 64) ≡ record {
  entries = by 0 0 (Start 0) ∷ by 0 1 (Start 1) ∷ by 400 0 found_entry ∷ by 400 1 found_entry ∷ by 700 0 Done ∷ by 700 0 (Start 2) ∷ by 700 1 Done ∷ by 1100 0 found_entry ∷ by 1400 0 Halt ∷ [];
  records = (leaf ∷ []) ∷ (leaf ∷ []) ∷ [];
  ends = 1400 ∷ 2700 ∷ [];
}
unfolding moves
small_store = refl

-- At the limit of work a slot is over, and what is pending is dropped with its record.
pub little_work : after 12 (limits 2 700 1000) ≡ record {
  entries = by 0 0 (Start 0) ∷ by 0 1 (Start 1) ∷ by 400 0 found_entry ∷ by 400 1 found_entry ∷ [];
  records = [] ∷ [] ∷ [];
  ends = 700 ∷ 700 ∷ [];
}
unfolding moves
little_work = refl

-- After two whole tasks 62 words are published, all that it may. A third task doesn't fit, and a Halt stands in its place.
pub halt_at_take : after 12 (limits 1 5000 66) ≡ record {
  entries = by 0 0 (Start 0) ∷ by 400 0 found_entry ∷ by 700 0 Done ∷ by 700 0 (Start 1) ∷ by 1100 0 found_entry ∷ by 1400 0 Done ∷ by 1400 0 Halt ∷ [];
  records = (leaf ∷ leaf ∷ []) ∷ [];
  ends = 1400 ∷ [];
}
unfolding moves
halt_at_take = refl

-- no work at all
pub no_work : history relay (limits 2 0 64) ≡ record { entries = []; records = [] ∷ [] ∷ []; ends = 0 ∷ 0 ∷ [] }
unfolding moves
no_work = refl

-- slot 0 of two at 700, with the end of its task pending
abbrev at_700 : ℕ → Slot ℕ
at_700 words = record { clock = 700; words = words; records = []; live = Some (record { local = 0; pending = Done ∷ []; leaves = leaf ∷ [] }) }

-- what it leaves of itself where it is over or goes on
abbrev rest_at_700 : ℕ → List Record → Slot ℕ
rest_at_700 words records = record { clock = 700; words = words; records = records; live = None }

-- The end joins, and the slot goes on. At the limit on work the end is dropped, and where it doesn't fit a Halt joins.
pub end_joins : pending_opening (limits 2 2000 1000) (at_700 28) ≡ opening.Goes (record { entries = Done ∷ []; slot = rest_at_700 31 (leaf ∷ []) }) 0
end_joins = refl

pub end_dropped : pending_opening (limits 2 700 1000) (at_700 28) ≡ opening.Done (record { entries = []; slot = rest_at_700 28 [] })
end_dropped = refl

pub end_too_long : pending_opening (limits 2 2000 64) (at_700 58) ≡ opening.Done (record { entries = Halt ∷ []; slot = rest_at_700 58 [] })
end_too_long = refl

-- Two tasks have begun: the slot takes the third one, if it fits. Where three have begun it waits, or is over.
pub third_taken : task_opening relay (limits 2 2000 1000) (2, 1) (rest_at_700 31 []) 0 ≡ opening.Goes (record { entries = Start 2 ∷ []; slot = rest_at_700 35 [] }) 2
third_taken = refl

pub third_too_long : task_opening relay (limits 2 2000 64) (2, 1) (rest_at_700 57 []) 0 ≡ opening.Done (record { entries = Halt ∷ []; slot = rest_at_700 57 [] })
third_too_long = refl

pub none_left : task_opening relay (limits 2 2000 1000) (3, 3) (rest_at_700 31 []) 0 ≡ opening.Done (record { entries = []; slot = rest_at_700 31 [] })
none_left = refl

pub waits : task_opening relay (limits 2 2000 1000) (3, 2) (rest_at_700 31 []) 0 ≡
    opening.Done (record { entries = []; slot = record { clock = 1700; words = 31; records = []; live = Some (record { local = 0; pending = []; leaves = [] }) } })
waits = refl
