-- Gathering the history of a run from its carriers, when all slots are over.
use Rattle.std.specs.Prelude.{ℕ, ◌≡◌, ◌≢◌, ◌≤◌, ◌<◌, ◌^◌, true, nat_eq, List, [], ◌∷◌, ◌++◌, length, map, sum_by, take, slice_get, Some}
use Rattle.std.specs.List.{list_any, remove}
use Rattle.clock_words.specs.Seats.{BoardView}
use Rattle.commit_order.specs.Merges.{after_feed, waiting_entries}
use Rattle.commit_order.specs.Queues.{Queue, empty_queue, queue_of}
use Rattle.stamp_machine.specs.Limits.{AreLimits}
use Rattle.stamp_machine.specs.Machine.{final}
use Rattle.stamp_machine.specs.Orders.{Each, IsNotLess, IsSorted}
use Rattle.stamp_machine.specs.Runs.{of_slot}
use Rattle.stamp_machine.specs.declared.limits.Limits.{Limits}
use Rattle.ip_core.specs.declared.leaf.Record.{Record}
use Rattle.work_stamp.specs.Taskers.{Rules}
use Rattle.work_stamp.specs.declared.stamped.KeyedEntry.{KeyedEntry}
use Rattle.work_stamp.specs.declared.stamped.Stamped.{Stamped}
use Rattle.version_store.specs.Advances.{has_ended}
use Rattle.version_store.specs.Carriers.{CarrierView}

-- a carrier of this run on this board, which stands at its slot's end
pub record IsAtEnd {T V L : Type 0} (board : BoardView) (tasker : T) (limits : Limits)
    (c : CarrierView T V L) : Type 0 where
  pub tasker_is : c.tasker ≡ tasker
  pub limits_are : c.limits ≡ limits
  pub board_is : c.seat.board ≡ board
  pub ended : has_ended c ≡ true

-- one of some carriers has this slot
pub record HasSlot {T V L : Type 0} (number : ℕ) (carriers : List (CarrierView T V L)) :
    Type 0 where
  pub some : list_any (λ c. nat_eq c.seat.slot number) carriers ≡ true

-- the carriers of a run on a board, one for each slot, each of which stands at its slot's end
pub record AreEnded {T V L : Type 0} (board : BoardView) (tasker : T) (limits : Limits)
    (carriers : List (CarrierView T V L)) : Type 0 where
  pub ranges : AreLimits limits
  pub ends : Each (IsAtEnd board tasker limits) carriers
  pub number : length carriers ≡ limits.slots
  pub slots : (number : ℕ) → number < limits.slots → HasSlot number carriers

-- the same of some run
pub record AreOfEndedRun {T V L : Type 0} (board : BoardView)
    (carriers : List (CarrierView T V L)) : Type 0 where
  pub tasker : T
  pub limits : Limits
  pub ended : AreEnded board tasker limits carriers

-- the place of a carrier that has this slot
pub record IsPlaceOf {T V L : Type 0} (number : ℕ) (carriers : List (CarrierView T V L))
    (place : ℕ) : Type 0 where
  pub carrier : CarrierView T V L
  pub there : slice_get carriers place ≡ Some carrier
  pub slot : carrier.seat.slot ≡ number

-- one of some carriers, which has this slot, was taken out
pub record HasTakenCarrier {T V L : Type 0} (before : List (CarrierView T V L)) (number : ℕ)
    (carrier : CarrierView T V L) (after : List (CarrierView T V L)) : Type 0 where
  pub place : ℕ
  pub there : slice_get before place ≡ Some carrier
  pub slot : carrier.seat.slot ≡ number
  pub left : after ≡ remove before place

-- entries were fed for a slot one after the other
abbrev pub after_feeds : List Queue → ℕ → List Stamped → List Queue
after_feeds queues slot [] = queues
after_feeds queues slot (item ∷ items) = after_feeds (after_feed queues slot item) slot items

-- stamps that don't fall, from one on
abbrev pub RiseFrom : ℕ → List Stamped → Type 0
RiseFrom least [] = Unit {0}
RiseFrom least (item ∷ items) = (least ≤ item.stamp) × RiseFrom item.stamp items

-- entries can be fed for a slot one after the other
pub record CanFeed (queues : List Queue) (slot : ℕ) (items : List Stamped) : Type 0 where
  pub within : slot < length queues
  pub rising : RiseFrom (queue_of queues slot).last_stamp items

-- entries of a slot were fed, which wait behind those that waited, and the queues of the other slots stay
pub record HasFed (before : List Queue) (slot : ℕ) (entries : List KeyedEntry)
    (after : List Queue) : Type 0 where
  pub size : length after ≡ length before
  pub own : waiting_entries after slot ≡ waiting_entries before slot ++ entries
  pub others : (other : ℕ) → other ≢ slot → queue_of after other ≡ queue_of before other

-- the stamps of all entries that wait are below 2^63
pub record AreLow (queues : List Queue) : Type 0 where
  pub each : (slot : ℕ) → Each (λ e. e.key.stamp < 2 ^ 63) (waiting_entries queues slot)

-- all that waited, in the order of the keys, each slot's in the order in which they were fed
pub record IsMerged (queues : List Queue) (entries : List KeyedEntry) : Type 0 where
  pub order : IsSorted entries
  pub slots : (slot : ℕ) → of_slot slot entries ≡ waiting_entries queues slot

-- Some entries were taken: they are in the order of the keys, none that still waits has a lesser key,
-- and of each slot those that were taken and those that wait are what waited at the start.
pub record IsTaking (start now : List Queue) (taken : List KeyedEntry) : Type 0 where
  pub order : IsSorted taken
  pub slots : (slot : ℕ) → of_slot slot taken ++ waiting_entries now slot ≡ waiting_entries start slot
  pub later : (slot : ℕ) → Each (λ w. Each (λ e. IsNotLess w.key e.key) taken)
      (waiting_entries now slot)
  pub low : AreLow now

-- how many entries wait
abbrev pub waiting_count : List Queue → ℕ
waiting_count queues = sum_by (λ (queue : Queue). length queue.entries) queues

-- What was gathered of the slots below a number: all that they published waits in a merge, and their
-- records and ends were taken over. The carriers of the other slots are left.
pub record IsGathering {T V L : Type 0} (r : Rules V L) (board : BoardView) (tasker : T)
    (limits : Limits) (number : ℕ) (queues : List Queue) (records : List (List Record))
    (ends : List ℕ) (left : List (CarrierView T V L)) : Type 0 where
  pub ranges : AreLimits limits
  pub size : length queues ≡ limits.slots
  pub fed : (slot : ℕ) → slot < number →
      waiting_entries queues slot ≡ of_slot slot (final r limits).entries
  pub fresh : (slot : ℕ) → number ≤ slot → queue_of queues slot ≡ empty_queue
  pub records_are : records ≡ map (λ slot. slot.records) (take number (final r limits).slots)
  pub ends_are : ends ≡ map (λ slot. slot.clock) (take number (final r limits).slots)
  pub runs : Each (IsAtEnd board tasker limits) left
  pub slots : (slot : ℕ) → number ≤ slot → slot < limits.slots → HasSlot slot left
