-- Laws of what waits in a merge.
use Rattle.std.specs.Prelude.{ℕ, ◌≡◌, ◌≢◌, List, [], ◌∷◌, ◌++◌, length, Some}
use Rattle.work_stamp.specs.declared.stamped.KeyedEntry.{KeyedEntry}
use Rattle.work_stamp.specs.declared.stamped.Stamped.{Stamped}
use Rattle.commit_order.specs.Merges.{after_feed, after_take, slot_entry, waiting_entries}
use Rattle.commit_order.specs.Queues.{Queue, queue_of}

-- an entry that is fed waits behind all others of its slot, and the other slots' queues stay
pub record IsLastOfSlot (queues : List Queue) (slot : ℕ) (item : Stamped) : Type 0 where
  pub slots : length (after_feed queues slot item) ≡ length queues
  pub own : waiting_entries (after_feed queues slot item) slot ≡
      waiting_entries queues slot ++ slot_entry slot item ∷ []
  pub last : (queue_of (after_feed queues slot item) slot).last_stamp ≡ item.stamp
  pub others : (other : ℕ) → other ≢ slot → queue_of (after_feed queues slot item) other ≡
      queue_of queues other

-- an entry that is taken waited before all others of its slot, and the other slots' queues stay
pub record IsFirstOfSlot (queues : List Queue) (e : KeyedEntry) : Type 0 where
  pub slots : length (after_take queues (Some e)) ≡ length queues
  pub own : waiting_entries queues e.key.slot ≡
      e ∷ waiting_entries (after_take queues (Some e)) e.key.slot
  pub last : (queue_of (after_take queues (Some e)) e.key.slot).last_stamp ≡
      (queue_of queues e.key.slot).last_stamp
  pub others : (other : ℕ) → other ≢ e.key.slot → queue_of (after_take queues (Some e)) other ≡
      queue_of queues other
