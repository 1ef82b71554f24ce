-- What waits for one slot, and for each of several slots.
use Rattle.std.specs.Prelude.{ℕ, ◌≤◌, List, [], ◌∷◌, ◌++◌, All, drop, get_or, Option, Some, None}
use Rattle.std.specs.List.Sorted.{IsNonDecreasingBy}
use Rattle.work_stamp.specs.declared.stamped.Stamped.{Stamped}

-- the entries that wait for a slot, in the order in which they were fed, and the stamp of the last
-- one that was fed, 0 before the first
pub record Queue : Type 0 where
  pub entries : List Stamped
  pub last_stamp : ℕ

-- nothing was fed
abbrev pub empty_queue : Queue
empty_queue = record { entries = []; last_stamp = 0 }

-- one more entry was fed
abbrev pub with_entry : Stamped → Queue → Queue
with_entry item queue = record {
  entries = queue.entries ++ item ∷ [];
  last_stamp = item.stamp;
}

-- the first entry was taken
abbrev pub without_first : Queue → Queue
without_first queue = record queue { entries = drop 1 queue.entries }

-- the stamp of the first of some entries
abbrev pub first_stamp : List Stamped → Option ℕ
first_stamp [] = None
first_stamp (item ∷ items) = Some item.stamp

-- the queue of a slot
abbrev pub queue_of : List Queue → ℕ → Queue
queue_of queues slot = get_or queues slot empty_queue

-- the stamps of the entries that wait don't fall, and none is above that of the last one fed
pub record IsInOrder (queue : Queue) : Type 0 where
  pub rising : IsNonDecreasingBy (λ (item : Stamped). item.stamp) queue.entries
  pub ended : All (λ (item : Stamped). item.stamp ≤ queue.last_stamp) queue.entries

-- each queue is in order
pub record AreInOrder (queues : List Queue) : Type 0 where
  pub each : All IsInOrder queues
