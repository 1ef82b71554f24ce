-- What a merge keeps beside the queues, and its steps.
use Rattle.std.specs.Prelude.{ℕ, ◌≡◌, ◌+◌, ◌≤◌, ◌<◌, Bool, ◌&&◌, nat_eq, if◌then◌else◌, List, [], ◌∷◌, ◌++◌, length, slice_get, slice_set, Some}
use Rattle.std.specs.List.Sorted.{IsPermutation}
use Rattle.work_stamp.specs.Histories.{keyed_entry}
use Rattle.work_stamp.specs.declared.key.Key.{Key}
use Rattle.work_stamp.specs.declared.stamped.KeyedEntry.{KeyedEntry}
use Rattle.work_stamp.specs.declared.stamped.Stamped.{Stamped}
use Rattle.commit_order.specs.KeyHeaps.{Keys}
use Rattle.commit_order.specs.Merges.{first_key, first_keys}
use Rattle.commit_order.specs.Queues.{AreInOrder, Queue, queue_of, without_first}

-- whether two keys are the same
abbrev pub is_same : Key → Key → Bool
is_same a b = nat_eq a.stamp b.stamp && nat_eq a.slot b.slot

-- how often a key stands among others
abbrev pub count : Key → List Key → ℕ
count key [] = 0
count key (k ∷ ks) = (if is_same k key then 1 else 0) + count key ks

-- the same keys in some order
pub record HasSameKeys (a b : List Key) : Type 0 where
  pub lengths : length a ≡ length b
  pub counts : (key : Key) → count key a ≡ count key b

-- the heap has the key of the first entry of each slot for which one waits, and room for a key of
-- each slot
pub record IsMerge (queues : List Queue) (heap : Keys) : Type 0 where
  pub order : AreInOrder queues
  pub firsts : HasSameKeys heap.keys (first_keys 0 queues)
  pub room : length queues ≤ heap.room

-- an entry waits for the slot of a key
pub record HasEntry (queues : List Queue) (key : Key) : Type 0 where
  pub within : key.slot < length queues
  pub some : 0 < length (queue_of queues key.slot).entries

-- the first entry that waited for the slot of a key was taken out, and goes under the key
pub record HasTaken (before : List Queue) (key : Key) (e : KeyedEntry) (after : List Queue) :
    Type 0 where
  pub item : Stamped
  pub first : slice_get (queue_of before key.slot).entries 0 ≡ Some item
  pub taken : e ≡ keyed_entry key item.entry
  pub left : after ≡ slice_set before key.slot (without_first (queue_of before key.slot))

-- the key of the first entry that waits for a slot was put in, if there is one
pub record HasFirstPushed (before : Keys) (queues : List Queue) (slot : ℕ) (after : Keys) :
    Type 0 where
  pub room : before.room ≤ after.room
  pub same : IsPermutation (first_key slot (queue_of queues slot).entries ++ before.keys) after.keys
