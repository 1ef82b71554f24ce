-- The entries of several slots in the order of their keys.
use Rattle.std.specs.Prelude.{ℕ, ◌≡◌, suc, ◌<◌, true, false, if◌then◌else◌, List, [], ◌∷◌, ◌++◌, All, length, map, slice_set, Option, Some, None}
use Rattle.work_stamp.specs.Histories.{keyed_entry}
use Rattle.work_stamp.specs.Keys.{is_below}
use Rattle.work_stamp.specs.declared.key.Key.{Key}
use Rattle.work_stamp.specs.declared.stamped.KeyedEntry.{KeyedEntry}
use Rattle.work_stamp.specs.declared.stamped.Stamped.{Stamped}
use Rattle.commit_order.specs.Queues.{Queue, queue_of, with_entry, without_first}

-- an entry of a slot under its key
abbrev pub slot_entry : ℕ → Stamped → KeyedEntry
slot_entry slot item = keyed_entry (record { stamp = item.stamp; slot = slot }) item.entry

-- the entries that wait for a slot, under their keys, in the order in which they were fed
abbrev pub waiting_entries : List Queue → ℕ → List KeyedEntry
waiting_entries queues slot = map (slot_entry slot) (queue_of queues slot).entries

-- the key of the first of a slot's entries, if one waits
abbrev pub first_key : ℕ → List Stamped → List Key
first_key slot [] = []
first_key slot (item ∷ items) = record { stamp = item.stamp; slot = slot } ∷ []

-- the keys of the first entries of queues; the first queue is that of a given slot
abbrev pub first_keys : ℕ → List Queue → List Key
first_keys slot [] = []
first_keys slot (queue ∷ queues) = first_key slot queue.entries ++ first_keys (suc slot) queues

-- the lesser of two keys
abbrev pub lesser_key : Key → Option Key → Option Key
lesser_key key None = Some key
lesser_key key (Some other) = if is_below other key then Some other else Some key

-- the least of some keys
abbrev pub least_key : List Key → Option Key
least_key [] = None
least_key (key ∷ keys) = lesser_key key (least_key keys)

-- the first of a slot's entries, if one waits
abbrev pub first_of : ℕ → List Stamped → Option KeyedEntry
first_of slot [] = None
first_of slot (item ∷ items) = Some (slot_entry slot item)

-- the first entry of the slot of a key, if that lies below a given one
abbrev pub first_below : List Queue → Key → Option Key → Option KeyedEntry
first_below queues key None = None
first_below queues key (Some first) = if is_below first key
    then first_of first.slot (queue_of queues first.slot).entries else None

-- of the first entries of all slots, the one of the least key, if that lies below a given one
abbrev pub least_below : List Queue → Key → Option KeyedEntry
least_below queues key = first_below queues key (least_key (first_keys 0 queues))

-- an entry was fed for a slot
abbrev pub after_feed : List Queue → ℕ → Stamped → List Queue
after_feed queues slot item = slice_set queues slot (with_entry item (queue_of queues slot))

-- an entry was taken, the first one of its slot
abbrev pub after_take : List Queue → Option KeyedEntry → List Queue
after_take queues None = queues
after_take queues (Some e) =
    slice_set queues e.key.slot (without_first (queue_of queues e.key.slot))

-- no entry that waits lies below a key
pub record AreNotBelow (queues : List Queue) (key : Key) : Type 0 where
  pub each : (slot : ℕ) → All (λ (e : KeyedEntry). is_below e.key key ≡ false)
      (waiting_entries queues slot)

-- an entry is the first that waits for its slot and lies below a key, and no entry that waits for
-- any slot lies below it
pub record IsLeast (queues : List Queue) (key : Key) (e : KeyedEntry) : Type 0 where
  pub later : List KeyedEntry
  pub first : waiting_entries queues e.key.slot ≡ e ∷ later
  pub within : e.key.slot < length queues
  pub below : is_below e.key key ≡ true
  pub least : AreNotBelow queues e.key

-- what is least among all that waits, if it lies below a key; none exactly where nothing does
abbrev pub IsLeastBelow : List Queue → Key → Option KeyedEntry → Type 0
IsLeastBelow queues key None = AreNotBelow queues key
IsLeastBelow queues key (Some e) = IsLeast queues key e
