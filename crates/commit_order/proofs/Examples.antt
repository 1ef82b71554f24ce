-- A merge of two slots, worked out by hand.
use Rattle.std.proofs.Common.{◌≡◌, ℕ, [], ◌∷◌, List, Some, None, refl}
use Rattle.std.specs.Prelude.{replicate}
use Rattle.work_stamp.specs.declared.entry.Entry.{Entry}
use Rattle.work_stamp.specs.declared.entry.Entry.TheVariants.{CutStart, Done, Halt}
use Rattle.work_stamp.specs.declared.key.Key.{Key}
use Rattle.work_stamp.specs.declared.stamped.Stamped.{Stamped}
use Rattle.commit_order.specs.Queues.{Queue, empty_queue}
use Rattle.commit_order.specs.Merges.{after_feed, after_take, least_below, slot_entry, waiting_entries}

abbrev key : ℕ → ℕ → Key
key stamp slot = record { stamp = stamp; slot = slot }

abbrev item : ℕ → Entry → Stamped
item stamp e = record { stamp = stamp; entry = e }

-- one entry of stamp 4 was fed for each of two slots

abbrev both : List Queue
both = after_feed (after_feed (replicate 2 empty_queue) 1 (item 4 Halt)) 0 (item 4 Done)

abbrev one : List Queue
one = after_take both (Some (slot_entry 0 (item 4 Done)))

first_is : least_below both (key 4 1) ≡ Some (slot_entry 0 (item 4 Done))
first_is = refl

second_is : least_below one (key 4 1) ≡ None
second_is = refl

third_is : least_below one (key 5 0) ≡ Some (slot_entry 1 (item 4 Halt))
third_is = refl

last_is : least_below (after_take one (Some (slot_entry 1 (item 4 Halt)))) (key 5 0) ≡ None
last_is = refl

-- three entries of one slot, the first two of one stamp, and one of a lesser slot

abbrev four : List Queue
four = after_feed (after_feed
    (after_feed (after_feed (replicate 2 empty_queue) 1 (item 3 Halt)) 1 (item 3 Done)) 1 (item 7 CutStart))
    0 (item 7 Done)

waiting_is : waiting_entries four 1
    ≡ slot_entry 1 (item 3 Halt) ∷ slot_entry 1 (item 3 Done) ∷ slot_entry 1 (item 7 CutStart) ∷ []
waiting_is = refl

tie_is : least_below four (key 9 0) ≡ Some (slot_entry 1 (item 3 Halt))
tie_is = refl

next_is : least_below (after_take four (Some (slot_entry 1 (item 3 Halt)))) (key 9 0)
    ≡ Some (slot_entry 1 (item 3 Done))
next_is = refl

rest_is : after_take (after_take four (Some (slot_entry 1 (item 3 Halt)))) (Some (slot_entry 1 (item 3 Done)))
    ≡ (record { entries = item 7 Done ∷ []; last_stamp = 7 })
    ∷ (record { entries = item 7 CutStart ∷ []; last_stamp = 7 }) ∷ []
rest_is = refl
