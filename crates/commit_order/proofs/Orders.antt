-- Queues in order: their first entries have the least keys.
use Rattle.std.proofs.Common.{◌≡◌, ℕ, ◌+◌, ◌-◌, ◌≤◌, ◌<◌, Bool, true, false, nat_lt, List, [], ◌∷◌, length, get_or, slice_set, refl, sym, subst, arith}
use Rattle.std.specs.List.{All}
use Rattle.std.specs.List.Sorted.{IsNonDecreasingBy}
use Rattle.std.specs.Prelude.{map}
use Rattle.std.proofs.lemmas.Bool.Decides.{nat_tests}
use Rattle.std.proofs.lemmas.List.{get_or_past}
use Rattle.std.proofs.lemmas.List.Elements.{All-drop, All-get_or, All-map, All-nil, All-push, All-set, All-weaker}
use Rattle.std.proofs.lemmas.List.Sorted.{IsNonDecreasingBy-drop, IsNonDecreasingBy-push}
use Rattle.work_stamp.specs.Keys.{is_below}
use Rattle.work_stamp.specs.declared.key.Key.{Key}
use Rattle.work_stamp.specs.declared.stamped.KeyedEntry.{KeyedEntry}
use Rattle.work_stamp.specs.declared.stamped.Stamped.{Stamped}
use Rattle.commit_order.specs.KeyHeaps.{HasNoneBelow}
use Rattle.commit_order.specs.Merges.{AreNotBelow, first_keys, slot_entry}
use Rattle.commit_order.specs.Queues.{AreInOrder, IsInOrder, Queue, empty_queue, queue_of, with_entry, without_first}
use Rattle.commit_order.proofs.FirstKeys.{first_has}
use Rattle.commit_order.proofs.KeyOrder.{not_below_later}

abbrev stamp_of : Stamped → ℕ
stamp_of item = item.stamp

last_less : (xs : List Stamped) (last stamp : ℕ) → All (λ (x : Stamped). x.stamp ≤ last) xs → last ≤ stamp
    → (d : Stamped) → 0 < length xs → (get_or xs (length xs - 1) d).stamp ≤ stamp
last_less xs last stamp all more d some =
    omega (arith, more, all (length xs - 1) d (omega (arith, some)))

pub with_entry_is : (item : Stamped) (queue : Queue) → IsInOrder queue → queue.last_stamp ≤ item.stamp
    → IsInOrder (with_entry item queue)
with_entry_is item queue o more = record {
  rising = IsNonDecreasingBy-push stamp_of queue.entries item o.rising
      (last_less queue.entries queue.last_stamp item.stamp o.ended more);
  ended = All-push (λ (x : Stamped). x.stamp ≤ item.stamp) queue.entries item
      (All-weaker (λ (x : Stamped). x.stamp ≤ queue.last_stamp) (λ (x : Stamped). x.stamp ≤ item.stamp)
      (λ x h. omega (arith, h, more)) queue.entries o.ended) (omega arith);
}

pub without_first_is : (queue : Queue) → IsInOrder queue → IsInOrder (without_first queue)
without_first_is queue o = record {
  rising = IsNonDecreasingBy-drop stamp_of 1 queue.entries o.rising;
  ended = All-drop (λ (x : Stamped). x.stamp ≤ queue.last_stamp) 1 queue.entries o.ended;
}

pub own_order : (queues : List Queue) (slot : ℕ) → slot < length queues → AreInOrder queues
    → IsInOrder (queue_of queues slot)
own_order queues slot within o = All-get_or IsInOrder queues slot empty_queue within o.each

pub set_order : (queues : List Queue) (slot : ℕ) (queue : Queue) → AreInOrder queues → IsInOrder queue
    → AreInOrder (slice_set queues slot queue)
set_order queues slot queue o one = record { each = All-set IsInOrder queues slot queue one o.each }

abbrev IsAbove : Key → ℕ → List Stamped → Type 0
IsAbove key slot entries = All (λ (e : KeyedEntry). is_below e.key key ≡ false) (map (slot_entry slot) entries)

rest_above : (key : Key) (slot : ℕ) (item : Stamped) (items : List Stamped)
    → IsNonDecreasingBy stamp_of (item ∷ items)
    → is_below (record { stamp = item.stamp; slot = slot }) key ≡ false → IsAbove key slot (item ∷ items)
rest_above key slot item items rising first =
    All-map (λ (e : KeyedEntry). is_below e.key key ≡ false) (slot_entry slot) (item ∷ items)
    (λ i d within. not_below_later item.stamp (get_or (item ∷ items) i d).stamp slot key
    (rising 0 i d (omega arith) within) first)

queue_above : (key : Key) (slot : ℕ) (entries : List Stamped) → IsNonDecreasingBy stamp_of entries
    → ((item : Stamped) (items : List Stamped) → entries ≡ item ∷ items
    → is_below (record { stamp = item.stamp; slot = slot }) key ≡ false) → IsAbove key slot entries
queue_above key slot [] rising first = All-nil (λ (e : KeyedEntry). is_below e.key key ≡ false)
queue_above key slot (item ∷ items) rising first =
    rest_above key slot item items rising (first item items refl)

at_slot : (key : Key) (slot stamp : ℕ) → is_below (record { stamp = stamp; slot = 0 + slot }) key ≡ false
    → is_below (record { stamp = stamp; slot = slot }) key ≡ false
at_slot key slot stamp h =
    let same : 0 + slot ≡ slot = omega arith in
    subst (λ (n : ℕ). is_below (record { stamp = stamp; slot = n }) key ≡ false) same h

above_by : (queues : List Queue) (key : Key) (slot : ℕ) (b : Bool) → nat_lt slot (length queues) ≡ b
    → AreInOrder queues → HasNoneBelow (first_keys 0 queues) key
    → IsAbove key slot (queue_of queues slot).entries
above_by queues key slot true is o none =
    let within : slot < length queues = grind (arith, nat_tests) in
    queue_above key slot (queue_of queues slot).entries (own_order queues slot within o).rising
    (λ item items e. at_slot key slot item.stamp
    (first_has (λ (k : Key). is_below k key ≡ false) 0 queues slot item items within e none.each))
above_by queues key slot false is o none =
    let past : length queues ≤ slot = grind (arith, nat_tests) in
    subst (λ (q : Queue). IsAbove key slot q.entries) (sym (get_or_past queues slot empty_queue past))
    (All-nil (λ (e : KeyedEntry). is_below e.key key ≡ false))

-- where no first key lies below a key, no entry that waits does
pub none_waits_below : (queues : List Queue) (key : Key) → AreInOrder queues
    → HasNoneBelow (first_keys 0 queues) key → AreNotBelow queues key
none_waits_below queues key o none = record {
  each = λ slot. above_by queues key slot (nat_lt slot (length queues)) refl o none;
}
