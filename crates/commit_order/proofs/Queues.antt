-- Queues of slots, read and changed one at a time.
use Rattle.std.proofs.Common.{◌≡◌, ℕ, ◌≤◌, ◌<◌, ◌==◌, Bool, List, [], ◌∷◌, ◌++◌, length, slice_get, slice_set, slice_index_or, Option, Some, refl, sym, ap, ◌∙◌, subst, arith}
use Rattle.std.specs.List.Sorted.{IsPermutation}
use Rattle.std.proofs.lemmas.List.{get_or_default}
use Rattle.std.proofs.lemmas.List.Sorted.{IsPermutation-refl}
use Rattle.work_stamp.specs.Histories.{keyed_entry}
use Rattle.work_stamp.specs.declared.key.Key.{Key}
use Rattle.work_stamp.specs.declared.stamped.Stamped.{Stamped}
use Rattle.commit_order.specs.KeyHeaps.{HasPushed, Keys}
use Rattle.commit_order.specs.Merges.{after_feed, first_key}
use Rattle.commit_order.specs.Steps.{HasEntry, HasFirstPushed, HasTaken}
use Rattle.commit_order.specs.Queues.{Queue, empty_queue, first_stamp, queue_of, with_entry, without_first}

-- a queue that was read
read_is : (queues : List Queue) (slot : ℕ) (queue : Queue) → slot < length queues
    → queue ≡ slice_index_or queues slot queue → queue ≡ queue_of queues slot
read_is queues slot queue within e = e ∙ get_or_default queues slot queue empty_queue within

pub only_is : (queues : List Queue) (slot : ℕ) (seen : Queue) (b : Bool) → slot < length queues
    → seen ≡ slice_index_or queues slot seen → b ≡ (length seen.entries == 0)
    → b ≡ (length (queue_of queues slot).entries == 0)
only_is queues slot seen b within read is =
    is ∙ ap (λ (q : Queue). length q.entries == 0) (read_is queues slot seen within read)

pub entry_pushed : (queues : List Queue) (slot : ℕ) (item : Stamped) (before after : Queue)
    → slot < length queues → before ≡ slice_index_or queues slot before
    → after ≡ with_entry item before → slice_set queues slot after ≡ after_feed queues slot item
entry_pushed queues slot item before after within read is =
    ap (λ (q : Queue). slice_set queues slot q)
    (is ∙ ap (with_entry item) (read_is queues slot before within read))

pub entry_waits : (queues : List Queue) (key : Key) (before : Queue) → HasEntry queues key
    → before ≡ slice_index_or queues key.slot before → 0 < length before.entries
entry_waits queues key before h read =
    subst (λ (q : Queue). 0 < length q.entries)
    (sym (read_is queues key.slot before h.within read)) h.some

pub entry_taken : (queues : List Queue) (key : Key) (item : Stamped) (before after : Queue)
    → HasEntry queues key → before ≡ slice_index_or queues key.slot before
    → slice_get before.entries 0 ≡ Some item → after ≡ without_first before
    → HasTaken queues key (keyed_entry key item.entry) (slice_set queues key.slot after)
entry_taken queues key item before after h read first left =
    let same = read_is queues key.slot before h.within read in
    record {
      item = item;
      first = ap (λ (q : Queue). slice_get q.entries 0) (sym same) ∙ first;
      taken = refl;
      left = ap (λ (q : Queue). slice_set queues key.slot q) (left ∙ ap without_first same);
    }

next_key : (slot stamp : ℕ) (entries : List Stamped) → Some stamp ≡ first_stamp entries
    → first_key slot entries ≡ record { stamp = stamp; slot = slot } ∷ []
next_key slot stamp [] e = cc
next_key slot stamp (item ∷ items) e =
    let same : item.stamp ≡ stamp = cc in
    ap (λ (n : ℕ). record { stamp = n; slot = slot } ∷ []) same

no_key : (slot : ℕ) (entries : List Stamped)
    → ((stamp : ℕ) → first_stamp entries ≡ Some stamp → ⊥) → first_key slot entries ≡ []
no_key slot [] none = refl
no_key slot (item ∷ items) none = absurd (none item.stamp refl)

pub first_pushed : (queues : List Queue) (slot : ℕ) (heap after : Keys) (seen : Queue) (stamp : ℕ)
    → slot < length queues → seen ≡ slice_index_or queues slot seen
    → Some stamp ≡ first_stamp seen.entries
    → HasPushed heap.keys (record { stamp = stamp; slot = slot }) after.keys
    → heap.room ≤ after.room → HasFirstPushed heap queues slot after
first_pushed queues slot heap after seen stamp within read is pushed more = record {
  room = more;
  same = subst (λ (ks : List Key). IsPermutation (ks ++ heap.keys) after.keys)
      (sym (next_key slot stamp (queue_of queues slot).entries
      (is ∙ ap (λ (q : Queue). first_stamp q.entries) (read_is queues slot seen within read))))
      pushed.same;
}

pub none_pushed : (queues : List Queue) (slot : ℕ) (heap : Keys) (seen : Queue) (next : Option ℕ)
    → slot < length queues → seen ≡ slice_index_or queues slot seen
    → next ≡ first_stamp seen.entries → ((stamp : ℕ) → next ≡ Some stamp → ⊥)
    → HasFirstPushed heap queues slot heap
none_pushed queues slot heap seen next within read is none =
    let same = is ∙ ap (λ (q : Queue). first_stamp q.entries) (read_is queues slot seen within read) in
    record {
      room = omega arith;
      same = subst (λ (ks : List Key). IsPermutation (ks ++ heap.keys) heap.keys)
          (sym (no_key slot (queue_of queues slot).entries (λ stamp h. none stamp (same ∙ h))))
          (IsPermutation-refl heap.keys);
    }
