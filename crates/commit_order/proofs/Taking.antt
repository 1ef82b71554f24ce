-- What taking gives and keeps.
use Rattle.std.proofs.Common.{◌≡◌, ℕ, suc, ◌≤◌, ◌<◌, false, List, [], ◌∷◌, ◌++◌, length, slice_set, Option, Some, None, sym, ap, ◌∙◌, subst, arith}
use Rattle.std.specs.List.Sorted.{IsPermutation}
use Rattle.std.proofs.lemmas.List.{get_or-set_same, length-set}
use Rattle.std.proofs.lemmas.List.Sorted.{length_permutation}
use Rattle.work_stamp.specs.Keys.{is_below}
use Rattle.work_stamp.specs.declared.key.Key.{Key}
use Rattle.work_stamp.specs.declared.stamped.KeyedEntry.{KeyedEntry}
use Rattle.work_stamp.specs.declared.stamped.Stamped.{Stamped}
use Rattle.commit_order.specs.KeyHeaps.{HasKept, HasNoneBelow, HasPopped, Keys}
use Rattle.commit_order.specs.Merges.{after_take, IsLeast, IsLeastBelow, first_key, first_keys, least_below, least_key}
use Rattle.commit_order.specs.Steps.{HasEntry, HasFirstPushed, HasTaken, IsMerge, count}
use Rattle.commit_order.specs.Queues.{IsInOrder, Queue, empty_queue, queue_of, without_first}
use Rattle.commit_order.proofs.Feeding.{count_permutation}
use Rattle.commit_order.proofs.FirstKeys.{all_same, count_joined, counted_itself, first_keys_length, length_joined, others, own_counts, own_lengths, set_counts, set_lengths}
use Rattle.commit_order.proofs.LeastEntries.{IsOwn, above_first, least_entry, least_is, own_of, taken_entry}
use Rattle.commit_order.proofs.LeastKeys.{IsLeastOf, least_key_above}
use Rattle.commit_order.proofs.Orders.{none_waits_below, own_order, set_order, without_first_is}

popped_counts : (queues : List Queue) (heap after : Keys) (key first : Key) → IsMerge queues heap
    → HasPopped heap.keys key first after.keys → (k : Key)
    → count k (first_keys 0 queues) ≡ count k (first ∷ after.keys)
popped_counts queues heap after key first m p k =
    sym (m.firsts.counts k) ∙ sym (count_permutation k heap.keys (first ∷ after.keys) p.same)

popped_lengths : (queues : List Queue) (heap after : Keys) (key first : Key) → IsMerge queues heap
    → HasPopped heap.keys key first after.keys
    → length (first_keys 0 queues) ≡ length (first ∷ after.keys)
popped_lengths queues heap after key first m p =
    sym m.firsts.lengths ∙ sym (length_permutation heap.keys (first ∷ after.keys) p.same)

popped_least : (queues : List Queue) (heap after : Keys) (key first : Key) → IsMerge queues heap
    → HasPopped heap.keys key first after.keys → IsLeastOf (first_keys 0 queues) first
popped_least queues heap after key first m p = record {
  among = omega (arith, popped_counts queues heap after key first m p first, counted_itself first after.keys);
  least = record {
    each = all_same (λ (k : Key). is_below k first ≡ false) heap.keys (first_keys 0 queues) m.firsts p.least.each;
  };
}

popped_own : (queues : List Queue) (heap after : Keys) (key first : Key) → IsMerge queues heap
    → HasPopped heap.keys key first after.keys → IsOwn queues first
popped_own queues heap after key first m p =
    own_of queues first (popped_least queues heap after key first m p)

some_waits : (entries : List Stamped) (item : Stamped) (items : List Stamped)
    → entries ≡ item ∷ items → 0 < length entries
some_waits entries item items e =
    let n : length entries ≡ suc (length items) = ap (λ (es : List Stamped). length es) e in
    omega (arith, n)

-- an entry waits for its slot
pub popped_entry : (queues : List Queue) (heap after : Keys) (key first : Key)
    → IsMerge queues heap → HasPopped heap.keys key first after.keys → HasEntry queues first
popped_entry queues heap after key first m p =
    let own = popped_own queues heap after key first m p in
    record {
      within = own.within;
      some = some_waits (queue_of queues first.slot).entries own.item own.items own.entries;
    }

pub taken_within : (queues new : List Queue) (key : Key) (e : KeyedEntry) → HasTaken queues key e new
    → HasEntry queues key → key.slot < length new
taken_within queues new key e t h =
    let within = h.within in
    let same = ap (λ (qs : List Queue). length qs) t.left in
    omega (
      arith,
      within,
      same,
      length-set queues key.slot (without_first (queue_of queues key.slot)),
    )

-- there is room for another key
pub popped_room : (queues : List Queue) (heap after : Keys) (key first : Key) → IsMerge queues heap
    → HasPopped heap.keys key first after.keys → after.room ≡ heap.room
    → length after.keys < after.room
popped_room queues heap after key first m p room =
    let before = m.room in
    omega (arith, room, before, popped_lengths queues heap after key first m p, first_keys_length 0 queues)

-- one queue in order changes, and with it the heap

own_key : (first : Key) (entries : List Stamped) (item : Stamped) (items : List Stamped)
    → entries ≡ item ∷ items → item.stamp ≡ first.stamp → first_key first.slot entries ≡ first ∷ []
own_key first entries item items e stamp =
    ap (λ (es : List Stamped). first_key first.slot es) e
    ∙ ap (λ (n : ℕ). record { stamp = n; slot = first.slot } ∷ []) stamp

left_counts : (queues : List Queue) (heap after : Keys) (key first : Key) (m : IsMerge queues heap)
    (p : HasPopped heap.keys key first after.keys) (k : Key)
    → count k (others queues first.slot) ≡ count k after.keys
left_counts queues heap after key first m p k =
    let own = popped_own queues heap after key first m p in
    let one = ap (λ (ks : List Key). count k ks)
    (own_key first (queue_of queues first.slot).entries own.item own.items own.entries own.stamp) in
    omega (arith, one, own_counts k queues first.slot own.within, popped_counts queues heap after key first m p k)

left_lengths : (queues : List Queue) (heap after : Keys) (key first : Key) (m : IsMerge queues heap)
    (p : HasPopped heap.keys key first after.keys)
    → length (others queues first.slot) ≡ length after.keys
left_lengths queues heap after key first m p =
    let own = popped_own queues heap after key first m p in
    let one = ap (λ (ks : List Key). length ks)
    (own_key first (queue_of queues first.slot).entries own.item own.items own.entries own.stamp) in
    omega (arith, one, own_lengths queues first.slot own.within, popped_lengths queues heap after key first m p)

renewed_by : (queues : List Queue) (heap after last : Keys) (key first : Key) (queue : Queue)
    → IsMerge queues heap → HasPopped heap.keys key first after.keys → after.room ≡ heap.room
    → IsInOrder queue → IsPermutation (first_key first.slot queue.entries ++ after.keys) last.keys
    → after.room ≤ last.room → IsMerge (slice_set queues first.slot queue) last
renewed_by queues heap after last key first queue m p room o pushed more =
    let within = (popped_own queues heap after key first m p).within in
    let keys = first_key first.slot queue.entries in
    let before = m.room in
    record {
      order = set_order queues first.slot queue m.order o;
      firsts = record {
        lengths = omega (
          arith,
          length_permutation (keys ++ after.keys) last.keys pushed,
          length_joined keys after.keys,
          set_lengths queues first.slot queue within,
          left_lengths queues heap after key first m p,
        );
        counts = λ k. omega (
          arith,
          count_permutation k (keys ++ after.keys) last.keys pushed,
          count_joined k keys after.keys,
          set_counts k queues first.slot queue within,
          left_counts queues heap after key first m p k,
        );
      };
      room = omega (arith, room, more, before, length-set queues first.slot queue);
    }

-- the slot's next entry takes the place of the one taken, if there is one
pub renewed : (queues new seen : List Queue) (heap after last : Keys) (key first : Key)
    (e : KeyedEntry) → HasTaken queues first e new → IsMerge queues heap
    → HasFirstPushed after seen first.slot last → seen ≡ new
    → HasPopped heap.keys key first after.keys → after.room ≡ heap.room → IsMerge new last
renewed queues new seen heap after last key first e t m pushed same p room =
    let within = (popped_own queues heap after key first m p).within in
    let queue = without_first (queue_of queues first.slot) in
    let own = ap (λ (qs : List Queue). queue_of qs first.slot) (same ∙ t.left)
    ∙ get_or-set_same queues first.slot queue empty_queue within in
    subst (λ (qs : List Queue). IsMerge qs last) (sym t.left)
    (renewed_by queues heap after last key first queue m p room
    (without_first_is (queue_of queues first.slot) (own_order queues first.slot within m.order))
    (subst (λ (q : Queue). IsPermutation (first_key first.slot q.entries ++ after.keys) last.keys)
    own pushed.same) pushed.room)

pub taken_is : (queues old new : List Queue) (heap after : Keys) (key first : Key) (e : KeyedEntry)
    → HasTaken queues first e new → queues ≡ old → IsMerge queues heap
    → HasPopped heap.keys key first after.keys → Some e ≡ least_below old key
taken_is queues old new heap after key first e t view m p =
    ap Some t.taken
    ∙ subst (λ (qs : List Queue). Some (taken_entry first t.item) ≡ least_below qs key) view
    (sym (least_is queues key first t.item (popped_least queues heap after key first m p) p.below
    t.first))

pub taken_least : (queues old new : List Queue) (heap after : Keys) (key first : Key)
    (e : KeyedEntry) → HasTaken queues first e new → queues ≡ old → IsMerge queues heap
    → HasPopped heap.keys key first after.keys → IsLeast old key e
taken_least queues old new heap after key first e t view m p =
    subst (IsLeast old key) (sym t.taken)
    (subst (λ (qs : List Queue). IsLeast qs key (taken_entry first t.item)) view
    (least_entry queues key first t.item m.order (popped_least queues heap after key first m p)
    p.below t.first))

pub taken_left : (queues old new : List Queue) (first : Key) (e : KeyedEntry)
    → HasTaken queues first e new → queues ≡ old → new ≡ after_take old (Some e)
taken_left queues old new first e t view =
    let slots : e.key.slot ≡ first.slot = ap (λ (x : KeyedEntry). x.key.slot) t.taken in
    t.left ∙ ap (λ (n : ℕ). slice_set queues n (without_first (queue_of queues n))) (sym slots)
    ∙ ap (λ (qs : List Queue). after_take qs (Some e)) view

-- where nothing is taken

kept_none : (queues : List Queue) (heap : Keys) (key : Key) (after : List Key) → IsMerge queues heap
    → HasKept heap.keys key after → HasNoneBelow (first_keys 0 queues) key
kept_none queues heap key after m k = record {
  each = all_same (λ (x : Key). is_below x key ≡ false) heap.keys (first_keys 0 queues) m.firsts
      k.none.each;
}

pub kept_is_none : (queues old : List Queue) (heap : Keys) (key : Key) (after : List Key)
    (result : Option KeyedEntry) → queues ≡ old → IsMerge queues heap → HasKept heap.keys key after
    → result ≡ None → result ≡ least_below old key
kept_is_none queues old heap key after result view m k is =
    is ∙ sym (ap (λ (qs : List Queue). least_below qs key) (sym view)
    ∙ above_first queues key (least_key (first_keys 0 queues))
    (λ other e. least_key_above (first_keys 0 queues) key other (kept_none queues heap key after m k) e))

pub kept_least : (queues old : List Queue) (heap : Keys) (key : Key) (after : List Key)
    (result : Option KeyedEntry) → queues ≡ old → IsMerge queues heap → HasKept heap.keys key after
    → result ≡ None → IsLeastBelow old key result
kept_least queues old heap key after result view m k is =
    subst (λ (r : Option KeyedEntry). IsLeastBelow old key r) (sym is)
    (subst (λ (qs : List Queue). IsLeastBelow qs key None) view
    (none_waits_below queues key m.order (kept_none queues heap key after m k)))
