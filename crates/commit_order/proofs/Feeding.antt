-- What feeding keeps.
use Rattle.std.proofs.Common.{◌≡◌, ℕ, zero, suc, ◌≤◌, ◌<◌, ◌==◌, Bool, true, false, List, [], ◌∷◌, ◌++◌, length, replicate, refl, sym, ap, ◌∙◌, subst, arith}
use Rattle.std.specs.List.{All, sum_by}
use Rattle.std.specs.List.Sorted.{IsPermutation}
use Rattle.std.specs.Prelude.{if◌then◌else◌}
use Rattle.std.proofs.lemmas.Bool.Decides.{nat_tests}
use Rattle.std.proofs.lemmas.List.{get_or-set_same, length-replicate, length-set}
use Rattle.std.proofs.lemmas.List.Elements.{All-nil, All-replicate}
use Rattle.std.proofs.lemmas.List.Sorted.{length_permutation, sum_by-IsPermutation}
use Rattle.std.proofs.lemmas.List.Sums.{sum_by-cons}
use Rattle.work_stamp.specs.declared.key.Key.{Key}
use Rattle.work_stamp.specs.declared.stamped.Stamped.{Stamped}
use Rattle.commit_order.specs.KeyHeaps.{HasRoom, Keys}
use Rattle.commit_order.specs.Merges.{after_feed, first_key, first_keys}
use Rattle.commit_order.specs.Steps.{HasFirstPushed, HasSameKeys, IsMerge, count, is_same}
use Rattle.commit_order.specs.Queues.{AreInOrder, IsInOrder, Queue, empty_queue, queue_of, with_entry}
use Rattle.commit_order.proofs.FirstKeys.{count_joined, length_joined, others_length, own_counts, own_lengths, set_counts, set_lengths}
use Rattle.commit_order.proofs.Orders.{own_order, set_order, with_entry_is}

abbrev pub one_if : Key → Key → ℕ
one_if key k = if is_same k key then 1 else 0

count_is : (key : Key) (ks : List Key) → count key ks ≡ sum_by (one_if key) ks
count_is key [] = refl
count_is key (k ∷ ks) = omega (arith, sum_by-cons (one_if key) k ks, count_is key ks)

pub count_permutation : (key : Key) (a b : List Key) → IsPermutation a b → count key b ≡ count key a
count_permutation key a b same =
    omega (arith, sum_by-IsPermutation (one_if key) a b same, count_is key a, count_is key b)

no_entries : (entries : List Stamped) (b : Bool) → b ≡ (length entries == 0) → b ≡ true → entries ≡ []
no_entries [] b is empty = refl
no_entries (x ∷ xs) b is empty =
    let none : length (x ∷ xs) ≡ 0 = grind (arith, nat_tests) in
    absurd (omega (arith, none))

empty_length : (slot : ℕ) (entries : List Stamped) → entries ≡ [] → length (first_key slot entries) ≡ 0
empty_length slot entries e = ap (λ (es : List Stamped). length (first_key slot es)) e

empty_count : (key : Key) (slot : ℕ) (entries : List Stamped) → entries ≡ []
    → count key (first_key slot entries) ≡ 0
empty_count key slot entries e = ap (λ (es : List Stamped). count key (first_key slot es)) e

-- there is room for the key of a slot for which nothing waits
pub room_is : (queues old : List Queue) (heap : Keys) (slot : ℕ) (item : Stamped) (only : Bool)
    → queues ≡ old → IsMerge queues heap → slot < length old → only ≡ true
    → only ≡ (length (queue_of queues slot).entries == 0) → length heap.keys < heap.room
room_is queues old heap slot item only view m inside empty is =
    let within = subst (λ (qs : List Queue). slot < length qs) (sym view) inside in
    let e = no_entries (queue_of queues slot).entries only is empty in
    let lengths = m.firsts.lengths in
    let room = m.room in
    omega (
      arith,
      lengths,
      room,
      own_lengths queues slot within,
      empty_length slot (queue_of queues slot).entries e,
      others_length queues slot item within,
    )

pub fed_within : (queues after : List Queue) (slot : ℕ) (item : Stamped) → slot < length queues
    → after ≡ after_feed queues slot item → slot < length after
fed_within queues after slot item within put =
    let same = ap (λ (qs : List Queue). length qs) put in
    omega (arith, within, same, length-set queues slot (with_entry item (queue_of queues slot)))

-- an entry joins

fed_order : (queues : List Queue) (slot : ℕ) (item : Stamped) → AreInOrder queues → slot < length queues
    → (queue_of queues slot).last_stamp ≤ item.stamp → AreInOrder (after_feed queues slot item)
fed_order queues slot item o within more =
    set_order queues slot (with_entry item (queue_of queues slot)) o
    (with_entry_is item (queue_of queues slot) (own_order queues slot within o) more)

fed_alone : (queues : List Queue) (heap after : Keys) (slot : ℕ) (item : Stamped)
    → IsMerge queues heap → slot < length queues → (queue_of queues slot).last_stamp ≤ item.stamp
    → (queue_of queues slot).entries ≡ []
    → IsPermutation (first_key slot ((queue_of queues slot).entries ++ item ∷ []) ++ heap.keys)
    after.keys → heap.room ≤ after.room → IsMerge (after_feed queues slot item) after
fed_alone queues heap after slot item m within more e pushed room =
    let queue = queue_of queues slot in
    let keys = first_key slot (queue.entries ++ item ∷ []) in
    let lengths = m.firsts.lengths in
    let before = m.room in
    record {
      order = fed_order queues slot item m.order within more;
      firsts = record {
        lengths = omega (
          arith,
          lengths,
          length_permutation (keys ++ heap.keys) after.keys pushed,
          length_joined keys heap.keys,
          own_lengths queues slot within,
          set_lengths queues slot (with_entry item queue) within,
          empty_length slot queue.entries e,
        );
        counts = λ k. omega (
          arith,
          m.firsts.counts k,
          count_permutation k (keys ++ heap.keys) after.keys pushed,
          count_joined k keys heap.keys,
          own_counts k queues slot within,
          set_counts k queues slot (with_entry item queue) within,
          empty_count k slot queue.entries e,
        );
      };
      room = omega (arith, room, before, length-set queues slot (with_entry item queue));
    }

kept_first : (slot : ℕ) (item : Stamped) (entries : List Stamped) (b : Bool) → b ≡ (length entries == 0)
    → b ≡ false → first_key slot (entries ++ item ∷ []) ≡ first_key slot entries
kept_first slot item [] b is some = cc
kept_first slot item (x ∷ xs) b is some = refl

fed_behind : (queues : List Queue) (heap : Keys) (slot : ℕ) (item : Stamped) → IsMerge queues heap
    → slot < length queues → (queue_of queues slot).last_stamp ≤ item.stamp
    → first_key slot ((queue_of queues slot).entries ++ item ∷ [])
    ≡ first_key slot (queue_of queues slot).entries → IsMerge (after_feed queues slot item) heap
fed_behind queues heap slot item m within more e =
    let queue = queue_of queues slot in
    let lengths = m.firsts.lengths in
    let room = m.room in
    let same : length (first_key slot (queue.entries ++ item ∷ [])) ≡ length (first_key slot queue.entries) =
    ap (λ (ks : List Key). length ks) e in
    record {
      order = fed_order queues slot item m.order within more;
      firsts = record {
        lengths = omega (
          arith,
          lengths,
          own_lengths queues slot within,
          set_lengths queues slot (with_entry item queue) within,
          same,
        );
        counts = λ k. omega (
          arith,
          m.firsts.counts k,
          own_counts k queues slot within,
          set_counts k queues slot (with_entry item queue) within,
          ap (λ (ks : List Key). count k ks) e,
        );
      };
      room = omega (arith, room, length-set queues slot (with_entry item queue));
    }

fed_only_by : (queues : List Queue) (heap after : Keys) (slot : ℕ) (item : Stamped) (only : Bool)
    → IsMerge queues heap → slot < length queues → (queue_of queues slot).last_stamp ≤ item.stamp
    → only ≡ (length (queue_of queues slot).entries == 0) → only ≡ true
    → HasFirstPushed heap (after_feed queues slot item) slot after → IsMerge (after_feed queues slot item) after
fed_only_by queues heap after slot item only m within more is empty pushed =
    let queue = queue_of queues slot in
    let e = no_entries queue.entries only is empty in
    let own = get_or-set_same queues slot (with_entry item queue) empty_queue within in
    fed_alone queues heap after slot item m within more e
    (subst (λ (q : Queue). IsPermutation (first_key slot q.entries ++ heap.keys) after.keys) own
    pushed.same) pushed.room

-- the entry is the only one of its slot
pub fed_only : (queues old new seen : List Queue) (heap after : Keys) (slot : ℕ) (item : Stamped)
    (only : Bool) → HasFirstPushed heap seen slot after → seen ≡ new → queues ≡ old → IsMerge queues heap
    → slot < length old → (queue_of old slot).last_stamp ≤ item.stamp → only ≡ true
    → only ≡ (length (queue_of queues slot).entries == 0) → new ≡ after_feed queues slot item
    → IsMerge new after
fed_only queues old new seen heap after slot item only pushed same view m inside more empty is put =
    let within = subst (λ (qs : List Queue). slot < length qs) (sym view) inside in
    let stamps = subst (λ (qs : List Queue). (queue_of qs slot).last_stamp ≤ item.stamp) (sym view)
    more in
    subst (λ (qs : List Queue). IsMerge qs after) (sym put)
    (fed_only_by queues heap after slot item only m within stamps is empty
    (subst (λ (qs : List Queue). HasFirstPushed heap qs slot after) (same ∙ put) pushed))

-- another entry of its slot waits before it
pub fed_later : (queues old new : List Queue) (heap : Keys) (slot : ℕ) (item : Stamped) (only : Bool)
    → queues ≡ old → IsMerge queues heap → slot < length old
    → (queue_of old slot).last_stamp ≤ item.stamp → only ≡ false
    → only ≡ (length (queue_of queues slot).entries == 0) → new ≡ after_feed queues slot item
    → IsMerge new heap
fed_later queues old new heap slot item only view m inside more some is put =
    let within = subst (λ (qs : List Queue). slot < length qs) (sym view) inside in
    let stamps = subst (λ (qs : List Queue). (queue_of qs slot).last_stamp ≤ item.stamp) (sym view)
    more in
    subst (λ (qs : List Queue). IsMerge qs heap) (sym put)
    (fed_behind queues heap slot item m within stamps
    (kept_first slot item (queue_of queues slot).entries only is some))

-- at first nothing waits

none_first : (first : ℕ) (queues : List Queue) (n : ℕ) → queues ≡ replicate n empty_queue
    → first_keys first queues ≡ []
none_first first [] n e = refl
none_first first (q ∷ qs) zero e = cc
none_first first (q ∷ qs) (suc n) e =
    let here : q ≡ empty_queue = cc in
    let rest : qs ≡ replicate n empty_queue = cc in
    ap (λ (x : Queue). first_key first x.entries ++ first_keys (suc first) qs) here
    ∙ none_first (suc first) qs n rest

new_order : (queues : List Queue) (n : ℕ) → queues ≡ replicate n empty_queue → AreInOrder queues
new_order queues n e = record {
  each = subst (All IsInOrder) (sym e) (All-replicate IsInOrder n empty_queue (record {
    rising = λ i j d less within. absurd (omega (arith, within));
    ended = All-nil (λ (x : Stamped). x.stamp ≤ 0);
  }));
}

pub new_is : (queues : List Queue) (heap : Keys) (n : ℕ) → HasRoom heap n
    → queues ≡ replicate n empty_queue → IsMerge queues heap
new_is queues heap n r e =
    let long : length queues ≡ n = ap (λ (qs : List Queue). length qs) e
    ∙ length-replicate n empty_queue in
    let most = r.most in
    record {
      order = new_order queues n e;
      firsts = subst (λ (ks : List Key). HasSameKeys heap.keys ks)
          (sym (none_first 0 queues n e))
          (subst (λ (ks : List Key). HasSameKeys ks []) (sym r.none)
          (record { lengths = refl; counts = λ key. refl }));
      room = omega (arith, long, most);
    }
