-- The keys of the first entries of queues: how they change with one queue, and what holds of them.
use Rattle.std.proofs.Common.{◌≡◌, ℕ, zero, suc, ◌+◌, ◌≤◌, ◌<◌, ◌&&◌, Bool, true, false, nat_eq, List, [], ◌∷◌, ◌++◌, length, slice_set, refl, sym, ap, ◌∙◌, subst, arith}
use Rattle.std.specs.List.{All}
use Rattle.std.specs.Prelude.{if◌then◌else◌}
use Rattle.std.proofs.lemmas.Bool.{eqb-true, eq-eqb}
use Rattle.std.proofs.lemmas.List.{set-get_or, length-set}
use Rattle.std.proofs.lemmas.List.Elements.{All-append, All-cons, All-head, All-nil, All-tail, All-weaker}
use Rattle.work_stamp.specs.declared.key.Key.{Key}
use Rattle.work_stamp.specs.declared.stamped.Stamped.{Stamped}
use Rattle.commit_order.specs.Merges.{first_key, first_keys}
use Rattle.commit_order.specs.Steps.{HasSameKeys, count, is_same}
use Rattle.commit_order.specs.Queues.{Queue, empty_queue, queue_of}
use Rattle.commit_order.proofs.KeyOrder.{same_key}

-- a number of a list of keys that adds up where lists are joined
record Adds (f : List Key → ℕ) : Type 0 where
  none : f [] ≡ 0
  joined : (xs ys : List Key) → f (xs ++ ys) ≡ f xs + f ys

pub length_joined : (xs ys : List Key) → length (xs ++ ys) ≡ length xs + length ys
length_joined [] ys = omega arith
length_joined (x ∷ xs) ys = omega (arith, length_joined xs ys)

length_adds : Adds length
length_adds = record { none = refl; joined = length_joined }

pub count_joined : (key : Key) (xs ys : List Key) → count key (xs ++ ys) ≡ count key xs + count key ys
count_joined key [] ys = omega arith
count_joined key (x ∷ xs) ys = omega (arith, count_joined key xs ys)

count_adds : (key : Key) → Adds (count key)
count_adds key = record { none = refl; joined = count_joined key }

-- what one queue gives, and what the others give
parts : (f : List Key → ℕ) → Adds f → (first : ℕ) (queues : List Queue) (place : ℕ) (queue : Queue)
    → place < length queues
    → f (first_keys first (slice_set queues place queue)) ≡ f (first_key (first + place) queue.entries)
    + f (first_keys first (slice_set queues place empty_queue))
parts f a first [] place queue within = absurd (omega arith)
parts f a first (q ∷ qs) zero queue within =
    let here : first ≡ first + 0 = omega arith in
    a.joined (first_key first queue.entries) (first_keys (suc first) qs)
    ∙ ap (λ (n : ℕ). f (first_key n queue.entries) + f (first_keys (suc first) qs)) here
parts f a first (q ∷ qs) (suc place) queue within =
    let here : suc first + place ≡ first + suc place = omega arith in
    let more = parts f a (suc first) qs place queue (omega arith)
    ∙ ap (λ (n : ℕ). f (first_key n queue.entries)
    + f (first_keys (suc first) (slice_set qs place empty_queue))) here in
    let one = a.joined (first_key first q.entries) (first_keys (suc first) (slice_set qs place queue)) in
    let other = a.joined (first_key first q.entries)
    (first_keys (suc first) (slice_set qs place empty_queue)) in
    omega (arith, more, one, other)

-- the keys of the first entries of all slots but one
abbrev pub others : List Queue → ℕ → List Key
others queues slot = first_keys 0 (slice_set queues slot empty_queue)

at_zero : (f : List Key → ℕ) (slot : ℕ) (entries : List Stamped)
    → f (first_key (0 + slot) entries) ≡ f (first_key slot entries)
at_zero f slot entries = let same : 0 + slot ≡ slot = omega arith in ap (λ (n : ℕ). f (first_key n entries)) same

set_parts : (f : List Key → ℕ) → Adds f → (queues : List Queue) (slot : ℕ) (queue : Queue)
    → slot < length queues → f (first_keys 0 (slice_set queues slot queue))
    ≡ f (first_key slot queue.entries) + f (others queues slot)
set_parts f a queues slot queue within =
    omega (arith, parts f a 0 queues slot queue within, at_zero f slot queue.entries)

own_parts : (f : List Key → ℕ) → Adds f → (queues : List Queue) (slot : ℕ) → slot < length queues
    → f (first_keys 0 queues) ≡ f (first_key slot (queue_of queues slot).entries)
    + f (others queues slot)
own_parts f a queues slot within =
    ap (λ (qs : List Queue). f (first_keys 0 qs)) (sym (set-get_or queues slot empty_queue))
    ∙ set_parts f a queues slot (queue_of queues slot) within

-- after a change of one queue
pub set_counts : (key : Key) (queues : List Queue) (slot : ℕ) (queue : Queue) → slot < length queues
    → count key (first_keys 0 (slice_set queues slot queue))
    ≡ count key (first_key slot queue.entries) + count key (others queues slot)
set_counts key queues slot queue within = set_parts (count key) (count_adds key) queues slot queue within

pub set_lengths : (queues : List Queue) (slot : ℕ) (queue : Queue) → slot < length queues
    → length (first_keys 0 (slice_set queues slot queue))
    ≡ length (first_key slot queue.entries) + length (others queues slot)
set_lengths queues slot queue within = set_parts length length_adds queues slot queue within

-- before it
pub own_counts : (key : Key) (queues : List Queue) (slot : ℕ) → slot < length queues
    → count key (first_keys 0 queues)
    ≡ count key (first_key slot (queue_of queues slot).entries) + count key (others queues slot)
own_counts key queues slot within = own_parts (count key) (count_adds key) queues slot within

pub own_lengths : (queues : List Queue) (slot : ℕ) → slot < length queues
    → length (first_keys 0 queues)
    ≡ length (first_key slot (queue_of queues slot).entries) + length (others queues slot)
own_lengths queues slot within = own_parts length length_adds queues slot within

first_key_length : (slot : ℕ) (entries : List Stamped) → length (first_key slot entries) ≤ 1
first_key_length slot [] = omega arith
first_key_length slot (item ∷ items) = omega arith

pub first_keys_length : (first : ℕ) (queues : List Queue) → length (first_keys first queues) ≤ length queues
first_keys_length first [] = omega arith
first_keys_length first (q ∷ qs) =
    omega (
      arith,
      length_joined (first_key first q.entries) (first_keys (suc first) qs),
      first_key_length first q.entries,
      first_keys_length (suc first) qs,
    )

-- a queue for which an entry waits, whatever it is
abbrev some_queue : Stamped → Queue
some_queue item = record { entries = item ∷ []; last_stamp = 0 }

-- there is one key for each slot at most, so that all but one slot leave room for one
pub others_length : (queues : List Queue) (slot : ℕ) (item : Stamped) → slot < length queues
    → length (others queues slot) < length queues
others_length queues slot item within =
    omega (
      arith,
      set_lengths queues slot (some_queue item) within,
      first_keys_length 0 (slice_set queues slot (some_queue item)),
      length-set queues slot (some_queue item),
    )

-- what holds of each key holds of one that stands among them

both_true : (a b : Bool) → (a && b) ≡ true → (a ≡ true) × (b ≡ true)
both_true true b h = (refl, h)
both_true false b h = cc

same_from_test : (a b : Key) → is_same a b ≡ true → a ≡ b
same_from_test a b h =
    let p = both_true (nat_eq a.stamp b.stamp) (nat_eq a.slot b.slot) h in
    same_key a.stamp a.slot b.stamp b.slot (eqb-true a.stamp b.stamp p.0)
    (eqb-true a.slot b.slot p.1)

all_by : (P : Key → Type 0) (key k : Key) (ks : List Key) (b : Bool) → is_same k key ≡ b
    → 1 ≤ (if b then 1 else 0) + count key ks → P k → (1 ≤ count key ks → P key) → P key
all_by P key k ks true is some here later = subst P (same_from_test k key is) here
all_by P key k ks false is some here later = later (omega arith)

pub all_counted : (P : Key → Type 0) (key : Key) (ks : List Key) → All P ks → 1 ≤ count key ks → P key
all_counted P key [] all some = absurd (omega arith)
all_counted P key (k ∷ ks) all some =
    all_by P key k ks (is_same k key) refl some (All-head P k ks all)
    (λ more. all_counted P key ks (All-tail P k ks all) more)

same_itself : (a b : ℕ) → (nat_eq a a && nat_eq b b) ≡ true
same_itself a b = ap (λ (t : Bool). t && nat_eq b b) (eq-eqb a a refl) ∙ eq-eqb b b refl

-- each key stands among the keys
pub counted_itself : (key : Key) (ks : List Key) → 1 ≤ count key (key ∷ ks)
counted_itself key ks =
    let one : ◌≡◌ {A = ℕ} (if is_same key key then 1 else 0) 1 =
    ap (λ (t : Bool). if t then 1 else 0) (same_itself key.stamp key.slot) in
    omega (arith, one)

pub counted_more : (key k : Key) (ks : List Key) → 1 ≤ count key ks → 1 ≤ count key (k ∷ ks)
counted_more key k ks some = omega (arith, some)

pub each_counted : (ks : List Key) → All (λ (k : Key). 1 ≤ count k ks) ks
each_counted [] = All-nil (λ (k : Key). 1 ≤ count k [])
each_counted (k ∷ ks) =
    All-cons (λ (x : Key). 1 ≤ count x (k ∷ ks)) k ks (counted_itself k ks)
    (All-weaker (λ (x : Key). 1 ≤ count x ks) (λ (x : Key). 1 ≤ count x (k ∷ ks))
    (λ x some. counted_more x k ks some) ks (each_counted ks))

-- what holds of each key holds of each of the same keys in another order
pub all_same : (P : Key → Type 0) (a b : List Key) → HasSameKeys a b → All P a → All P b
all_same P a b same all =
    All-weaker (λ (k : Key). 1 ≤ count k b) P
    (λ k some. all_counted P k a all (omega (arith, same.counts k, some))) b (each_counted b)

-- the key of a slot's first entry is among the first keys

joined_first : (P : Key → Type 0) (xs ys : List Key) → All P (xs ++ ys) → All P ys
joined_first P [] ys all = all
joined_first P (x ∷ xs) ys all = joined_first P xs ys (All-tail P x (xs ++ ys) all)

pub first_has : (P : Key → Type 0) (first : ℕ) (queues : List Queue) (place : ℕ) (item : Stamped)
    (items : List Stamped) → place < length queues → (queue_of queues place).entries ≡ item ∷ items
    → All P (first_keys first queues) → P (record { stamp = item.stamp; slot = first + place })
first_has P first [] place item items within e all = absurd (omega arith)
first_has P first (q ∷ qs) zero item items within e all =
    let here : first ≡ first + 0 = omega arith in
    let turned : All P (first_key first (item ∷ items) ++ first_keys (suc first) qs) =
    subst (λ (es : List Stamped). All P (first_key first es ++ first_keys (suc first) qs)) e all in
    subst (λ (n : ℕ). P (record { stamp = item.stamp; slot = n })) here
    (All-head P (record { stamp = item.stamp; slot = first }) (first_keys (suc first) qs) turned)
first_has P first (q ∷ qs) (suc place) item items within e all =
    let here : suc first + place ≡ first + suc place = omega arith in
    subst (λ (n : ℕ). P (record { stamp = item.stamp; slot = n })) here
    (first_has P (suc first) qs place item items (omega arith) e
    (joined_first P (first_key first q.entries) (first_keys (suc first) qs) all))

-- the first entry of a slot has this key; the first queue is that of a given slot
pub record IsFirst (first : ℕ) (queues : List Queue) (key : Key) : Type 0 where
  pub place : ℕ
  pub slot : key.slot ≡ first + place
  pub within : place < length queues
  pub item : Stamped
  pub items : List Stamped
  pub entries : (queue_of queues place).entries ≡ item ∷ items
  pub stamp : item.stamp ≡ key.stamp

further : (first : ℕ) (q : Queue) (qs : List Queue) (key : Key) → IsFirst (suc first) qs key
    → IsFirst first (q ∷ qs) key
further first q qs key f = record {
  place = suc f.place;
  slot = let s = f.slot in omega (arith, s);
  within = let w = f.within in omega (arith, w);
  item = f.item;
  items = f.items;
  entries = f.entries;
  stamp = f.stamp;
}

one_first : (first : ℕ) (last : ℕ) (entries es : List Stamped) (qs : List Queue) → entries ≡ es
    → All (IsFirst first (record { entries = entries; last_stamp = last } ∷ qs)) (first_key first es)
one_first first last entries [] qs e = All-nil (IsFirst first (record { entries = entries; last_stamp = last } ∷ qs))
one_first first last entries (item ∷ items) qs e =
    All-cons (IsFirst first (record { entries = entries; last_stamp = last } ∷ qs))
    (record { stamp = item.stamp; slot = first }) []
    (record {
      place = 0;
      slot = omega arith;
      within = omega arith;
      item = item;
      items = items;
      entries = e;
      stamp = refl;
    }) (All-nil (IsFirst first (record { entries = entries; last_stamp = last } ∷ qs)))

pub all_first : (first : ℕ) (queues : List Queue) → All (IsFirst first queues) (first_keys first queues)
all_first first [] = All-nil (IsFirst first [])
all_first first (q ∷ qs) =
    All-append (IsFirst first (q ∷ qs)) (first_key first q.entries) (first_keys (suc first) qs)
    (one_first first q.last_stamp q.entries q.entries qs refl)
    (All-weaker (IsFirst (suc first) qs) (IsFirst first (q ∷ qs)) (λ k f. further first q qs k f)
    (first_keys (suc first) qs) (all_first (suc first) qs))
