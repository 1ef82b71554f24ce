-- Taking all entries that wait, in the order of their keys.
use Rattle.std.proofs.Common.{◌≡◌, ℕ, ◌<◌, ◌≤◌, ◌^◌, Bool, true, false, ◌&&◌, ◌||◌, nat_eq, nat_lt, List, [], ◌∷◌, ◌++◌, length, drop, map, Some, refl, sym, ap, ◌∙◌, subst, arith}
use Rattle.std.specs.Prelude.{All, if◌then◌else◌}
use Rattle.std.proofs.lemmas.Bool.{eqb-false, eqb-true}
use Rattle.std.proofs.lemmas.Bool.Decides.{nat_tests}
use Rattle.std.proofs.lemmas.List.{append-nil, append_assoc}
use Rattle.std.proofs.lemmas.List.Elements.{All-head, All-tail, filter-append}
use Rattle.std.proofs.lemmas.List.Sums.{sum_by-set}
use Rattle.commit_order.specs.Laws.{IsFirstOfSlot}
use Rattle.commit_order.specs.Merges.{AreNotBelow, IsLeast, after_take, slot_entry, waiting_entries}
use Rattle.commit_order.specs.Queues.{Queue, empty_queue, queue_of, without_first}
use Rattle.commit_order.proofs.Waiting.{waited_first}
use Rattle.stamp_machine.specs.Orders.{AreInOrder, Each, IsNotLess}
use Rattle.stamp_machine.specs.Runs.{of_slot}
use Rattle.stamp_machine.proofs.Orders.{each_append}
use Rattle.work_stamp.specs.Keys.{is_below}
use Rattle.work_stamp.specs.declared.key.Key.{Key}
use Rattle.work_stamp.specs.declared.stamped.KeyedEntry.{KeyedEntry}
use Rattle.work_stamp.specs.declared.stamped.Stamped.{Stamped}
use Rattle.version_store.specs.Gathers.{AreLow, IsMerged, IsTaking, waiting_count}

stamps_by : (a b c d : ℕ) → (nat_lt a c || (nat_eq a c && nat_lt b d)) ≡ false → c ≤ a
stamps_by a b c d h = grind (arith, nat_tests)

slots_by : (a b c d : ℕ) → (nat_lt a c || (nat_eq a c && nat_lt b d)) ≡ false → a ≤ c → d ≤ b
slots_by a b c d h le = grind (arith, nat_tests)

not_below : (a b : Key) → is_below a b ≡ false → IsNotLess a b
not_below a b h = record {
  stamps = stamps_by a.stamp a.slot b.stamp b.slot h;
  slots = λ le. slots_by a.stamp a.slot b.stamp b.slot h le;
}

each_of_all : {A : Type 0} (P : A → Type 0) (xs : List A) → All P xs → Each P xs
each_of_all P [] h = tt
each_of_all P (x ∷ xs) h = (All-head P x xs h, each_of_all P xs (All-tail P x xs h))

each_of_both : {A : Type 0} (P Q R : A → Type 0) (xs : List A) →
    ((x : A) → P x → Q x → R x) → Each P xs → Each Q xs → Each R xs
each_of_both P Q R [] f p q = tt
each_of_both P Q R (x ∷ xs) f p q = (f x p.0 q.0, each_of_both P Q R xs f p.1 q.1)

in_order_with : (xs : List KeyedEntry) (e : KeyedEntry) → AreInOrder xs →
    Each (λ x. IsNotLess e.key x.key) xs → AreInOrder (xs ++ e ∷ [])
in_order_with [] e p q = (tt, tt)
in_order_with (x ∷ xs) e p q =
    (each_append (λ (y : KeyedEntry). IsNotLess y.key x.key) xs (e ∷ []) p.0 (q.0, tt), in_order_with xs e p.1 q.1)

-- what waited for a slot before an entry was taken: the entry, where it is the slot's, and what waits
waited_by : (slot : ℕ) (e : KeyedEntry) (now after : List KeyedEntry) (b : Bool) →
    nat_eq e.key.slot slot ≡ b → (e.key.slot ≡ slot → now ≡ e ∷ after) →
    ((slot ≡ e.key.slot → ⊥) → after ≡ now) → (if b then e ∷ [] else []) ++ after ≡ now
waited_by slot e now after true t own others = sym (own (eqb-true e.key.slot slot t))
waited_by slot e now after false t own others =
    others (λ h. eqb-false e.key.slot slot t (sym h))

waited : (queues : List Queue) (e : KeyedEntry) → IsFirstOfSlot queues e → (slot : ℕ) →
    of_slot slot (e ∷ []) ++ waiting_entries (after_take queues (Some e)) slot ≡
    waiting_entries queues slot
waited queues e f slot =
    waited_by slot e (waiting_entries queues slot)
    (waiting_entries (after_take queues (Some e)) slot) (nat_eq e.key.slot slot) refl
    (λ h. subst (λ (s : ℕ). waiting_entries queues s ≡ e ∷ waiting_entries (after_take queues (Some e)) s)
    h f.own)
    (λ apart. ap (λ (q : Queue). map (slot_entry slot) q.entries) (f.others slot apart))

each_after_by : {A : Type 0} (P : A → Type 0) (e : A) (now after : List A) (b : Bool) →
    (if b then e ∷ [] else []) ++ after ≡ now → Each P now → Each P after
each_after_by P e now after true h p = (subst (Each P) (sym h) p).1
each_after_by P e now after false h p = subst (Each P) (sym h) p

each_after : (P : KeyedEntry → Type 0) (queues : List Queue) (e : KeyedEntry) →
    IsFirstOfSlot queues e → (slot : ℕ) → Each P (waiting_entries queues slot) →
    Each P (waiting_entries (after_take queues (Some e)) slot)
each_after P queues e f slot p =
    each_after_by P e (waiting_entries queues slot)
    (waiting_entries (after_take queues (Some e)) slot) (nat_eq e.key.slot slot)
    (waited queues e f slot) p

all_true : {A B : Type 0} (P : A → B → Type 0) (xs : List A) → Each (λ x. Each (P x) []) xs
all_true P [] = tt
all_true P (x ∷ xs) = (tt, all_true P xs)

pub none_taken : (queues : List Queue) → AreLow queues → IsTaking queues queues []
none_taken queues low = record {
  order = record { in_order = tt };
  slots = λ slot. refl;
  later = λ slot. all_true (λ (w e : KeyedEntry). IsNotLess w.key e.key) (waiting_entries queues slot);
  low = low;
}

pub one_taken : (start now : List Queue) (taken : List KeyedEntry) (key : Key) (e : KeyedEntry) →
    IsTaking start now taken → IsLeast now key e →
    IsTaking start (after_take now (Some e)) (taken ++ e ∷ [])
one_taken start now taken key e t least =
    let f = waited_first now key e least in
    record {
      order = record {
        in_order = in_order_with taken e t.order.in_order
            (subst (Each (λ w. Each (λ x. IsNotLess w.key x.key) taken)) least.first
            (t.later e.key.slot)).0;
      };
      slots = λ slot.
          ap (λ (es : List KeyedEntry). es ++ waiting_entries (after_take now (Some e)) slot)
          (filter-append (λ (x : KeyedEntry). nat_eq x.key.slot slot) taken (e ∷ []))
          ∙ (append_assoc (of_slot slot taken) (of_slot slot (e ∷ []))
          (waiting_entries (after_take now (Some e)) slot)
          ∙ (ap (λ (es : List KeyedEntry). of_slot slot taken ++ es) (waited now e f slot)
          ∙ t.slots slot));
      later = λ slot. each_after (λ w. Each (λ x. IsNotLess w.key x.key) (taken ++ e ∷ [])) now e f slot
          (each_of_both (λ w. Each (λ x. IsNotLess w.key x.key) taken)
          (λ w. is_below w.key e.key ≡ false)
          (λ w. Each (λ x. IsNotLess w.key x.key) (taken ++ e ∷ [])) (waiting_entries now slot)
          (λ w p q. each_append (λ (x : KeyedEntry). IsNotLess w.key x.key) taken (e ∷ []) p
          (not_below w.key e.key q, tt)) (t.later slot)
          (each_of_all (λ (w : KeyedEntry). is_below w.key e.key ≡ false) (waiting_entries now slot)
          (least.least.each slot)));
      low = record {
        each = λ slot. each_after (λ w. w.key.stamp < 2 ^ 63) now e f slot (t.low.each slot);
      };
    }

none_left : (key : Key) (xs : List KeyedEntry) → 2 ^ 63 ≤ key.stamp →
    Each (λ w. w.key.stamp < 2 ^ 63) xs → Each (λ w. is_below w.key key ≡ false) xs → xs ≡ []
none_left key [] high p q = refl
none_left key (x ∷ xs) high p q =
    let least = (not_below x.key key q.0).stamps in
    let low = p.0 in
    absurd (omega (arith, least, low, high))

pub all_taken : (start now : List Queue) (taken : List KeyedEntry) (key : Key) → 2 ^ 63 ≤ key.stamp →
    IsTaking start now taken → AreNotBelow now key → IsMerged start taken
all_taken start now taken key high t none = record {
  order = t.order;
  slots = λ slot.
      let left = none_left key (waiting_entries now slot) high (t.low.each slot)
      (each_of_all (λ (w : KeyedEntry). is_below w.key key ≡ false) (waiting_entries now slot)
      (none.each slot)) in
      sym (append-nil (of_slot slot taken))
      ∙ (ap (λ (es : List KeyedEntry). of_slot slot taken ++ es) (sym left) ∙ t.slots slot);
}

shorter : (slot : ℕ) (items : List Stamped) (e : KeyedEntry) (later : List KeyedEntry) →
    map (slot_entry slot) items ≡ e ∷ later → length (drop 1 items) < length items
shorter slot [] e later h = absurd cc
shorter slot (item ∷ items) e later h = omega arith

-- one entry fewer waits
pub fewer_wait : (queues : List Queue) (key : Key) (e : KeyedEntry) → IsLeast queues key e →
    waiting_count (after_take queues (Some e)) < waiting_count queues
fewer_wait queues key e least =
    let sums = sum_by-set (λ (queue : Queue). length queue.entries) queues e.key.slot
    (without_first (queue_of queues e.key.slot)) empty_queue least.within in
    let less = shorter e.key.slot (queue_of queues e.key.slot).entries e least.later least.first in
    omega (arith, sums, less)
