-- The order of keys, and lists in that order.
use Rattle.std.proofs.Common.{◌≡◌, ℕ, suc, zero, Bool, true, false, List, [], ◌∷◌, ◌++◌, refl, ap, ◌∙◌, subst, Some, None, set, arith}
use Rattle.std.specs.Prelude.{filter, if◌then◌else◌}
use Rattle.work_stamp.specs.Keys.{is_below}
use Rattle.work_stamp.specs.Histories.{under}
use Rattle.work_stamp.specs.declared.entry.Entry.{Entry}
use Rattle.work_stamp.specs.declared.key.Key.{Key}
use Rattle.work_stamp.specs.declared.stamped.KeyedEntry.{KeyedEntry}
use Rattle.stamp_machine.specs.Slots.{at}
use Rattle.stamp_machine.specs.Orders.{IsLess, IsNotLess, Each, AreInOrder}

pub less_test : (a b : Key) → IsLess a b → is_below a b ≡ true
less_test a b h = grind arith

pub not_less_test : (a b : Key) → IsNotLess a b → is_below a b ≡ false
not_less_test a b h = grind arith

pub less_trans : (a b c : Key) → IsLess a b → IsNotLess c b → IsLess a c
less_trans a b c p q = record { stamps = omega (arith, p.stamps, q.stamps); slots = λ h. omega (arith, p.stamps, q.stamps, p.slots, q.slots) }

pub not_less : (a b : Key) → IsLess a b → IsNotLess b a
not_less a b p = record { stamps = p.stamps; slots = λ h. omega (arith, p.slots h) }

pub not_less_trans : (a b c : Key) → IsNotLess b a → IsNotLess c b → IsNotLess c a
not_less_trans a b c p q = record { stamps = omega (arith, p.stamps, q.stamps); slots = λ h. omega (arith, p.stamps, q.stamps, p.slots, q.slots) }

pub same_not_less : (a : Key) → IsNotLess a a
same_not_less a = record { stamps = omega arith; slots = λ h. omega arith }

pub each_append : {A : Type 0} (P : A → Type 0) (xs ys : List A) → Each P xs → Each P ys → Each P (xs ++ ys)
each_append P [] ys p q = q
each_append P (x ∷ xs) ys p q = (p.0, each_append P xs ys p.1 q)

pub each_map : {A : Type 0} (P Q : A → Type 0) (xs : List A) → ((x : A) → P x → Q x) → Each P xs → Each Q xs
each_map P Q [] f p = tt
each_map P Q (x ∷ xs) f p = (f x p.0, each_map P Q xs f p.1)

-- entries under one key
pub each_under : (P : Key → Type 0) (k : Key) (es : List Entry) → P k → Each (λ e. P e.key) (under k es)
each_under P k [] p = tt
each_under P k (e ∷ es) p = (p, each_under P k es p)

pub under_in_order : (k : Key) (es : List Entry) → AreInOrder (under k es)
under_in_order k [] = tt
under_in_order k (e ∷ es) = (each_under (λ x. IsNotLess x k) k es (same_not_less k), under_in_order k es)

-- entries in order, and others of a key that no earlier one is above
pub in_order_append : (xs : List KeyedEntry) (k : Key) (es : List Entry) → AreInOrder xs → Each (λ e. IsLess e.key k) xs → AreInOrder (xs ++ under k es)
in_order_append [] k es p q = under_in_order k es
in_order_append (x ∷ xs) k es p q =
    (each_append _ xs (under k es) p.0 (each_under (λ y. IsNotLess y x.key) k es (not_less x.key k q.0)), in_order_append xs k es p.1 q.1)

pub filter_all : {A : Type 0} (test : A → Bool) (xs : List A) → Each (λ x. test x ≡ true) xs → filter test xs ≡ xs
filter_all test [] p = refl
filter_all test (x ∷ xs) p = ap (λ (b : Bool). if b then x ∷ filter test xs else filter test xs) p.0 ∙ ap (λ rest. x ∷ rest) (filter_all test xs p.1)

pub filter_none : {A : Type 0} (test : A → Bool) (xs : List A) → Each (λ x. test x ≡ false) xs → filter test xs ≡ []
filter_none test [] p = refl
filter_none test (x ∷ xs) p = ap (λ (b : Bool). if b then x ∷ filter test xs else filter test xs) p.0 ∙ filter_none test xs p.1

-- what holds of each item at its place after one is replaced
none_some : {A : Type 0} (x : A) → None ≡ Some x → ⊥
none_some x e = cc

pub set_each : {A : Type 0} (P : ℕ → A → Type 0) (xs : List A) (k : ℕ) (y : A) → ((j : ℕ) (x : A) → (k ≡ j → ⊥) → at xs j ≡ Some x → P j x) → P k y → (j : ℕ) (x : A) → at (set xs k y) j ≡ Some x → P j x
set_each P [] k y each new j x e = absurd (none_some x e)
set_each P (z ∷ xs) zero y each new zero x e = let q : y ≡ x = cc in subst (P 0) q new
set_each P (z ∷ xs) zero y each new (suc j) x e = each (suc j) x (λ h. omega arith) e
set_each P (z ∷ xs) (suc k) y each new zero x e = each zero x (λ h. omega arith) e
set_each P (z ∷ xs) (suc k) y each new (suc j) x e = set_each (λ i. P (suc i)) xs k y (λ i w ne h. each (suc i) w (λ q. ne (omega arith)) h) new j x e

-- what is left of a list has what each item has, and is in order where the list is
filtered_by : {A : Type 0} (P : A → Type 0) (b : Bool) (x : A) (xs : List A) → P x → Each P xs → Each P (if b then x ∷ xs else xs)
filtered_by P true x xs p each = (p, each)
filtered_by P false x xs p each = each

pub each_filtered : {A : Type 0} (P : A → Type 0) (test : A → Bool) (xs : List A) → Each P xs → Each P (filter test xs)
each_filtered P test [] each = tt
each_filtered P test (x ∷ xs) each = filtered_by P (test x) x (filter test xs) each.0 (each_filtered P test xs each.1)

in_order_by : (b : Bool) (x : KeyedEntry) (xs : List KeyedEntry) → Each (λ later. IsNotLess later.key x.key) xs → AreInOrder xs → AreInOrder (if b then x ∷ xs else xs)
in_order_by true x xs later order = (later, order)
in_order_by false x xs later order = order

pub in_order_filtered : (test : KeyedEntry → Bool) (xs : List KeyedEntry) → AreInOrder xs → AreInOrder (filter test xs)
in_order_filtered test [] order = tt
in_order_filtered test (x ∷ xs) order =
    in_order_by (test x) x (filter test xs) (each_filtered (λ later. IsNotLess later.key x.key) test xs order.0) (in_order_filtered test xs order.1)
