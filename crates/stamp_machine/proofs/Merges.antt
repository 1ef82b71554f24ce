-- Laws of histories in the order of their keys, and of moves that don't read the history.
use Rattle.std.proofs.Common.{◌≡◌, ℕ, ◌+◌, ◌<◌, Bool, true, false, ◌&&◌, ◌||◌, List, [], ◌∷◌, Option, Some, None, refl, sym, ap, ◌∙◌, subst, arith}
use Rattle.std.specs.Prelude.{filter, not, nat_eq, nat_lt, nat_le, if◌then◌else◌}
use Rattle.std.proofs.lemmas.Bool.{eq-eqb, eqb-true}
use Rattle.work_stamp.specs.Keys.{is_below}
use Rattle.work_stamp.specs.Taskers.{Rules}
use Rattle.work_stamp.specs.declared.entry.Entry.TheVariants.{Halt}
use Rattle.work_stamp.specs.declared.key.Key.{Key}
use Rattle.work_stamp.specs.declared.stamped.KeyedEntry.{KeyedEntry}
use Rattle.stamp_machine.specs.Slots.{slot_after_end}
use Rattle.stamp_machine.specs.Machine.{fits, turn_while_live, turn_after_join}
use Rattle.stamp_machine.specs.Merges.{HasSides, HasLeastFirst, AreSame, AreUnread, reads_while_live}
use Rattle.stamp_machine.specs.Orders.{IsNotLess, Each, IsSorted}
use Rattle.stamp_machine.specs.Runs.{of_slot}
use Rattle.stamp_machine.proofs.Grows.{going_else}
use Rattle.stamp_machine.specs.declared.limits.Limits.{Limits}
use Rattle.stamp_machine.specs.declared.slot.Slot.{Slot}
use Rattle.stamp_machine.specs.declared.slot.Live.{Live}

with_true : {A : Type 0} (x : A) (ys : List A) (c : Bool) → (if c then x ∷ ys else ys) ≡ (if c && true then x ∷ ys else ys)
with_true x ys true = refl
with_true x ys false = refl

with_false : {A : Type 0} (x : A) (ys : List A) (c : Bool) → ys ≡ (if c && false then x ∷ ys else ys)
with_false x ys true = refl
with_false x ys false = refl

-- a choice between lists, and a test of its result
kept_if : {A : Type 0} (q : A → Bool) (x : A) (xs ys : List A) (b c : Bool) → q x ≡ c → filter q xs ≡ ys → filter q (if b then x ∷ xs else xs) ≡ (if c && b then x ∷ ys else ys)
kept_if q x xs ys true c e h = ap (λ (d : Bool). if d then x ∷ filter q xs else filter q xs) e ∙ (ap (λ (r : List _). if c then x ∷ r else r) h ∙ with_true x ys c)
kept_if q x xs ys false c e h = h ∙ with_false x ys c

-- two filters, one after the other
pub filter_both : {A : Type 0} (p q t : A → Bool) (xs : List A) → ((x : A) → (q x && p x) ≡ t x) → filter q (filter p xs) ≡ filter t xs
filter_both p q t [] same = refl
filter_both p q t (x ∷ xs) same = kept_if q x (filter p xs) (filter t xs) (p x) (q x) refl (filter_both p q t xs same) ∙ ap (λ (b : Bool). if b then x ∷ filter t xs else filter t xs) (same x)

same_tests : (a b : Bool) → ((a ≡ true) → (b ≡ true)) → ((b ≡ true) → (a ≡ true)) → a ≡ b
same_tests true true f g = refl
same_tests true false f g = sym (f refl)
same_tests false true f g = g refl
same_tests false false f g = refl

side_small_by : (b : Bool) (slot stamp number k s : ℕ) → nat_eq slot number ≡ b → number < k → (b && (nat_lt stamp s || (nat_eq stamp s && nat_lt slot k))) ≡ (b && nat_lt stamp (s + 1))
side_small_by true slot stamp number k s e h = let same : slot ≡ number = eqb-true slot number e in grind arith
side_small_by false slot stamp number k s e h = refl

side_large_by : (b : Bool) (slot stamp number k s : ℕ) → nat_eq slot number ≡ b → k < number → (b && (nat_lt stamp s || (nat_eq stamp s && nat_lt slot k))) ≡ (b && nat_lt stamp s)
side_large_by true slot stamp number k s e h = let same : slot ≡ number = eqb-true slot number e in grind arith
side_large_by false slot stamp number k s e h = refl

side_own_by : (b : Bool) (slot stamp number k s : ℕ) → nat_eq slot number ≡ b → number ≡ k → (b && (nat_lt stamp s || (nat_eq stamp s && nat_lt slot k))) ≡ (b && nat_lt stamp s)
side_own_by true slot stamp number k s e h = let same : slot ≡ number = eqb-true slot number e in grind arith
side_own_by false slot stamp number k s e h = refl

side_small : (slot stamp number k s : ℕ) → number < k → (nat_eq slot number && (nat_lt stamp s || (nat_eq stamp s && nat_lt slot k))) ≡ (nat_eq slot number && nat_lt stamp (s + 1))
side_small slot stamp number k s h = side_small_by (nat_eq slot number) slot stamp number k s refl h

side_large : (slot stamp number k s : ℕ) → k < number → (nat_eq slot number && (nat_lt stamp s || (nat_eq stamp s && nat_lt slot k))) ≡ (nat_eq slot number && nat_lt stamp s)
side_large slot stamp number k s h = side_large_by (nat_eq slot number) slot stamp number k s refl h

side_own : (slot stamp number k s : ℕ) → number ≡ k → (nat_eq slot number && (nat_lt stamp s || (nat_eq stamp s && nat_lt slot k))) ≡ (nat_eq slot number && nat_lt stamp s)
side_own slot stamp number k s h = side_own_by (nat_eq slot number) slot stamp number k s refl h

pub sides : (history : List KeyedEntry) (k : Key) (number : ℕ) → HasSides history k number
sides history k number = record {
  smaller = λ h. filter_both (λ e. is_below e.key k) (λ e. nat_eq e.key.slot number) (λ e. nat_eq e.key.slot number && nat_lt e.key.stamp (k.stamp + 1)) history (λ e. side_small e.key.slot e.key.stamp number k.slot k.stamp h);
  own = λ h. filter_both (λ e. is_below e.key k) (λ e. nat_eq e.key.slot number) (λ e. nat_eq e.key.slot number && nat_lt e.key.stamp k.stamp) history (λ e. side_own e.key.slot e.key.stamp number k.slot k.stamp h);
  larger = λ h. filter_both (λ e. is_below e.key k) (λ e. nat_eq e.key.slot number) (λ e. nat_eq e.key.slot number && nat_lt e.key.stamp k.stamp) history (λ e. side_large e.key.slot e.key.stamp number k.slot k.stamp h);
}

nil_no_cons : {A : Type 0} (f : A) (fs : List A) → [] ≡ f ∷ fs → ⊥
nil_no_cons f fs e = cc

each_choice : {A : Type 0} (P : A → Type 0) (test : A → Bool) (x : A) (xs ys : List A) (f : A) (fs : List A) (b : Bool) → test x ≡ b → P x → ((zs : List A) → filter test xs ≡ zs → zs ≡ f ∷ fs → P f) →
    (if test x then x ∷ filter test xs else filter test xs) ≡ ys → ys ≡ f ∷ fs → P f
each_choice P test x xs ys f fs true t here rest e h =
    let whole : x ∷ filter test xs ≡ f ∷ fs = sym (ap (λ (b : Bool). if b then x ∷ filter test xs else filter test xs) t) ∙ (e ∙ h) in
    let same : x ≡ f = cc in
    subst P same here
each_choice P test x xs ys f fs false t here rest e h =
    rest (filter test xs) refl (sym (ap (λ (b : Bool). if b then x ∷ filter test xs else filter test xs) t) ∙ (e ∙ h))

-- what is left of a list has what each item has
each_filter : {A : Type 0} (P : A → Type 0) (test : A → Bool) (xs ys : List A) (f : A) (fs : List A) → Each P xs → filter test xs ≡ ys → ys ≡ f ∷ fs → P f
each_filter P test [] ys f fs p e h = absurd (nil_no_cons f fs (e ∙ h))
each_filter P test (x ∷ xs) ys f fs p e h = each_choice P test x xs ys f fs (test x) refl p.0 (λ zs q g. each_filter P test xs zs f fs p.1 q g) e h

pub least_first : (e : KeyedEntry) (history : List KeyedEntry) → IsSorted (e ∷ history) → HasLeastFirst e history
least_first e history s = record {
  own = ap (λ (b : Bool). if b then e ∷ of_slot e.key.slot history else of_slot e.key.slot history) (eq-eqb e.key.slot e.key.slot refl);
  least = λ number f fs h. each_filter (λ x. IsNotLess x.key e.key) (λ x. nat_eq x.key.slot number) (e ∷ history) _ f fs (record { stamps = omega arith; slots = λ q. omega arith }, s.in_order.0) refl h;
}

tail_by : (b : Bool) (e : KeyedEntry) (xs ys : List KeyedEntry) → (if b then e ∷ xs else xs) ≡ (if b then e ∷ ys else ys) → xs ≡ ys
tail_by true e xs ys h = cc
tail_by false e xs ys h = h

same_slots : (a b : Key) → IsNotLess b a → IsNotLess a b → a.slot ≡ b.slot
same_slots a b p q = let ab = p.slots in let ba = q.slots in omega (arith, p.stamps, q.stamps, ab, ba)

tail_same : (number : ℕ) (e : KeyedEntry) (xs ys : List KeyedEntry) → of_slot number (e ∷ xs) ≡ of_slot number (e ∷ ys) → of_slot number xs ≡ of_slot number ys
tail_same number e xs ys h = tail_by (nat_eq e.key.slot number) e (of_slot number xs) (of_slot number ys) h

own_first : (e : KeyedEntry) (xs : List KeyedEntry) → of_slot e.key.slot (e ∷ xs) ≡ e ∷ of_slot e.key.slot xs
own_first e xs = ap (λ (b : Bool). if b then e ∷ of_slot e.key.slot xs else of_slot e.key.slot xs) (eq-eqb e.key.slot e.key.slot refl)

-- the first entries of two such histories are the same
first_same : (e f : KeyedEntry) (xs ys : List KeyedEntry) → IsSorted (e ∷ xs) → IsSorted (f ∷ ys) → ((number : ℕ) → of_slot number (e ∷ xs) ≡ of_slot number (f ∷ ys)) → e ≡ f
first_same e f xs ys p q same =
    let one = (least_first e xs p).least f.key.slot f (of_slot f.key.slot ys) (same f.key.slot ∙ own_first f ys) in
    let two = (least_first f ys q).least e.key.slot e (of_slot e.key.slot xs) (sym (same e.key.slot) ∙ own_first e xs) in
    let slots : e.key.slot ≡ f.key.slot = same_slots e.key f.key one two in
    let whole : e ∷ of_slot e.key.slot xs ≡ f ∷ of_slot f.key.slot ys = sym (own_first e xs) ∙ (ap (λ (n : ℕ). of_slot n (e ∷ xs)) slots ∙ (same f.key.slot ∙ own_first f ys)) in
    cc

pub same_histories : AreSame
same_histories [] [] p q same = refl
same_histories [] (f ∷ ys) p q same = absurd (nil_no_cons f (of_slot f.key.slot ys) (same f.key.slot ∙ own_first f ys))
same_histories (e ∷ xs) [] p q same = absurd (nil_no_cons e (of_slot e.key.slot xs) (sym (same e.key.slot) ∙ own_first e xs))
same_histories (e ∷ xs) (f ∷ ys) p q same =
    let heads = first_same e f xs ys p q same in
    let tails : (number : ℕ) → of_slot number xs ≡ of_slot number ys = λ number. tail_same number e xs ys (same number ∙ ap (λ (x : KeyedEntry). of_slot number (x ∷ ys)) (sym heads)) in
    ap (λ (x : KeyedEntry). x ∷ xs) heads ∙ ap (λ (es : List KeyedEntry). f ∷ es) (same_histories xs ys (record { in_order = p.in_order.1 }) (record { in_order = q.in_order.1 }) tails)

unread_going : {V L : Type 0} (r : Rules V L) (limits : Limits) (number : ℕ) (a b : V) (slot : Slot L) (live : Live L) → r.at_start live.local ≡ false → turn_after_join r limits number a slot live ≡ turn_after_join r limits number b slot live
unread_going r limits number a b slot live e = going_else r limits number a slot live e ∙ sym (going_else r limits number b slot live e)

unread_by : {V L : Type 0} (r : Rules V L) (limits : Limits) (number : ℕ) (a b : V) (slot : Slot L) (live : Live L) (over full start : Bool) → r.at_start live.local ≡ start → (not over && (full && start)) ≡ false →
    (if over then (record { entries = []; slot = slot_after_end slot }) else (if full then turn_after_join r limits number a slot live else (record { entries = Halt ∷ []; slot = slot_after_end slot })))
    ≡ (if over then (record { entries = []; slot = slot_after_end slot }) else (if full then turn_after_join r limits number b slot live else (record { entries = Halt ∷ []; slot = slot_after_end slot })))
unread_by r limits number a b slot live true full start e h = refl
unread_by r limits number a b slot live false false start e h = refl
unread_by r limits number a b slot live false true true e h = cc
unread_by r limits number a b slot live false true false e h = unread_going r limits number a b slot live e

unread_live : {V L : Type 0} (r : Rules V L) (limits : Limits) (number : ℕ) (a b : V) (slot : Slot L) (o : Option (Live L)) → reads_while_live r limits slot.clock slot.words o ≡ false → turn_while_live r limits number a slot o ≡ turn_while_live r limits number b slot o
unread_live r limits number a b slot None h = refl
unread_live r limits number a b slot (Some live) h = unread_by r limits number a b slot live (nat_le limits.work slot.clock) (fits limits slot.words live.pending) (r.at_start live.local) refl h

pub unread : {V L : Type 0} (r : Rules V L) (limits : Limits) → AreUnread r limits
unread r limits = λ number a b slot h. unread_live r limits number a b slot slot.live h
