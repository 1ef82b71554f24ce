-- The least entry that waits below a key is the next of the history.
use Rattle.std.proofs.Common.{ℕ, ◌≡◌, true, false, List, [], ◌∷◌, ◌++◌, refl, sym, ap, ◌∙◌, arith}
use Rattle.std.specs.Prelude.{filter}
use Rattle.std.proofs.lemmas.List.{append-nil}
use Rattle.std.proofs.lemmas.List.Elements.{filter-append}
use Rattle.stamp_machine.specs.Orders.{Each, IsLess, IsNotLess, IsSorted}
use Rattle.stamp_machine.specs.Runs.{below, of_slot}
use Rattle.stamp_machine.proofs.Merges.{least_first}
use Rattle.stamp_machine.proofs.Orders.{filter_all, filter_none}
use Rattle.work_stamp.specs.Keys.{is_below}
use Rattle.work_stamp.specs.declared.key.Key.{Key}
use Rattle.work_stamp.specs.declared.stamped.KeyedEntry.{KeyedEntry}

-- an entry that isn't below a key
abbrev pub IsPast : Key → KeyedEntry → Type 0
IsPast key e = is_below e.key key ≡ false

pub not_less_of : (a b : Key) → is_below a b ≡ false → IsNotLess a b
not_less_of a b e = record { stamps = grind arith; slots = λ h. grind arith }

pub less_of : (a b : Key) → is_below a b ≡ true → IsLess a b
less_of a b e = record { stamps = grind arith; slots = λ h. grind arith }

-- What is left of a history in order, slot by slot: what waits, and what hasn't come, which isn't below
-- the key.
pub record HasWaiting (key : Key) (left : List KeyedEntry) (wait more : ℕ → List KeyedEntry) :
    Type 0 where
  pub sorted : IsSorted left
  pub parts : (slot : ℕ) → of_slot slot left ≡ wait slot ++ more slot
  pub later : (slot : ℕ) → Each (IsPast key) (more slot)

cons_injective : (x y : KeyedEntry) (xs ys : List KeyedEntry) → x ∷ xs ≡ y ∷ ys → x ≡ y
cons_injective x y xs ys e = cc

-- the first of what is left is below the key only where it waits
first_waits : (key : Key) (f : KeyedEntry) (fs rest wait more : List KeyedEntry) →
    f ∷ rest ≡ wait ++ more → Each (IsPast key) more → is_below f.key key ≡ true →
    (ws : List KeyedEntry) × (wait ≡ f ∷ ws)
first_waits key f fs rest [] [] e later b = absurd cc
first_waits key f fs rest [] (m ∷ more) e later b =
    let same : f ≡ m = cons_injective f m rest more e in
    let past : is_below f.key key ≡ false = ap (λ (x : KeyedEntry). is_below x.key key) same ∙ later.0 in
    absurd cc
first_waits key f fs rest (w ∷ ws) more e later b =
    let same : f ≡ w = cons_injective f w rest (ws ++ more) e in
    (ws, ap (λ (x : KeyedEntry). x ∷ ws) (sym same))

below_of_not_less : (a b k : Key) → IsNotLess a b → is_below a k ≡ true → is_below b k ≡ true
below_of_not_less a b k h e = let s = h.stamps in let t = h.slots in grind arith

same_key_slots : (a b : Key) → IsNotLess a b → IsNotLess b a → a.slot ≡ b.slot
same_key_slots a b p q = let ab = p.slots in let ba = q.slots in omega (arith, p.stamps, q.stamps, ab, ba)

-- the least entry that waits below the key is the next of the history
pub next_is_least : (key : Key) (left : List KeyedEntry) (wait more : ℕ → List KeyedEntry)
    (e : KeyedEntry) (later : List KeyedEntry) → HasWaiting key left wait more →
    wait e.key.slot ≡ e ∷ later → is_below e.key key ≡ true →
    ((slot : ℕ) (f : KeyedEntry) (fs : List KeyedEntry) → wait slot ≡ f ∷ fs →
    is_below f.key e.key ≡ false) →
    (rest : List KeyedEntry) × (left ≡ e ∷ rest)
next_is_least key [] wait more e later h first b least =
    let none : [] ≡ wait e.key.slot ++ more e.key.slot = h.parts e.key.slot in
    let some : [] ≡ e ∷ (later ++ more e.key.slot) = none ∙ ap (λ (l : List KeyedEntry). l ++ more e.key.slot) first in
    absurd cc
next_is_least key (f ∷ rest) wait more e later h first b least =
    let lf = least_first f rest h.sorted in
    let whole : of_slot e.key.slot (f ∷ rest) ≡ e ∷ (later ++ more e.key.slot) =
    h.parts e.key.slot ∙ ap (λ (l : List KeyedEntry). l ++ more e.key.slot) first in
    let e_after : IsNotLess e.key f.key = lf.least e.key.slot e (later ++ more e.key.slot) whole in
    let f_below : is_below f.key key ≡ true = below_of_not_less e.key f.key key e_after b in
    let w = first_waits key f rest (of_slot f.key.slot rest) (wait f.key.slot) (more f.key.slot)
    (sym lf.own ∙ h.parts f.key.slot) (h.later f.key.slot) f_below in
    let f_after : IsNotLess f.key e.key = not_less_of f.key e.key (least f.key.slot f w.0 w.1) in
    let slots : f.key.slot ≡ e.key.slot = same_key_slots f.key e.key f_after e_after in
    let heads : f ∷ w.0 ≡ e ∷ later = sym w.1 ∙ (ap wait slots ∙ first) in
    let same : f ≡ e = cons_injective f e w.0 later heads in
    (rest, ap (λ (x : KeyedEntry). x ∷ rest) same)

-- where nothing waits below the key, nothing is left below it
none_below_head : (key : Key) (f : KeyedEntry) (fs rest wait more : List KeyedEntry) →
    f ∷ rest ≡ wait ++ more → Each (IsPast key) more → ((w : KeyedEntry) (ws : List KeyedEntry) →
    wait ≡ w ∷ ws → is_below w.key key ≡ false) → is_below f.key key ≡ false
none_below_head key f fs rest [] [] e later none = absurd cc
none_below_head key f fs rest [] (m ∷ more) e later none =
    let same : f ≡ m = cons_injective f m rest more e in
    ap (λ (x : KeyedEntry). is_below x.key key) same ∙ later.0
none_below_head key f fs rest (w ∷ ws) more e later none =
    let same : f ≡ w = cons_injective f w rest (ws ++ more) e in
    ap (λ (x : KeyedEntry). is_below x.key key) same ∙ none w ws refl

past_of_not_less : (a b k : Key) → IsNotLess a b → is_below b k ≡ false → is_below a k ≡ false
past_of_not_less a b k h e = let s = h.stamps in let t = h.slots in grind arith

all_past : (key : Key) (f : KeyedEntry) (es : List KeyedEntry) → is_below f.key key ≡ false →
    Each (λ later. IsNotLess later.key f.key) es → Each (IsPast key) es
all_past key f [] e h = tt
all_past key f (x ∷ xs) e h = (past_of_not_less x.key f.key key h.0 e, all_past key f xs e h.1)

pub none_left_below : (key : Key) (left : List KeyedEntry) (wait more : ℕ → List KeyedEntry) →
    HasWaiting key left wait more →
    ((slot : ℕ) (w : KeyedEntry) (ws : List KeyedEntry) → wait slot ≡ w ∷ ws →
    is_below w.key key ≡ false) → Each (IsPast key) left
none_left_below key [] wait more h none = tt
none_left_below key (f ∷ rest) wait more h none =
    let lf = least_first f rest h.sorted in
    let head : is_below f.key key ≡ false = none_below_head key f rest (of_slot f.key.slot rest)
    (wait f.key.slot) (more f.key.slot) (sym lf.own ∙ h.parts f.key.slot) (h.later f.key.slot)
    (λ w ws is. none f.key.slot w ws is) in
    (head, all_past key f rest head h.sorted.in_order.0)

-- and what was absorbed is what lies below it
pub done_is_below : (key : Key) (history done left : List KeyedEntry) → history ≡ done ++ left →
    Each (λ e. is_below e.key key ≡ true) done → Each (IsPast key) left →
    done ≡ below key history
done_is_below key history done left whole all none =
    sym (ap (below key) whole
    ∙ (filter-append (λ (e : KeyedEntry). is_below e.key key) done left
    ∙ (ap (λ (l : List KeyedEntry). l ++ filter (λ (e : KeyedEntry). is_below e.key key) left) (filter_all (λ (e : KeyedEntry). is_below e.key key) done all)
    ∙ (ap (λ (l : List KeyedEntry). done ++ l) (filter_none (λ (e : KeyedEntry). is_below e.key key) left none)
    ∙ append-nil done))))
