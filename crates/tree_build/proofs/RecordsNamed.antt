-- The first record of a name is one of a slot's.
use Rattle.std.proofs.Common.{◌≡◌, ◌∙◌, ℕ, zero, suc, Bool, true, false, cond, nat_eq, List, [], ◌∷◌, ◌++◌, get_or, Option, Some, None, refl, sym, ap}
use Rattle.std.proofs.lemmas.Bool.{true≢false}
use Rattle.std.proofs.lemmas.Option.{none-some, same_Some}
use Rattle.ip_core.specs.declared.leaf.Record.{Record}
use Rattle.stamp_machine.specs.Slots.{at}
use Rattle.task_steps.specs.Lemmas.NameCounts.{eq_from_test, test_itself}
use Rattle.tree_build.specs.ProofTrees.{all_records, first_record}
use Rattle.tree_build.proofs.RecordPlaces.{first_behind, first_in_front}

-- ---- among the records of one slot

-- a record of the name stands among them
record IsAmong (records : List Record) (name : ℕ) (item : Record) : Type 0 where
  place : ℕ
  there : at records place ≡ Some item
  named : item.node ≡ name

among_later : (r : Record) (rs : List Record) (name : ℕ) (item : Record) → IsAmong rs name item
    → IsAmong (r ∷ rs) name item
among_later r rs name item among =
    record { place = suc among.place; there = among.there; named = among.named }

among_cases : (r : Record) (rs : List Record) (name : ℕ) (item : Record) (found : Option Record)
    (t : Bool) → nat_eq r.node name ≡ t → cond t (Some r) found ≡ Some item
    → (found ≡ Some item → IsAmong rs name item) → IsAmong (r ∷ rs) name item
among_cases r rs name item found true is first later =
    let same = same_Some r item first in
    record {
      place = 0;
      there = first;
      named = ap (λ (x : Record). x.node) (sym same) ∙ eq_from_test r.node name is;
    }
among_cases r rs name item found false is first later =
    among_later r rs name item (later first)

first_among : (records : List Record) (name : ℕ) (item : Record)
    → first_record records name ≡ Some item → IsAmong records name item
first_among [] name item first = absurd (none-some item first)
first_among (r ∷ rs) name item first =
    among_cases r rs name item (first_record rs name) (nat_eq r.node name) refl first
    (first_among rs name item)

-- ---- among the records of all slots

-- a record of the name stands among those of a slot
pub record IsAmongSlots (lists : List (List Record)) (name : ℕ) (item : Record) : Type 0 where
  pub slot : ℕ
  pub place : ℕ
  pub there : at (get_or lists slot []) place ≡ Some item
  pub named : item.node ≡ name

slots_later : (records : List Record) (lists : List (List Record)) (name : ℕ) (item : Record)
    → IsAmongSlots lists name item → IsAmongSlots (records ∷ lists) name item
slots_later records lists name item among = record {
  slot = suc among.slot;
  place = among.place;
  there = among.there;
  named = among.named;
}

slots_cases : (records : List Record) (lists : List (List Record)) (name : ℕ) (item : Record)
    (o : Option Record) → first_record records name ≡ o
    → first_record (records ++ all_records lists) name ≡ Some item
    → (first_record (all_records lists) name ≡ Some item → IsAmongSlots lists name item)
    → IsAmongSlots (records ∷ lists) name item
slots_cases records lists name item None none first later =
    slots_later records lists name item
    (later (sym (first_behind records (all_records lists) name none) ∙ first))
slots_cases records lists name item (Some r) here first later =
    let same : r ≡ item =
    same_Some r item (sym (first_in_front records (all_records lists) name r here) ∙ first) in
    let among = first_among records name item (here ∙ ap Some same) in
    record { slot = 0; place = among.place; there = among.there; named = among.named }

-- the first record of a name
pub first_among_slots : (lists : List (List Record)) (name : ℕ) (item : Record)
    → first_record (all_records lists) name ≡ Some item → IsAmongSlots lists name item
first_among_slots [] name item first = absurd (none-some item first)
first_among_slots (records ∷ lists) name item first =
    slots_cases records lists name item (first_record records name) refl first
    (first_among_slots lists name item)

-- ---- a name that some record has

-- there is a first record of the name
pub record HasFirst (found : Option Record) : Type 0 where
  pub item : Record
  pub is : found ≡ Some item

has_first_cases : (r : Record) (found : Option Record) (t : Bool) → HasFirst found
    → HasFirst (cond t (Some r) found)
has_first_cases r found true later = record { item = r; is = refl }
has_first_cases r found false later = later

has_first_here : (r : Record) (found : Option Record) (t : Bool) → t ≡ true
    → HasFirst (cond t (Some r) found)
has_first_here r found true is = record { item = r; is = refl }
has_first_here r found false is = absurd (true≢false (sym is))

has_first : (records : List Record) (name place : ℕ) (item : Record)
    → at records place ≡ Some item → item.node ≡ name → HasFirst (first_record records name)
has_first [] name place item there named = absurd (none-some item there)
has_first (r ∷ rs) name zero item there named =
    has_first_here r (first_record rs name) (nat_eq r.node name)
    (ap (λ (n : ℕ). nat_eq n name) (ap (λ (x : Record). x.node) (same_Some r item there) ∙ named)
    ∙ test_itself name)
has_first (r ∷ rs) name (suc place) item there named =
    has_first_cases r (first_record rs name) (nat_eq r.node name)
    (has_first rs name place item there named)

in_front_cases : (xs ys : List Record) (name : ℕ) → HasFirst (first_record xs name)
    → HasFirst (first_record (xs ++ ys) name)
in_front_cases xs ys name first =
    record { item = first.item; is = first_in_front xs ys name first.item first.is }

behind_cases : (xs ys : List Record) (name : ℕ) (o : Option Record) → first_record xs name ≡ o
    → HasFirst (first_record ys name) → HasFirst (first_record (xs ++ ys) name)
behind_cases xs ys name None none first =
    record { item = first.item; is = first_behind xs ys name none ∙ first.is }
behind_cases xs ys name (Some r) here first =
    record { item = r; is = first_in_front xs ys name r here }

-- where a slot has a record of the name
pub has_first_of : (lists : List (List Record)) (name slot place : ℕ) (item : Record)
    → at (get_or lists slot []) place ≡ Some item → item.node ≡ name
    → HasFirst (first_record (all_records lists) name)
has_first_of [] name slot place item there named = absurd (none-some item there)
has_first_of (records ∷ lists) name zero place item there named =
    in_front_cases records (all_records lists) name (has_first records name place item there named)
has_first_of (records ∷ lists) name (suc slot) place item there named =
    behind_cases records (all_records lists) name (first_record records name) refl
    (has_first_of lists name slot place item there named)
