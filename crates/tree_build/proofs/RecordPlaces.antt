-- The record that a place names is the first of its name.
use Rattle.std.proofs.Common.{◌≡◌, ◌∙◌, ℕ, suc, ◌+◌, ◌<◌, ◌⊎◌, inl, inr, Bool, true, false, cond, nat_eq, List, [], ◌∷◌, ◌++◌, length, get_or, Option, Some, None, refl, sym, ap, subst, arith}
use Rattle.std.specs.BTreeMap.{BTreeMap, get}
use Rattle.std.specs.Ordering.{nat_cmp}
use Rattle.std.proofs.lemmas.Option.{none-some, same_Some}
use Rattle.ip_core.specs.declared.leaf.Record.{Record}
use Rattle.stamp_machine.specs.Slots.{at}
use Rattle.stamp_machine.proofs.Places.{at-get_or, at-length}
use Rattle.tree_build.specs.FirstRecords.{HasRecordPlaces, place_from, place_in}
use Rattle.tree_build.specs.ProofTrees.{all_records, first_record, leaf_named, leaf_or_empty}
use Rattle.tree_build.specs.declared.record_place.RecordPlace.{RecordPlace}

-- ---- the records of one slot

-- a place among the records of a slot, whose first index this is, has the item that was found
record IsInSlot (slot first : ℕ) (records : List Record) (found : Option Record)
    (place : RecordPlace) : Type 0 where
  here : place.slot ≡ slot
  offset : ℕ
  stands : place.index ≡ first + offset
  item : Record
  there : at records offset ≡ Some item
  is : found ≡ Some item

-- the slot has none, and later slots gave the place
record IsFromLater (found : Option Record) (later : Option RecordPlace) (place : RecordPlace)
    : Type 0 where
  none : found ≡ None
  is : later ≡ Some place

abbrev SlotCases : ℕ → ℕ → List Record → Option Record → Option RecordPlace → RecordPlace → Type 0
SlotCases slot first records found later place =
    IsInSlot slot first records found place ⊎ IsFromLater found later place

abbrev spot : ℕ → ℕ → RecordPlace
spot slot index = record { slot = slot; index = index }

no_offset : (n : ℕ) → n ≡ n + 0
no_offset n = omega arith

one_further : (n a k : ℕ) → a ≡ suc n + k → a ≡ n + suc k
one_further n a k is = omega (arith, is)

here_place : (slot first : ℕ) (r : Record) (rs : List Record) (place : RecordPlace)
    → spot slot first ≡ place → IsInSlot slot first (r ∷ rs) (Some r) place
here_place slot first r rs place same =
    subst (IsInSlot slot first (r ∷ rs) (Some r)) same
    (record {
      here = refl;
      offset = 0;
      stands = no_offset first;
      item = r;
      there = refl;
      is = refl;
    })

later_place : (slot first : ℕ) (r : Record) (rs : List Record) (found : Option Record)
    (later : Option RecordPlace) (place : RecordPlace)
    → SlotCases slot (suc first) rs found later place
    → SlotCases slot first (r ∷ rs) found later place
later_place slot first r rs found later place (inl inside) = inl (record {
  here = inside.here;
  offset = suc inside.offset;
  stands = one_further first place.index inside.offset inside.stands;
  item = inside.item;
  there = inside.there;
  is = inside.is;
})
later_place slot first r rs found later place (inr from) = inr from

slot_cases : (slot first : ℕ) (r : Record) (rs : List Record) (found : Option Record)
    (later rest : Option RecordPlace) (place : RecordPlace) (t : Bool)
    → cond t (Some (spot slot first)) rest ≡ Some place
    → (rest ≡ Some place → SlotCases slot (suc first) rs found later place)
    → SlotCases slot first (r ∷ rs) (cond t (Some r) found) later place
slot_cases slot first r rs found later rest place true is more =
    inl (here_place slot first r rs place (same_Some (spot slot first) place is))
slot_cases slot first r rs found later rest place false is more =
    later_place slot first r rs found later place (more is)

in_slot : (slot first : ℕ) (records : List Record) (name : ℕ) (later : Option RecordPlace)
    (place : RecordPlace) → place_in slot first records name later ≡ Some place
    → SlotCases slot first records (first_record records name) later place
in_slot slot first [] name later place is = inr (record { none = refl; is = is })
in_slot slot first (r ∷ rs) name later place is =
    slot_cases slot first r rs (first_record rs name) later
    (place_in slot (suc first) rs name later) place (nat_eq r.node name) is
    (in_slot slot (suc first) rs name later place)

none_cases : (slot first : ℕ) (r : Record) (found : Option Record)
    (later rest : Option RecordPlace) (t : Bool) → cond t (Some (spot slot first)) rest ≡ None
    → (rest ≡ None → (found ≡ None) × (later ≡ None))
    → (cond t (Some r) found ≡ None) × (later ≡ None)
none_cases slot first r found later rest true is more =
    absurd (none-some (spot slot first) (sym is))
none_cases slot first r found later rest false is more = more is

not_in_slot : (slot first : ℕ) (records : List Record) (name : ℕ) (later : Option RecordPlace)
    → place_in slot first records name later ≡ None
    → (first_record records name ≡ None) × (later ≡ None)
not_in_slot slot first [] name later is = (refl, is)
not_in_slot slot first (r ∷ rs) name later is =
    none_cases slot first r (first_record rs name) later (place_in slot (suc first) rs name later)
    (nat_eq r.node name) is (not_in_slot slot (suc first) rs name later)

-- ---- the records of all slots

first_or_cases : (name : ℕ) (r : Record) (found more item : Option Record) (t : Bool)
    → (item ≡ None → found ≡ more) → cond t (Some r) item ≡ None → cond t (Some r) found ≡ more
first_or_cases name r found more item true rest none = absurd (none-some r (sym none))
first_or_cases name r found more item false rest none = rest none

-- behind records of other names
pub first_behind : (xs ys : List Record) (name : ℕ) → first_record xs name ≡ None
    → first_record (xs ++ ys) name ≡ first_record ys name
first_behind [] ys name none = refl
first_behind (x ∷ xs) ys name none =
    first_or_cases name x (first_record (xs ++ ys) name) (first_record ys name)
    (first_record xs name) (nat_eq x.node name) (first_behind xs ys name) none

first_in_cases : (r item : Record) (found more : Option Record) (t : Bool)
    → (found ≡ Some item → more ≡ Some item) → cond t (Some r) found ≡ Some item
    → cond t (Some r) more ≡ Some item
first_in_cases r item found more true rest is = is
first_in_cases r item found more false rest is = rest is

pub first_in_front : (xs ys : List Record) (name : ℕ) (item : Record)
    → first_record xs name ≡ Some item → first_record (xs ++ ys) name ≡ Some item
first_in_front [] ys name item is = absurd (none-some item is)
first_in_front (x ∷ xs) ys name item is =
    first_in_cases x item (first_record xs name) (first_record (xs ++ ys) name)
    (nat_eq x.node name) (first_in_front xs ys name item) is

-- a place among the records of slots, from this slot on, has the first record of the name
record IsInSlots (slot : ℕ) (lists : List (List Record)) (name : ℕ) (place : RecordPlace) : Type 0
  where
    offset : ℕ
    stands : place.slot ≡ slot + offset
    records : List Record
    listed : at lists offset ≡ Some records
    item : Record
    there : at records place.index ≡ Some item
    first : first_record (all_records lists) name ≡ Some item

from_zero : (a k : ℕ) → a ≡ 0 + k → k ≡ a
from_zero a k is = omega (arith, is)

same_slot : (a s : ℕ) → a ≡ s → a ≡ s + 0
same_slot a s is = omega (arith, is)

slots_cases : (slot : ℕ) (records : List Record) (lists : List (List Record)) (name : ℕ)
    (place : RecordPlace)
    → SlotCases slot 0 records (first_record records name) (place_from (suc slot) lists name) place
    → (place_from (suc slot) lists name ≡ Some place → IsInSlots (suc slot) lists name place)
    → IsInSlots slot (records ∷ lists) name place
slots_cases slot records lists name place (inl inside) later = record {
  offset = 0;
  stands = same_slot place.slot slot inside.here;
  records = records;
  listed = refl;
  item = inside.item;
  there = subst (λ (k : ℕ). at records k ≡ Some inside.item)
      (from_zero place.index inside.offset inside.stands) inside.there;
  first = first_in_front records (all_records lists) name inside.item inside.is;
}
slots_cases slot records lists name place (inr from) later =
    let rest = later from.is in
    record {
      offset = suc rest.offset;
      stands = one_further slot place.slot rest.offset rest.stands;
      records = rest.records;
      listed = rest.listed;
      item = rest.item;
      there = rest.there;
      first = first_behind records (all_records lists) name from.none ∙ rest.first;
    }

in_slots : (slot : ℕ) (lists : List (List Record)) (name : ℕ) (place : RecordPlace)
    → place_from slot lists name ≡ Some place → IsInSlots slot lists name place
in_slots slot [] name place is = absurd (none-some place is)
in_slots slot (records ∷ lists) name place is =
    slots_cases slot records lists name place
    (in_slot slot 0 records name (place_from (suc slot) lists name) place is)
    (in_slots (suc slot) lists name place)

not_in_slots : (slot : ℕ) (lists : List (List Record)) (name : ℕ)
    → place_from slot lists name ≡ None → first_record (all_records lists) name ≡ None
not_in_slots slot [] name is = refl
not_in_slots slot (records ∷ lists) name is =
    let none = not_in_slot slot 0 records name (place_from (suc slot) lists name) is in
    first_behind records (all_records lists) name none.0
    ∙ not_in_slots (suc slot) lists name none.1

-- ---- what the map gives

-- the place exists, and the record there has the leaf of the name
pub record IsLeafPlace (lists : List (List Record)) (name : ℕ) (place : RecordPlace) : Type 0 where
  pub slot : place.slot < length lists
  pub index : (d : List Record) → place.index < length (get_or lists place.slot d)
  pub leaf : (d : List Record) (e : Record)
      → (get_or (get_or lists place.slot d) place.index e).leaf
      ≡ leaf_named (all_records lists) name

pub place_given : (lists : List (List Record)) (places : BTreeMap ℕ RecordPlace) (name : ℕ)
    (place : RecordPlace) → HasRecordPlaces 0 lists places
    → Some place ≡ get nat_cmp places name → IsLeafPlace lists name place
place_given lists places name place has is =
    let found = in_slots 0 lists name place (sym (has.each name) ∙ sym is) in
    let listed : at lists place.slot ≡ Some found.records =
    subst (λ (k : ℕ). at lists k ≡ Some found.records)
    (from_zero place.slot found.offset found.stands) found.listed in
    let same : (d : List Record) → found.records ≡ get_or lists place.slot d =
    λ d. sym (at-get_or d lists place.slot found.records listed) in
    record {
      slot = at-length lists place.slot found.records listed;
      index = λ d. subst (λ (rs : List Record). place.index < length rs) (same d)
          (at-length found.records place.index found.item found.there);
      leaf = λ d e. subst (λ (rs : List Record). (get_or rs place.index e).leaf
          ≡ leaf_named (all_records lists) name) (same d)
          (ap (λ (r : Record). r.leaf) (at-get_or e found.records place.index found.item found.there)
          ∙ sym (ap leaf_or_empty found.first));
    }

pub none_given : (lists : List (List Record)) (places : BTreeMap ℕ RecordPlace) (name : ℕ)
    → HasRecordPlaces 0 lists places → None ≡ get nat_cmp places name
    → first_record (all_records lists) name ≡ None
none_given lists places name has is = not_in_slots 0 lists name (sym (has.each name) ∙ sym is)
