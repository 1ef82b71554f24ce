-- The entry of the least key, by the definitions alone.
use Rattle.std.proofs.Common.{◌≡◌, ℕ, ◌<◌, Bool, true, false, List, ◌∷◌, length, slice_get, Option, Some, None, refl, sym, ap, ◌∙◌, subst, arith}
use Rattle.std.specs.Prelude.{if◌then◌else◌, map}
use Rattle.std.proofs.lemmas.List.Elements.{All-nil, All-weaker}
use Rattle.work_stamp.specs.Keys.{is_below}
use Rattle.work_stamp.specs.declared.entry.Entry.{Entry}
use Rattle.work_stamp.specs.declared.key.Key.{Key}
use Rattle.work_stamp.specs.declared.stamped.KeyedEntry.{KeyedEntry}
use Rattle.work_stamp.specs.declared.stamped.Stamped.{Stamped}
use Rattle.commit_order.specs.KeyHeaps.{HasNoneBelow}
use Rattle.commit_order.specs.Merges.{IsLeast, IsLeastBelow, first_below, first_keys, first_of, least_below, least_key, slot_entry}
use Rattle.commit_order.specs.Queues.{AreInOrder, Queue, queue_of}
use Rattle.commit_order.proofs.FirstKeys.{IsFirst, all_counted, all_first}
use Rattle.commit_order.proofs.KeyOrder.{not_below_trans}
use Rattle.commit_order.proofs.LeastKeys.{IsFound, IsLeastOf, found, least_key_is}
use Rattle.commit_order.proofs.Orders.{none_waits_below}

-- the key that was taken out is that of the first entry of its slot
pub record IsOwn (queues : List Queue) (key : Key) : Type 0 where
  pub within : key.slot < length queues
  pub item : Stamped
  pub items : List Stamped
  pub entries : (queue_of queues key.slot).entries ≡ item ∷ items
  pub stamp : item.stamp ≡ key.stamp

own_at : (queues : List Queue) (key : Key) → IsFirst 0 queues key → IsOwn queues key
own_at queues key f =
    let slot = f.slot in
    let here : f.place ≡ key.slot = omega (arith, slot) in
    record {
      within = subst (λ (n : ℕ). n < length queues) here f.within;
      item = f.item;
      items = f.items;
      entries = subst (λ (n : ℕ). (queue_of queues n).entries ≡ f.item ∷ f.items) here f.entries;
      stamp = f.stamp;
    }

pub own_of : (queues : List Queue) (first : Key) → IsLeastOf (first_keys 0 queues) first
    → IsOwn queues first
own_of queues first l =
    own_at queues first (all_counted (IsFirst 0 queues) first (first_keys 0 queues)
    (all_first 0 queues) l.among)

-- what is taken

keyed_same : (a b slot : ℕ) (e f : Entry) → a ≡ b → e ≡ f
    → ◌≡◌ {A = KeyedEntry} (record { key = record { stamp = a; slot = slot }; entry = e })
    (record { key = record { stamp = b; slot = slot }; entry = f })
keyed_same a b slot e f stamps entries = cc

keyed_is : (key : Key) (item taken : Stamped) (items entries : List Stamped) → entries ≡ item ∷ items
    → slice_get entries 0 ≡ Some taken → item.stamp ≡ key.stamp
    → slot_entry key.slot item ≡ record { key = key; entry = taken.entry }
keyed_is key item taken items entries e first stamp =
    let first_item : Some item ≡ Some taken = sym (ap (λ (es : List Stamped). slice_get es 0) e) ∙ first in
    let same : item ≡ taken = cc in
    keyed_same item.stamp key.stamp key.slot item.entry taken.entry stamp
    (ap (λ (x : Stamped). x.entry) same)

abbrev pub taken_entry : Key → Stamped → KeyedEntry
taken_entry first taken = record { key = first; entry = taken.entry }

own_keyed : (queues : List Queue) (first : Key) (taken : Stamped) (own : IsOwn queues first)
    → slice_get (queue_of queues first.slot).entries 0 ≡ Some taken
    → slot_entry first.slot own.item ≡ taken_entry first taken
own_keyed queues first taken own is =
    keyed_is first own.item taken own.items (queue_of queues first.slot).entries own.entries is
    own.stamp

below_first : (queues : List Queue) (key first : Key) → is_below first key ≡ true
    → first_below queues key (Some first) ≡ first_of first.slot (queue_of queues first.slot).entries
below_first queues key first below =
    ap (λ (b : Bool). if b then first_of first.slot (queue_of queues first.slot).entries else None) below

-- the least first key is that of the least entry
pub least_is : (queues : List Queue) (key first : Key) (taken : Stamped)
    → IsLeastOf (first_keys 0 queues) first → is_below first key ≡ true
    → slice_get (queue_of queues first.slot).entries 0 ≡ Some taken
    → least_below queues key ≡ Some (taken_entry first taken)
least_is queues key first taken l below is =
    let own = own_of queues first l in
    ap (first_below queues key) (least_key_is (first_keys 0 queues) first l)
    ∙ below_first queues key first below
    ∙ ap (first_of first.slot) own.entries
    ∙ ap Some (own_keyed queues first taken own is)

pub least_entry : (queues : List Queue) (key first : Key) (taken : Stamped) → AreInOrder queues
    → IsLeastOf (first_keys 0 queues) first → is_below first key ≡ true
    → slice_get (queue_of queues first.slot).entries 0 ≡ Some taken
    → IsLeast queues key (taken_entry first taken)
least_entry queues key first taken o l below is =
    let own = own_of queues first l in
    let later = map (slot_entry first.slot) own.items in
    record {
      later = later;
      first = ap (λ (es : List Stamped). map (slot_entry first.slot) es) own.entries
          ∙ ap (λ (e : KeyedEntry). e ∷ later) (own_keyed queues first taken own is);
      within = own.within;
      below = below;
      least = none_waits_below queues first o l.least;
    }

pub above_first : (queues : List Queue) (key : Key) (o : Option Key)
    → ((other : Key) → o ≡ Some other → is_below other key ≡ false) → first_below queues key o ≡ None
above_first queues key None above = refl
above_first queues key (Some first) above =
    ap (λ (b : Bool). if b then first_of first.slot (queue_of queues first.slot).entries else None)
    (above first refl)

-- what is defined as the least is the least

own_slice : (queues : List Queue) (first : Key) (own : IsOwn queues first)
    → slice_get (queue_of queues first.slot).entries 0 ≡ Some own.item
own_slice queues first own = ap (λ (es : List Stamped). slice_get es 0) own.entries

law_test : (queues : List Queue) (key first : Key) (b : Bool) → is_below first key ≡ b
    → AreInOrder queues → IsLeastOf (first_keys 0 queues) first
    → IsLeastBelow queues key (first_below queues key (Some first))
law_test queues key first true is o l =
    let own = own_of queues first l in
    let first_is = below_first queues key first is ∙ ap (first_of first.slot) own.entries
    ∙ ap Some (own_keyed queues first own.item own (own_slice queues first own)) in
    subst (IsLeastBelow queues key) (sym first_is)
    (least_entry queues key first own.item o l is (own_slice queues first own))
law_test queues key first false is o l =
    subst (IsLeastBelow queues key)
    (sym (ap (λ (b : Bool). if b then first_of first.slot (queue_of queues first.slot).entries
    else None) is))
    (none_waits_below queues key o (record {
      each = All-weaker (λ (k : Key). is_below k first ≡ false) (λ (k : Key). is_below k key ≡ false)
          (λ k h. not_below_trans k first key h is) (first_keys 0 queues) l.least.each;
    }))

law_by : (queues : List Queue) (key : Key) (o : Option Key) → AreInOrder queues
    → IsFound (first_keys 0 queues) o → IsLeastBelow queues key (first_below queues key o)
law_by queues key None o f =
    none_waits_below queues key o (subst (λ (ks : List Key). HasNoneBelow ks key) (sym f)
    (record { each = All-nil (λ (k : Key). is_below k key ≡ false) }))
law_by queues key (Some first) o l = law_test queues key first (is_below first key) refl o l

pub least_law : (queues : List Queue) (key : Key) → AreInOrder queues
    → IsLeastBelow queues key (least_below queues key)
least_law queues key o =
    law_by queues key (least_key (first_keys 0 queues)) o (found (first_keys 0 queues))
