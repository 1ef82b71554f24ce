-- Items found so far, before those that are still to be found.
use Rattle.std.proofs.Common.{◌≡◌, ℕ, suc, ◌+◌, List, [], ◌∷◌, ◌++◌, Option, Some, None, refl, arith, ap, append_assoc}
use Rattle.std.proofs.lemmas.List.{append-nil}
use Rattle.cert_line.specs.Items.{Items, no_items, with_value, with_item, with_last}

-- values before others, where all are good
abbrev pub values_before : {A : Type 0} → Option (List A) → Option (List A) → Option (List A)
values_before None more = None
values_before (Some values) None = None
values_before (Some values) (Some more) = Some (values ++ more)

-- items with those so far before them
abbrev pub after_some : {A : Type 0} → Option (List A) → ℕ → Items A → Items A
after_some values count items = record {
  values = values_before values items.values;
  count = count + items.count;
  rest = items.rest;
}

values_more : {A : Type 0} (values : Option (List A)) (value : Option A) (more : Option (List A)) → values_before (with_last values value) more ≡ values_before values (with_value value more)
values_more None value more = refl
values_more (Some values) None more = refl
values_more (Some values) (Some value) None = refl
values_more (Some values) (Some value) (Some more) = ap Some (append_assoc values (value ∷ []) more)

-- one item more that is found
pub one_more : {A : Type 0} (values : Option (List A)) (count : ℕ) (value : Option A) (items : Items A) → after_some (with_last values value) (count + 1) items ≡ after_some values count (with_item value items)
one_more values count value items =
    let counted : count + 1 + items.count ≡ count + suc items.count = omega arith in
    rw (values_more values value items.values, counted) refl

values_end : {A : Type 0} (values : Option (List A)) → values_before values (Some []) ≡ values
values_end None = refl
values_end (Some values) = ap Some (append-nil values)

-- no item more
pub no_more : {A : Type 0} (values : Option (List A)) (count : ℕ) (words : List (List ℕ)) → after_some values count (no_items words) ≡ record { values = values; count = count; rest = words }
no_more values count words =
    let counted : count + 0 ≡ count = omega arith in
    rw (values_end values, counted) refl

values_start : {A : Type 0} (values : Option (List A)) → values_before (Some []) values ≡ values
values_start None = refl
values_start (Some values) = refl

-- none so far
pub none_yet : {A : Type 0} (items : Items A) → after_some (Some []) 0 items ≡ items
none_yet items =
    let counted : 0 + items.count ≡ items.count = omega arith in
    rw (values_start items.values, counted) refl
