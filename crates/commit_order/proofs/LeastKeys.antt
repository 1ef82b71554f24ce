-- The least of some keys.
use Rattle.std.proofs.Common.{◌≡◌, ℕ, ◌≤◌, ◌&&◌, ◌||◌, Bool, true, false, nat_eq, nat_lt, List, [], ◌∷◌, Option, Some, None, refl, ap, subst, arith}
use Rattle.std.specs.Prelude.{if◌then◌else◌}
use Rattle.std.proofs.lemmas.Bool.Decides.{nat_tests}
use Rattle.std.proofs.lemmas.List.Elements.{All-cons, All-nil, All-weaker}
use Rattle.work_stamp.specs.Keys.{is_below}
use Rattle.work_stamp.specs.declared.key.Key.{Key}
use Rattle.commit_order.specs.KeyHeaps.{HasNoneBelow}
use Rattle.commit_order.specs.Merges.{least_key, lesser_key}
use Rattle.commit_order.specs.Steps.{count}
use Rattle.commit_order.proofs.FirstKeys.{all_counted, counted_itself, counted_more}
use Rattle.commit_order.proofs.KeyOrder.{none_below_same, not_below_itself, not_below_trans}

-- a key stands among others, and none of them is below it
pub record IsLeastOf (keys : List Key) (key : Key) : Type 0 where
  pub among : 1 ≤ count key keys
  pub least : HasNoneBelow keys key

abbrev pub IsFound : List Key → Option Key → Type 0
IsFound keys None = keys ≡ []
IsFound keys (Some key) = IsLeastOf keys key

other_way : (a b c d : ℕ) → (nat_lt a c || (nat_eq a c && nat_lt b d)) ≡ true
    → (nat_lt c a || (nat_eq c a && nat_lt d b)) ≡ false
other_way a b c d first = grind (arith, nat_tests)

above_it : (other key : Key) → is_below other key ≡ true → is_below key other ≡ false
above_it other key below = other_way other.stamp other.slot key.stamp key.slot below

found_test : (key other : Key) (keys : List Key) (b : Bool) → is_below other key ≡ b
    → IsLeastOf keys other → IsFound (key ∷ keys) (if b then Some other else Some key)
found_test key other keys true is l = record {
  among = counted_more other key keys l.among;
  least = record {
    each = All-cons (λ (k : Key). is_below k other ≡ false) key keys (above_it other key is)
        l.least.each;
  };
}
found_test key other keys false is l = record {
  among = counted_itself key keys;
  least = record {
    each = All-cons (λ (k : Key). is_below k key ≡ false) key keys (not_below_itself key)
        (All-weaker (λ (k : Key). is_below k other ≡ false) (λ (k : Key). is_below k key ≡ false)
        (λ k h. not_below_trans k other key h is) keys l.least.each);
  };
}

alone : (key : Key) (keys : List Key) → keys ≡ [] → IsLeastOf (key ∷ keys) key
alone key [] is = record {
  among = counted_itself key [];
  least = record {
    each = All-cons (λ (k : Key). is_below k key ≡ false) key [] (not_below_itself key)
        (All-nil (λ (k : Key). is_below k key ≡ false));
  };
}
alone key (k ∷ ks) is = cc

found_more : (key : Key) (keys : List Key) (o : Option Key) → IsFound keys o
    → IsFound (key ∷ keys) (lesser_key key o)
found_more key keys None is = alone key keys is
found_more key keys (Some other) l = found_test key other keys (is_below other key) refl l

pub found : (keys : List Key) → IsFound keys (least_key keys)
found [] = refl
found (key ∷ keys) = found_more key keys (least_key keys) (found keys)

none_counted : (key : Key) (keys : List Key) → keys ≡ [] → 1 ≤ count key keys → ⊥
none_counted key [] is some = omega (arith, some)
none_counted key (k ∷ ks) is some = cc

same_found : (keys : List Key) (key : Key) (o : Option Key) → IsLeastOf keys key → IsFound keys o
    → o ≡ Some key
same_found keys key None l is = absurd (none_counted key keys is l.among)
same_found keys key (Some other) l m =
    ap Some (none_below_same other key
    (all_counted (λ (k : Key). is_below k key ≡ false) other keys l.least.each m.among)
    (all_counted (λ (k : Key). is_below k other ≡ false) key keys m.least.each l.among))

-- the least key is the one that none is below
pub least_key_is : (keys : List Key) (key : Key) → IsLeastOf keys key → least_key keys ≡ Some key
least_key_is keys key l = same_found keys key (least_key keys) l (found keys)

found_above : (keys : List Key) (key : Key) (o : Option Key) → HasNoneBelow keys key → IsFound keys o
    → (other : Key) → o ≡ Some other → is_below other key ≡ false
found_above keys key None none is other e = cc
found_above keys key (Some found) none l other e =
    let same : found ≡ other = cc in
    subst (λ (k : Key). is_below k key ≡ false) same
    (all_counted (λ (k : Key). is_below k key ≡ false) found keys none.each l.among)

-- where no key lies below a given one, the least doesn't
pub least_key_above : (keys : List Key) (key other : Key) → HasNoneBelow keys key
    → least_key keys ≡ Some other → is_below other key ≡ false
least_key_above keys key other none e = found_above keys key (least_key keys) none (found keys) other e
