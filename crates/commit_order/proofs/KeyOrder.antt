-- The order of keys, by tests on their stamps and slots.
use Rattle.std.proofs.Common.{◌≡◌, ℕ, ◌≤◌, Bool, true, false, cond, ◌&&◌, ◌||◌, ◌==◌, nat_eq, nat_lt, refl, arith}
use Rattle.std.proofs.lemmas.Bool.Decides.{nat_tests}
use Rattle.std.specs.Ordering.{is_lt, nat_cmp, ordering_then}
use Rattle.std.specs.declared.cmp.Ordering.TheVariants.{Less, Equal, Greater}
use Rattle.work_stamp.specs.Keys.{is_below}
use Rattle.work_stamp.specs.declared.key.Key.{Key}

-- p, e: the first numbers are less, the same; q, f: the second ones
less_cases : (p e q f : Bool) → is_lt (ordering_then (cond p Less (cond e Equal Greater))
    (cond q Less (cond f Equal Greater))) ≡ (p || (e && q))
less_cases true e q f = refl
less_cases false true true f = refl
less_cases false true false true = refl
less_cases false true false false = refl
less_cases false false q f = refl

pub less_is_below : (a b : Key)
    → is_lt (ordering_then (nat_cmp a.stamp b.stamp) (nat_cmp a.slot b.slot)) ≡ is_below a b
less_is_below a b =
    less_cases (nat_lt a.stamp b.stamp) (a.stamp == b.stamp) (nat_lt a.slot b.slot)
    (a.slot == b.slot)

trans_by : (a b c d e f : ℕ) → (nat_lt a c || (nat_eq a c && nat_lt b d)) ≡ false
    → (nat_lt c e || (nat_eq c e && nat_lt d f)) ≡ false
    → (nat_lt a e || (nat_eq a e && nat_lt b f)) ≡ false
trans_by a b c d e f first second = grind (arith, nat_tests)

-- what isn't below a key isn't below a lesser or equal one
pub not_below_trans : (a b c : Key) → is_below a b ≡ false → is_below b c ≡ false
    → is_below a c ≡ false
not_below_trans a b c first second =
    trans_by a.stamp a.slot b.stamp b.slot c.stamp c.slot first second

later_by : (a b s c d : ℕ) → a ≤ b → (nat_lt a c || (nat_eq a c && nat_lt s d)) ≡ false
    → (nat_lt b c || (nat_eq b c && nat_lt s d)) ≡ false
later_by a b s c d less first = grind (arith, nat_tests)

-- a key of the same slot and a stamp at least as great isn't below either
pub not_below_later : (a b slot : ℕ) (k : Key) → a ≤ b
    → is_below (record { stamp = a; slot = slot }) k ≡ false
    → is_below (record { stamp = b; slot = slot }) k ≡ false
not_below_later a b slot k less first = later_by a b slot k.stamp k.slot less first

same_stamp : (a b c d : ℕ) → (nat_lt a c || (nat_eq a c && nat_lt b d)) ≡ false
    → (nat_lt c a || (nat_eq c a && nat_lt d b)) ≡ false → a ≡ c
same_stamp a b c d first second = grind (arith, nat_tests)

same_slot : (a b c d : ℕ) → (nat_lt a c || (nat_eq a c && nat_lt b d)) ≡ false
    → (nat_lt c a || (nat_eq c a && nat_lt d b)) ≡ false → b ≡ d
same_slot a b c d first second = grind (arith, nat_tests)

pub same_key : (a b c d : ℕ) → a ≡ c → b ≡ d
    → ◌≡◌ {A = Key} (record { stamp = a; slot = b }) (record { stamp = c; slot = d })
same_key a b c d first second = cc

-- two keys of which none is below the other are the same
pub none_below_same : (a b : Key) → is_below a b ≡ false → is_below b a ≡ false → a ≡ b
none_below_same a b first second =
    same_key a.stamp a.slot b.stamp b.slot
    (same_stamp a.stamp a.slot b.stamp b.slot first second)
    (same_slot a.stamp a.slot b.stamp b.slot first second)

not_less_by : (a b : ℕ) → (nat_lt a a || (nat_eq a a && nat_lt b b)) ≡ false
not_less_by a b = grind (arith, nat_tests)

-- no key is below itself
pub not_below_itself : (a : Key) → is_below a a ≡ false
not_below_itself a = not_less_by a.stamp a.slot
