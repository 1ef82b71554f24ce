use Rattle.std.proofs.Common.{◌≡◌, ◌∙◌, ℕ, zero, suc, ◌+◌, ◌*◌, ◌≤◌, ◌⊎◌, inl, inr, Bool, true, false, ℤ, pos, negsuc, neg_ℤ, ◌+ℤ◌, ◌-ℤ◌, ◌*ℤ◌, ◌≤ℤ◌, unsigned_abs, refl, sym, ap, arith}
use Rattle.std.specs.Int.{int_min, int_max}
use Rattle.std.proofs.lemmas.Int.{ints, clamps, by_lt_z}
use Rattle.std.proofs.Math.IntN.{*ℤ_comm}
use Rattle.ip_core.proofs.IntProducts.{mul_add, sub_mul}
use Rattle.ip_core.proofs.Products.{mul_pos-le, mul_negsuc-le}
use Rattle.dual_ascent.specs.Ends.{least_end, turns, turned_size, end_fall}

ordered : (a b : ℤ) → (a ≤ℤ b) ⊎ (b ≤ℤ a)
ordered a b = by_lt_z a b (λ below. inl (omega (arith, ints))) (λ le. inr le)

first_least : (x y z : ℤ) → x ≤ℤ y → z ≡ x → int_min x y ≡ z
first_least x y z le same = omega (arith, ints, clamps)

second_least : (x y z : ℤ) → y ≤ℤ x → z ≡ y → int_min x y ≡ z
second_least x y z le same = omega (arith, ints, clamps)

min_first : (a b : ℤ) → a ≤ℤ b → int_min a b ≡ a
min_first a b le = omega (arith, ints, clamps)

min_second : (a b : ℤ) → b ≤ℤ a → int_min a b ≡ b
min_second a b le = omega (arith, ints, clamps)

max_first : (a b : ℤ) → b ≤ℤ a → int_max a b ≡ a
max_first a b le = omega (arith, ints, clamps)

max_second : (a b : ℤ) → a ≤ℤ b → int_max a b ≡ b
max_second a b le = omega (arith, ints, clamps)

share_cases : (low high c : ℤ) → (low ≤ℤ high) ⊎ (high ≤ℤ low) → int_min (c *ℤ low) (c *ℤ high) ≡ c *ℤ least_end low high c
share_cases low high (pos c) (inl le) = first_least (pos c *ℤ low) (pos c *ℤ high) (pos c *ℤ int_min low high) (mul_pos-le c low high le) (ap (λ z. pos c *ℤ z) (min_first low high le))
share_cases low high (pos c) (inr le) = second_least (pos c *ℤ low) (pos c *ℤ high) (pos c *ℤ int_min low high) (mul_pos-le c high low le) (ap (λ z. pos c *ℤ z) (min_second low high le))
share_cases low high (negsuc c) (inl le) = second_least (negsuc c *ℤ low) (negsuc c *ℤ high) (negsuc c *ℤ int_max low high) (mul_negsuc-le c low high le) (ap (λ z. negsuc c *ℤ z) (max_second low high le))
share_cases low high (negsuc c) (inr le) = first_least (negsuc c *ℤ low) (negsuc c *ℤ high) (negsuc c *ℤ int_max low high) (mul_negsuc-le c high low le) (ap (λ z. negsuc c *ℤ z) (max_first low high le))

-- a share is the cost times the end at which it costs least
pub share_at_end : (low high c : ℤ) → int_min (c *ℤ low) (c *ℤ high) ≡ c *ℤ least_end low high c
share_at_end low high c = share_cases low high c (ordered low high)

-- the greater of two ends is as far from the lesser as the ends are apart
ends_apart : (low high : ℤ) → int_max low high ≡ int_min low high +ℤ pos (unsigned_abs (high -ℤ low))
ends_apart low high = omega (arith, ints, clamps)

-- how far the end falls as its cost changes
pub end_fall_is : (low high old new : ℤ) → least_end low high old -ℤ least_end low high new ≡ end_fall old new (unsigned_abs (high -ℤ low))
end_fall_is low high (pos old) (pos new) = omega (arith, ints)
end_fall_is low high (pos old) (negsuc new) = omega (arith, ints, ends_apart low high)
end_fall_is low high (negsuc old) (pos new) = omega (arith, ints, ends_apart low high)
end_fall_is low high (negsuc old) (negsuc new) = omega (arith, ints)

raised_product : (c a z : ℤ) (w : ℕ) → z ≡ a +ℤ pos w → c *ℤ z ≡ (c *ℤ a) +ℤ (c *ℤ pos w)
raised_product c a z w same = rw same (mul_add c a (pos w))

stayed : (old new e : ℤ) (w : ℕ) → new *ℤ e ≡ ((old *ℤ e) +ℤ ((new -ℤ old) *ℤ e)) -ℤ pos (0 * w)
stayed old new e w =
    let none : 0 * w ≡ 0 = omega arith in
    rw none (omega (arith, ints, sub_mul new old e))

fallen : (old new a b : ℤ) (n w : ℕ) → b ≡ a +ℤ pos w → new *ℤ pos w ≡ neg_ℤ (pos (n * w)) → new *ℤ b ≡ ((old *ℤ a) +ℤ ((new -ℤ old) *ℤ a)) -ℤ pos (n * w)
fallen old new a b n w same part = omega (arith, ints, sub_mul new old a, raised_product new a b w same)

risen : (old new a b : ℤ) (n w : ℕ) → b ≡ a +ℤ pos w → new *ℤ pos w ≡ pos (n * w) → new *ℤ a ≡ ((old *ℤ b) +ℤ ((new -ℤ old) *ℤ b)) -ℤ pos (n * w)
risen old new a b n w same part = omega (arith, ints, sub_mul new old b, raised_product new a b w same)

-- as its cost changes a column's product moves by the change times the end where it stood, less the size of the cost
-- times the spread where the cost turned
pub product_moved : (low high old new : ℤ) → new *ℤ least_end low high new ≡ ((old *ℤ least_end low high old) +ℤ ((new -ℤ old) *ℤ least_end low high old)) -ℤ pos (turned_size old new * unsigned_abs (high -ℤ low))
product_moved low high (pos old) (pos new) = stayed (pos old) (pos new) (int_min low high) (unsigned_abs (high -ℤ low))
product_moved low high (pos old) (negsuc new) = fallen (pos old) (negsuc new) (int_min low high) (int_max low high) (suc new) (unsigned_abs (high -ℤ low)) (ends_apart low high) refl
product_moved low high (negsuc old) (pos new) = risen (negsuc old) (pos new) (int_min low high) (int_max low high) new (unsigned_abs (high -ℤ low)) (ends_apart low high) refl
product_moved low high (negsuc old) (negsuc new) = stayed (negsuc old) (negsuc new) (int_max low high) (unsigned_abs (high -ℤ low))

-- a cost that turned is no further from 0 than it moved
pub turned_size-le : (old new : ℤ) → turned_size old new ≤ unsigned_abs (new -ℤ old)
turned_size-le (pos old) (pos new) = omega (arith, ints)
turned_size-le (pos old) (negsuc new) = omega (arith, ints)
turned_size-le (negsuc old) (pos new) = omega (arith, ints)
turned_size-le (negsuc old) (negsuc new) = omega (arith, ints)

-- a cost that stays doesn't turn
pub turned_size-same : (c : ℤ) → turned_size c c ≡ 0
turned_size-same (pos c) = refl
turned_size-same (negsuc c) = refl

-- a cost that turns is turned by its whole size
pub turned_size-turns : (old new : ℤ) → turns old new ≡ true → turned_size old new ≡ unsigned_abs new
turned_size-turns (pos old) (pos new) turned = absurd (cc)
turned_size-turns (pos old) (negsuc new) turned = refl
turned_size-turns (negsuc old) (pos new) turned = refl
turned_size-turns (negsuc old) (negsuc new) turned = absurd (cc)

-- one that doesn't is turned by nothing
pub turned_size-stays : (old new : ℤ) → turns old new ≡ false → turned_size old new ≡ 0
turned_size-stays (pos old) (pos new) turned = refl
turned_size-stays (pos old) (negsuc new) turned = absurd (cc)
turned_size-stays (negsuc old) (pos new) turned = absurd (cc)
turned_size-stays (negsuc old) (negsuc new) turned = refl

-- an end falls by no more than the width
pub end_fall-le : (old new : ℤ) (width : ℕ) → unsigned_abs (end_fall old new width) ≤ width
end_fall-le (pos old) (pos new) width = omega arith
end_fall-le (pos old) (negsuc new) width = omega (arith, ints)
end_fall-le (negsuc old) (pos new) width = omega (arith, ints)
end_fall-le (negsuc old) (negsuc new) width = omega arith
