use Rattle.std.proofs.Common.{◌≡◌, ℕ, zero, suc, ◌+◌, ◌*◌, ◌/◌, ◌<◌, ◌≤◌, ◌⊎◌, inl, inr, ℤ, pos, negsuc, neg_ℤ, ◌+ℤ◌, ◌*ℤ◌, ◌≤ℤ◌, ◌<ℤ◌, unsigned_abs, ◌≢◌, arith, refl, div-le_self, mul-add, mul-one, mul_comm}
use Rattle.std.proofs.Math.Nat.{mul-div-le, lt-div-mul-add}
use Rattle.std.proofs.lemmas.Int.{ints, by_lt_z}
use Rattle.std.specs.Int.{int_div_euclid}
use Rattle.ip_core.specs.Quotients.{floor_quotient, ceiling_quotient}
use Rattle.ip_core.proofs.Products.{mul_pos-le}
use Rattle.ip_core.proofs.ProductLaws.{mul-neg}

floors : floor_quotient (pos 7) (pos 2) ≡ pos 3
floors = refl

floors_below_zero : floor_quotient (negsuc 6) (pos 2) ≡ negsuc 3
floors_below_zero = refl

floors_by_negative : floor_quotient (pos 7) (negsuc 1) ≡ negsuc 3
floors_by_negative = refl

floors_both_negative : floor_quotient (negsuc 6) (negsuc 1) ≡ pos 3
floors_both_negative = refl

floors_evenly : floor_quotient (pos 6) (negsuc 1) ≡ negsuc 2
floors_evenly = refl

ceils : ceiling_quotient (pos 3) (pos 2) ≡ pos 2
ceils = refl

ceils_below_zero : ceiling_quotient (negsuc 2) (pos 2) ≡ negsuc 0
ceils_below_zero = refl

ceils_evenly : ceiling_quotient (pos 4) (pos 2) ≡ pos 2
ceils_evenly = refl

negative_below : (a m q : ℕ) → m * q ≤ a → negsuc a <ℤ (pos m *ℤ (negsuc q +ℤ pos 1))
negative_below a m zero small = omega (arith, ints)
negative_below a m (suc k) small =
    let next : negsuc (suc k) +ℤ pos 1 ≡ negsuc k = omega (arith, ints) in
    rw next (omega (arith, ints))

above_quotient : (a m q : ℕ) → a < q * m + m → a < m * (q + 1)
above_quotient a m q below = rw (mul-add, mul-one, mul_comm m q) below

-- the number is below the divisor times one more than the floor
pub below_next_floor : (a : ℤ) (n : ℕ) → a <ℤ (pos (suc n) *ℤ (int_div_euclid a (pos (suc n)) +ℤ pos 1))
below_next_floor (pos a) n = omega (arith, ints, above_quotient a (suc n) (a / suc n) (lt-div-mul-add {a = a} {b = suc n} (omega arith)))
below_next_floor (negsuc a) n = negative_below a (suc n) (a / suc n) (mul-div-le a (suc n))

int_order : (a b : ℤ) → (a ≤ℤ b) ⊎ ((b +ℤ pos 1) ≤ℤ a)
int_order a b = by_lt_z b a (λ below. inr (omega (arith, ints))) (λ le. inl le)

not_beyond : (a : ℤ) (n : ℕ) (x f : ℤ) → (pos (suc n) *ℤ x) ≤ℤ a → a <ℤ (pos (suc n) *ℤ (f +ℤ pos 1)) → (x ≤ℤ f) ⊎ ((f +ℤ pos 1) ≤ℤ x) → x ≤ℤ f
not_beyond a n x f small next (inl le) = le
not_beyond a n x f small next (inr more) = absurd (omega (arith, ints, mul_pos-le (suc n) (f +ℤ pos 1) x more))

-- a number whose multiple is at most `a` is at most the floor
pub le-int_div_euclid : (a : ℤ) (n : ℕ) (x : ℤ) → (pos (suc n) *ℤ x) ≤ℤ a → x ≤ℤ int_div_euclid a (pos (suc n))
le-int_div_euclid a n x small = not_beyond a n x (int_div_euclid a (pos (suc n))) small (below_next_floor a n) (int_order x (int_div_euclid a (pos (suc n))))

-- the same by a divisor of either sign
pub le-floor_quotient : (a d x : ℤ) → pos 0 <ℤ d → (d *ℤ x) ≤ℤ a → x ≤ℤ floor_quotient a d
le-floor_quotient a (pos zero) x above small = absurd (omega (arith, ints))
le-floor_quotient a (pos (suc n)) x above small = le-int_div_euclid a n x small
le-floor_quotient a (negsuc n) x above small = absurd (omega (arith, ints))

pub le-floor_quotient_negative : (a d x : ℤ) → d <ℤ pos 0 → a ≤ℤ (d *ℤ x) → x ≤ℤ floor_quotient a d
le-floor_quotient_negative a (pos n) x below large = absurd (omega (arith, ints))
le-floor_quotient_negative a (negsuc n) x below large = le-int_div_euclid (neg_ℤ a) n x (omega (arith, ints))

-- the ceiling is at most each number whose multiple is at least `a`
pub ceiling_quotient-le : (a d x : ℤ) → pos 0 <ℤ d → a ≤ℤ (d *ℤ x) → ceiling_quotient a d ≤ℤ x
ceiling_quotient-le a d x above large =
    let under : neg_ℤ x ≤ℤ floor_quotient (neg_ℤ a) d = le-floor_quotient (neg_ℤ a) d (neg_ℤ x) above (omega (arith, ints, mul-neg d x)) in
    omega (arith, ints)

-- a quotient is no further from 0 than the number
pub int_div_euclid_small : (a : ℤ) (n : ℕ) → unsigned_abs (int_div_euclid a (pos (suc n))) ≤ unsigned_abs a
int_div_euclid_small (pos a) n = div-le_self a (suc n)
int_div_euclid_small (negsuc a) n = omega (arith, div-le_self a (suc n))

pub floor_quotient_small : (a d : ℤ) → d ≢ pos 0 → unsigned_abs (floor_quotient a d) ≤ unsigned_abs a
floor_quotient_small a (pos zero) nonzero = absurd (nonzero refl)
floor_quotient_small a (pos (suc n)) nonzero = int_div_euclid_small a n
floor_quotient_small a (negsuc n) nonzero = omega (arith, ints, int_div_euclid_small (neg_ℤ a) n)

pub ceiling_quotient_small : (a d : ℤ) → d ≢ pos 0 → unsigned_abs (ceiling_quotient a d) ≤ unsigned_abs a
ceiling_quotient_small a d nonzero = omega (arith, ints, floor_quotient_small (neg_ℤ a) d nonzero)
