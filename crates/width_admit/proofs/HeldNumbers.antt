use Rattle.std.proofs.Common.{◌≡◌, ◌∙◌, ℕ, zero, suc, ◌*◌, ◌^◌, ◌<◌, ◌≤◌, min, Bool, true, false, ℤ, pos, negsuc, neg_ℤ, ◌+ℤ◌, ◌*ℤ◌, unsigned_abs, int_lt, refl, ap, sym, arith}
use Rattle.std.proofs.lemmas.Int.{ints, unsigned_abs-mul}
use Rattle.std.proofs.Math.Nat.{pow-le-pow_right, le-mul_of_pos_right, mul_comm, mul-pos}
use Rattle.std.proofs.lemmas.Bool.{le-ltb}
use Rattle.ip_core.specs.Decimals.{Number, IsDecimal, signed_number}
use Rattle.width_admit.specs.declared.scale.TheConstants.{CAP}
use Rattle.width_admit.specs.Exact.{units, is_whole}
use Rattle.width_admit.specs.Held.{held_number, held_whole}
use Rattle.width_admit.proofs.Decimals.{ten_pow_pos, whole_is, above_of_whole}

-- numbers held down to 2^52

signed_size : (negative : Bool) (n : ℕ) → unsigned_abs (signed_number negative n) ≡ n
signed_size true n = omega (arith, ints)
signed_size false n = refl

-- a number that is held down is small
pub held_small : (z : ℤ) → unsigned_abs (held_number z) ≤ CAP
held_small z = rw (signed_size (int_lt z (pos 0)) (min (unsigned_abs z) CAP)) (omega arith)

-- its size is that of the number, or the cap
pub held_size : (z : ℤ) → unsigned_abs (held_number z) ≡ min (unsigned_abs z) CAP
held_size z = signed_size (int_lt z (pos 0)) (min (unsigned_abs z) CAP)

signed_again : (z : ℤ) → signed_number (int_lt z (pos 0)) (unsigned_abs z) ≡ z
signed_again (pos n) = ap (λ b. signed_number b n) (le-ltb n 0 (omega arith))
signed_again (negsuc n) = refl

-- a small number stays
pub held_is : (z : ℤ) → unsigned_abs z ≤ CAP → held_number z ≡ z
held_is z small =
    let same : min (unsigned_abs z) CAP ≡ unsigned_abs z = omega (arith, small) in
    ap (signed_number (int_lt z (pos 0))) same ∙ signed_again z

negative_sign : (n : ℕ) → 0 < n → int_lt (neg_ℤ (pos n)) (pos 0) ≡ true
negative_sign zero positive = absurd (omega (arith, positive))
negative_sign (suc n) positive = refl

product_sign : (m : ℤ) (q : ℕ) → 0 < q → int_lt (m *ℤ pos q) (pos 0) ≡ int_lt m (pos 0)
product_sign m zero positive = absurd (omega (arith, positive))
product_sign (pos a) (suc q) positive = le-ltb (a * suc q) 0 (omega arith) ∙ sym (le-ltb a 0 (omega arith))
product_sign (negsuc a) (suc q) positive = negative_sign (suc a * suc q) (mul-pos (omega arith) positive)

-- a product by a power of ten held down
pub held_product : (m : ℤ) (p : ℕ) → held_number (m *ℤ pos (10 ^ p)) ≡ signed_number (int_lt m (pos 0)) (min (unsigned_abs m * 10 ^ p) CAP)
held_product m p = rw (product_sign m (10 ^ p) (ten_pow_pos p), unsigned_abs-mul m (pos (10 ^ p))) refl

-- a size that isn't 0 under a large power of ten reaches the cap
pub large_size : (s p : ℕ) → 0 < s → 16 < p → CAP ≡ min (s * 10 ^ p) CAP
large_size s p some large =
    let above : 17 ≤ p = omega (arith, large) in
    let power : 10 ^ 17 ≤ 10 ^ p = pow-le-pow_right (omega arith) above in
    let product : 10 ^ p ≤ s * 10 ^ p = rw (mul_comm s (10 ^ p)) (le-mul_of_pos_right (10 ^ p) some) in
    omega (arith, power, product)

-- a decimal under a power that makes it whole, held down
pub scaled_is : (n : Number) (k : ℕ) → k ≤ 18 → IsDecimal n → is_whole k (units n) ≡ true → held_whole k n ≡ signed_number (int_lt n.mantissa (pos 0)) (min (unsigned_abs n.mantissa * 10 ^ unsigned_abs (n.exponent +ℤ pos k)) CAP)
scaled_is n k small valid h =
    ap held_number (whole_is n k small valid.least (above_of_whole n k valid h)) ∙ held_product n.mantissa (unsigned_abs (n.exponent +ℤ pos k))
