use Rattle.std.proofs.Common.{◌≡◌, ℕ, zero, suc, ◌+◌, ◌*◌, ◌^◌, ◌≤◌, ◌<◌, true, false, nat_le, ℤ, pos, negsuc, ◌≤ℤ◌, unsigned_abs, arith, refl, lit<}
use Rattle.std.proofs.lemmas.Bool.Decides.{nat_tests}
use Rattle.std.proofs.lemmas.Int.{ints}
use Rattle.std.proofs.Math.Nat.{pow-le-pow_right, mul-le-mul_right, one-le-pow}
use Rattle.mps_model.specs.Numbers.{reaches_infinity}

zero-mul : (n : ℕ) → 0 * n ≡ 0
zero-mul n = omega arith

not_le : (n m : ℕ) → m < n → nat_le n m ≡ false
not_le n m h = grind (arith, nat_tests)

is_le : (n m : ℕ) → n ≤ m → nat_le n m ≡ true
is_le n m h = grind (arith, nat_tests)

-- a number that isn't above 0 is below
pub below_zero : (m e : ℤ) → m ≤ℤ pos 0 → reaches_infinity m e ≡ false
below_zero (pos zero) (pos e) h = not_le (10 ^ 20) (0 * 10 ^ e) (omega (arith, zero-mul (10 ^ e)))
below_zero (pos zero) (negsuc e) h = not_le (10 ^ (21 + e)) 0 (one-le-pow (21 + e) 10 (lit< tt))
below_zero (pos (suc m)) e h = absurd (omega (arith, ints))
below_zero (negsuc m) e h = refl

-- and so is one of 18 digits after the point
pub fraction_below : (m e : ℤ) → unsigned_abs m < 10 ^ 18 → e ≤ℤ negsuc 0 → reaches_infinity m e ≡ false
fraction_below (pos m) (pos e) few h = absurd (omega (arith, ints))
fraction_below (pos m) (negsuc e) few h =
    let large : 10 ^ 18 ≤ 10 ^ (21 + e) = pow-le-pow_right (lit< tt) {i = 18} (omega arith) in
    not_le (10 ^ (21 + e)) m (omega (arith, large))
fraction_below (negsuc m) e few h = refl

-- a number above 0 with 20 zeros isn't
pub many_zeros : (m e : ℤ) → pos 1 ≤ℤ m → pos 20 ≤ℤ e → reaches_infinity m e ≡ true
many_zeros (pos m) (pos e) positive h =
    let large : 10 ^ 20 ≤ 10 ^ e = pow-le-pow_right (lit< tt) {i = 20} (omega (arith, ints)) in
    let more : 1 * 10 ^ e ≤ m * 10 ^ e = mul-le-mul_right (10 ^ e) (omega (arith, ints)) in
    is_le (10 ^ 20) (m * 10 ^ e) (omega (arith, large, more))
many_zeros (pos m) (negsuc e) positive h = absurd (omega (arith, ints))
many_zeros (negsuc m) e positive h = absurd (omega (arith, ints))
