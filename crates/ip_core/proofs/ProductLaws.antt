use Rattle.std.proofs.Common.{◌≡◌, ℕ, zero, suc, ℤ, pos, negsuc, neg_ℤ, ◌*ℤ◌, arith}
use Rattle.std.proofs.lemmas.Int.{ints}

mul_pos-neg : (n : ℕ) (x : ℤ) → pos n *ℤ neg_ℤ x ≡ neg_ℤ (pos n *ℤ x)
mul_pos-neg zero x = omega (arith, ints)
mul_pos-neg (suc n) x = omega (arith, ints, mul_pos-neg n x)

-- a sign taken out of a product
pub mul-neg : (c x : ℤ) → c *ℤ neg_ℤ x ≡ neg_ℤ (c *ℤ x)
mul-neg (pos n) x = mul_pos-neg n x
mul-neg (negsuc n) x = omega (arith, ints, mul_pos-neg (suc n) x)
