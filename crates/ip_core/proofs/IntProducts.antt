use Rattle.std.proofs.Common.{◌≡◌, ℕ, zero, suc, ℤ, pos, negsuc, ◌+ℤ◌, ◌-ℤ◌, ◌*ℤ◌, ap, arith}
use Rattle.std.proofs.lemmas.Int.{ints}
use Rattle.std.proofs.Math.IntN.{*ℤ_comm}

natural_mul_add : (n : ℕ) (a b : ℤ) → pos n *ℤ (a +ℤ b) ≡ (pos n *ℤ a) +ℤ (pos n *ℤ b)
natural_mul_add zero a b = omega (arith, ints)
natural_mul_add (suc n) a b = omega (arith, ints, natural_mul_add n a b)

-- a product with a sum
pub mul_add : (c a b : ℤ) → c *ℤ (a +ℤ b) ≡ (c *ℤ a) +ℤ (c *ℤ b)
mul_add (pos n) a b = natural_mul_add n a b
mul_add (negsuc n) a b = omega (arith, ints, natural_mul_add (suc n) a b)

-- the same with the sum first
pub add_mul : (a b c : ℤ) → (a +ℤ b) *ℤ c ≡ (a *ℤ c) +ℤ (b *ℤ c)
add_mul a b c = omega (arith, ints, *ℤ_comm (a +ℤ b) c, *ℤ_comm a c, *ℤ_comm b c, mul_add c a b)

sub_add : (a b : ℤ) → (a -ℤ b) +ℤ b ≡ a
sub_add a b = omega (arith, ints)

-- the same with a difference
pub sub_mul : (a b c : ℤ) → (a -ℤ b) *ℤ c ≡ (a *ℤ c) -ℤ (b *ℤ c)
sub_mul a b c = omega (arith, ints, add_mul (a -ℤ b) b c, ap (λ z. z *ℤ c) (sub_add a b))

-- one more time
pub natural_mul_suc : (n : ℕ) (a : ℤ) → pos (suc n) *ℤ a ≡ a +ℤ (pos n *ℤ a)
natural_mul_suc n a = omega (arith, ints)

zero_mul : (a : ℤ) → pos zero *ℤ a ≡ pos zero
zero_mul a = omega (arith, ints)

-- factors in another order, the first a natural number
pub natural_mul_assoc : (n : ℕ) (a b : ℤ) → (pos n *ℤ a) *ℤ b ≡ pos n *ℤ (a *ℤ b)
natural_mul_assoc zero a b = omega (arith, ints, ap (λ z. z *ℤ b) (zero_mul a), zero_mul b, zero_mul (a *ℤ b))
natural_mul_assoc (suc n) a b = omega (arith, ints, ap (λ z. z *ℤ b) (natural_mul_suc n a), add_mul a (pos n *ℤ a) b, natural_mul_assoc n a b, natural_mul_suc n (a *ℤ b))
