use Rattle.std.proofs.Common.{ℕ, zero, suc, ◌<◌, ◌⊎◌, inl, inr, ℤ, pos, negsuc, ◌+ℤ◌, ◌*ℤ◌, ◌≤ℤ◌, arith}
use Rattle.std.specs.Int.{int_min, int_max}
use Rattle.std.proofs.lemmas.Int.{ints, clamps}
use Rattle.ip_core.specs.Numbers.{int_sum_below}

-- a factor of 0 or more keeps an order
pub mul_pos-le : (n : ℕ) (a b : ℤ) → a ≤ℤ b → (pos n *ℤ a) ≤ℤ (pos n *ℤ b)
mul_pos-le zero a b le = omega (arith, ints)
mul_pos-le (suc n) a b le = omega (arith, ints, mul_pos-le n a b le)

-- a factor below 0 turns it round
pub mul_negsuc-le : (n : ℕ) (a b : ℤ) → a ≤ℤ b → (negsuc n *ℤ b) ≤ℤ (negsuc n *ℤ a)
mul_negsuc-le n a b le = omega (arith, ints, mul_pos-le (suc n) a b le)

-- a product with a number between two lies between the products with these, one way or the other
pub mul_between : (c low y high : ℤ) → low ≤ℤ y → y ≤ℤ high → (((c *ℤ low) ≤ℤ (c *ℤ y)) × ((c *ℤ y) ≤ℤ (c *ℤ high))) ⊎ (((c *ℤ high) ≤ℤ (c *ℤ y)) × ((c *ℤ y) ≤ℤ (c *ℤ low)))
mul_between (pos n) low y high above below = inl (mul_pos-le n low y above, mul_pos-le n y high below)
mul_between (negsuc n) low y high above below = inr (mul_negsuc-le n y high below, mul_negsuc-le n low y above)

least_between : (a y b : ℤ) → ((a ≤ℤ y) × (y ≤ℤ b)) ⊎ ((b ≤ℤ y) × (y ≤ℤ a)) → int_min a b ≤ℤ y
least_between a y b (inl between) = omega (arith, ints, clamps, between.0, between.1)
least_between a y b (inr between) = omega (arith, ints, clamps, between.0, between.1)

greatest_between : (a y b : ℤ) → ((a ≤ℤ y) × (y ≤ℤ b)) ⊎ ((b ≤ℤ y) × (y ≤ℤ a)) → y ≤ℤ int_max a b
greatest_between a y b (inl between) = omega (arith, ints, clamps, between.0, between.1)
greatest_between a y b (inr between) = omega (arith, ints, clamps, between.0, between.1)

-- the lesser of the products with two ends is at most the product with a number between them
pub least_product : (c low y high : ℤ) → low ≤ℤ y → y ≤ℤ high → int_min (c *ℤ low) (c *ℤ high) ≤ℤ (c *ℤ y)
least_product c low y high above below = least_between (c *ℤ low) (c *ℤ y) (c *ℤ high) (mul_between c low y high above below)

-- and the greater of them is at least that product
pub greatest_product : (c low y high : ℤ) → low ≤ℤ y → y ≤ℤ high → (c *ℤ y) ≤ℤ int_max (c *ℤ low) (c *ℤ high)
greatest_product c low y high above below = greatest_between (c *ℤ low) (c *ℤ y) (c *ℤ high) (mul_between c low y high above below)

-- greater parts add up to a greater sum
pub add-le_both : (a b c d : ℤ) → a ≤ℤ c → b ≤ℤ d → (a +ℤ b) ≤ℤ (c +ℤ d)
add-le_both a b c d first second = omega (arith, ints)

-- terms that are no greater add up to no more
pub int_sum_below-le : (n : ℕ) (f g : ℕ → ℤ) → ((j : ℕ) → j < n → f j ≤ℤ g j) → int_sum_below n f ≤ℤ int_sum_below n g
int_sum_below-le zero f g each = omega (arith, ints)
int_sum_below-le (suc n) f g each =
    add-le_both (int_sum_below n f) (f n) (int_sum_below n g) (g n) (int_sum_below-le n f g (λ j h. each j (omega arith))) (each n (omega arith))
