use Rattle.std.proofs.Common.{◌≡◌, ℕ, zero, suc, ◌*◌, ◌<◌, ◌≤◌, ℤ, pos, ◌+ℤ◌, ◌-ℤ◌, ◌*ℤ◌, refl, arith}
use Rattle.std.proofs.lemmas.Int.{ints}
use Rattle.ip_core.specs.Numbers.{int_sum_below, sum_below}
use Rattle.ip_core.proofs.IntProducts.{mul_add}

same_add : (a b c d : ℤ) → a ≡ c → b ≡ d → a +ℤ b ≡ c +ℤ d
same_add a b c d first second = rw (first, second) refl

-- equal terms have equal sums
pub int_sum_below-same : (n : ℕ) (f g : ℕ → ℤ) → ((j : ℕ) → j < n → f j ≡ g j) → int_sum_below n f ≡ int_sum_below n g
int_sum_below-same zero f g each = refl
int_sum_below-same (suc n) f g each = same_add (int_sum_below n f) (f n) (int_sum_below n g) (g n) (int_sum_below-same n f g (λ j h. each j (omega arith))) (each n (omega arith))

-- terms that are 0 have the sum 0
pub int_sum_below-zero : (n : ℕ) (f : ℕ → ℤ) → ((j : ℕ) → j < n → f j ≡ pos 0) → int_sum_below n f ≡ pos 0
int_sum_below-zero zero f each = refl
int_sum_below-zero (suc n) f each = same_add (int_sum_below n f) (f n) (pos 0) (pos 0) (int_sum_below-zero n f (λ j h. each j (omega arith))) (each n (omega arith))

-- a sum of sums
pub int_sum_below-add : (n : ℕ) (f g : ℕ → ℤ) → int_sum_below n (λ j. f j +ℤ g j) ≡ int_sum_below n f +ℤ int_sum_below n g
int_sum_below-add zero f g = refl
int_sum_below-add (suc n) f g = omega (arith, ints, int_sum_below-add n f g)

-- a sum of differences
pub int_sum_below-sub : (n : ℕ) (f g : ℕ → ℤ) → int_sum_below n (λ j. f j -ℤ g j) ≡ int_sum_below n f -ℤ int_sum_below n g
int_sum_below-sub zero f g = refl
int_sum_below-sub (suc n) f g = omega (arith, ints, int_sum_below-sub n f g)

-- a factor of each term
pub int_sum_below-scale : (n : ℕ) (c : ℤ) (f : ℕ → ℤ) → int_sum_below n (λ j. c *ℤ f j) ≡ c *ℤ int_sum_below n f
int_sum_below-scale zero c f = omega (arith, ints)
int_sum_below-scale (suc n) c f = omega (arith, ints, int_sum_below-scale n c f, mul_add c (int_sum_below n f) (f n))

-- a sum of natural numbers as whole numbers
pub pos-sum_below : (n : ℕ) (f : ℕ → ℕ) → pos (sum_below n f) ≡ int_sum_below n (λ j. pos (f j))
pos-sum_below zero f = refl
pos-sum_below (suc n) f = omega (arith, ints, pos-sum_below n f)

-- a factor of each natural number
pub sum_below-scale : (n c : ℕ) (f : ℕ → ℕ) → sum_below n (λ j. c * f j) ≡ c * sum_below n f
sum_below-scale zero c f = omega arith
sum_below-scale (suc n) c f = omega (arith, sum_below-scale n c f)

-- natural numbers that are no greater add up to no more
pub sum_below-le : (n : ℕ) (f g : ℕ → ℕ) → ((j : ℕ) → j < n → f j ≤ g j) → sum_below n f ≤ sum_below n g
sum_below-le zero f g each = omega arith
sum_below-le (suc n) f g each = omega (arith, sum_below-le n f g (λ j h. each j (omega arith)), each n (omega arith))
