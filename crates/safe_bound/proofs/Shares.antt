use Rattle.std.proofs.Common.{ℕ, suc, ◌*◌, ◌<◌, ◌≤◌, List, length, ℤ, ◌*ℤ◌, unsigned_abs, arith}
use Rattle.std.specs.Int.{int_min}
use Rattle.std.proofs.lemmas.Int.{ints, clamps, unsigned_abs-mul}
use Rattle.std.proofs.Math.Nat.{mul-le-mul_left}
use Rattle.ip_core.specs.Numbers.{int_at, int_sum_below, sum_below}
use Rattle.ip_core.specs.Sides.{Sides, reach}
use Rattle.ip_core.proofs.IntSums.{unsigned_abs-int_sum_below, sum_below_front}
use Rattle.safe_bound.specs.Bounds.{share}
use Rattle.safe_bound.specs.Premises.{shares_width}

-- one number is at most the sum of all
pub part_within_sum : (j n : ℕ) (f : ℕ → ℕ) → j < n → f j ≤ sum_below n f
part_within_sum j n f known = omega (arith, sum_below_front (suc j) n f (omega arith))

-- a cost times a number within a column's reach
pub reached_product : (s : Sides) (c z : ℤ) (j : ℕ) → unsigned_abs z ≤ reach s j → unsigned_abs (c *ℤ z) ≤ unsigned_abs c * reach s j
reached_product s c z j small = rw unsigned_abs-mul (mul-le-mul_left (unsigned_abs c) small)

-- the same is at most the width of all shares
pub reached_product_within : (s : Sides) (costs : List ℤ) (z : ℤ) (j : ℕ) → j < length s.lows → unsigned_abs z ≤ reach s j → unsigned_abs (int_at costs j *ℤ z) ≤ shares_width s costs
reached_product_within s costs z j known small =
    omega (arith, reached_product s (int_at costs j) z j small, part_within_sum j (length s.lows) (λ k. unsigned_abs (int_at costs k) * reach s k) known)

lesser_small : (a b : ℤ) (n : ℕ) → unsigned_abs a ≤ n → unsigned_abs b ≤ n → unsigned_abs (int_min a b) ≤ n
lesser_small a b n first second = grind (arith, ints, clamps)

-- a share is no larger than its cost times the column's reach
pub share_small : (s : Sides) (c : ℤ) (j : ℕ) → unsigned_abs (share s c j) ≤ unsigned_abs c * reach s j
share_small s c j =
    lesser_small (c *ℤ int_at s.lows j) (c *ℤ int_at s.highs j) (unsigned_abs c * reach s j) (reached_product s c (int_at s.lows j) j (omega arith)) (reached_product s c (int_at s.highs j) j (omega arith))

-- the shares of the first columns are no larger than the width of all
pub shares_small : (s : Sides) (costs : List ℤ) (i : ℕ) → i ≤ length s.lows → unsigned_abs (int_sum_below i (λ j. share s (int_at costs j) j)) ≤ shares_width s costs
shares_small s costs i few =
    omega (arith, unsigned_abs-int_sum_below i (λ j. share s (int_at costs j) j) (λ j. unsigned_abs (int_at costs j) * reach s j) (λ j h. share_small s (int_at costs j) j), sum_below_front i (length s.lows) (λ j. unsigned_abs (int_at costs j) * reach s j) few)
