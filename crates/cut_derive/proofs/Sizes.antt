-- How large the numbers of a weighted sum can become, and sums of 128 bits in loops.
use Rattle.std.proofs.Common.{◌≡◌, ◌≢◌, ◌∙◌, ℕ, ◌+◌, ◌*◌, ◌^◌, ◌<◌, ◌≤◌, List, length, get_or, take, ℤ, pos, ◌+ℤ◌, ◌*ℤ◌, unsigned_abs, FitsSigned, to_z, of_z, refl, sym, ap₂, arith, le_trans, mul-le-mul_left, mul-le-mul_right}
use Rattle.std.specs.Int.{w128}
use Rattle.std.proofs.lemmas.Int.{ints, to_z-of_z, unsigned_abs-mul}
use Rattle.ip_core.specs.Numbers.{int_at, int_sum_by, int_sum_below, sum_below}
use Rattle.ip_core.specs.Sides.{Sides, reach}
use Rattle.ip_core.specs.Rows.{part_width}
use Rattle.ip_core.specs.Quotients.{ceiling_quotient}
use Rattle.ip_core.proofs.IntSums.{int_sum_below_more, int_sum_by_more, unsigned_abs-int_sum_below, sum_below_front}
use Rattle.ip_core.proofs.ColumnSums.{sum_below-le}
use Rattle.ip_core.proofs.RunningSums.{sum_fits, sum_is}
use Rattle.ip_core.proofs.Quotients.{ceiling_quotient_small}
use Rattle.safe_bound.specs.Premises.{shares_width}
use Rattle.safe_bound.proofs.Sizes.{small_fits}
use Rattle.safe_bound.proofs.Shares.{part_within_sum}
use Rattle.cut_derive.specs.Gomory.{rounded_coefficient, low_sum}
use Rattle.cut_derive.specs.Premises.{AreNear}

positive_apart : (d : ℕ) → 0 < d → pos d ≢ pos 0
positive_apart d above = λ e. absurd (omega (arith, ints, above, e))

-- a coefficient that is divided and rounded up is no larger than before
pub rounded_small : (a : ℕ → ℤ) (d j : ℕ) → 0 < d → unsigned_abs (rounded_coefficient a d j) ≤ unsigned_abs (a j)
rounded_small a d j above = ceiling_quotient_small (a j) (pos d) (positive_apart d above)

-- the same of a number
pub ceiling_small : (z : ℤ) (d : ℕ) → 0 < d → unsigned_abs (ceiling_quotient z (pos d)) ≤ unsigned_abs z
ceiling_small z d above = ceiling_quotient_small z (pos d) (positive_apart d above)

-- a coefficient no larger than that of a sum, times a number within its column's reach
pub product_within : (s : Sides) (coefs : List ℤ) (c z : ℤ) (j : ℕ) → j < length s.lows → unsigned_abs c ≤ unsigned_abs (int_at coefs j) → unsigned_abs z ≤ reach s j → unsigned_abs (c *ℤ z) ≤ shares_width s coefs
product_within s coefs c z j known smaller near =
    let first : unsigned_abs (c *ℤ z) ≤ unsigned_abs c * reach s j = rw unsigned_abs-mul (mul-le-mul_left (unsigned_abs c) near) in
    let second : unsigned_abs c * reach s j ≤ unsigned_abs (int_at coefs j) * reach s j = mul-le-mul_right (reach s j) smaller in
    omega (arith, first, second, part_within_sum j (length s.lows) (λ k. unsigned_abs (int_at coefs k) * reach s k) known)

-- so is its part of a width
pub part_within : (s : Sides) (coefs : List ℤ) (c : ℤ) (j : ℕ) → j < length s.lows → unsigned_abs c ≤ unsigned_abs (int_at coefs j) → part_width s c j ≤ shares_width s coefs
part_within s coefs c j known smaller =
    let second : unsigned_abs c * reach s j ≤ unsigned_abs (int_at coefs j) * reach s j = mul-le-mul_right (reach s j) smaller in
    omega (arith, second, part_within_sum j (length s.lows) (λ k. unsigned_abs (int_at coefs k) * reach s k) known)

-- and the coefficient alone
pub coefficient_within : (s : Sides) (coefs : List ℤ) (j : ℕ) → j < length s.lows → unsigned_abs (int_at coefs j) ≤ shares_width s coefs
coefficient_within s coefs j known =
    let one : unsigned_abs (int_at coefs j) * 1 ≤ unsigned_abs (int_at coefs j) * reach s j = mul-le-mul_left (unsigned_abs (int_at coefs j)) (omega arith) in
    omega (arith, one, part_within_sum j (length s.lows) (λ k. unsigned_abs (int_at coefs k) * reach s k) known)

low_product : (s : Sides) (c d : ℤ) (j : ℕ) → unsigned_abs c ≤ unsigned_abs d → unsigned_abs (c *ℤ int_at s.lows j) ≤ unsigned_abs d * reach s j
low_product s c d j smaller =
    let near : unsigned_abs (int_at s.lows j) ≤ reach s j = omega arith in
    let first : unsigned_abs (c *ℤ int_at s.lows j) ≤ unsigned_abs c * reach s j = rw unsigned_abs-mul (mul-le-mul_left (unsigned_abs c) near) in
    le_trans first (mul-le-mul_right (reach s j) smaller)

-- coefficients no larger than those of a sum give at the lows no more than its width
pub low_sum_small : (s : Sides) (coefs : List ℤ) (a : ℕ → ℤ) (i : ℕ) → ((j : ℕ) → unsigned_abs (a j) ≤ unsigned_abs (int_at coefs j)) → i ≤ length s.lows → unsigned_abs (low_sum i s a) ≤ shares_width s coefs
low_sum_small s coefs a i smaller few =
    omega (arith, unsigned_abs-int_sum_below i (λ j. a j *ℤ int_at s.lows j) (λ j. unsigned_abs (int_at coefs j) * reach s j) (λ j h. low_product s (a j) (int_at coefs j) j (smaller j)), sum_below_front i (length s.lows) (λ j. unsigned_abs (int_at coefs j) * reach s j) few)

-- and the widths of the first of them together are no more
pub widths_small : (s : Sides) (coefs : List ℤ) (a : ℕ → ℤ) (i : ℕ) → ((j : ℕ) → unsigned_abs (a j) ≤ unsigned_abs (int_at coefs j)) → i ≤ length s.lows → sum_below i (λ j. part_width s (a j) j) ≤ shares_width s coefs
widths_small s coefs a i smaller few =
    omega (arith, sum_below-le i (λ j. part_width s (a j) j) (λ j. unsigned_abs (int_at coefs j) * reach s j) (λ j h. mul-le-mul_right (reach s j) (smaller j)), sum_below_front i (length s.lows) (λ j. unsigned_abs (int_at coefs j) * reach s j) few)

below_next : (f : ℕ → ℤ) (j : ℕ) (sum part : ℤ) → sum ≡ int_sum_below j f → part ≡ f j → sum +ℤ part ≡ int_sum_below (j + 1) f
below_next f j sum part so_far here = ap₂ (λ a b. a +ℤ b) so_far here ∙ sym (int_sum_below_more f j)

-- the two goals of a loop of 128 bits over numbers
pub wide_below_fits : (f : ℕ → ℤ) (j most : ℕ) (sum part : ℤ) → unsigned_abs (int_sum_below (j + 1) f) ≤ most → most < 2 ^ 127 → FitsSigned w128 part → sum ≡ int_sum_below j f → part ≡ f j → FitsSigned w128 (sum +ℤ to_z w128 (of_z w128 part))
wide_below_fits f j most sum part small few fits so_far here =
    sum_fits w128 sum part (int_sum_below (j + 1) f) fits (below_next f j sum part so_far here) (small_fits (int_sum_below (j + 1) f) most small few)

pub wide_below_is : (f : ℕ → ℤ) (j most : ℕ) (sum part : ℤ) → unsigned_abs (int_sum_below (j + 1) f) ≤ most → most < 2 ^ 127 → FitsSigned w128 part → sum ≡ int_sum_below j f → part ≡ f j → to_z w128 (of_z w128 (sum +ℤ to_z w128 (of_z w128 part))) ≡ int_sum_below (j + 1) f
wide_below_is f j most sum part small few fits so_far here =
    sum_is w128 sum part (int_sum_below (j + 1) f) fits (below_next f j sum part so_far here) (small_fits (int_sum_below (j + 1) f) most small few)

by_next : {A : Type 0} (f : A → ℤ) (xs : List A) (i : ℕ) (d : A) (sum part : ℤ) → i < length xs → sum ≡ int_sum_by f (take i xs) → part ≡ f (get_or xs i d) → sum +ℤ part ≡ int_sum_by f (take (i + 1) xs)
by_next f xs i d sum part within so_far here = ap₂ (λ a b. a +ℤ b) so_far here ∙ sym (int_sum_by_more f xs i d within)

-- and over items
pub wide_by_fits : {A : Type 0} (f : A → ℤ) (xs : List A) (i most : ℕ) (d : A) (sum part : ℤ) → unsigned_abs (int_sum_by f (take (i + 1) xs)) ≤ most → most < 2 ^ 127 → FitsSigned w128 part → i < length xs → sum ≡ int_sum_by f (take i xs) → part ≡ f (get_or xs i d) → FitsSigned w128 (sum +ℤ to_z w128 (of_z w128 part))
wide_by_fits f xs i most d sum part small few fits within so_far here =
    sum_fits w128 sum part (int_sum_by f (take (i + 1) xs)) fits (by_next f xs i d sum part within so_far here) (small_fits (int_sum_by f (take (i + 1) xs)) most small few)

pub wide_by_is : {A : Type 0} (f : A → ℤ) (xs : List A) (i most : ℕ) (d : A) (sum part : ℤ) → unsigned_abs (int_sum_by f (take (i + 1) xs)) ≤ most → most < 2 ^ 127 → FitsSigned w128 part → i < length xs → sum ≡ int_sum_by f (take i xs) → part ≡ f (get_or xs i d) → to_z w128 (of_z w128 (sum +ℤ to_z w128 (of_z w128 part))) ≡ int_sum_by f (take (i + 1) xs)
wide_by_is f xs i most d sum part small few fits within so_far here =
    sum_is w128 sum part (int_sum_by f (take (i + 1) xs)) fits (by_next f xs i d sum part within so_far here) (small_fits (int_sum_by f (take (i + 1) xs)) most small few)

-- a product that 128 bits hold is held exactly
pub product_fits : (a b c : ℤ) → FitsSigned w128 a → c ≡ b → FitsSigned w128 c → unsigned_abs (a *ℤ b) ≤ 2 ^ 103 → FitsSigned w128 (to_z w128 (of_z w128 a) *ℤ to_z w128 (of_z w128 c))
product_fits a b c first same second small = rw (to_z-of_z w128 a first, to_z-of_z w128 c second, same) (small_fits (a *ℤ b) (2 ^ 103) small (omega arith))

pub product_is : (a b c : ℤ) → FitsSigned w128 a → c ≡ b → FitsSigned w128 c → unsigned_abs (a *ℤ b) ≤ 2 ^ 103 → to_z w128 (of_z w128 (to_z w128 (of_z w128 a) *ℤ to_z w128 (of_z w128 c))) ≡ a *ℤ b
product_is a b c first same second small = rw (to_z-of_z w128 a first, to_z-of_z w128 c second, same) (to_z-of_z w128 (a *ℤ b) (small_fits (a *ℤ b) (2 ^ 103) small (omega arith)))

value_product : (s : Sides) (values : List ℤ) (c d : ℤ) (j : ℕ) → unsigned_abs (int_at values j) ≤ reach s j → unsigned_abs c ≤ unsigned_abs d → unsigned_abs (c *ℤ int_at values j) ≤ unsigned_abs d * reach s j
value_product s values c d j near smaller =
    let first : unsigned_abs (c *ℤ int_at values j) ≤ unsigned_abs c * reach s j = rw unsigned_abs-mul (mul-le-mul_left (unsigned_abs c) near) in
    le_trans first (mul-le-mul_right (reach s j) smaller)

-- so do they at values within the reach of the box
pub value_sum_small : (s : Sides) (coefs values : List ℤ) (a : ℕ → ℤ) (i : ℕ) → ((j : ℕ) → unsigned_abs (int_at values j) ≤ reach s j) → ((j : ℕ) → unsigned_abs (a j) ≤ unsigned_abs (int_at coefs j)) → i ≤ length s.lows → unsigned_abs (int_sum_below i (λ j. a j *ℤ int_at values j)) ≤ shares_width s coefs
value_sum_small s coefs values a i near smaller few =
    omega (arith, unsigned_abs-int_sum_below i (λ j. a j *ℤ int_at values j) (λ j. unsigned_abs (int_at coefs j) * reach s j) (λ j h. value_product s values (a j) (int_at coefs j) j (near j) (smaller j)), sum_below_front i (length s.lows) (λ j. unsigned_abs (int_at coefs j) * reach s j) few)

-- the lows of a box are within its reach
pub lows_near : (s : Sides) → AreNear s s.lows
lows_near s = record { columns = refl; each = λ j. omega arith }
