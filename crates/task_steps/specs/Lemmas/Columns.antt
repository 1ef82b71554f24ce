-- Where a box is split, and which numbers have words.
use Rattle.std.proofs.Common.{ℕ, zero, suc, ◌<◌, ◌≤◌, ◌^◌, Bool, true, false, cond, List, length, ℤ, pos, negsuc, neg_ℤ, ◌≤ℤ◌, int_lt, unsigned_abs, w64, All, subst, arith}
use Rattle.std.specs.Int.{int_div_euclid}
use Rattle.std.proofs.lemmas.Int.{ints, fits_signed_from_abs}
use Rattle.std.proofs.lemmas.List.{get_or_default}
use Rattle.ip_core.specs.Numbers.{int_at}
use Rattle.ip_core.specs.Sides.{Sides, IsPaired}
use Rattle.ip_core.specs.Models.{IsModel}
use Rattle.ip_core.specs.Truth.{IsFeasible}
use Rattle.ip_core.specs.declared.model.ModelParts.{ModelParts}
use Rattle.ip_core.proofs.IntSums.{unsigned_abs_between}
use Rattle.work_stamp.specs.Writable.{IsSigned}
use Rattle.task_steps.specs.Columns.{middle, widest, widest_below, width_at}
use Rattle.task_steps.specs.Fits.{IsSmall}

-- the widest column is one of the columns

wider_cases : (n least : ℕ) (t : Bool) → least ≤ n → cond t n least ≤ n
wider_cases n least true less = omega arith
wider_cases n least false less = less

widest_least : (s : Sides) (n : ℕ) → widest_below s n ≤ n
widest_least s zero = omega arith
widest_least s (suc n) = let more =
    wider_cases n (widest_below s n) (int_lt (width_at s (widest_below s n)) (width_at s n))
    (widest_least s n) in omega arith

widest_below_known : (s : Sides) (n : ℕ) → 0 < n → widest_below s n < n
widest_below_known s zero some = absurd (omega arith)
widest_below_known s (suc n) some = let more =
    wider_cases n (widest_below s n) (int_lt (width_at s (widest_below s n)) (width_at s n))
    (widest_least s n) in omega arith

pub widest_known : (s : Sides) → 0 < length s.lows → widest s < length s.lows
widest_known s some = widest_below_known s (length s.lows) some

-- the middle of a column

half_above : (z : ℤ) → unsigned_abs z ≤ 2 ^ 32 → neg_ℤ (pos (2 ^ 31)) ≤ℤ int_div_euclid z (pos 2)
half_above (pos n) small = omega (arith, ints)
half_above (negsuc n) small = omega (arith, ints)

half_below : (z : ℤ) → unsigned_abs z ≤ 2 ^ 32 → int_div_euclid z (pos 2) ≤ℤ pos (2 ^ 31)
half_below (pos n) small = omega (arith, ints)
half_below (negsuc n) small = omega (arith, ints)

pub middle_above : (s : Sides) (col : ℕ) → IsSmall s → neg_ℤ (pos (2 ^ 31)) ≤ℤ middle s col
middle_above s col small = half_above _ (omega (arith, ints, small.lows col, small.highs col))

pub middle_below : (s : Sides) (col : ℕ) → IsSmall s → middle s col ≤ℤ pos (2 ^ 31)
middle_below s col small = half_below _ (omega (arith, ints, small.lows col, small.highs col))

-- a value from -2^31 to 2^31 has a word
pub signed_between : (z : ℤ) → neg_ℤ (pos (2 ^ 31)) ≤ℤ z → z ≤ℤ pos (2 ^ 31) → IsSigned z
signed_between z above below = fits_signed_from_abs w64 z (omega (arith, ints))

-- the values of a feasible point have words

between_small : (low x high : ℤ) → low ≤ℤ x → x ≤ℤ high → unsigned_abs low ≤ 2 ^ 31
    → unsigned_abs high ≤ 2 ^ 31 → unsigned_abs x < 2 ^ 63
between_small low x high above below first second = let between =
    unsigned_abs_between low x high above below in omega arith

pub point_signed : (m : ModelParts) (x : List ℤ) → IsModel m → IsPaired m.root → IsFeasible m x
    → All IsSigned x
point_signed m x valid paired feasible = λ k d within.
    let one_each = feasible.one_each in
    let box = valid.bounds.box in
    let same = paired.same_length in
    let low : k < length m.root.lows = omega arith in
    let high : k < length m.root.highs = omega arith in
    subst (λ (z : ℤ). IsSigned z) (get_or_default x k (pos 0) d within)
    (fits_signed_from_abs w64 (int_at x k)
    (between_small (int_at m.root.lows k) (int_at x k) (int_at m.root.highs k)
    (feasible.inside.above k within) (feasible.inside.below k within)
    (valid.bounds.limits.lows.each k (pos 0) low) (valid.bounds.limits.highs.each k (pos 0) high)))
