use Rattle.std.specs.Prelude.{ℕ, ◌≡◌, ◌≤◌, ◌<◌, ◌^◌, max, List, length, ℤ, ◌≤ℤ◌, ◌<ℤ◌, unsigned_abs, slice_set, All}
use Rattle.std.specs.Int.{int_min, int_max}
use Rattle.ip_core.specs.Numbers.{int_at}
use Rattle.ip_core.specs.declared.limits.TheConstants.{MAX_BOUND}

-- a box: the least and the greatest value of each column
pub record Sides : Type 0 where
  pub lows : List ℤ
  pub highs : List ℤ

-- both sides stand for the same columns, at most 2^30 of them
pub record IsPaired (s : Sides) : Type 0 where
  pub same_length : length s.highs ≡ length s.lows
  pub short : length s.lows ≤ 2 ^ 30

-- each value of a point lies within its column's bounds
pub record IsInside (s : Sides) (x : List ℤ) : Type 0 where
  pub above : (j : ℕ) → j < length x → int_at s.lows j ≤ℤ int_at x j
  pub below : (j : ℕ) → j < length x → int_at x j ≤ℤ int_at s.highs j

-- the column's low is above its high
pub record IsEmptyAt (s : Sides) (j : ℕ) : Type 0 where
  pub crossed : int_at s.highs j <ℤ int_at s.lows j

-- the column's low is at most its high
pub record IsOpenAt (s : Sides) (j : ℕ) : Type 0 where
  pub ordered : int_at s.lows j ≤ℤ int_at s.highs j

-- j is the first column whose low is above its high
pub record IsFirstEmpty (s : Sides) (j : ℕ) : Type 0 where
  pub known : j < length s.lows
  pub empty : IsEmptyAt s j
  pub before : (k : ℕ) → k < j → IsOpenAt s k

-- no column has its low above its high
pub record HasNoEmpty (s : Sides) : Type 0 where
  pub all : (k : ℕ) → k < length s.lows → IsOpenAt s k

-- the box with a column's low raised to `low`, where that is narrower
abbrev pub with_low : Sides → ℕ → ℤ → Sides
with_low s j low = record s { lows = slice_set s.lows j (int_max (int_at s.lows j) low) }

-- the box with a column's high lowered to `high`, where that is narrower
abbrev pub with_high : Sides → ℕ → ℤ → Sides
with_high s j high = record s { highs = slice_set s.highs j (int_min (int_at s.highs j) high) }

-- each bound lies in -2^31 to 2^31
pub record IsWithinLimit (xs : List ℤ) : Type 0 where
  pub each : All (λ z. unsigned_abs z ≤ MAX_BOUND) xs

-- each side of the box lies within the limit
pub record HasLimits (s : Sides) : Type 0 where
  pub lows : IsWithinLimit s.lows
  pub highs : IsWithinLimit s.highs

-- how far a column's values reach from 0, and at least 1
abbrev pub reach : Sides → ℕ → ℕ
reach s j = max (max (unsigned_abs (int_at s.lows j)) (unsigned_abs (int_at s.highs j))) 1
