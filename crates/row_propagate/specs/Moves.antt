-- What keeps the numbers small while kept activities change.
use Rattle.std.specs.Prelude.{ℕ, ◌≤◌, ◌<◌, ◌^◌, List, length, take, All, ℤ, ◌+ℤ◌, ◌*ℤ◌, unsigned_abs}
use Rattle.ip_core.specs.Numbers.{int_at}
use Rattle.ip_core.specs.Rows.{AreTerms}
use Rattle.ip_core.specs.declared.limits.TheConstants.{MAX_WIDTH}
use Rattle.ip_core.specs.declared.row.Row.{Row}
use Rattle.ip_core.specs.declared.row.Term.{Term}
use Rattle.row_propagate.specs.Kept.{coefs_at, moved_by}

-- a coefficient times each end is within the greatest width
pub record IsNarrowMove (low high new_low new_high coef : ℤ) : Type 0 where
  pub by_low : unsigned_abs (coef *ℤ low) ≤ MAX_WIDTH
  pub by_high : unsigned_abs (coef *ℤ high) ≤ MAX_WIDTH
  pub by_new_low : unsigned_abs (coef *ℤ new_low) ≤ MAX_WIDTH
  pub by_new_high : unsigned_abs (coef *ℤ new_high) ≤ MAX_WIDTH

-- so is each entry's of a column
pub record AreNarrowMoves (low high new_low new_high : ℤ) (column : List Term) : Type 0 where
  pub each : All (λ (t : Term). IsNarrowMove low high new_low new_high t.coef) column

-- each entry of a column stands in one of n rows
pub record AreEntries (n : ℕ) (column : List Term) : Type 0 where
  pub each : All (λ (t : Term). t.col < n) column

-- each sum stays small while those of a column's entries change, one entry after another
pub record StaySmall (low high new_low new_high : ℤ) (sums : List ℤ) (column : List Term)
    : Type 0 where
  pub each : (i k : ℕ) → k < length sums →
      unsigned_abs
      (int_at sums k +ℤ moved_by low high new_low new_high (coefs_at k (take i column)))
      ≤ 2 ^ 52

-- the terms of each row are those of a model with n columns
pub record HaveTerms (n : ℕ) (rows : List Row) : Type 0 where
  pub each : All (λ (row : Row). AreTerms n row.terms) rows
