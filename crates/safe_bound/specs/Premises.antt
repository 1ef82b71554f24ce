-- What keeps the numbers of a bound small.
use Rattle.std.specs.Prelude.{ℕ, ◌≡◌, ◌≤◌, ◌<◌, ◌+◌, ◌*◌, ◌^◌, List, length, ℤ, unsigned_abs, sum_by, All}
use Rattle.ip_core.specs.Numbers.{int_at, sum_below}
use Rattle.ip_core.specs.Sides.{Sides, reach}
use Rattle.ip_core.specs.Rows.{AreTerms, AreRows}
use Rattle.ip_core.specs.declared.limits.TheConstants.{MAX_WIDTH}
use Rattle.ip_core.specs.declared.model.ModelParts.{ModelParts}
use Rattle.ip_core.specs.declared.row.Row.{Row}
use Rattle.ip_core.specs.declared.row.Term.{Term}
use Rattle.safe_bound.specs.declared.limits.TheConstants.{MAX_MULTIPLIER}

-- cuts are rows over the model's columns, kept narrow by its root box, and at most 2^30 of them
pub record AreCuts (m : ModelParts) (cuts : List Row) : Type 0 where
  pub rows : AreRows (length m.cols) m.root cuts
  pub few : length cuts ≤ 2 ^ 30

-- each multiplier is at most 2^40
pub record AreSmall (ys : List ℕ) : Type 0 where
  pub each : All (λ y. y ≤ MAX_MULTIPLIER) ys

-- one multiplier for each row of the model and then for each cut
pub record AreMultipliers (m : ModelParts) (cuts : List Row) (ys : List ℕ) : Type 0 where
  pub one_each : length ys ≡ length m.rows + length cuts
  pub small : AreSmall ys

-- terms over n columns, whose coefficients together are within the greatest width
pub record AreLightTerms (n : ℕ) (terms : List Term) : Type 0 where
  pub known : AreTerms n terms
  pub narrow : sum_by (λ (t : Term). unsigned_abs t.coef) terms ≤ MAX_WIDTH

-- each row has such terms
pub record AreLight (n : ℕ) (rows : List Row) : Type 0 where
  pub each : All (λ (row : Row). AreLightTerms n row.terms) rows

-- the `least` of each row is within the greatest width
pub record HasNarrowLeasts (rows : List Row) : Type 0 where
  pub each : All (λ (row : Row). unsigned_abs row.least ≤ MAX_WIDTH) rows

-- each of the first n numbers is at most `most` in size
pub record AreWithin (n : ℕ) (most : ℕ) (xs : List ℤ) : Type 0 where
  pub each : (j : ℕ) → j < n → unsigned_abs (int_at xs j) ≤ most

-- how large the shares of all columns can become together
abbrev pub shares_width : Sides → List ℤ → ℕ
shares_width s costs = sum_below (length s.lows) (λ j. unsigned_abs (int_at costs j) * reach s j)
