-- What keeps the numbers of a weighted sum small.
use Rattle.std.specs.Prelude.{ℕ, ◌≡◌, ◌≤◌, ◌<◌, ◌^◌, true, List, length, ℤ, unsigned_abs, All}
use Rattle.ip_core.specs.Numbers.{int_at}
use Rattle.ip_core.specs.Sides.{Sides, reach}
use Rattle.ip_core.specs.declared.model.ModelParts.{ModelParts}
use Rattle.ip_core.specs.declared.limits.TheConstants.{MAX_WIDTH}
use Rattle.ip_core.specs.declared.row.Row.{Row}
use Rattle.ip_core.specs.declared.row.Term.{Term}
use Rattle.ip_core.specs.declared.leaf.Pair.{Pair}
use Rattle.safe_bound.specs.declared.limits.TheConstants.{MAX_MULTIPLIER}
use Rattle.safe_bound.specs.Premises.{shares_width}
use Rattle.cut_derive.specs.Gomory.{are_known, combined_coefficient}
use Rattle.cut_derive.specs.declared.limits.TheConstants.{MAX_PARTS}

-- at most 256 parts of rows that exist, with weights of at most 2^40
pub record AreParts (m : ModelParts) (cuts : List Row) (parts : List Pair) : Type 0 where
  pub known : are_known m.rows cuts parts ≡ true
  pub few : length parts ≤ MAX_PARTS
  pub small : All (λ p. p.weight ≤ MAX_MULTIPLIER) parts

-- one number for each column: its coefficient in the weighted sum of the rows
pub record AreSums (m : ModelParts) (cuts : List Row) (parts : List Pair) (coefs : List ℤ)
    : Type 0 where
  pub columns : length coefs ≡ length m.cols
  pub each : (j : ℕ) → j < length m.cols →
      int_at coefs j ≡ combined_coefficient m.rows cuts parts j

-- one coefficient for each column; over the box they and what they ask for stay small
pub record IsNarrowSum (s : Sides) (coefs : List ℤ) (least : ℤ) : Type 0 where
  pub columns : length coefs ≡ length s.lows
  pub narrow : shares_width s coefs ≤ 2 ^ 98
  pub small : unsigned_abs least ≤ 2 ^ 98

-- each coefficient is within the greatest width
pub record AreNarrowTerms (terms : List Term) : Type 0 where
  pub each : All (λ (t : Term). unsigned_abs t.coef ≤ MAX_WIDTH) terms

-- a value for each column, none further from 0 than the box reaches there
pub record AreNear (s : Sides) (values : List ℤ) : Type 0 where
  pub columns : length values ≡ length s.lows
  pub each : (j : ℕ) → unsigned_abs (int_at values j) ≤ reach s j
