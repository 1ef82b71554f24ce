-- What is kept of a list of multipliers while one after the other changes.
use Rattle.std.specs.Prelude.{ℕ, ◌≡◌, ◌≢◌, ◌≤◌, ◌<◌, ◌+◌, ◌^◌, ◌+ℤ◌, ◌-ℤ◌, ℤ, List, [], length, slice_index, slice_index_or, unsigned_abs, sum_by, All}
use Rattle.ip_core.specs.Numbers.{int_at}
use Rattle.ip_core.specs.Sides.{Sides}
use Rattle.ip_core.specs.Rows.{coefficient}
use Rattle.ip_core.specs.declared.model.ModelParts.{ModelParts}
use Rattle.ip_core.specs.declared.row.Row.{Row}
use Rattle.ip_core.specs.declared.row.Term.{Term}
use Rattle.safe_bound.specs.Bounds.{all_rows, row_of, reduced_cost, numerator}
use Rattle.safe_bound.specs.Premises.{AreMultipliers}
use Rattle.dual_ascent.specs.declared.reduced.Reduced.{Reduced}
use Rattle.dual_ascent.specs.Ends.{spread, end_activity}

-- how large the coefficients of terms are together
abbrev pub sizes : List Term → ℕ
sizes terms = sum_by (λ (t : Term). unsigned_abs t.coef) terms

-- each term stands under the number of one of n rows
pub record AreOfRows (n : ℕ) (entries : List Term) : Type 0 where
  pub each : All (λ (t : Term). t.col < n) entries

-- the terms of column j, each under the number of its row, which together give each row's coefficient of the column
pub record IsColumn (m : ModelParts) (cuts : List Row) (j : ℕ) (entries : List Term) : Type 0 where
  pub known : AreOfRows (length (all_rows m cuts)) entries
  pub light : sizes entries ≤ 2 ^ 81
  pub same : (k : ℕ) → coefficient k entries ≡ coefficient j (row_of m cuts k).terms

-- the terms of the rows by columns
pub record AreColumns (m : ModelParts) (cuts : List Row) (lists : List (List Term)) : Type 0 where
  pub long : length lists ≡ length m.cols
  pub each : (j : ℕ) → j < length m.cols → IsColumn m cuts j (slice_index_or lists j [])

-- how far the ends of each column are apart, the terms by columns, and the activities of the rows at the ends of the
-- kept costs
pub record HasActivities (m : ModelParts) (cuts : List Row) (s : Sides) (v : Reduced) : Type 0 where
  pub costs_long : length v.costs ≡ length m.cols
  pub widths_long : length v.widths ≡ length m.cols
  pub widths : (j : ℕ) → j < length m.cols → slice_index v.widths j ≡ spread s j
  pub columns : AreColumns m cuts v.columns
  pub active_long : length v.active ≡ length (all_rows m cuts)
  pub active : (k : ℕ) → k < length (all_rows m cuts) →
      int_at v.active k ≡ end_activity s (int_at v.costs) (row_of m cuts k).terms

-- what is kept is that of its multipliers: their numerator, their reduced costs, and the activities at the ends of these
pub record IsKept (m : ModelParts) (cuts : List Row) (s : Sides) (v : Reduced) : Type 0 where
  pub mults : AreMultipliers m cuts v.mults
  pub sum : v.numerator ≡ numerator m cuts s v.mults
  pub costs : (j : ℕ) → j < length m.cols → int_at v.costs j ≡ reduced_cost m cuts v.mults j
  pub activities : HasActivities m cuts s v

-- lists by columns after a row of number k was added to them: each column has gained its coefficient in the row
pub record HasRowAdded (k : ℕ) (terms : List Term) (old new : List (List Term)) : Type 0 where
  pub long : length new ≡ length old
  pub own : (j : ℕ) → j < length old →
      coefficient k (slice_index_or new j []) ≡
      coefficient k (slice_index_or old j []) +ℤ coefficient j terms
  pub others : (j i : ℕ) → i ≢ k →
      coefficient i (slice_index_or new j []) ≡ coefficient i (slice_index_or old j [])
  pub light : (j : ℕ) →
      sizes (slice_index_or new j []) ≤ sizes (slice_index_or old j []) + sizes terms
  pub known : (n j : ℕ) → k < n →
      AreOfRows n (slice_index_or old j []) → AreOfRows n (slice_index_or new j [])

-- what row k lacks at the ends of the kept costs
abbrev pub lack : ModelParts → List Row → Reduced → ℕ → ℤ
lack m cuts v k = (row_of m cuts k).least -ℤ int_at v.active k
