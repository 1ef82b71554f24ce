use Rattle.std.specs.Prelude.{◌==◌, if◌then◌else◌, ℕ, ◌≤◌, ◌<◌, ◌≢◌, ◌+◌, ◌*◌, List, length, map, ℤ, pos, ◌*ℤ◌, ◌≤ℤ◌, unsigned_abs, sum_by, All}
use Rattle.std.specs.List.Sorted.{IsStrictlyIncreasing}
use Rattle.ip_core.specs.Numbers.{int_at, int_sum_by}
use Rattle.ip_core.specs.Sides.{Sides, reach}
use Rattle.ip_core.specs.declared.row.Term.{Term}
use Rattle.ip_core.specs.declared.row.Row.{Row}
use Rattle.ip_core.specs.declared.limits.TheConstants.{MAX_COLUMNS, MAX_WIDTH}

-- what terms add up to at a point: the sum of coefficient times value
abbrev pub activity : List ℤ → List Term → ℤ
activity x terms = int_sum_by (λ t. t.coef *ℤ int_at x t.col) terms

-- what a term adds to the coefficient of column j: its own coefficient where it stands at j
abbrev pub own_coefficient : ℕ → Term → ℤ
own_coefficient j t = if t.col == j then t.coef else pos 0

-- the coefficient of column j in terms, and 0 where it doesn't stand in them
abbrev pub coefficient : ℕ → List Term → ℤ
coefficient j terms = int_sum_by (own_coefficient j) terms

-- the point meets the row: its activity is at least the row's `least`
pub record IsMet (x : List ℤ) (row : Row) : Type 0 where
  pub reached : row.least ≤ℤ activity x row.terms

-- the point meets each row
pub record AreMet (x : List ℤ) (rows : List Row) : Type 0 where
  pub each : All (IsMet x) rows

-- how large a coefficient times a column's value can become over a box
abbrev pub part_width : Sides → ℤ → ℕ → ℕ
part_width s coef j = unsigned_abs coef * reach s j

-- the same of a term
abbrev pub term_width : Sides → Term → ℕ
term_width s t = part_width s t.coef t.col

-- the width of a row: a bound on its activity and on its `least`
abbrev pub row_width : Sides → Row → ℕ
row_width s row = unsigned_abs row.least + sum_by (term_width s) row.terms

-- a term of a model with n columns
pub record IsTerm (n : ℕ) (t : Term) : Type 0 where
  pub known : t.col < n
  pub nonzero : t.coef ≢ pos 0

-- each term is one of a model with n columns
pub record AreTerms (n : ℕ) (terms : List Term) : Type 0 where
  pub each : All (IsTerm n) terms

-- a row of a model with n columns: rising columns, no zero, and a width within the limit
pub record IsRow (n : ℕ) (s : Sides) (row : Row) : Type 0 where
  pub terms : AreTerms n row.terms
  pub rising : IsStrictlyIncreasing (map (λ t. t.col) row.terms)
  pub narrow : row_width s row ≤ MAX_WIDTH

-- each row is one of a model with n columns
pub record AreRows (n : ℕ) (s : Sides) (rows : List Row) : Type 0 where
  pub each : All (IsRow n s) rows

-- a row whose columns are those of the box and whose width over the box is within the limit
pub record IsReady (s : Sides) (row : Row) : Type 0 where
  pub terms : AreTerms (length s.lows) row.terms
  pub narrow : row_width s row ≤ MAX_WIDTH

-- each row is ready for the box
pub record AreReady (s : Sides) (rows : List Row) : Type 0 where
  pub each : All (IsReady s) rows

-- the row has no more terms than a model has columns
pub record IsShort (row : Row) : Type 0 where
  pub few : length row.terms ≤ MAX_COLUMNS

-- so has each row
pub record AreShort (rows : List Row) : Type 0 where
  pub each : All IsShort rows
