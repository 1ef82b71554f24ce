use Rattle.std.specs.Prelude.{ℕ, ◌≡◌, ◌≤◌, ◌+◌, List, length, ℤ, unsigned_abs, sum_by}
use Rattle.ip_core.specs.Numbers.{int_at, sum_below}
use Rattle.ip_core.specs.Sides.{Sides, HasLimits}
use Rattle.ip_core.specs.Rows.{AreRows, part_width}
use Rattle.ip_core.specs.declared.model.ModelParts.{ModelParts}
use Rattle.ip_core.specs.declared.row.Row.{Row}
use Rattle.ip_core.specs.declared.limits.TheConstants.{MAX_COLUMNS, MAX_ROWS, MAX_TERMS, MAX_WIDTH, MAX_DECIMALS}

-- the number of terms of all rows
abbrev pub term_count : List Row → ℕ
term_count rows = sum_by (λ row. length row.terms) rows

-- the width of an objective: a bound on its constant and on the value of every point of the box
abbrev pub objective_width : Sides → List ℤ → ℤ → ℕ
objective_width s costs constant =
    unsigned_abs constant + sum_below (length costs) (λ j. part_width s (int_at costs j) j)

-- costs, lows and highs stand for the same columns, few enough, and the bounds keep their limit
pub record HasBounds (m : ModelParts) : Type 0 where
  pub columns : length m.cols ≤ MAX_COLUMNS
  pub costs : length m.costs ≡ length m.cols
  pub box : length m.root.lows ≡ length m.cols
  pub highs : length m.root.highs ≡ length m.cols
  pub limits : HasLimits m.root

-- the rows and their terms are few enough
pub record HasFewRows (rows : List Row) : Type 0 where
  pub row_limit : length rows ≤ MAX_ROWS
  pub term_limit : term_count rows ≤ MAX_TERMS

-- the parts make a model: their lengths agree and each limit is kept
pub record IsModel (m : ModelParts) : Type 0 where
  pub bounds : HasBounds m
  pub few : HasFewRows m.rows
  pub rows : AreRows (length m.cols) m.root m.rows
  pub objective : objective_width m.root m.costs m.constant ≤ MAX_WIDTH
  pub decimals : m.decimals ≤ MAX_DECIMALS
