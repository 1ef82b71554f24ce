-- The numbers of a sample model, drawn from a state.
use Rattle.std.specs.Prelude.{ℕ, ◌≡◌, ◌≤◌, ◌+◌, ◌*◌, ◌==◌, ◌^◌, if◌then◌else◌, List, [], ◌∷◌, length, All}
use Rattle.sample_model.specs.declared.knapsack.Knapsack.{Knapsack}
use Rattle.sample_model.specs.Draws.{next, draw_below, series, after, positive_draws, AreAtMost}

-- the coefficient of a place: 1 plus a draw below 50 where a draw below 4 is 0, and 0 where it isn't
abbrev pub coefficient : ℕ → ℕ
coefficient z = if draw_below 4 z == 0 then 1 + draw_below 50 (next z) else 0

-- the state after a place
abbrev pub past_place : ℕ → ℕ
past_place z = if draw_below 4 z == 0 then next (next z) else next z

-- the coefficients of a row, column by column
abbrev pub row_coefficients : ℕ → ℕ → List ℕ
row_coefficients cols z = series coefficient past_place cols z

-- the coefficients of all rows, row by row
abbrev pub matrix : ℕ → ℕ → ℕ → List (List ℕ)
matrix rows cols z = series (row_coefficients cols) (after past_place cols) rows z

-- The numbers of so many rows and columns: first the upper bounds, from 1 to 3, then the sizes of the costs, from 1 to
-- 100, then the coefficients.
abbrev pub knapsack : ℕ → ℕ → ℕ → Knapsack
knapsack rows cols z = record {
  uppers = positive_draws 3 cols z;
  costs = positive_draws 100 cols (after next cols z);
  coefficients = matrix rows cols (after next cols (after next cols z));
}

-- the sum of coefficient times upper bound
abbrev pub greatest_sum : List ℕ → List ℕ → ℕ
greatest_sum [] uppers = 0
greatest_sum (c ∷ cs) [] = 0
greatest_sum (c ∷ cs) (u ∷ us) = c * u + greatest_sum cs us

-- coefficients of one row in so many columns
pub record IsRow (cols : ℕ) (coefficients : List ℕ) : Type 0 where
  pub as_many : length coefficients ≡ cols
  pub small : AreAtMost 50 coefficients

-- coefficients of rows in so many columns
pub record AreRows (cols : ℕ) (rows : List (List ℕ)) : Type 0 where
  pub each : All (IsRow cols) rows

-- numbers that can be drawn, for at most 2^20 rows and columns
pub record IsKnapsack (k : Knapsack) : Type 0 where
  pub uppers : AreAtMost 3 k.uppers
  pub costs : AreAtMost 100 k.costs
  pub as_many : length k.costs ≡ length k.uppers
  pub rows : AreRows (length k.uppers) k.coefficients
  pub few_rows : length k.coefficients ≤ 2 ^ 20
  pub few_columns : length k.uppers ≤ 2 ^ 20
