-- Small models in plain numbers.
use Rattle.std.specs.Prelude.{ℕ, ◌≡◌, ◌+◌, if◌then◌else◌, List, [], ◌∷◌, ◌++◌, length, map, replicate, ℤ, pos, false, All}
use Rattle.std.specs.Ordering.{int_eq}
use Rattle.ip_core.specs.Models.{IsModel}
use Rattle.ip_core.specs.declared.dense.DenseModel.{DenseModel}
use Rattle.ip_core.specs.declared.dense.DenseRow.{DenseRow}
use Rattle.ip_core.specs.declared.model.ModelParts.{ModelParts}
use Rattle.ip_core.specs.declared.row.Row.{Row}
use Rattle.ip_core.specs.declared.row.Term.{Term}

-- the term of a coefficient of column j, or none where the coefficient is 0
abbrev pub dense_term : ℕ → ℤ → List Term
dense_term j coef = if int_eq coef (pos 0) then [] else record { col = j; coef = coef } ∷ []

-- the terms of coefficients, the first of which is that of column j
abbrev pub dense_terms : ℕ → List ℤ → List Term
dense_terms j [] = []
dense_terms j (coef ∷ coefs) = dense_term j coef ++ dense_terms (j + 1) coefs

-- the row of a dense row
abbrev pub dense_row : DenseRow → Row
dense_row d = record { terms = dense_terms 0 d.coefs.now; least = d.least }

-- the rows of dense rows
abbrev pub dense_rows : List DenseRow → List Row
dense_rows rows = map dense_row rows

-- the parts that a dense model stands for: each name is `x`, and it minimises in whole numbers
abbrev pub dense_parts : DenseModel → ModelParts
dense_parts d = record {
  name = 120 ∷ [];
  cols = replicate (length d.costs.now) (120 ∷ []);
  costs = d.costs.now;
  constant = pos 0;
  decimals = 0;
  maximise = false;
  root = record { lows = d.lows.now; highs = d.highs.now };
  rows = dense_rows d.rows.now;
}

-- each row has n coefficients
pub record HasColumns (n : ℕ) (rows : List DenseRow) : Type 0 where
  pub each : All (λ row. length row.coefs.now ≡ n) rows

-- each row has a coefficient for each cost, and the parts make a model
pub record IsDense (d : DenseModel) : Type 0 where
  pub columns : HasColumns (length d.costs.now) d.rows.now
  pub model : IsModel (dense_parts d)
