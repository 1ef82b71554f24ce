-- Rows weighted by multipliers.
use Rattle.std.specs.Prelude.{ℕ, ◌==◌, if◌then◌else◌, List, [], ◌∷◌, ℤ, pos, ◌+ℤ◌, ◌*ℤ◌}
use Rattle.ip_core.specs.Rows.{coefficient}
use Rattle.ip_core.specs.Numbers.{int_sum_by}
use Rattle.ip_core.specs.declared.row.Row.{Row}
use Rattle.ip_core.specs.declared.row.Term.{Term}

-- the sum over rows of multiplier times what `f` gives for the row; rows and multipliers stand in one order
abbrev pub weighted_sum : (Row → ℤ) → List Row → List ℕ → ℤ
weighted_sum f [] ys = pos 0
weighted_sum f (row ∷ rows) [] = pos 0
weighted_sum f (row ∷ rows) (y ∷ ys) = (pos y *ℤ f row) +ℤ weighted_sum f rows ys

-- the sum over rows of multiplier times the coefficient of column j
abbrev pub weighted_coefficient : ℕ → List Row → List ℕ → ℤ
weighted_coefficient j rows ys = weighted_sum (λ row. coefficient j row.terms) rows ys

-- the sum over rows of multiplier times the row's `least`
abbrev pub weighted_least : List Row → List ℕ → ℤ
weighted_least rows ys = weighted_sum (λ row. row.least) rows ys
