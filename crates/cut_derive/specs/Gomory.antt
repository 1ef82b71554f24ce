-- Rows from a weighted sum of rows, divided and rounded up.
use Rattle.std.specs.Prelude.{ℕ, zero, suc, Bool, ◌&&◌, List, [], ◌++◌, length, nat_le, ℤ, pos, ◌+ℤ◌, ◌-ℤ◌, ◌*ℤ◌}
use Rattle.std.specs.List.{list_all}
use Rattle.ip_core.specs.Numbers.{int_at, int_sum_by, int_sum_below}
use Rattle.ip_core.specs.Sides.{Sides}
use Rattle.ip_core.specs.Rows.{coefficient}
use Rattle.ip_core.specs.Dense.{dense_term}
use Rattle.ip_core.specs.Quotients.{ceiling_quotient}
use Rattle.ip_core.specs.declared.model.ModelParts.{ModelParts}
use Rattle.ip_core.specs.declared.row.Row.{Row}
use Rattle.ip_core.specs.declared.row.Term.{Term}
use Rattle.ip_core.specs.declared.leaf.Pair.{Pair}
use Rattle.row_propagate.specs.Replay.{row_named}
use Rattle.safe_bound.specs.declared.limits.TheConstants.{MAX_MULTIPLIER}
use Rattle.leaf_truth.specs.Steps.{has_row}
use Rattle.leaf_truth.specs.Multipliers.{are_rising}
use Rattle.cut_derive.specs.declared.limits.TheConstants.{MAX_DIVISOR, MAX_PARTS}

-- the sum over parts of weight times what `f` gives for the part's row
abbrev pub part_sum : (Row → ℤ) → List Row → List Row → List Pair → ℤ
part_sum f rows cuts parts =
    int_sum_by (λ p. pos p.weight *ℤ f (row_named rows cuts p.row)) parts

-- the coefficient of column j in the weighted sum of the rows
abbrev pub combined_coefficient : List Row → List Row → List Pair → ℕ → ℤ
combined_coefficient rows cuts parts j = part_sum (λ row. coefficient j row.terms) rows cuts parts

-- what the weighted sum of the rows asks for
abbrev pub combined_least : List Row → List Row → List Pair → ℤ
combined_least rows cuts parts = part_sum (λ row. row.least) rows cuts parts

-- the coefficient of column j divided and rounded up
abbrev pub rounded_coefficient : (ℕ → ℤ) → ℕ → ℕ → ℤ
rounded_coefficient a divisor j = ceiling_quotient (a j) (pos divisor)

-- what coefficients of the first n columns give at the lows of the box
abbrev pub low_sum : ℕ → Sides → (ℕ → ℤ) → ℤ
low_sum n s a = int_sum_below n (λ j. a j *ℤ int_at s.lows j)

-- what coefficients ask for above the lows, divided and rounded up, and then from 0 again
abbrev pub rounded_least : ℕ → Sides → (ℕ → ℤ) → ℤ → ℕ → ℤ
rounded_least n s a b divisor =
    ceiling_quotient (b -ℤ low_sum n s a) (pos divisor)
    +ℤ low_sum n s (rounded_coefficient a divisor)

-- the terms of the coefficients of the first n columns, without those that are 0
abbrev pub terms_below : ℕ → (ℕ → ℤ) → List Term
terms_below zero a = []
terms_below (suc n) a = terms_below n a ++ dense_term n (a n)

-- the row of coefficients of the first n columns and of what they ask for, divided and rounded up
abbrev pub rounded_row : ℕ → Sides → (ℕ → ℤ) → ℤ → ℕ → Row
rounded_row n s a b divisor = record {
  terms = terms_below n (rounded_coefficient a divisor);
  least = rounded_least n s a b divisor;
}

-- the row of parts and a divisor
abbrev pub gomory_row : ModelParts → List Row → List Pair → ℕ → Row
gomory_row m cuts parts divisor =
    rounded_row (length m.cols) m.root (combined_coefficient m.rows cuts parts)
    (combined_least m.rows cuts parts) divisor

-- whether each part's row is one of the model or a cut
abbrev pub are_known : List Row → List Row → List Pair → Bool
are_known rows cuts parts = list_all (λ p. has_row rows cuts p.row) parts

-- whether a part's weight is 1 to 2^40
abbrev pub has_weight : Pair → Bool
has_weight p = nat_le 1 p.weight && nat_le p.weight MAX_MULTIPLIER

-- whether a number of parts or columns is 1 to 256
abbrev pub is_count : ℕ → Bool
is_count n = nat_le 1 n && nat_le n MAX_PARTS

-- whether a divisor is 1 to 2^62
abbrev pub is_divisor : ℕ → Bool
is_divisor divisor = nat_le 1 divisor && nat_le divisor MAX_DIVISOR

-- whether the divisor, the number of parts and their weights are in range, and the rows rise
abbrev pub are_weights : List Pair → ℕ → Bool
are_weights parts divisor =
    is_divisor divisor && is_count (length parts) && list_all has_weight parts && are_rising parts
