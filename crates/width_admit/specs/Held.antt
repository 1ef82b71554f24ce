-- Numbers held down, so that they fit a word: what is above 2^52 is above every limit.
use Rattle.std.specs.Prelude.{ℕ, ◌≡◌, ◌≤◌, ◌+◌, ◌*◌, ◌<◌, ◌^◌, min, Bool, true, nat_le, int_lt, List, [], ◌∷◌, length, map, ℤ, pos, unsigned_abs, slice_index_or, Option, Some, None, option_map, ◌++◌, ◌||◌, false, nat_lt, if◌then◌else◌}
use Rattle.ip_core.specs.Decimals.{Number, signed_number}
use Rattle.ip_core.specs.declared.row.Row.{Row}
use Rattle.ip_core.specs.declared.row.Term.{Term}
use Rattle.mps_model.specs.declared.model.MpsRow.{MpsRow}
use Rattle.mps_model.specs.declared.model.MpsCol.{MpsCol}
use Rattle.width_admit.specs.declared.scale.TheConstants.{CAP}
use Rattle.width_admit.specs.declared.sides.RowSides.{RowSides}
use Rattle.width_admit.specs.Exact.{units, whole, are_whole}
use Rattle.ip_core.specs.Rows.{AreTerms}
use Rattle.width_admit.specs.declared.gather.Coefficient.{Coefficient}
use Rattle.width_admit.specs.Gathered.{exact}
use Rattle.width_admit.specs.Sides.{sides, side_count}
use Rattle.width_admit.specs.ExactRows.{exact_terms, rows_of, exact_row, row_exponent, negated_terms, lower_rows, upper_rows}
use Rattle.width_admit.specs.Columns.{is_continuous, has_negative_upper, is_unbounded, has_large_bound}
use Rattle.ip_core.specs.Sides.{Sides, reach}
use Rattle.width_admit.specs.declared.columns.ColumnFault.{ColumnFault}
use Rattle.width_admit.specs.declared.columns.ColumnFault.TheVariants.{Continuous, NegativeUpper, Unbounded, BoundTooLarge}
use Rattle.ip_core.specs.declared.limits.TheConstants.{MAX_WIDTH}

-- the number, or 2^52 under its sign where it reaches further from 0
abbrev pub held_number : ℤ → ℤ
held_number z = signed_number (int_lt z (pos 0)) (min (unsigned_abs z) CAP)

-- 10^k makes all of these units whole exactly from k = n on
pub record IsFinest (zs : List ℤ) (n : ℕ) : Type 0 where
  pub small : n ≤ 18
  pub each : (k : ℕ) → k ≤ 18 → are_whole zs k ≡ nat_le n k

-- a decimal as a whole number under 10^k, held down
abbrev pub held_whole : ℕ → Number → ℤ
held_whole k value = held_number (whole k (units value))

-- a term under 10^k, held down
abbrev pub held_term : ℕ → Term → Term
held_term k t = record { col = t.col; coef = held_number (whole k t.coef) }

-- the same of terms
abbrev pub held_terms : ℕ → List Term → List Term
held_terms k terms = map (held_term k) terms

-- the sides of a row of the file under 10^k, held down before they are added
abbrev pub held_sides : ℕ → MpsRow → RowSides
held_sides k row = sides row.kind (held_whole k row.rhs) (option_map (held_whole k) row.range)

-- the rows of at least of a row of the file under 10^k, held down
abbrev pub held_rows : ℕ → List Term → MpsRow → List Row
held_rows k terms row = rows_of (held_terms k terms) (held_sides k row)

-- the same from row i on
abbrev pub held_rows_from : List MpsCol → ℕ → List MpsRow → List Row
held_rows_from cols i [] = []
held_rows_from cols i (row ∷ rows) =
    held_rows (row_exponent (exact_row cols i row)) (exact_terms i 0 cols) row
    ++ held_rows_from cols (i + 1) rows

-- the width of terms and a side is above 2^50
abbrev pub is_wide_side : ℕ → Option ℤ → Bool
is_wide_side width None = false
is_wide_side width (Some side) = nat_lt MAX_WIDTH (width + unsigned_abs side)

-- that of terms and one of two sides is
abbrev pub has_wide_side : ℕ → RowSides → Bool
has_wide_side width sides = is_wide_side width sides.lower || is_wide_side width sides.upper

-- terms as they stand, or negated
abbrev pub terms_under_sign : Bool → List Term → List Term
terms_under_sign negate terms = if negate then negated_terms terms else terms

-- the rows of one side: as they stand of a lower side, and negated of an upper one
abbrev pub side_rows : Bool → List Term → Option ℤ → List Row
side_rows false terms side = lower_rows terms side
side_rows true terms side = upper_rows terms side

-- the absolute costs of columns under 10^k, held down, times the reach of their columns in the box, added up from column j on
abbrev pub costs_width_from : Sides → ℕ → ℕ → List MpsCol → ℕ
costs_width_from box k j [] = 0
costs_width_from box k j (c ∷ cs) =
    unsigned_abs (held_whole k c.cost) * reach box j + costs_width_from box k (j + 1) cs

-- the same over all columns
abbrev pub costs_width : Sides → ℕ → List MpsCol → ℕ
costs_width box k cols = costs_width_from box k 0 cols

-- the column is refused for this reason
abbrev pub has_fault : ColumnFault → Option ℕ → MpsCol → Bool
has_fault Continuous upper c = is_continuous c
has_fault NegativeUpper upper c = has_negative_upper c
has_fault Unbounded upper c = is_unbounded upper c
has_fault BoundTooLarge upper c = has_large_bound upper c

-- the terms of the rows of at least of rows from row i on, whose coefficients are in lists
abbrev pub terms_from : List (List Coefficient) → ℕ → List MpsRow → ℕ
terms_from lists i [] = 0
terms_from lists i (row ∷ rows) =
    side_count row * length (slice_index_or lists i []) + terms_from lists (i + 1) rows

-- the coefficients of each row belong to n columns and are few
pub record AreUsable (n : ℕ) (lists : List (List Coefficient)) : Type 0 where
  pub known : (i : ℕ) → i < length lists → AreTerms n (exact (slice_index_or lists i []))
  pub short : (i : ℕ) → i < length lists → length (slice_index_or lists i []) ≤ 2 ^ 30
