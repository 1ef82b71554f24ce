-- Greatest activities that are kept while columns of a box change, and the columns' entries in the rows.
use Rattle.std.specs.Prelude.{ℕ, ◌≡◌, ◌≤◌, ◌<◌, ◌+◌, ◌==◌, if◌then◌else◌, List, [], ◌∷◌, ◌++◌, length, map, slice_index_or, slice_set, ℤ, pos, ◌-ℤ◌, ◌*ℤ◌, ◌≤ℤ◌}
use Rattle.std.specs.Int.{int_max}
use Rattle.ip_core.specs.Numbers.{int_at, int_sum_by}
use Rattle.ip_core.specs.Sides.{Sides}
use Rattle.ip_core.specs.Boxes.{IsWithinReach, greatest_activity}
use Rattle.ip_core.specs.Rows.{AreRows}
use Rattle.ip_core.specs.declared.model.ModelParts.{ModelParts}
use Rattle.ip_core.specs.declared.row.Row.{Row}
use Rattle.ip_core.specs.declared.row.Term.{Term}
use Rattle.row_propagate.specs.declared.activities.Activities.{Activities}

-- the coefficients of the terms that stand at column j, in order
abbrev pub coefs_at : ℕ → List Term → List ℤ
coefs_at j [] = []
coefs_at j (t ∷ terms) = if t.col == j then t.coef ∷ coefs_at j terms else coefs_at j terms

-- an entry of a column: its coefficient in the row of this number
abbrev pub entry : ℕ → ℤ → Term
entry row coef = record { col = row; coef = coef }

-- the entries of column j in rows that are numbered from i on
abbrev pub entries : ℕ → ℕ → List Row → List Term
entries j i [] = []
entries j i (row ∷ rows) = map (entry i) (coefs_at j row.terms) ++ entries j (i + 1) rows

-- for each of n columns its entries in the rows
pub record AreColumns (n : ℕ) (rows : List Row) (columns : List (List Term)) : Type 0 where
  pub one_each : length columns ≡ n
  pub each : (j : ℕ) → j < n → slice_index_or columns j [] ≡ entries j 0 rows

-- each column has gained its entries in a row of number i
pub record HasRowAdded (i : ℕ) (terms : List Term) (old new : List (List Term)) : Type 0 where
  pub each : (j : ℕ) →
      slice_index_or new j [] ≡ slice_index_or old j [] ++ map (entry i) (coefs_at j terms)

-- each row's greatest activity over the box
pub record AreSums (rows : List Row) (s : Sides) (sums : List ℤ) : Type 0 where
  pub one_each : length sums ≡ length rows
  pub each : (k : ℕ) (other : Row) → k < length rows →
      int_at sums k ≡ greatest_activity s (slice_index_or rows k other).terms

-- the rows of a model and then cuts, each of whose columns rise, and a box that reaches no further than the root box
pub record AreKeepable (m : ModelParts) (cuts : List Row) (s : Sides) : Type 0 where
  pub of_rows : AreRows (length m.cols) m.root m.rows
  pub of_cuts : AreRows (length m.cols) m.root cuts
  pub box : length m.root.lows ≡ length m.cols
  pub paired : length s.highs ≡ length s.lows
  pub reach : IsWithinReach m.root s

-- what is kept is that of the model's rows, then the cuts, over the box
pub record IsKept (m : ModelParts) (cuts : List Row) (s : Sides) (a : Activities) : Type 0 where
  pub fit : AreKeepable m cuts s
  pub sums : AreSums (m.rows ++ cuts) s a.sums
  pub columns : AreColumns (length m.cols) (m.rows ++ cuts) a.columns

-- the box with both ends of a column replaced
abbrev pub with_ends : Sides → ℕ → ℤ → ℤ → Sides
with_ends s j low high = record { lows = slice_set s.lows j low; highs = slice_set s.highs j high }

-- a column of the box goes from its ends to others, which lie in the root box and aren't crossed
pub record IsMove (m : ModelParts) (s : Sides) (j : ℕ) (low high new_low new_high : ℤ)
    : Type 0 where
  pub known : j < length m.cols
  pub from_low : int_at s.lows j ≡ low
  pub from_high : int_at s.highs j ≡ high
  pub uncrossed : low ≤ℤ high
  pub above : int_at m.root.lows j ≤ℤ new_low
  pub ordered : new_low ≤ℤ new_high
  pub below : new_high ≤ℤ int_at m.root.highs j

-- what is kept is that of some model, cuts and box, whose column may go so
pub record IsMovable (a : Activities) (j : ℕ) (low high new_low new_high : ℤ) : Type 0 where
  pub model : ModelParts
  pub cuts : List Row
  pub sides : Sides
  pub kept : IsKept model cuts sides a
  pub move : IsMove model sides j low high new_low new_high

-- the most that a coefficient adds over a column from low to high
abbrev pub greatest_product : ℤ → ℤ → ℤ → ℤ
greatest_product low high c = int_max (c *ℤ low) (c *ℤ high)

-- by how much an activity changes where a column with these coefficients in the row goes to other ends
abbrev pub moved_by : ℤ → ℤ → ℤ → ℤ → List ℤ → ℤ
moved_by low high new_low new_high coefs =
    int_sum_by (λ c. greatest_product new_low new_high c -ℤ greatest_product low high c) coefs
