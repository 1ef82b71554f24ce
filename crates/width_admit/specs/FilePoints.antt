-- What a file's model says of a point of whole numbers, by the file's own decimals and sides. Decimals are counted in units
-- of 10^-18, the finest that there are, so every number here is whole and none depends on how a row is multiplied.
use Rattle.std.specs.Prelude.{ℕ, ◌≡◌, ◌+◌, ◌^◌, ◌==◌, if◌then◌else◌, Bool, true, false, List, [], ◌∷◌, length, ℤ, pos, negsuc, ◌+ℤ◌, ◌-ℤ◌, ◌*ℤ◌, ◌≤ℤ◌, unsigned_abs, Option, Some, None, option_map}
use Rattle.ip_core.specs.Numbers.{int_at, int_sum_by}
use Rattle.mps_model.specs.declared.model.Limit.{Limit}
use Rattle.mps_model.specs.declared.model.Limit.TheVariants.{Unset, Free, At}
use Rattle.mps_model.specs.declared.model.RowKind.{RowKind}
use Rattle.mps_model.specs.declared.model.RowKind.TheVariants.{Less, Greater, Equal}
use Rattle.mps_model.specs.declared.model.MpsEntry.{MpsEntry}
use Rattle.mps_model.specs.declared.model.MpsCol.{MpsCol}
use Rattle.mps_model.specs.declared.model.MpsRow.{MpsRow}
use Rattle.mps_model.specs.declared.model.MpsModel.{MpsModel}
use Rattle.width_admit.specs.Exact.{units}

-- what an entry adds to the coefficient of its column in row i: its number where it stands in that row
abbrev pub own_units : ℕ → MpsEntry → ℤ
own_units i e = if e.row == i then units e.value else pos 0

-- the coefficient of a column in row i, in units
abbrev pub coefficient_in : ℕ → MpsCol → ℤ
coefficient_in i c = int_sum_by (own_units i) c.entries

-- the sum over the columns from j on of each one's factor times its value at the point
abbrev pub sum_from : (MpsCol → ℤ) → List ℤ → ℕ → List MpsCol → ℤ
sum_from factor x j [] = pos 0
sum_from factor x j (c ∷ cs) = (factor c *ℤ int_at x j) +ℤ sum_from factor x (j + 1) cs

-- what row i adds up to at the point, in units
abbrev pub row_sum : List MpsCol → List ℤ → ℕ → ℤ
row_sum cols x i = sum_from (coefficient_in i) x 0 cols

-- A sum suits a row of this kind with right-hand side `b`, and with a range or none. A range lets it lie so far below `b`
-- where it is at most `b`, and so far above where it is at least `b`; of an equality the sign says to which side.
abbrev pub IsAllowed : RowKind → ℤ → Option ℤ → ℤ → Type 0
IsAllowed Less b None sum = sum ≤ℤ b
IsAllowed Less b (Some r) sum = ((b -ℤ pos (unsigned_abs r)) ≤ℤ sum) × (sum ≤ℤ b)
IsAllowed Greater b None sum = b ≤ℤ sum
IsAllowed Greater b (Some r) sum = (b ≤ℤ sum) × (sum ≤ℤ (b +ℤ pos (unsigned_abs r)))
IsAllowed Equal b None sum = sum ≡ b
IsAllowed Equal b (Some (pos r)) sum = (b ≤ℤ sum) × (sum ≤ℤ (b +ℤ pos r))
IsAllowed Equal b (Some (negsuc r)) sum = ((b +ℤ negsuc r) ≤ℤ sum) × (sum ≤ℤ b)

-- the point meets row i of the file
pub record IsFileRowMet (cols : List MpsCol) (x : List ℤ) (i : ℕ) (row : MpsRow) : Type 0 where
  pub allowed : IsAllowed row.kind (units row.rhs) (option_map units row.range) (row_sum cols x i)

-- the point meets the rows of the file from row i on
abbrev pub AreFileRowsMet : List MpsCol → List ℤ → ℕ → List MpsRow → Type 0
AreFileRowsMet cols x i [] = Unit {0}
AreFileRowsMet cols x i (row ∷ rows) =
    IsFileRowMet cols x i row × AreFileRowsMet cols x (i + 1) rows

-- a value suits the low of a file, which is 0 where the file says nothing
abbrev pub IsAboveLow : Limit → ℤ → Type 0
IsAboveLow Unset value = pos 0 ≤ℤ value
IsAboveLow Free value = Unit {0}
IsAboveLow (At low) value = units low ≤ℤ (value *ℤ pos (10 ^ 18))

-- a value suits the high that is given for columns without one
abbrev pub IsBelowGiven : Option ℕ → ℤ → Type 0
IsBelowGiven None value = Unit {0}
IsBelowGiven (Some high) value = value ≤ℤ pos high

-- a value suits the high of a file, or the given one where the file says nothing or free
abbrev pub IsBelowHigh : Option ℕ → Limit → ℤ → Type 0
IsBelowHigh upper Unset value = IsBelowGiven upper value
IsBelowHigh upper Free value = IsBelowGiven upper value
IsBelowHigh upper (At high) value = (value *ℤ pos (10 ^ 18)) ≤ℤ units high

-- a value suits a column
pub record IsColumnValue (upper : Option ℕ) (c : MpsCol) (value : ℤ) : Type 0 where
  pub above : IsAboveLow c.low value
  pub below : IsBelowHigh upper c.high value

-- each value of the point suits its column, from column j on
abbrev pub AreColumnValues : Option ℕ → List ℤ → ℕ → List MpsCol → Type 0
AreColumnValues upper x j [] = Unit {0}
AreColumnValues upper x j (c ∷ cs) =
    IsColumnValue upper c (int_at x j) × AreColumnValues upper x (j + 1) cs

-- the point is a solution of the file's model: a whole number for each column, within its bounds, that meet each row
pub record IsSolution (m : MpsModel) (upper : Option ℕ) (x : List ℤ) : Type 0 where
  pub one_each : length x ≡ length m.cols
  pub inside : AreColumnValues upper x 0 m.cols
  pub rows_met : AreFileRowsMet m.cols x 0 m.rows

-- the objective of the file at the point, in units: the constant and the sum of cost times value
abbrev pub file_objective : MpsModel → List ℤ → ℤ
file_objective m x = units m.constant +ℤ sum_from (λ c. units c.cost) x 0 m.cols

-- an objective is no worse than another: no less where the file maximises, and else no greater
abbrev pub IsNoWorse : Bool → ℤ → ℤ → Type 0
IsNoWorse true objective other = other ≤ℤ objective
IsNoWorse false objective other = objective ≤ℤ other

-- the point is a solution of the file's model, and none has a better objective
pub record IsBestSolution (m : MpsModel) (upper : Option ℕ) (x : List ℤ) : Type 0 where
  pub solution : IsSolution m upper x
  pub best :
      (y : List ℤ) → IsSolution m upper y
      → IsNoWorse m.maximise (file_objective m x) (file_objective m y)

-- the file's model has no solution
pub record HasNoSolution (m : MpsModel) (upper : Option ℕ) : Type 0 where
  pub none : (x : List ℤ) → IsSolution m upper x → ⊥
