-- Pairs of a row's name and a multiplier, in place of one multiplier for each row.
use Rattle.std.specs.Prelude.{ℕ, zero, suc, ◌+◌, ◌-◌, ◌==◌, Bool, true, false, ◌&&◌, if◌then◌else◌, List, [], ◌∷◌, ◌++◌, length, nat_lt, nat_le}
use Rattle.ip_core.specs.RowRefs.{is_before}
use Rattle.ip_core.specs.declared.row.Row.{Row}
use Rattle.ip_core.specs.declared.row_ref.RowRef.{RowRef}
use Rattle.ip_core.specs.declared.row_ref.RowRef.TheVariants.{Model, Cut}
use Rattle.ip_core.specs.declared.leaf.Pair.{Pair}
use Rattle.safe_bound.specs.declared.limits.TheConstants.{MAX_MULTIPLIER}
use Rattle.leaf_truth.specs.Steps.{has_row}

-- the name of the row at a place, where the n rows of a model stand before the cuts
abbrev pub name_at : ℕ → ℕ → RowRef
name_at n place = if nat_lt place n then Model place else Cut (place - n)

-- the place of the row of a name
abbrev pub place_of : ℕ → RowRef → ℕ
place_of n (Model i) = i
place_of n (Cut i) = n + i

-- whether two names are of one row
abbrev pub is_same_row : RowRef → RowRef → Bool
is_same_row (Model a) (Model b) = a == b
is_same_row (Model a) (Cut b) = false
is_same_row (Cut a) (Model b) = false
is_same_row (Cut a) (Cut b) = a == b

-- the weight of the first pair of this row, and 0 where there is none
abbrev pub weight_of : List Pair → RowRef → ℕ
weight_of [] name = 0
weight_of (p ∷ pairs) name = if is_same_row p.row name then p.weight else weight_of pairs name

-- the weight of each of some rows, which are named from a place on
abbrev pub weights_from : (ℕ → RowRef) → ℕ → List Row → List Pair → List ℕ
weights_from name place [] pairs = []
weights_from name place (row ∷ rows) pairs =
    weight_of pairs (name place) ∷ weights_from name (place + 1) rows pairs

-- one multiplier for each row of the model and then for each cut: the weight of its pair, and 0
-- where it has none
abbrev pub multipliers : List Row → List Row → List Pair → List ℕ
multipliers rows cuts pairs = weights_from (name_at (length rows)) 0 (rows ++ cuts) pairs

-- a pair for a multiplier above 0, and none for one of 0, before other pairs
abbrev pub with_pair : RowRef → ℕ → List Pair → List Pair
with_pair name zero pairs = pairs
with_pair name (suc y) pairs = record { row = name; weight = suc y } ∷ pairs

-- the pairs of multipliers above 0, whose rows are named from a place on
abbrev pub pairs_from : (ℕ → RowRef) → ℕ → List ℕ → List Pair
pairs_from name place [] = []
pairs_from name place (y ∷ ys) = with_pair (name place) y (pairs_from name (place + 1) ys)

-- the pairs of all multipliers above 0, in order: of n rows of a model, and then of cuts
abbrev pub pairs_of : ℕ → List ℕ → List Pair
pairs_of n ys = pairs_from (name_at n) 0 ys

-- whether a pair's row exists and its multiplier is at most 2^40
abbrev pub is_pair : List Row → List Row → Pair → Bool
is_pair rows cuts p = has_row rows cuts p.row && nat_le p.weight MAX_MULTIPLIER

-- whether the rows of pairs rise strictly, behind a row of this name
abbrev pub rise_after : RowRef → List Pair → Bool
rise_after name [] = true
rise_after name (p ∷ pairs) = is_before name p.row && rise_after p.row pairs

-- whether the rows of pairs rise strictly
abbrev pub are_rising : List Pair → Bool
are_rising [] = true
are_rising (p ∷ pairs) = rise_after p.row pairs
