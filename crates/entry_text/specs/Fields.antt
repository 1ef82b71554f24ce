-- The fields of a line: each a blank, and a number or a name.
use Rattle.std.specs.Prelude.{ℕ, List, [], ◌∷◌, ◌++◌, ℤ, codes}
use Rattle.std.specs.Fmt.{decimal, signed_decimal}
use Rattle.ip_core.specs.declared.leaf.Pair.{Pair}
use Rattle.ip_core.specs.declared.row_ref.RowRef.{RowRef}
use Rattle.ip_core.specs.declared.row_ref.RowRef.TheVariants.{Model, Cut}

-- a blank and a number
abbrev pub number_field : ℕ → List ℕ
number_field n = codes " " ++ decimal n

-- a blank and a number with its sign
abbrev pub signed_field : ℤ → List ℕ
signed_field z = codes " " ++ signed_decimal z

-- numbers with their signs, in order
abbrev pub signed_fields : List ℤ → List ℕ
signed_fields [] = []
signed_fields (z ∷ zs) = signed_field z ++ signed_fields zs

-- numbers in order
abbrev pub number_fields : List ℕ → List ℕ
number_fields [] = []
number_fields (n ∷ ns) = number_field n ++ number_fields ns

-- a blank and the name of a row: `r` and the number of a row of the model, or `k` and that of a cut
abbrev pub row_field : RowRef → List ℕ
row_field (Model row) = codes " r" ++ decimal row
row_field (Cut cut) = codes " k" ++ decimal cut

-- rows with their weights, in order
abbrev pub pair_fields : List Pair → List ℕ
pair_fields [] = []
pair_fields (pair ∷ pairs) = row_field pair.row ++ number_field pair.weight ++ pair_fields pairs
