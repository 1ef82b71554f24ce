-- Worked rows of derivations.
use Rattle.std.proofs.Common.{◌≡◌, ℕ, List, [], ◌∷◌, false, pos, negsuc, Ok, Err, refl}
use Rattle.ip_core.specs.Sides.{Sides}
use Rattle.ip_core.specs.declared.model.ModelParts.{ModelParts}
use Rattle.ip_core.specs.declared.row.Row.{Row}
use Rattle.ip_core.specs.declared.row_ref.RowRef.TheVariants.{Model, Cut}
use Rattle.ip_core.specs.declared.derivation.Derivation.TheVariants.{Gomory, Cover}
use Rattle.cut_derive.specs.Derivations.{derived_row}
use Rattle.cut_derive.specs.declared.refusal.Refusal.TheVariants.{UnknownRow, BadNumbers, NotBinary, NotCover}

-- a model of some columns with a box and rows, and no costs
abbrev pub model : List (List ℕ) → Sides → List Row → ModelParts
model cols root rows = record { name = 109 ∷ []; cols = cols; costs = []; constant = pos 0; decimals = 0; maximise = false; root = root; rows = rows }

-- two columns from 0 to 1, with 2x + 2y >= 3
abbrev pair : ModelParts
pair = model ((120 ∷ []) ∷ (121 ∷ []) ∷ []) (record { lows = pos 0 ∷ pos 0 ∷ []; highs = pos 1 ∷ pos 1 ∷ [] }) (record { terms = record { col = 0; coef = pos 2 } ∷ record { col = 1; coef = pos 2 } ∷ []; least = pos 3 } ∷ [])

halved : derived_row pair [] (Gomory (record { row = Model 0; weight = 1 } ∷ []) 2) ≡ Ok (record { terms = record { col = 0; coef = pos 1 } ∷ record { col = 1; coef = pos 1 } ∷ []; least = pos 2 })
halved = refl

-- three columns from 0 to 1, with -3x - 3y - 3z >= -5
abbrev triple : ModelParts
triple = model ((120 ∷ []) ∷ (121 ∷ []) ∷ (122 ∷ []) ∷ []) (record { lows = pos 0 ∷ pos 0 ∷ pos 0 ∷ []; highs = pos 1 ∷ pos 1 ∷ pos 1 ∷ [] }) (record { terms = record { col = 0; coef = negsuc 2 } ∷ record { col = 1; coef = negsuc 2 } ∷ record { col = 2; coef = negsuc 2 } ∷ []; least = negsuc 4 } ∷ [])

covered : derived_row triple [] (Cover (Model 0) (0 ∷ 1 ∷ [])) ≡ Ok (record { terms = record { col = 0; coef = negsuc 0 } ∷ record { col = 1; coef = negsuc 0 } ∷ []; least = negsuc 0 })
covered = refl

uncovered : derived_row triple [] (Cover (Model 0) (0 ∷ [])) ≡ Err NotCover
uncovered = refl

-- the first column that isn't in the model
unfit : derived_row triple [] (Cover (Model 0) (0 ∷ 7 ∷ 9 ∷ [])) ≡ Err (NotBinary 7)
unfit = refl

unknown : derived_row triple [] (Cover (Cut 0) []) ≡ Err UnknownRow
unknown = refl

none_chosen : derived_row triple [] (Cover (Model 0) []) ≡ Err BadNumbers
none_chosen = refl

-- one column from 2 to 5: 3x >= 7 is 3(x - 2) >= 1, so x - 2 >= 1 after the division by 2 makes 2(x - 2) >= 1
abbrev shifted : ModelParts
shifted = model ((120 ∷ []) ∷ []) (record { lows = pos 2 ∷ []; highs = pos 5 ∷ [] }) (record { terms = record { col = 0; coef = pos 3 } ∷ []; least = pos 7 } ∷ [])

rounded_above_lows : derived_row shifted [] (Gomory (record { row = Model 0; weight = 1 } ∷ []) 2) ≡ Ok (record { terms = record { col = 0; coef = pos 2 } ∷ []; least = pos 5 })
rounded_above_lows = refl
