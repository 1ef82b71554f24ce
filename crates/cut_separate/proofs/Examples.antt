-- Worked rows of separation.
use Rattle.std.proofs.Common.{◌≡◌, [], ◌∷◌, pos, negsuc, refl}
use Rattle.ip_core.specs.declared.model.ModelParts.{ModelParts}
use Rattle.ip_core.specs.declared.row_ref.RowRef.TheVariants.{Model}
use Rattle.ip_core.specs.declared.derivation.Derivation.TheVariants.{Gomory, Cover}
use Rattle.cut_derive.proofs.Examples.{model}
use Rattle.cut_separate.specs.Candidates.{divisors_of, cover_of}
use Rattle.cut_separate.specs.Separation.{separated_cuts}
use Rattle.cut_separate.specs.declared.new_cut.NewCut.{NewCut}

-- one column from 0 to 5 with 2x >= 3
abbrev single : ModelParts
single = model ((120 ∷ []) ∷ []) (record { lows = pos 0 ∷ []; highs = pos 5 ∷ [] }) (record { terms = record { col = 0; coef = pos 2 } ∷ []; least = pos 3 } ∷ [])

abbrev own_cut : NewCut
own_cut = record { derivation = Gomory (record { row = Model 0; weight = 1 } ∷ []) 2; row = record { terms = record { col = 0; coef = pos 1 } ∷ []; least = pos 2 } }

abbrev combined_cut : NewCut
combined_cut = record { derivation = Gomory (record { row = Model 0; weight = 512 } ∷ []) 2048; row = record { terms = record { col = 0; coef = pos 1 } ∷ []; least = pos 1 } }

separated : separated_cuts single [] (pos 0 ∷ []) (512 ∷ []) ≡ own_cut ∷ combined_cut ∷ []
separated = refl

-- a coefficient of 1 takes up no place among the divisors
divided : divisors_of (record { terms = record { col = 0; coef = pos 1 } ∷ record { col = 1; coef = negsuc 2 } ∷ record { col = 2; coef = pos 3 } ∷ record { col = 3; coef = pos 2 } ∷ []; least = pos 0 }) ≡ 3 ∷ 2 ∷ []
divided = refl

-- 5x + 3y + 4z at their bad ends, where the row leaves 6: x and z are more
taken_most : cover_of (pos 6) (Model 0) (record { col = 0; coef = pos 5 } ∷ record { col = 1; coef = pos 3 } ∷ record { col = 2; coef = negsuc 3 } ∷ []) ≡ Cover (Model 0) (0 ∷ 2 ∷ []) ∷ []
taken_most = refl

-- all of them together are no more than 12
taken_none : cover_of (pos 12) (Model 0) (record { col = 0; coef = pos 5 } ∷ record { col = 1; coef = pos 3 } ∷ record { col = 2; coef = negsuc 3 } ∷ []) ≡ []
taken_none = refl
