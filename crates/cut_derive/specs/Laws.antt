-- What holds of every derived row, and of cuts that were derived one after the other.
use Rattle.std.specs.Prelude.{◌≡◌, ◌≤◌, List, [], ◌∷◌, ◌++◌, length, ℤ, Ok, All}
use Rattle.ip_core.specs.Rows.{IsMet, IsRow, AreMet, AreRows}
use Rattle.ip_core.specs.Models.{IsModel}
use Rattle.ip_core.specs.Truth.{IsFeasible}
use Rattle.ip_core.specs.declared.model.ModelParts.{ModelParts}
use Rattle.ip_core.specs.declared.row.Row.{Row}
use Rattle.ip_core.specs.declared.derivation.Derivation.{Derivation}
use Rattle.leaf_truth.specs.Laws.{AreValidCuts}
use Rattle.cut_derive.specs.declared.limits.TheConstants.{MAX_CUT_TERMS}
use Rattle.cut_derive.specs.Derivations.{derived_row}

-- a row of the model's columns within the greatest width, with at most 256 terms
pub record IsCut (m : ModelParts) (row : Row) : Type 0 where
  pub valid : IsRow (length m.cols) m.root row
  pub short : length row.terms ≤ MAX_CUT_TERMS

-- each is such a row
pub record AreCutRows (m : ModelParts) (cuts : List Row) : Type 0 where
  pub each : All (IsCut m) cuts

-- each cut was derived from rows of the model and the cuts before it
pub data AreDerived (m : ModelParts) : List Row → Type 0 where
  NoCuts : AreDerived m []
  OneMore : (cuts : List Row) (d : Derivation) (row : Row) → AreDerived m cuts
      → derived_row m cuts d ≡ Ok row → AreDerived m (cuts ++ row ∷ [])

-- a feasible point that meets the cuts meets each row that is derived over them
abbrev pub DerivedRowIsMet : Type 0
DerivedRowIsMet =
    (m : ModelParts) (cuts : List Row) (d : Derivation) (row : Row) (x : List ℤ)
    → IsModel m → AreRows (length m.cols) m.root cuts → IsFeasible m x → AreMet x cuts
    → derived_row m cuts d ≡ Ok row → IsMet x row

-- a derived row is one like those of the model
abbrev pub DerivedRowIsCut : Type 0
DerivedRowIsCut =
    (m : ModelParts) (cuts : List Row) (d : Derivation) (row : Row)
    → IsModel m → AreRows (length m.cols) m.root cuts
    → derived_row m cuts d ≡ Ok row → IsCut m row

-- what is derived over cuts is derived with more cuts behind them
abbrev pub DerivedOverMore : Type 0
DerivedOverMore =
    (m : ModelParts) (cuts more : List Row) (d : Derivation) (row : Row)
    → derived_row m cuts d ≡ Ok row → derived_row m (cuts ++ more) d ≡ Ok row

-- cuts that were derived one after the other are rows like those of the model
abbrev pub DerivedAreCutRows : Type 0
DerivedAreCutRows =
    (m : ModelParts) (cuts : List Row) → IsModel m → AreDerived m cuts → AreCutRows m cuts

-- and each feasible point meets them
abbrev pub DerivedAreValid : Type 0
DerivedAreValid =
    (m : ModelParts) (cuts : List Row) → IsModel m → AreDerived m cuts → AreValidCuts m cuts
