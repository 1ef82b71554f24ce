-- What holds of separated cuts.
use Rattle.std.specs.Prelude.{ℕ, ◌≡◌, ◌≤◌, ◌+◌, List, ◌++◌, length, map, ℤ, Ok, All}
use Rattle.ip_core.specs.declared.model.ModelParts.{ModelParts}
use Rattle.ip_core.specs.declared.row.Row.{Row}
use Rattle.cut_derive.specs.Derivations.{derived_row}
use Rattle.cut_derive.specs.Laws.{AreDerived}
use Rattle.cut_derive.specs.declared.limits.TheConstants.{MAX_CUTS}
use Rattle.cut_separate.specs.Separation.{separated_cuts}
use Rattle.cut_separate.specs.declared.limits.TheConstants.{MAX_NEW_CUTS}
use Rattle.cut_separate.specs.declared.new_cut.NewCut.{NewCut}

-- new cuts over cuts: each has the row that its derivation gives, there are at most 16 of them, and
-- they don't lead past 512 cuts together
pub record AreNewCuts (m : ModelParts) (cuts : List Row) (new : List NewCut) : Type 0 where
  pub each : All (λ (c : NewCut). derived_row m cuts c.derivation ≡ Ok c.row) new
  pub few : length new ≤ MAX_NEW_CUTS
  pub together : length cuts ≤ MAX_CUTS → length cuts + length new ≤ MAX_CUTS

-- the rows of new cuts
abbrev pub rows_of_cuts : List NewCut → List Row
rows_of_cuts new = map (λ (c : NewCut). c.row) new

-- separated cuts are such ones
abbrev pub SeparatedAreNew : Type 0
SeparatedAreNew =
    (m : ModelParts) (cuts : List Row) (x : List ℤ) (ys : List ℕ)
    → AreNewCuts m cuts (separated_cuts m cuts x ys)

-- with their rows, cuts that were derived one after the other still are
abbrev pub NewCutsAreDerived : Type 0
NewCutsAreDerived =
    (m : ModelParts) (cuts : List Row) (new : List NewCut)
    → AreDerived m cuts → AreNewCuts m cuts new → AreDerived m (cuts ++ rows_of_cuts new)
