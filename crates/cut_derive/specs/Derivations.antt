-- The row of a derivation, or the first reason that refuses it.
use Rattle.std.specs.Prelude.{ℕ, if◌then◌else◌, List, length, nat_le, Option, Some, None, Result, Ok, Err}
use Rattle.ip_core.specs.Sides.{Sides}
use Rattle.ip_core.specs.Rows.{row_width}
use Rattle.ip_core.specs.declared.limits.TheConstants.{MAX_WIDTH}
use Rattle.ip_core.specs.declared.model.ModelParts.{ModelParts}
use Rattle.ip_core.specs.declared.row.Row.{Row}
use Rattle.ip_core.specs.declared.row_ref.RowRef.{RowRef}
use Rattle.ip_core.specs.declared.leaf.Pair.{Pair}
use Rattle.ip_core.specs.declared.derivation.Derivation.{Derivation}
use Rattle.ip_core.specs.declared.derivation.Derivation.TheVariants.{Gomory, Cover}
use Rattle.row_propagate.specs.Replay.{row_named}
use Rattle.leaf_truth.specs.Steps.{has_row}
use Rattle.cut_derive.specs.Gomory.{are_known, are_weights, gomory_row}
use Rattle.cut_derive.specs.Covers.{are_columns, cover_row, first_unfit, is_cover}
use Rattle.cut_derive.specs.declared.limits.TheConstants.{MAX_CUT_TERMS}
use Rattle.cut_derive.specs.declared.refusal.Refusal.{Refusal}
use Rattle.cut_derive.specs.declared.refusal.Refusal.TheVariants.{UnknownRow, BadNumbers, NotBinary, NotCover, TooWide, TooLong}

-- the row, unless its width is above 2^50 or it has more than 256 terms
abbrev pub unless_large : Sides → Row → Result Row Refusal
unless_large s row =
    if nat_le (row_width s row) MAX_WIDTH
    then (if nat_le (length row.terms) MAX_CUT_TERMS then Ok row else Err TooLong)
    else Err TooWide

-- the row of parts and a divisor
abbrev pub derived_gomory : ModelParts → List Row → List Pair → ℕ → Result Row Refusal
derived_gomory m cuts parts divisor =
    if are_known m.rows cuts parts
    then (if are_weights parts divisor
    then unless_large m.root (gomory_row m cuts parts divisor)
    else Err BadNumbers)
    else Err UnknownRow

-- the row of columns of a row, unless one of them is unfit
abbrev pub cover_unless : Sides → Row → List ℕ → Option ℕ → Result Row Refusal
cover_unless s row cols (Some col) = Err (NotBinary col)
cover_unless s row cols None =
    if is_cover s row cols then unless_large s (cover_row row cols) else Err NotCover

-- the row of columns of a row
abbrev pub derived_cover : ModelParts → List Row → RowRef → List ℕ → Result Row Refusal
derived_cover m cuts name cols =
    if has_row m.rows cuts name
    then (if are_columns cols
    then (let row = row_named m.rows cuts name in
    cover_unless m.root row cols (first_unfit m.root row cols))
    else Err BadNumbers)
    else Err UnknownRow

-- the row that follows from rows of a model and cuts, or the first reason that refuses it
abbrev pub derived_row : ModelParts → List Row → Derivation → Result Row Refusal
derived_row m cuts (Gomory parts divisor) = derived_gomory m cuts parts divisor
derived_row m cuts (Cover name cols) = derived_cover m cuts name cols
