-- What the reader keeps of rows, by the numbers of their names.
use Rattle.std.specs.Prelude.{ℕ, Bool, true, false, List, [], Option, Some, None, slice_set, slice_index_or, if◌then◌else◌}
use Rattle.ip_core.specs.Decimals.{Number, negation}
use Rattle.mps_model.specs.Prints.{fresh_row}
use Rattle.mps_model.specs.declared.model.RowKind.TheVariants.{Less}
use Rattle.mps_model.specs.declared.model.MpsRow.{MpsRow}
use Rattle.mps_read.specs.Names.{place_among}
use Rattle.mps_lines.specs.Forms.{Pair}
use Rattle.mps_lines.specs.declared.section.ValueKind.{ValueKind}
use Rattle.mps_lines.specs.declared.section.ValueKind.TheVariants.{Side, Range}
use Rattle.mps_read.specs.declared.draft.RowPlace.{RowPlace}
use Rattle.mps_read.specs.declared.draft.RowPlace.TheVariants.{Objective, Dropped, Kept}
use Rattle.mps_read.specs.declared.draft.RowState.{RowState}

-- what a row's name stands for, before any value
abbrev pub fresh_state : RowPlace → RowState
fresh_state place = record { place = place; has_side = false; has_range = false }

-- the first row without right-hand side is the objective, and the others are dropped
abbrev pub free_place : Option (List ℕ) → RowPlace
free_place None = Objective
free_place (Some first) = Dropped

-- the state of a name's number
abbrev pub state_at : List RowState → ℕ → RowState
state_at states number = slice_index_or states number (fresh_state Dropped)

-- entries of dropped rows aren't tested for repetition
abbrev pub is_tested : RowPlace → Bool
is_tested Objective = true
is_tested Dropped = false
is_tested (Kept row) = true

-- a row that has a value
abbrev pub with_value_mark : ValueKind → RowState → RowState
with_value_mark Side s = record s { has_side = true }
with_value_mark Range s = record s { has_range = true }

-- the same, unless the row is dropped
abbrev pub marked_state : ValueKind → RowState → RowState
marked_state kind s = if is_tested s.place then with_value_mark kind s else s

-- the states with a value in the row of a number
abbrev pub with_marked_state : ValueKind → ℕ → List RowState → List RowState
with_marked_state kind number states = slice_set states number
    (marked_state kind (state_at states number))

-- a row with a right-hand side or a range
abbrev pub valued_row : ValueKind → Number → MpsRow → MpsRow
valued_row Side value row = record row { rhs = value }
valued_row Range value row = record row { range = Some value }

-- the rows with a value for what a name stands for; ranges of the objective are dropped
abbrev pub with_value : ValueKind → RowPlace → Number → List MpsRow → List MpsRow
with_value kind Objective value rows = rows
with_value kind Dropped value rows = rows
with_value kind (Kept row) value rows =
    slice_set rows row (valued_row kind value (slice_index_or rows row (fresh_row Less [])))

-- what the row of a pair stands for
abbrev pub place_of_pair : List (List ℕ) → List RowState → Pair → RowPlace
place_of_pair names states pair = (state_at states (place_among pair.row names)).place

-- the constant is the objective's right-hand side negated
abbrev pub with_constant : ValueKind → RowPlace → Number → Number → Number
with_constant Side Objective value constant = negation value
with_constant Side Dropped value constant = constant
with_constant Side (Kept row) value constant = constant
with_constant Range place value constant = constant
