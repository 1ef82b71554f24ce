-- The sets of right-hand sides, ranges and bounds: a section uses the set of its first data line.
-- The lines stand newest first, the pairs in the order of the file.
use Rattle.std.specs.Prelude.{ℕ, Bool, true, false, ◌&&◌, List, [], ◌∷◌, ◌++◌, Option, Some, None, if◌then◌else◌}
use Rattle.std.specs.List.{list_any}
use Rattle.std.specs.Str.{bytes_eq}
use Rattle.ip_core.specs.Decimals.{Number}
use Rattle.mps_model.specs.Numbers.{zero_decimal}
use Rattle.mps_read.specs.Numerals.{decimal_of}
use Rattle.mps_lines.specs.Forms.{Form, Pair, Values, BoundLine}
use Rattle.mps_lines.specs.declared.section.ValueKind.{ValueKind}
use Rattle.mps_lines.specs.declared.section.ValueKind.TheVariants.{Side, Range}

-- the name that is there already, or else the new one
abbrev pub first_name : Option (List ℕ) → List ℕ → Option (List ℕ)
first_name None word = Some word
first_name (Some first) word = Some first

-- whether a line of this set is used
abbrev pub is_used : Option (List ℕ) → List ℕ → Bool
is_used None set = true
is_used (Some first) set = bytes_eq set first

-- whether two sections of values are one
abbrev pub is_kind : ValueKind → ValueKind → Bool
is_kind Side Side = true
is_kind Range Range = true
is_kind _ _ = false

-- the set of the first data line of right-hand sides, or of ranges
abbrev pub set_of : ValueKind → List Form → Option (List ℕ)
set_of kind [] = None
set_of kind (Values other set first second ∷ before) =
    if is_kind kind other then first_name (set_of kind before) set else set_of kind before
set_of kind (_ ∷ before) = set_of kind before

-- and of bounds
abbrev pub bound_set_of : List Form → Option (List ℕ)
bound_set_of [] = None
bound_set_of (BoundLine kind set column numeral ∷ before) = first_name (bound_set_of before) set
bound_set_of (_ ∷ before) = bound_set_of before

-- the pairs of a line
abbrev pub pairs_on : Pair → Option Pair → List Pair
pairs_on first None = first ∷ []
pairs_on first (Some second) = first ∷ second ∷ []

-- the pairs of the used set of right-hand sides, or of ranges
abbrev pub pairs_in : ValueKind → List Form → List Pair
pairs_in kind [] = []
pairs_in kind (Values other set first second ∷ before) =
    if is_kind kind other && is_used (set_of kind before) set
    then pairs_in kind before ++ pairs_on first second
    else pairs_in kind before
pairs_in kind (_ ∷ before) = pairs_in kind before

-- whether one of some pairs names a row
abbrev pub is_named : List ℕ → List Pair → Bool
is_named row pairs = list_any (λ pair. bytes_eq row pair.row) pairs

-- the number of the pair that names a row
abbrev pub number_of : List ℕ → List Pair → Option Number
number_of row [] = None
number_of row (pair ∷ pairs) =
    if bytes_eq row pair.row then Some (decimal_of pair.numeral) else number_of row pairs

-- a number, or 0 where there is none
abbrev pub number_or_zero : Option Number → Number
number_or_zero None = zero_decimal
number_or_zero (Some number) = number
