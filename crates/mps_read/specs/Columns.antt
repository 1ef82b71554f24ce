-- What the lines so far say of columns. They stand newest first.
use Rattle.std.specs.Prelude.{ℕ, Bool, true, false, not, ◌&&◌, ◌||◌, List, [], ◌∷◌, ◌++◌, map, Option, if◌then◌else◌}
use Rattle.std.specs.Str.{bytes_eq}
use Rattle.ip_core.specs.Decimals.{Number, negation}
use Rattle.mps_model.specs.Numbers.{zero_decimal, is_zero, is_infinite}
use Rattle.mps_model.specs.declared.model.Limit.{Limit}
use Rattle.mps_model.specs.declared.model.Limit.TheVariants.{Unset, Free, At}
use Rattle.mps_model.specs.declared.model.MpsEntry.{MpsEntry}
use Rattle.mps_model.specs.declared.model.MpsCol.{MpsCol}
use Rattle.mps_read.specs.Names.{is_among, place_among, with_name}
use Rattle.mps_read.specs.Numerals.{one_decimal, decimal_of}
use Rattle.mps_lines.specs.Forms.{Form, Pair, Marker, Entries, BoundLine}
use Rattle.mps_read.specs.Sets.{pairs_on, is_used, bound_set_of}
use Rattle.mps_read.specs.Rows.{objective_of, kept_names_of, objective_number}
use Rattle.mps_lines.specs.declared.section.BoundKind.{BoundKind}
use Rattle.mps_lines.specs.declared.section.BoundKind.TheVariants.{Lower, Upper, Fixed, IntegerLower, IntegerUpper, Free as NoSides, NoLower, NoUpper, Binary}

-- the names of the columns in the order in which they first appear
abbrev pub column_names_of : List Form → List (List ℕ)
column_names_of [] = []
column_names_of (Entries column first second ∷ before) = with_name column (column_names_of before)
column_names_of (_ ∷ before) = column_names_of before

-- Entries.

-- the pairs of a column, in order
abbrev pub pairs_of : List ℕ → List Form → List Pair
pairs_of column [] = []
pairs_of column (Entries name first second ∷ before) =
    if bytes_eq column name then pairs_of column before ++ pairs_on first second
    else pairs_of column before
pairs_of column (_ ∷ before) = pairs_of column before

-- a column's entries: the pairs of rows of the model, in order; zeros are dropped
abbrev pub entries_of : List (List ℕ) → List Pair → List MpsEntry
entries_of rows [] = []
entries_of rows (pair ∷ pairs) =
    if is_among pair.row rows && not (is_zero (decimal_of pair.numeral))
    then record { row = place_among pair.row rows; value = decimal_of pair.numeral } ∷ entries_of
    rows pairs
    else entries_of rows pairs

-- Markers.

-- whether new columns are integer
abbrev pub is_integer_of : List Form → Bool
is_integer_of [] = false
is_integer_of (Marker is_integer ∷ before) = is_integer
is_integer_of (_ ∷ before) = is_integer_of before

-- whether a column was integer when it was new
abbrev pub begins_integer : List ℕ → List Form → Bool
begins_integer column [] = false
begins_integer column (Entries name first second ∷ before) =
    if bytes_eq column name && not (is_among column (column_names_of before))
    then is_integer_of before
    else begins_integer column before
begins_integer column (_ ∷ before) = begins_integer column before

-- Bounds.

-- a number as a low
abbrev pub low_limit : Number → Limit
low_limit value = if is_infinite (negation value) then Free else At value

-- and as a high
abbrev pub high_limit : Number → Limit
high_limit value = if is_infinite value then Free else At value

-- a type of bound with its number
pub record Bound : Type 0 where
  pub kind : BoundKind
  pub value : Number

-- the bounds of a column in the used set, newest first
abbrev pub bounds_of : List ℕ → List Form → List Bound
bounds_of column [] = []
bounds_of column (BoundLine kind set name numeral ∷ before) =
    if bytes_eq column name && is_used (bound_set_of before) set
    then record { kind = kind; value = decimal_of numeral } ∷ bounds_of column before
    else bounds_of column before
bounds_of column (_ ∷ before) = bounds_of column before

-- the low after a bound of a type that sets it, or what it was before
abbrev pub low_by : BoundKind → Number → Limit → Limit
low_by Lower value low = low_limit value
low_by Upper value low = low
low_by Fixed value low = low_limit value
low_by IntegerLower value low = low_limit value
low_by IntegerUpper value low = low
low_by NoSides value low = Free
low_by NoLower value low = Free
low_by NoUpper value low = low
low_by Binary value low = At zero_decimal

-- the low: that of the last bound that sets it
abbrev pub low_of : List Bound → Limit
low_of [] = Unset
low_of (bound ∷ older) = low_by bound.kind bound.value (low_of older)

-- the same of the high
abbrev pub high_by : BoundKind → Number → Limit → Limit
high_by Lower value high = high
high_by Upper value high = high_limit value
high_by Fixed value high = high_limit value
high_by IntegerLower value high = high
high_by IntegerUpper value high = high_limit value
high_by NoSides value high = Free
high_by NoLower value high = high
high_by NoUpper value high = Free
high_by Binary value high = At one_decimal

-- the high: that of the last bound that sets it
abbrev pub high_of : List Bound → Limit
high_of [] = Unset
high_of (bound ∷ older) = high_by bound.kind bound.value (high_of older)

-- whether a bound makes its column integer
abbrev pub makes_integer : BoundKind → Bool
makes_integer Lower = false
makes_integer Upper = false
makes_integer Fixed = false
makes_integer IntegerLower = true
makes_integer IntegerUpper = true
makes_integer NoSides = false
makes_integer NoLower = false
makes_integer NoUpper = false
makes_integer Binary = true

-- whether one of some bounds does
abbrev pub is_made_integer : List Bound → Bool
is_made_integer [] = false
is_made_integer (bound ∷ older) = makes_integer bound.kind || is_made_integer older

-- a column of this name
abbrev pub column_of : Option (List ℕ) → List (List ℕ) → Bool → List Pair → List Bound → List ℕ →
    MpsCol
column_of objective rows integer pairs bounds name = record {
  name = name;
  integer = integer || is_made_integer bounds;
  cost = objective_number objective pairs;
  entries = entries_of rows pairs;
  low = low_of bounds;
  high = high_of bounds;
}

-- the columns in order
abbrev pub cols_of : List Form → List MpsCol
cols_of before =
    map
    (λ name. column_of (objective_of before) (kept_names_of before) (begins_integer name before)
    (pairs_of name before) (bounds_of name before) name)
    (column_names_of before)
