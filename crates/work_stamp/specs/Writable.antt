-- Which entries have words: their numbers lie in the ranges of their types, and their lists have at most 2^30 items.
use Rattle.std.specs.Prelude.{ℕ, ◌≤◌, ◌<◌, ◌^◌, ℤ, List, length, FitsSigned, All}
use Rattle.ip_core.specs.declared.derivation.Derivation.{Derivation}
use Rattle.ip_core.specs.declared.derivation.Derivation.TheVariants.{Gomory, Cover}
use Rattle.ip_core.specs.declared.leaf.Pair.{Pair}
use Rattle.ip_core.specs.declared.row_ref.RowRef.{RowRef}
use Rattle.ip_core.specs.declared.row_ref.RowRef.TheVariants as row
use Rattle.work_stamp.specs.declared.entry.Entry.{Entry}
use Rattle.work_stamp.specs.declared.entry.Entry.TheVariants.{Start, HeurStart, Found, Cut, Split, Closed}
use mir.Syntax.{w64}

-- a list of at most 2^30 items
abbrev pub IsShort : {A : Type 0} → List A → Type 0
IsShort xs = length xs ≤ 2 ^ 30

-- lists of at most 2^30 items
abbrev pub IsWritableDerivation : Derivation → Type 0
IsWritableDerivation (Gomory parts divisor) = IsShort parts
IsWritableDerivation (Cover row cols) = IsShort cols

-- an entry that can be written: lists of at most 2^30 items, and a child to keep that is one of three
abbrev pub IsWritable : Entry → Type 0
IsWritable (Found value point) = IsShort point
IsWritable (Cut derivation) = IsWritableDerivation derivation
IsWritable (Split node col at first keep bound) = keep ≤ 2
IsWritable entry = Unit {0}

-- a number of one word
abbrev pub IsWord : ℕ → Type 0
IsWord n = n < 2 ^ 64

-- a signed number of one word
abbrev pub IsSigned : ℤ → Type 0
IsSigned z = FitsSigned w64 z

-- the number of a row or a column
abbrev pub IsNumber : ℕ → Type 0
IsNumber n = n < 2 ^ 32

-- a row's name with its number in range
abbrev pub HasNumber : RowRef → Type 0
HasNumber (row.Model number) = IsNumber number
HasNumber (row.Cut number) = IsNumber number

-- a row and a weight in range
pub record IsPair (pair : Pair) : Type 0 where
  pub row : HasNumber pair.row
  pub weight : IsWord pair.weight

-- the numbers of a derivation, each in the range of its type
pub record AreParts (parts : List Pair) (divisor : ℕ) : Type 0 where
  pub divisor_word : IsWord divisor
  pub each : All IsPair parts

-- a row and columns with their numbers in range
pub record AreColumns (of : RowRef) (cols : List ℕ) : Type 0 where
  pub row : HasNumber of
  pub each : All IsNumber cols

-- a derivation whose numbers lie in the ranges of their types
abbrev pub IsInRangeDerivation : Derivation → Type 0
IsInRangeDerivation (Gomory parts divisor) = AreParts parts divisor
IsInRangeDerivation (Cover row cols) = AreColumns row cols

-- a value and a point in range
pub record IsValuedPoint (value : ℤ) (point : List ℤ) : Type 0 where
  pub signed_value : IsSigned value
  pub each : All IsSigned point

-- the numbers of a split, each in the range of its type
pub record IsSplit (node col : ℕ) (at : ℤ) (first keep : ℕ) (bound : ℤ) : Type 0 where
  pub node_word : IsWord node
  pub col_number : IsNumber col
  pub at_signed : IsSigned at
  pub first_word : IsWord first
  pub keep_byte : keep < 2 ^ 8
  pub bound_signed : IsSigned bound

-- an entry whose numbers lie in the ranges of their types
abbrev pub IsInRange : Entry → Type 0
IsInRange (Start node) = IsWord node
IsInRange (HeurStart node) = IsWord node
IsInRange (Found value point) = IsValuedPoint value point
IsInRange (Cut derivation) = IsInRangeDerivation derivation
IsInRange (Split node col at first keep bound) = IsSplit node col at first keep bound
IsInRange (Closed node) = IsWord node
IsInRange entry = Unit {0}

-- an entry that has words from which it is read again
pub record HasWords (entry : Entry) : Type 0 where
  pub writable : IsWritable entry
  pub in_range : IsInRange entry
