-- The entry that words begin with, or why they don't begin with one.
use Rattle.std.specs.Prelude.{ℕ, ◌-◌, ◌/◌, ◌%◌, ◌≡◌, suc, Bool, true, ◌&&◌, nat_lt, nat_le, nat_eq, if◌then◌else◌, ℤ, List, [], ◌∷◌, length, take, Result, Ok, Err}
use Rattle.std.specs.Int.{cast_signed}
use Rattle.std.specs.List.{list_all}
use mir.Syntax.{w64}
use Rattle.ip_core.specs.declared.derivation.Derivation.TheVariants.{Gomory, Cover}
use Rattle.ip_core.specs.declared.leaf.Pair.{Pair}
use Rattle.ip_core.specs.declared.row_ref.RowRef.{RowRef}
use Rattle.ip_core.specs.declared.row_ref.RowRef.TheVariants as row
use Rattle.work_stamp.specs.declared.entry.Entry.{Entry}
use Rattle.work_stamp.specs.declared.entry.Entry.TheVariants as entry
use Rattle.work_stamp.specs.declared.error.WordsError.{WordsError}
use Rattle.work_stamp.specs.declared.error.WordsError.TheVariants.{Short, Length, Value, Memory}
use Rattle.work_stamp.specs.declared.error.WordsError.TheVariants as words_error
use Rattle.work_stamp.specs.declared.kind.Kind.{Kind}
use Rattle.work_stamp.specs.declared.kind.Kind.TheVariants.{Start, CutStart, HeurStart, Done, Found, Cut, Split, Closed, Halt}
use Rattle.work_stamp.specs.declared.stamped.WordRead.{WordRead}

-- a word as a signed number, in two's complement
abbrev pub signed_number : ℕ → ℤ
signed_number word = cast_signed w64 word

-- words as signed numbers
abbrev pub signed_numbers : List ℕ → List ℤ
signed_numbers [] = []
signed_numbers (word ∷ rest) = signed_number word ∷ signed_numbers rest

-- the number of a row is below 2^32, and so is that of a column
abbrev pub is_number : ℕ → Bool
is_number n = nat_lt n 4294967296

-- the row of a name: of a cut where the word is odd
abbrev pub row_of : ℕ → RowRef
row_of word = if nat_eq (word % 2) 0 then row.Model (word / 2) else row.Cut (word / 2)

-- the rows that follow with their weights
abbrev pub pairs_of : List ℕ → List Pair
pairs_of [] = []
pairs_of (word ∷ []) = []
pairs_of (word ∷ weight ∷ rest) = record { row = row_of word; weight = weight } ∷ pairs_of rest

-- whether each of these rows has its number in the range
abbrev pub are_rows : List ℕ → Bool
are_rows [] = true
are_rows (word ∷ []) = true
are_rows (word ∷ weight ∷ rest) = is_number (word / 2) && are_rows rest

-- a weighted sum of rows, from the words behind its divisor
abbrev pub gomory_of : ℕ → List ℕ → Result Entry WordsError
gomory_of divisor rest =
    if nat_eq (length rest % 2) 0
    then (if are_rows rest then Ok (entry.Cut (Gomory (pairs_of rest) divisor)) else Err Value)
    else Err Length

-- columns of a row
abbrev pub cover_of : ℕ → List ℕ → Result Entry WordsError
cover_of word cols = if is_number (word / 2) && list_all is_number cols
    then Ok (entry.Cut (Cover (row_of word) cols)) else Err Value

-- a cut, by the number of its form
abbrev pub cut_of : List ℕ → Result Entry WordsError
cut_of [] = Err Length
cut_of (form ∷ []) = if nat_lt 1 form then Err Value else Err Length
cut_of (form ∷ word ∷ rest) = if nat_lt 1 form then Err Value
    else (if nat_eq form 0 then gomory_of word rest else cover_of word rest)

-- a split of a node at a column
abbrev pub split_of : ℕ → ℕ → ℕ → ℕ → ℕ → ℕ → Result Entry WordsError
split_of node col at first keep bound =
    if is_number col && nat_le keep 2
    then Ok (entry.Split node col (signed_number at) first keep (signed_number bound))
    else Err Value

-- the entry of a kind, from the words behind the stamp
abbrev pub entry_of : Kind → List ℕ → Result Entry WordsError
entry_of Start (node ∷ []) = Ok (entry.Start node)
entry_of Start further = Err Length
entry_of CutStart [] = Ok entry.CutStart
entry_of CutStart further = Err Length
entry_of HeurStart (node ∷ []) = Ok (entry.HeurStart node)
entry_of HeurStart further = Err Length
entry_of Done [] = Ok entry.Done
entry_of Done further = Err Length
entry_of Found (value ∷ point) = Ok (entry.Found (signed_number value) (signed_numbers point))
entry_of Found [] = Err Length
entry_of Cut further = cut_of further
entry_of Split (node ∷ col ∷ at ∷ first ∷ keep ∷ bound ∷ []) = split_of node col at first keep bound
entry_of Split further = Err Length
entry_of Closed (node ∷ []) = Ok (entry.Closed node)
entry_of Closed further = Err Length
entry_of Halt [] = Ok entry.Halt
entry_of Halt further = Err Length

-- a kind that names a node and nothing else
abbrev pub HasNode : Kind → Type 0
HasNode Start = Unit {0}
HasNode HeurStart = Unit {0}
HasNode Closed = Unit {0}
HasNode kind = ⊥

-- a kind that asks for nothing
abbrev pub IsBare : Kind → Type 0
IsBare CutStart = Unit {0}
IsBare Done = Unit {0}
IsBare Halt = Unit {0}
IsBare kind = ⊥

-- the kind of a number
abbrev pub kind_of : ℕ → Result Kind WordsError
kind_of word =
    if nat_eq word 1 then Ok Start
    else (if nat_eq word 2 then Ok CutStart
    else (if nat_eq word 3 then Ok HeurStart
    else (if nat_eq word 4 then Ok Done
    else (if nat_eq word 5 then Ok Found
    else (if nat_eq word 6 then Ok Cut
    else (if nat_eq word 7 then Ok Split
    else (if nat_eq word 8 then Ok Closed
    else (if nat_eq word 9 then Ok Halt
    else Err words_error.Kind))))))))

-- the entry of a number of a kind
abbrev pub kind_entry : Result Kind WordsError → List ℕ → Result Entry WordsError
kind_entry (Ok kind) further = entry_of kind further
kind_entry (Err e) further = Err e

-- what was read, with its stamp and its number of words
abbrev pub read_with : ℕ → ℕ → Result Entry WordsError → Result WordRead WordsError
read_with count stamp (Ok e) = Ok (record
    { item = record { stamp = stamp; entry = e }; used = count })
read_with count stamp (Err e) = Err e

-- an entry of so many words, from the words behind the first one
abbrev pub read_by_count : ℕ → List ℕ → Result WordRead WordsError
read_by_count count [] = Err Short
read_by_count count (kind ∷ []) = Err Short
read_by_count count (kind ∷ stamp ∷ rest) = read_with count stamp
    (kind_entry (kind_of kind) (take (count - 3) rest))

-- the entry that words begin with: they are not to end within it, and it has three words or more
abbrev pub read : List ℕ → Result WordRead WordsError
read [] = Err Short
read (count ∷ rest) = if nat_lt (suc (length rest)) count then Err Short
    else (if nat_lt count 3 then Err Length else read_by_count count rest)

-- a refusal is that of the definition, or want of memory
abbrev pub IsRefusalOf : {A : Type 0} → WordsError → Result A WordsError → Type 0
IsRefusalOf Memory definition = Unit {0}
IsRefusalOf Short definition = definition ≡ Err Short
IsRefusalOf words_error.Kind definition = definition ≡ Err words_error.Kind
IsRefusalOf Length definition = definition ≡ Err Length
IsRefusalOf Value definition = definition ≡ Err Value

-- an answer is that of the definition, or want of memory
abbrev pub IsAnswerOf : {A : Type 0} → Result A WordsError → Result A WordsError → Type 0
IsAnswerOf (Ok x) definition = definition ≡ Ok x
IsAnswerOf (Err e) definition = IsRefusalOf e definition
