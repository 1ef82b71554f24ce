-- An entry as words: the number of words, the kind of entry, the stamp, and then what the kind asks for.
use Rattle.std.specs.Prelude.{ℕ, ◌+◌, ◌*◌, ℤ, List, [], ◌∷◌, length}
use Rattle.std.specs.Int.{cast_unsigned}
use mir.Syntax.{w64}
use Rattle.ip_core.specs.declared.derivation.Derivation.{Derivation}
use Rattle.ip_core.specs.declared.derivation.Derivation.TheVariants.{Gomory, Cover}
use Rattle.ip_core.specs.declared.leaf.Pair.{Pair}
use Rattle.ip_core.specs.declared.row_ref.RowRef.{RowRef}
use Rattle.ip_core.specs.declared.row_ref.RowRef.TheVariants as row
use Rattle.work_stamp.specs.declared.entry.Entry.{Entry}
use Rattle.work_stamp.specs.declared.entry.Entry.TheVariants.{Start, CutStart, HeurStart, Done, Found, Cut, Split, Closed, Halt}
use Rattle.work_stamp.specs.declared.stamped.Stamped.{Stamped}

-- a signed number in two's complement
abbrev pub signed_word : ℤ → ℕ
signed_word z = cast_unsigned w64 z

-- signed numbers in two's complement
abbrev pub signed_words : List ℤ → List ℕ
signed_words [] = []
signed_words (z ∷ zs) = signed_word z ∷ signed_words zs

-- a row's name: the row's number twice, and one more for a cut
abbrev pub row_word : RowRef → ℕ
row_word (row.Model number) = 2 * number
row_word (row.Cut number) = 2 * number + 1

-- the parts of a weighted sum of rows: the row and the weight of each
abbrev pub pair_words : List Pair → List ℕ
pair_words [] = []
pair_words (pair ∷ pairs) = row_word pair.row ∷ pair.weight ∷ pair_words pairs

-- how a cut follows from the rows before it
abbrev pub derivation_words : Derivation → List ℕ
derivation_words (Gomory parts divisor) = 0 ∷ divisor ∷ pair_words parts
derivation_words (Cover row cols) = 1 ∷ row_word row ∷ cols

-- the number of an entry's kind
abbrev pub kind_word : Entry → ℕ
kind_word (Start node) = 1
kind_word CutStart = 2
kind_word (HeurStart node) = 3
kind_word Done = 4
kind_word (Found value point) = 5
kind_word (Cut derivation) = 6
kind_word (Split node col at first keep bound) = 7
kind_word (Closed node) = 8
kind_word Halt = 9

-- the words behind the stamp
abbrev pub further_words : Entry → List ℕ
further_words (Start node) = node ∷ []
further_words CutStart = []
further_words (HeurStart node) = node ∷ []
further_words Done = []
further_words (Found value point) = signed_word value ∷ signed_words point
further_words (Cut derivation) = derivation_words derivation
further_words (Split node col at first keep bound) =
    node ∷ col ∷ signed_word at ∷ first ∷ keep ∷ signed_word bound ∷ []
further_words (Closed node) = node ∷ []
further_words Halt = []

-- the words of an entry with its stamp
abbrev pub words : Stamped → List ℕ
words item = (3 + length (further_words item.entry)) ∷ kind_word item.entry ∷ item.stamp ∷
    further_words item.entry
