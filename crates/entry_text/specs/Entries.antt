-- How entries and derivations are written, each on a line of its own.
use Rattle.std.specs.Prelude.{ℕ, List, [], ◌∷◌, ◌++◌, length, codes}
use Rattle.std.specs.Fmt.{decimal}
use Rattle.ip_core.specs.declared.derivation.Derivation.{Derivation}
use Rattle.ip_core.specs.declared.derivation.Derivation.TheVariants.{Gomory, Cover}
use Rattle.work_stamp.specs.declared.entry.Entry.{Entry}
use Rattle.work_stamp.specs.declared.entry.Entry.TheVariants.{Start, CutStart, HeurStart, Done, Found, Cut, Split, Closed, Halt}
use Rattle.work_stamp.specs.declared.stamped.KeyedEntry.{KeyedEntry}
use Rattle.entry_text.specs.Fields.{number_field, number_fields, signed_field, signed_fields, row_field, pair_fields}

-- a derivation: its divisor and weighted rows, or its row and columns, the items after their count
abbrev pub derivation_text : Derivation → List ℕ
derivation_text (Gomory parts divisor) = codes "gomory" ++ number_field divisor ++ number_field
    (length parts) ++ pair_fields parts
derivation_text (Cover row cols) = codes "cover" ++ row_field row ++ number_field (length cols)
    ++ number_fields cols

-- an entry by its word and its numbers
abbrev pub entry_text : Entry → List ℕ
entry_text (Start node) = codes "start" ++ number_field node
entry_text CutStart = codes "cutloop"
entry_text (HeurStart node) = codes "dive" ++ number_field node
entry_text Done = codes "done"
entry_text (Found value point) = codes "found" ++ signed_field value ++ signed_fields point
entry_text (Cut derivation) = derivation_text derivation
entry_text (Split node col at first keep bound) = codes "split" ++ number_field node
    ++ number_field col ++ signed_field at ++ number_field first ++ number_field keep
    ++ signed_field bound
entry_text (Closed node) = codes "closed" ++ number_field node
entry_text Halt = codes "halt"

-- the line of an entry: its stamp, its slot, and the entry
abbrev pub entry_line : KeyedEntry → List ℕ
entry_line e = decimal e.key.stamp ++ number_field e.key.slot ++ codes " " ++ entry_text e.entry
    ++ codes "\n"

-- the lines of entries, in order
abbrev pub entry_lines : List KeyedEntry → List ℕ
entry_lines [] = []
entry_lines (e ∷ es) = entry_line e ++ entry_lines es
