-- The kinds of refusal by their numbers.
use Rattle.std.specs.Prelude.{ℕ}
use Rattle.mps_read.specs.declared.error.MpsKind.{MpsKind}
use Rattle.mps_read.specs.declared.error.MpsKind.TheVariants.{BadByte, SectionOrder, UnknownSection, FieldCount, Numeral, RowType, BoundType, RepeatedName, UnknownName, RepeatedEntry, SplitColumn, Marker, NoObjective, NoEndata, LongName, Sense}

-- from 1, in the order in which they are tried
abbrev pub kind_number : MpsKind → ℕ
kind_number BadByte = 1
kind_number SectionOrder = 2
kind_number UnknownSection = 3
kind_number FieldCount = 4
kind_number Numeral = 5
kind_number RowType = 6
kind_number BoundType = 7
kind_number RepeatedName = 8
kind_number UnknownName = 9
kind_number RepeatedEntry = 10
kind_number SplitColumn = 11
kind_number Marker = 12
kind_number NoObjective = 13
kind_number NoEndata = 14
kind_number LongName = 15
kind_number Sense = 16
