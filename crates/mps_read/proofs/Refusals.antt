use Rattle.std.specs.Prelude.{ℕ, ◌≡◌, List, [], ◌∷◌, ◌++◌, refl, codes}
use Rattle.mps_read.specs.Readings.{reading, RefusedAt}
use Rattle.mps_read.specs.declared.error.MpsKind.TheVariants.{BadByte, SectionOrder, UnknownSection, FieldCount, Numeral, RowType, BoundType, RepeatedName, UnknownName, RepeatedEntry, SplitColumn, Marker, NoObjective, NoEndata, LongName, Sense}

-- small files with the line at which each is refused, and why

-- 256 bytes
abbrev long : List ℕ
long = codes "nnnnnnnnnnnnnnnnnnnnnnnnnnnnnnnnnnnnnnnnnnnnnnnnnnnnnnnnnnnnnnnnnnnnnnnnnnnnnnnnnnnnnnnnnnnnnnnnnnnnnnnnnnnnnnnnnnnnnnnnnnnnnnnnnnnnnnnnnnnnnnnnnnnnnnnnnnnnnnnnnnnnnnnnnnnnnnnnnnnnnnnnnnnnnnnnnnnnnnnnnnnnnnnnnnnnnnnnnnnnnnnnnnnnnnnnnnnnnnnnnnnnnnnnnnnnnnnn"

-- a vertical tab is no byte of a line
pub tab_within_a_line : reading (codes "ROWS\n N c" ++ (11 ∷ [])) ≡ RefusedAt 2 BadByte
tab_within_a_line = refl

-- nor is a zero byte
pub zero_byte : reading (codes "" ++ (0 ∷ [])) ≡ RefusedAt 1 BadByte
zero_byte = refl

-- a comment may hold any byte
pub odd_comment : reading (codes "* " ++ (200 ∷ 0 ∷ 10 ∷ []) ++ codes "ROWS\n N c\n") ≡ RefusedAt 4 NoEndata
odd_comment = refl

-- sections have an order
pub name_after_rows : reading (codes "ROWS\nNAME T\n") ≡ RefusedAt 2 SectionOrder
name_after_rows = refl

pub name_after_sense : reading (codes "OBJSENSE MAX\nNAME T\n") ≡ RefusedAt 2 SectionOrder
name_after_sense = refl

pub second_rows : reading (codes "ROWS\n N c\nROWS\n") ≡ RefusedAt 3 SectionOrder
second_rows = refl

pub no_rows : reading (codes "COLUMNS\n") ≡ RefusedAt 1 SectionOrder
no_rows = refl

pub end_first : reading (codes "ENDATA\n") ≡ RefusedAt 1 SectionOrder
end_first = refl

pub end_after_rows : reading (codes "ROWS\n N c\nENDATA\n") ≡ RefusedAt 3 SectionOrder
end_after_rows = refl

pub second_rhs : reading (codes "ROWS\n N c\n L a\n G b\nCOLUMNS\nRHS\nBOUNDS\nRHS\n") ≡ RefusedAt 8 SectionOrder
second_rhs = refl

-- a data line before any section
pub data_first : reading (codes " x\n") ≡ RefusedAt 1 SectionOrder
data_first = refl

-- and under the name
pub data_under_name : reading (codes "NAME T\n\n x\n") ≡ RefusedAt 3 SectionOrder
data_under_name = refl

-- and a second one of the sense
pub second_sense_line : reading (codes "OBJSENSE\n MAX\n a b c\n") ≡ RefusedAt 3 SectionOrder
second_sense_line = refl

pub unknown_section : reading (codes "\nrows\n") ≡ RefusedAt 2 UnknownSection
unknown_section = refl

-- a row has two fields
pub row_of_three : reading (codes "ROWS\n X c d\n") ≡ RefusedAt 2 FieldCount
row_of_three = refl

-- the sense one
pub sense_of_two : reading (codes "OBJSENSE\n MAX MAX\n") ≡ RefusedAt 2 FieldCount
sense_of_two = refl

-- a column three or five
pub column_of_four : reading (codes "ROWS\n N c\n L a\n G b\nCOLUMNS\n x c 1 a\n") ≡ RefusedAt 6 FieldCount
column_of_four = refl

-- a marker three
pub marker_of_five : reading (codes "ROWS\n N c\n L a\n G b\nCOLUMNS\n x 'MARKER' 'INTORG' a 1\n") ≡ RefusedAt 6 FieldCount
marker_of_five = refl

-- a value two to five
pub side_of_six : reading (codes "ROWS\n N c\n L a\n G b\nCOLUMNS\nRHS\n r a 1 b 2 c\n") ≡ RefusedAt 7 FieldCount
side_of_six = refl

-- a bound three or four with a numeral
pub bound_of_two : reading (codes "ROWS\n N c\n L a\n G b\nCOLUMNS\n x c 1\nBOUNDS\n LO x\n") ≡ RefusedAt 8 FieldCount
bound_of_two = refl

-- and two to four without one
pub bound_of_five : reading (codes "ROWS\n N c\n L a\n G b\nCOLUMNS\n x c 1\nBOUNDS\n FR b x 1 2\n") ≡ RefusedAt 8 FieldCount
bound_of_five = refl

-- also in another set
pub other_set_of_six : reading (codes "ROWS\n N c\n L a\n G b\nCOLUMNS\nRHS\n r a 1\n s a 1 b 2 c\n") ≡ RefusedAt 8 FieldCount
other_set_of_six = refl

pub bad_numeral : reading (codes "ROWS\n N c\n L a\n G b\nCOLUMNS\n x c 1 d 1.2.3\n") ≡ RefusedAt 6 Numeral
bad_numeral = refl

pub bad_side : reading (codes "ROWS\n N c\n L a\n G b\nCOLUMNS\nRHS\n r d one\n") ≡ RefusedAt 7 Numeral
bad_side = refl

pub bad_bound : reading (codes "ROWS\n N c\n L a\n G b\nCOLUMNS\n x c 1\nBOUNDS\n UP b y 1e401\n") ≡ RefusedAt 8 Numeral
bad_bound = refl

pub bad_row_type : reading (codes "ROWS\n N c\n X c\n") ≡ RefusedAt 3 RowType
bad_row_type = refl

-- whatever the number of fields
pub bad_bound_type : reading (codes "ROWS\n N c\n L a\n G b\nCOLUMNS\n x c 1\nBOUNDS\n XX\n") ≡ RefusedAt 8 BoundType
bad_bound_type = refl

-- also in another set
pub bad_type_of_other_set : reading (codes "ROWS\n N c\n L a\n G b\nCOLUMNS\n x c 1\nBOUNDS\n UP b x 1\n XX s x 1\n") ≡ RefusedAt 9 BoundType
bad_type_of_other_set = refl

pub name_twice : reading (codes "ROWS\n N c\n N d\n L d\n") ≡ RefusedAt 4 RepeatedName
name_twice = refl

pub unknown_row : reading (codes "ROWS\n N c\n L a\n G b\nCOLUMNS\n x a 1 d 1\n") ≡ RefusedAt 6 UnknownName
unknown_row = refl

pub unknown_side : reading (codes "ROWS\n N c\n L a\n G b\nCOLUMNS\nRHS\n r d 1\n") ≡ RefusedAt 7 UnknownName
unknown_side = refl

-- a row is no column
pub unknown_column : reading (codes "ROWS\n N c\n L a\n G b\nCOLUMNS\n x c 1\nBOUNDS\n FR b a\n") ≡ RefusedAt 8 UnknownName
unknown_column = refl

-- two entries on one line
pub two_in_line : reading (codes "ROWS\n N c\n L a\n G b\nCOLUMNS\n x c 1 c 2\n") ≡ RefusedAt 6 RepeatedEntry
two_in_line = refl

-- a zero entry counts
pub zero_and_one : reading (codes "ROWS\n N c\n L a\n G b\nCOLUMNS\n x a 0\n x b 1 a 1\n") ≡ RefusedAt 7 RepeatedEntry
zero_and_one = refl

pub side_twice : reading (codes "ROWS\n N c\n L a\n G b\nCOLUMNS\nRHS\n r a 0 b 1\n r a 1\n") ≡ RefusedAt 8 RepeatedEntry
side_twice = refl

pub objective_side_twice : reading (codes "ROWS\n N c\n L a\n G b\nCOLUMNS\nRHS\n r c 1 c 1\n") ≡ RefusedAt 7 RepeatedEntry
objective_side_twice = refl

pub objective_range_twice : reading (codes "ROWS\n N c\n L a\n G b\nCOLUMNS\nRANGES\n r c 1\n r c 1\n") ≡ RefusedAt 8 RepeatedEntry
objective_range_twice = refl

-- a column that returns with a repeated row
pub returns_repeated : reading (codes "ROWS\n N c\n L a\n G b\nCOLUMNS\n x a 0\n y a 1\n x a 1\n") ≡ RefusedAt 8 RepeatedEntry
returns_repeated = refl

-- and with a new one
pub returns : reading (codes "ROWS\n N c\n L a\n G b\nCOLUMNS\n x a 0\n y a 1\n x b 1\n") ≡ RefusedAt 8 SplitColumn
returns = refl

pub bad_marker : reading (codes "ROWS\n N c\n L a\n G b\nCOLUMNS\n M 'MARKER' 'INTEGER'\n") ≡ RefusedAt 6 Marker
bad_marker = refl

pub marker_row : reading (codes "ROWS\n N c\n L 'MARKER'\n") ≡ RefusedAt 3 Marker
marker_row = refl

pub no_objective : reading (codes "ROWS\n L a\nCOLUMNS\n") ≡ RefusedAt 3 NoObjective
no_objective = refl

pub empty : reading (codes "") ≡ RefusedAt 1 NoEndata
empty = refl

pub no_end : reading (codes "ROWS\n N c") ≡ RefusedAt 3 NoEndata
no_end = refl

pub end_in_sense : reading (codes "OBJSENSE\n") ≡ RefusedAt 2 NoEndata
end_in_sense = refl

pub long_model_name : reading (codes "NAME " ++ long) ≡ RefusedAt 1 LongName
long_model_name = refl

pub long_row_name : reading (codes "ROWS\n N " ++ long) ≡ RefusedAt 2 LongName
long_row_name = refl

pub long_column : reading (codes "ROWS\n N c\n L a\n G b\nCOLUMNS\n " ++ long ++ codes " c 1\n") ≡ RefusedAt 6 LongName
long_column = refl

pub long_set : reading (codes "ROWS\n N c\n L a\n G b\nCOLUMNS\nRHS\n " ++ long ++ codes " c 1\n") ≡ RefusedAt 7 LongName
long_set = refl

pub long_row_of_other_set : reading (codes "ROWS\n N c\n L a\n G b\nCOLUMNS\nRHS\n r c 1\n s " ++ long ++ codes " x\n") ≡ RefusedAt 8 LongName
long_row_of_other_set = refl

pub long_column_of_other_set : reading (codes "ROWS\n N c\n L a\n G b\nCOLUMNS\n x c 1\nBOUNDS\n FR r x\n UP s " ++ long ++ codes " y\n") ≡ RefusedAt 9 LongName
long_column_of_other_set = refl

-- a long name of a used line isn't known
pub long_row_of_used_set : reading (codes "ROWS\n N c\n L a\n G b\nCOLUMNS\nRHS\n r " ++ long ++ codes " 1\n") ≡ RefusedAt 7 UnknownName
long_row_of_used_set = refl

pub bad_sense : reading (codes "OBJSENSE max\n") ≡ RefusedAt 1 Sense
bad_sense = refl

pub bad_sense_line : reading (codes "OBJSENSE\n BIG\n") ≡ RefusedAt 2 Sense
bad_sense_line = refl

pub two_senses : reading (codes "OBJSENSE MAX\n MAX\n") ≡ RefusedAt 2 Sense
two_senses = refl

pub no_sense : reading (codes "OBJSENSE\nROWS\n") ≡ RefusedAt 2 Sense
no_sense = refl
