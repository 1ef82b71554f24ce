-- The fields of a line as values.
use Rattle.std.specs.Prelude.{ℕ, ◌≡◌, ◌≤◌, ◌^◌, true, length, List, Option, Some, None}
use Rattle.std.specs.List.{list_all}
use Rattle.mps_lines.specs.Forms.{Pair}
use Rattle.mps_lines.specs.Lines.{Words, Zero, One, Two, Three, Four, Five, Many, is_visible}
use Rattle.mps_lines.specs.declared.line.Fields.{Fields}
use Rattle.mps_lines.specs.declared.line.Fields.TheVariants.{Empty, Single, Double, Triple, Quadruple, Quintuple, More}
use Rattle.mps_lines.specs.declared.line.FieldPair.{FieldPair}

-- the fields of a line
abbrev pub field_words : Fields → Words
field_words Empty = Zero
field_words (Single a) = One a.now
field_words (Double a b) = Two a.now b.now
field_words (Triple a b c) = Three a.now b.now c.now
field_words (Quadruple a b c d) = Four a.now b.now c.now d.now
field_words (Quintuple a b c d e) = Five a.now b.now c.now d.now e.now
field_words (More a b) = Many a.now b.now

-- a pair of fields
abbrev pub pair_words : FieldPair → Pair
pair_words p = record { row = p.row.now; numeral = p.numeral.now }

-- a second pair, if there is one
abbrev pub second_words : Option FieldPair → Option Pair
second_words None = None
second_words (Some p) = Some (pair_words p)

-- a field has visible bytes alone, and no more than a text may have
pub record IsField (field : List ℕ) : Type 0 where
  pub visible : list_all is_visible field ≡ true
  pub short : length field ≤ 2 ^ 30

-- each of them is a field
abbrev pub AreFields : Words → Type 0
AreFields Zero = Unit {0}
AreFields (One a) = IsField a
AreFields (Two a b) = IsField a × IsField b
AreFields (Three a b c) = IsField a × IsField b × IsField c
AreFields (Four a b c d) = IsField a × IsField b × IsField c × IsField d
AreFields (Five a b c d e) = IsField a × IsField b × IsField c × IsField d × IsField e
AreFields (Many a b) = IsField a × IsField b

-- both of a pair are fields
abbrev pub IsPair : FieldPair → Type 0
IsPair p = IsField p.row.now × IsField p.numeral.now

-- and those of a second pair, if there is one
abbrev pub IsSecond : Option FieldPair → Type 0
IsSecond None = Unit {0}
IsSecond (Some p) = IsPair p
