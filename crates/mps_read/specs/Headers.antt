-- What the lines so far say of sections, the name and the sense. They stand newest first.
use Rattle.std.specs.Prelude.{ℕ, Bool, true, false, ◌||◌, List, [], ◌∷◌, Option, Some, None}
use Rattle.mps_lines.specs.Forms.{Form, Head, SenseLine, sense_named}
use Rattle.mps_lines.specs.declared.section.Section.{Section}
use Rattle.mps_lines.specs.declared.section.Section.TheVariants.{Name, Objsense, Rows, Columns, Rhs, Ranges, Bounds, Endata}

-- the section of the next line
abbrev pub section_of : List Form → Option Section
section_of [] = None
section_of (Head section word ∷ before) = Some section
section_of (_ ∷ before) = section_of before

-- whether two sections are one
abbrev pub is_section : Section → Section → Bool
is_section Name Name = true
is_section Objsense Objsense = true
is_section Rows Rows = true
is_section Columns Columns = true
is_section Rhs Rhs = true
is_section Ranges Ranges = true
is_section Bounds Bounds = true
is_section Endata Endata = true
is_section _ _ = false

-- whether a section began
abbrev pub has_section : Section → List Form → Bool
has_section section [] = false
has_section section (Head other word ∷ before) = is_section section other
    || has_section section before
has_section section (_ ∷ before) = has_section section before

-- whether the data line of the sense came
abbrev pub has_sense_line_of : List Form → Bool
has_sense_line_of [] = false
has_sense_line_of (SenseLine word ∷ before) = true
has_sense_line_of (_ ∷ before) = has_sense_line_of before

-- the model's name
abbrev pub name_of : List Form → List ℕ
name_of [] = []
name_of (Head Name word ∷ before) = word
name_of (_ ∷ before) = name_of before

-- whether to maximise, where the lines say it
abbrev pub maximise_of : List Form → Option Bool
maximise_of [] = None
maximise_of (Head Objsense word ∷ before) = sense_named word
maximise_of (SenseLine word ∷ before) = sense_named word
maximise_of (_ ∷ before) = maximise_of before
