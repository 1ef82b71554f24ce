-- What a text is: a model, or refused at its first line that isn't allowed.
use Rattle.std.specs.Prelude.{ℕ, ◌+◌, ◌≡◌, Bool, true, false, List, [], ◌∷◌, Option, Some, None}
use Rattle.mps_lines.specs.Lines.{lines_of}
use Rattle.mps_lines.specs.Forms.{Form, form_of, is_end}
use Rattle.mps_read.specs.Headers.{section_of, has_sense_line_of, name_of, maximise_of}
use Rattle.mps_read.specs.Rows.{objective_of, rows_of, constant_of}
use Rattle.mps_read.specs.Columns.{cols_of}
use Rattle.mps_read.specs.Kinds.{kind_of}
use Rattle.mps_model.specs.declared.model.MpsModel.{MpsModel}
use Rattle.mps_read.specs.declared.error.MpsKind.{MpsKind}
use Rattle.mps_read.specs.declared.error.MpsKind.TheVariants.{NoEndata}

-- without a word the sense is to minimise
abbrev pub is_maximise : Option Bool → Bool
is_maximise None = false
is_maximise (Some maximise) = maximise

-- a name, or the empty text
abbrev pub name_or_empty : Option (List ℕ) → List ℕ
name_or_empty None = []
name_or_empty (Some name) = name

-- the model that the lines give
abbrev pub model_of : List Form → MpsModel
model_of before = record {
  name = name_of before;
  maximise = is_maximise (maximise_of before);
  objective = name_or_empty (objective_of before);
  constant = constant_of before;
  rows = rows_of before;
  cols = cols_of before;
}

-- what a text is
pub data Reading : Type 0 where
  Read : (model : MpsModel) → Reading
  RefusedAt : (line : ℕ) (kind : MpsKind) → Reading

-- refused where a kind applies, read where the file ends, and else what follows
abbrev pub outcome : Option MpsKind → Bool → ℕ → Reading → Reading → Reading
outcome (Some kind) ends number read next = RefusedAt number kind
outcome None true number read next = read
outcome None false number read next = next

-- the lines from a number on, each judged by what all lines before it say
abbrev pub judge : ℕ → List Form → List (List ℕ) → Reading
judge number before [] = RefusedAt number NoEndata
judge number before (line ∷ rest) =
    let form = form_of (section_of before) (has_sense_line_of before) line
    in outcome (kind_of before form) (is_end form) number (Read (model_of before))
    (judge (number + 1) (form ∷ before) rest)

-- the reading of a text: lines after `ENDATA` aren't read
abbrev pub reading : List ℕ → Reading
reading bytes = judge 1 [] (lines_of bytes)

-- the text is a file of this model
pub record Reads (bytes : List ℕ) (model : MpsModel) : Type 0 where
  pub is : reading bytes ≡ Read model

-- the line is the first that isn't allowed, and the kind the first that applies to it
pub record IsRefused (bytes : List ℕ) (line : ℕ) (kind : MpsKind) : Type 0 where
  pub is : reading bytes ≡ RefusedAt line kind
