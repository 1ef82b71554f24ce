-- What a text is: a certificate, or refused at its first line that isn't allowed.
use Rattle.std.specs.Prelude.{ℕ, ◌≡◌, ◌+◌, ◌==◌, ⊤, List, [], ◌∷◌, ◌++◌, Option, Some, None, if◌then◌else◌, pos}
use Rattle.cert_line.specs.Readings.{reading_of}
use Rattle.cert_line.specs.declared.line.Line.{Line}
use Rattle.cert_line.specs.declared.line.Line.TheVariants.{Header, Size, Value, Point, Cuts, Cut, Tree, Node, End}
use Rattle.cert_line.specs.declared.line.LineReading.{LineReading}
use Rattle.cert_line.specs.declared.line.LineReading.TheVariants.{NoForm, BadNumber, Is}
use Rattle.cert_text.specs.Places.{next_place, is_over, IsPlace}
use Rattle.cert_text.specs.declared.error.CertKind.{CertKind}
use Rattle.cert_text.specs.declared.error.CertKind.TheVariants.{Form, Number, Order, Short, Trailing}
use Rattle.cert_text.specs.declared.place.Place.{Place}
use Rattle.cert_text.specs.declared.place.Place.TheVariants.{Header as AtHeader}
use Rattle.cert_text.specs.declared.reader.Reading.{Reading}
use Rattle.cert_text.specs.declared.reader.Reading.TheVariants.{Read, RefusedAt}
use Rattle.cert_text.specs.declared.reader.Step.{Step}
use Rattle.cert_text.specs.declared.reader.Step.TheVariants.{Refuses, Leads}
use Rattle.tree_cert.specs.declared.certificate.Certificate.{Certificate}

-- pieces whose first begins with one more byte
abbrev pub with_byte : ℕ → List (List ℕ) → List (List ℕ)
with_byte b [] = (b ∷ []) ∷ []
with_byte b (piece ∷ pieces) = (b ∷ piece) ∷ pieces

-- the pieces of a text between line feeds: the last is what stands behind the last line feed
abbrev pub pieces_of : List ℕ → List (List ℕ)
pieces_of [] = [] ∷ []
pieces_of (b ∷ bs) = if b == 10 then [] ∷ pieces_of bs else with_byte b (pieces_of bs)

-- a form that can't stand here, or what the line says and the next place
abbrev pub order_step : Line → Option Place → Step
order_step line None = Refuses Order
order_step line (Some next) = Leads line next

-- form goes before number, and number before order
abbrev pub reading_step : Place → LineReading → Step
reading_step place NoForm = Refuses Form
reading_step place BadNumber = Refuses Number
reading_step place (Is line) = order_step line (next_place place line)

-- whatever stands behind `end` is refused as that alone
abbrev pub line_step : Place → List ℕ → Step
line_step place bytes =
    if is_over place then Refuses Trailing else reading_step place (reading_of bytes)

-- the certificate of no line
abbrev pub no_lines : Certificate
no_lines = record {
  cols = 0;
  rows = 0;
  value = pos 0;
  point = None;
  cuts = [];
  nodes = [];
}

-- the certificate with what one more line tells
abbrev pub with_line : Certificate → Line → Certificate
with_line c Header = c
with_line c (Size cols rows) = record c { cols = cols; rows = rows }
with_line c (Value value) = record c { value = value }
with_line c (Point point) = record c { point = point }
with_line c (Cuts number) = c
with_line c (Cut cut) = record c { cuts = c.cuts ++ cut ∷ [] }
with_line c (Tree number) = c
with_line c (Node node) = record c { nodes = c.nodes ++ node ∷ [] }
with_line c End = c

-- a step leads to places that fit their types
abbrev pub IsStep : Step → Type 0
IsStep (Refuses kind) = ⊤
IsStep (Leads line next) = IsPlace next

-- nothing may stand behind `end`
abbrev pub end_reading : ℕ → Certificate → List ℕ → Reading
end_reading number c [] = Read c
end_reading number c (b ∷ bs) = RefusedAt number Trailing

-- what stands behind the last line feed ends the text
abbrev pub last_reading : ℕ → Place → Certificate → List ℕ → Reading
last_reading number place c bytes =
    if is_over place then end_reading number c bytes else RefusedAt number Short

-- refused at this line, or what follows it
abbrev pub or_refused : ℕ → Step → (Line → Place → Reading) → Reading
or_refused number (Refuses kind) follows = RefusedAt number kind
or_refused number (Leads line next) follows = follows line next

-- the pieces from a line on, after lines that told so much
abbrev pub judge : ℕ → Place → Certificate → List (List ℕ) → Reading
judge number place c [] = RefusedAt number Short
judge number place c (last ∷ []) = last_reading number place c last
judge number place c (line ∷ piece ∷ pieces) = or_refused number (line_step place line)
    (λ l next. judge (number + 1) next (with_line c l) (piece ∷ pieces))

-- the reading of a text
abbrev pub reading : List ℕ → Reading
reading bytes = judge 1 AtHeader no_lines (pieces_of bytes)

-- the text is read as this certificate
pub record Reads (bytes : List ℕ) (c : Certificate) : Type 0 where
  pub is : reading bytes ≡ Read c

-- the line is the first that isn't allowed, and the kind the first that applies to it
pub record IsRefused (bytes : List ℕ) (line : ℕ) (kind : CertKind) : Type 0 where
  pub is : reading bytes ≡ RefusedAt line kind
