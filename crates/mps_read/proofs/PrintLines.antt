use Rattle.std.proofs.Common.{◌≡◌, ◌∙◌, ◌+◌, ℕ, true, false, not, List, [], ◌∷◌, ◌++◌, None, codes, if◌then◌else◌, refl, sym, ap, subst, arith}
use Rattle.std.specs.List.{list_all}
use Rattle.std.specs.Str.{bytes_eq}
use Rattle.std.proofs.lemmas.Bool.Decides.{nat_tests}
use Rattle.std.proofs.lemmas.List.{append_assoc}
use Rattle.ip_core.specs.Names.{IsName}
use Rattle.ip_core.specs.Decimals.{Number, IsDecimal}
use Rattle.ip_core.specs.Prints.{number_text}
use Rattle.ip_core.proofs.DecimalReadback.{read_number_text}
use Rattle.mps_read.specs.Names.{is_among, place_among, is_long}
use Rattle.mps_read.specs.Numerals.{is_read, is_numeral, or_zero, decimal_of}
use Rattle.mps_lines.specs.Lines.{lines_of, fields, words_of, is_line_byte}
use Rattle.mps_lines.specs.Forms.{Form, Pair, Spoilt, KeptRow, Entries, Values, BoundLine, form_of, words_form, is_end, has_numeral, marker_word}
use Rattle.mps_read.specs.Sets.{is_used}
use Rattle.mps_read.specs.DraftRows.{state_at}
use Rattle.mps_read.specs.DraftKinds.{draft_kind, has_mark}
use Rattle.mps_read.specs.Kinds.{is_split_column}
use Rattle.mps_read.specs.Readings.{Reading, Read, outcome}
use Rattle.mps_read.specs.Steps.{draft_model, after, run}
use Rattle.mps_model.specs.Prints.{fields_text, data_line}
use Rattle.mps_model.specs.declared.model.RowKind.{RowKind}
use Rattle.mps_lines.specs.declared.section.ValueKind.TheVariants.{Side, Range}
use Rattle.mps_lines.specs.declared.section.BoundKind.{BoundKind}
use Rattle.mps_read.specs.declared.draft.Draft.{Draft}
use Rattle.mps_read.proofs.PrintBytes.{is_word, line_first, bytes-fields_text, fields-fields_text}

-- reading one printed line, and what follows it

-- reading this text from a draft on gives this, whatever the number of the line
pub record Gives (d : Draft) (bytes : List ℕ) (r : Reading) : Type 0 where
  pub each : (n : ℕ) → run d n (lines_of bytes) ≡ r

pub line_step : (d e : Draft) (line rest : List ℕ) (f : Form) (r : Reading) → list_all is_line_byte line ≡ true → form_of d.section d.has_sense_line line ≡ f
    → draft_kind d f ≡ None → is_end f ≡ false → after d f ≡ e → Gives e rest r → Gives d (line ++ 10 ∷ rest) r
line_step d e line rest f r bytes form allowed more next gives = record {
  each = λ n.
      ap (run d n) (line_first line rest bytes)
      ∙ ap (λ g. outcome (draft_kind d g) (is_end g) n (Read (draft_model d)) (run (after d g) (n + 1) (lines_of rest))) form
      ∙ ap (λ k. outcome k (is_end f) n (Read (draft_model d)) (run (after d f) (n + 1) (lines_of rest))) allowed
      ∙ ap (λ b. outcome None b n (Read (draft_model d)) (run (after d f) (n + 1) (lines_of rest))) more
      ∙ ap (λ g. run g (n + 1) (lines_of rest)) next
      ∙ gives.each (n + 1);
}

pub data_step : (d e : Draft) (w : List ℕ) (ws : List (List ℕ)) (rest : List ℕ) (f : Form) (r : Reading) → list_all is_word (w ∷ ws) ≡ true
    → words_form d.section d.has_sense_line true (words_of (w ∷ ws)) ≡ f → draft_kind d f ≡ None → is_end f ≡ false → after d f ≡ e → Gives e rest r
    → Gives d (data_line (w ∷ ws) ++ rest) r
data_step d e w ws rest f r words form allowed more next gives =
    let line : List ℕ = fields_text (w ∷ ws) in
    let is : form_of d.section d.has_sense_line line ≡ f =
    ap (λ b. if not b then Spoilt else words_form d.section d.has_sense_line true (words_of (fields line))) (bytes-fields_text (w ∷ ws) words)
    ∙ ap (λ fs. words_form d.section d.has_sense_line true (words_of fs)) (fields-fields_text (w ∷ ws) words)
    ∙ form
    in
    subst (λ (t : List ℕ). Gives d t r) (sym (append_assoc line (codes "\n") rest))
    (line_step d e line rest f r (bytes-fields_text (w ∷ ws) words) is allowed more next gives)

pub not_long : (w : List ℕ) → IsName w → is_long w ≡ false
not_long w h = let short = h.short in grind (arith, nat_tests)

-- the numeral of a printed decimal
pub numeral_is : (n : Number) → IsDecimal n → is_numeral (number_text n) ≡ true
numeral_is n h = ap is_read (read_number_text n h)

pub value_is : (n : Number) → IsDecimal n → decimal_of (number_text n) ≡ n
value_is n h = ap or_zero (read_number_text n h)

-- what allows a line

pub row_allowed : (d : Draft) (kind : RowKind) (name : List ℕ) → is_among name d.row_names ≡ false → bytes_eq name marker_word ≡ false → is_long name ≡ false
    → draft_kind d (KeptRow kind name) ≡ None
row_allowed d kind name new unmarked short = rw (new, unmarked, short) refl

pub entry_allowed : (d : Draft) (column : List ℕ) (pair : Pair) → is_numeral pair.numeral ≡ true → is_among pair.row d.row_names ≡ true
    → has_mark (place_among pair.row d.row_names) (place_among column d.column_names) d.marks ≡ false
    → is_split_column d.column_names (Entries column pair None) ≡ false → is_long column ≡ false → draft_kind d (Entries column pair None) ≡ None
entry_allowed d column pair numeral known unmarked whole short = rw (numeral, known, unmarked, whole, short) refl

pub side_allowed : (d : Draft) (set : List ℕ) (pair : Pair) → is_used d.rhs.set set ≡ true → is_numeral pair.numeral ≡ true → is_among pair.row d.row_names ≡ true
    → (state_at d.row_states (place_among pair.row d.row_names)).has_side ≡ false → is_long set ≡ false → draft_kind d (Values Side set pair None) ≡ None
side_allowed d set pair used numeral known unmarked short = rw (used, numeral, known, unmarked, short) refl

pub range_allowed : (d : Draft) (set : List ℕ) (pair : Pair) → is_used d.ranges.set set ≡ true → is_numeral pair.numeral ≡ true → is_among pair.row d.row_names ≡ true
    → (state_at d.row_states (place_among pair.row d.row_names)).has_range ≡ false → is_long set ≡ false → draft_kind d (Values Range set pair None) ≡ None
range_allowed d set pair used numeral known unmarked short = rw (used, numeral, known, unmarked, short) refl

pub bound_allowed : (d : Draft) (kind : BoundKind) (set column numeral : List ℕ) → is_used d.bounds.set set ≡ true → has_numeral kind ≡ true → is_numeral numeral ≡ true
    → is_among column d.column_names ≡ true → is_long set ≡ false → draft_kind d (BoundLine kind set column numeral) ≡ None
bound_allowed d kind set column numeral used has read known short = rw (used, has, read, known, short) refl

pub plain_bound_allowed : (d : Draft) (kind : BoundKind) (set column : List ℕ) → is_used d.bounds.set set ≡ true → has_numeral kind ≡ false
    → is_among column d.column_names ≡ true → is_long set ≡ false → draft_kind d (BoundLine kind set column []) ≡ None
plain_bound_allowed d kind set column used has known short = rw (used, has, known, short) refl
