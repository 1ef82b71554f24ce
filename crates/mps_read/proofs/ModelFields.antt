use Rattle.std.proofs.Common.{◌≡◌, ◌∙◌, ◌≤◌, ℕ, Bool, true, false, not, nat_le, nat_lt, List, [], ◌∷◌, length, filter, Option, Some, None, refl, sym, ap, arith, All, codes, if◌then◌else◌}
use Rattle.std.specs.List.{list_all}
use Rattle.std.specs.Str.{bytes_eq}
use Rattle.std.proofs.lemmas.Bool.{false≢true}
use Rattle.std.proofs.lemmas.Bool.Decides.{nat_tests}
use Rattle.std.proofs.lemmas.List.Elements.{All-nil, All-cons}
use Rattle.ip_core.specs.Names.{IsName, IsNameByte}
use Rattle.mps_read.specs.Names.{is_long}
use Rattle.mps_lines.specs.Lines.{Words, Zero, One, Two, Three, Four, Five, Many, words_of, fields, pieces, first_word, has_none, is_comment, is_data, is_visible, is_filled, is_line_byte}
use Rattle.mps_lines.specs.Forms.{Form, Blank, Spoilt, Head, UnknownHead, Stray, Miscounted, SenseLine, FreeRow, KeptRow, UntypedRow, Marker, UnknownMarker, Entries, Values, BoundLine, UntypedBound, marker_word, section_named, second_word, known_head, head_form, sense_form, row_kind_named, kept_row, rows_form, marker_form, columns_form, values_form, bound_named, has_numeral, numeral_bound, plain_bound, typed_bound, data_form, words_form, form_of}
use Rattle.mps_model.specs.MpsModels.{IsFieldName, IsRowName}
use Rattle.mps_model.specs.declared.model.RowKind.{RowKind}
use Rattle.mps_lines.specs.declared.section.Section.{Section}
use Rattle.mps_lines.specs.declared.section.Section.TheVariants.{Name, Objsense, Rows, Columns, Rhs, Ranges, Bounds, Endata}
use Rattle.mps_lines.specs.declared.section.ValueKind.{ValueKind}
use Rattle.mps_lines.specs.declared.section.ValueKind.TheVariants.{Side, Range}
use Rattle.mps_lines.specs.declared.section.BoundKind.{BoundKind}
use Rattle.mps_lines.proofs.Truths.{and_true, by_case}
use Rattle.mps_lines.proofs.Visible.{all_visible, pieces-visible, filter-visible}

-- the names that a line brings are fields

-- a field: visible bytes, of which there are some
pub record IsWord (w : List ℕ) : Type 0 where
  pub visible : list_all is_visible w ≡ true
  pub nonempty : is_filled w ≡ true

abbrev AreWords : Words → Type 0
AreWords Zero = Unit {0}
AreWords (One a) = IsWord a
AreWords (Two a b) = IsWord a × IsWord b
AreWords (Three a b c) = IsWord a × IsWord b
AreWords (Four a b c d) = IsWord a × IsWord b
AreWords (Five a b c d e) = IsWord a × IsWord b
AreWords (Many a b) = IsWord a × IsWord b

-- what holds of the names in what a line says
abbrev pub HasWords : Form → Type 0
HasWords Blank = Unit {0}
HasWords Spoilt = Unit {0}
HasWords (Head section word) = list_all is_visible word ≡ true
HasWords UnknownHead = Unit {0}
HasWords Stray = Unit {0}
HasWords Miscounted = Unit {0}
HasWords (SenseLine word) = Unit {0}
HasWords (FreeRow name) = IsWord name
HasWords (KeptRow kind name) = IsWord name
HasWords UntypedRow = Unit {0}
HasWords (Marker is_integer) = Unit {0}
HasWords UnknownMarker = Unit {0}
HasWords (Entries column first second) = IsWord column
HasWords (Values kind set first second) = Unit {0}
HasWords (BoundLine kind set column numeral) = Unit {0}
HasWords UntypedBound = Unit {0}

-- what holds in both cases of a test
either : (P : Form → Type 0) (b : Bool) (x y : Form) → P x → P y → P (if b then x else y)
either P true x y here there = here
either P false x y here there = there

known_head_words : (section : Option Section) (word : List ℕ) → list_all is_visible word ≡ true → HasWords (known_head section word)
known_head_words None word h = tt
known_head_words (Some section) word h = h

second_visible : (ws : Words) → AreWords ws → list_all is_visible (second_word ws) ≡ true
second_visible Zero h = refl
second_visible (One a) h = refl
second_visible (Two a b) h = h.1.visible
second_visible (Three a b c) h = h.1.visible
second_visible (Four a b c d) h = h.1.visible
second_visible (Five a b c d e) h = h.1.visible
second_visible (Many a b) h = h.1.visible

head_words : (ws : Words) → AreWords ws → HasWords (head_form ws)
head_words ws h = known_head_words (section_named (first_word ws)) (second_word ws) (second_visible ws h)

sense_words : (ws : Words) → HasWords (sense_form ws)
sense_words Zero = tt
sense_words (One a) = tt
sense_words (Two a b) = tt
sense_words (Three a b c) = tt
sense_words (Four a b c d) = tt
sense_words (Five a b c d e) = tt
sense_words (Many a b) = tt

kept_words : (kind : Option RowKind) (name : List ℕ) → IsWord name → HasWords (kept_row kind name)
kept_words None name h = tt
kept_words (Some kind) name h = h

row_words : (ws : Words) → AreWords ws → HasWords (rows_form ws)
row_words Zero h = tt
row_words (One a) h = tt
row_words (Two kind name) h = either HasWords (bytes_eq kind (codes "N")) (FreeRow name) (kept_row (row_kind_named kind) name) h.1 (kept_words (row_kind_named kind) name h.1)
row_words (Three a b c) h = tt
row_words (Four a b c d) h = tt
row_words (Five a b c d e) h = tt
row_words (Many a b) h = tt

marker_words : (word : List ℕ) → HasWords (marker_form word)
marker_words word =
    either HasWords (bytes_eq word (codes "'INTORG'")) (Marker true) (if bytes_eq word (codes "'INTEND'") then Marker false else UnknownMarker) tt
    (either HasWords (bytes_eq word (codes "'INTEND'")) (Marker false) UnknownMarker tt tt)

column_words : (ws : Words) → AreWords ws → HasWords (columns_form ws)
column_words Zero h = tt
column_words (One a) h = tt
column_words (Two a b) h = tt
column_words (Three column row numeral) h = either HasWords (bytes_eq row marker_word) (marker_form numeral) (Entries column (record { row = row; numeral = numeral }) None) (marker_words numeral) h.0
column_words (Four a b c d) h = tt
column_words (Five column row numeral row2 numeral2) h = either HasWords (bytes_eq row marker_word) Miscounted (Entries column (record { row = row; numeral = numeral }) (Some (record { row = row2; numeral = numeral2 }))) tt h.0
column_words (Many a b) h = tt

value_words : (kind : ValueKind) (ws : Words) → HasWords (values_form kind ws)
value_words kind Zero = tt
value_words kind (One a) = tt
value_words kind (Two a b) = tt
value_words kind (Three a b c) = tt
value_words kind (Four a b c d) = tt
value_words kind (Five a b c d e) = tt
value_words kind (Many a b) = tt

numeral_words : (kind : BoundKind) (ws : Words) → HasWords (numeral_bound kind ws)
numeral_words kind Zero = tt
numeral_words kind (One a) = tt
numeral_words kind (Two a b) = tt
numeral_words kind (Three a b c) = tt
numeral_words kind (Four a b c d) = tt
numeral_words kind (Five a b c d e) = tt
numeral_words kind (Many a b) = tt

plain_words : (kind : BoundKind) (ws : Words) → HasWords (plain_bound kind ws)
plain_words kind Zero = tt
plain_words kind (One a) = tt
plain_words kind (Two a b) = tt
plain_words kind (Three a b c) = tt
plain_words kind (Four a b c d) = tt
plain_words kind (Five a b c d e) = tt
plain_words kind (Many a b) = tt

bound_words : (kind : Option BoundKind) (ws : Words) → HasWords (typed_bound kind ws)
bound_words None ws = tt
bound_words (Some kind) ws = either HasWords (has_numeral kind) (numeral_bound kind ws) (plain_bound kind ws) (numeral_words kind ws) (plain_words kind ws)

data_words : (section : Option Section) (sense : Bool) (ws : Words) → AreWords ws → HasWords (data_form section sense ws)
data_words None sense ws h = tt
data_words (Some Name) sense ws h = tt
data_words (Some Objsense) sense ws h = either HasWords sense Stray (sense_form ws) tt (sense_words ws)
data_words (Some Rows) sense ws h = row_words ws h
data_words (Some Columns) sense ws h = column_words ws h
data_words (Some Rhs) sense ws h = value_words Side ws
data_words (Some Ranges) sense ws h = value_words Range ws
data_words (Some Bounds) sense ws h = bound_words (bound_named (first_word ws)) ws
data_words (Some Endata) sense ws h = tt

filled_words : (ps : List (List ℕ)) → list_all is_filled (filter is_filled ps) ≡ true
filled_words [] = refl
filled_words (p ∷ ps) = by_case (is_filled p) _ (λ here. rw (here, here) (filled_words ps)) (λ here. rw here (filled_words ps))

two : (a b : List ℕ) (ws : List (List ℕ)) → all_visible (a ∷ b ∷ ws) ≡ true → list_all is_filled (a ∷ b ∷ ws) ≡ true → IsWord a × IsWord b
two a b ws v f =
    let p = and_true (list_all is_visible a) (all_visible (b ∷ ws)) v in
    let q = and_true (is_filled a) (list_all is_filled (b ∷ ws)) f in (
      record { visible = p.0; nonempty = q.0 },
      record { visible = (and_true (list_all is_visible b) (all_visible ws) p.1).0; nonempty = (and_true (is_filled b) (list_all is_filled ws) q.1).0 },
    )

words_are : (ws : List (List ℕ)) → all_visible ws ≡ true → list_all is_filled ws ≡ true → AreWords (words_of ws)
words_are [] v f = tt
words_are (a ∷ []) v f = record { visible = (and_true (list_all is_visible a) _ v).0; nonempty = (and_true (is_filled a) _ f).0 }
words_are (a ∷ b ∷ []) v f = two a b [] v f
words_are (a ∷ b ∷ c ∷ []) v f = two a b (c ∷ []) v f
words_are (a ∷ b ∷ c ∷ d ∷ []) v f = two a b (c ∷ d ∷ []) v f
words_are (a ∷ b ∷ c ∷ d ∷ e ∷ []) v f = two a b (c ∷ d ∷ e ∷ []) v f
words_are (a ∷ b ∷ c ∷ d ∷ e ∷ g ∷ more) v f = two a b (c ∷ d ∷ e ∷ g ∷ more) v f

spoilt_or : (section : Option Section) (sense : Bool) (line : List ℕ) (b : Bool) → list_all is_line_byte line ≡ b
    → HasWords (if not b then Spoilt else words_form section sense (is_data line) (words_of (fields line)))
spoilt_or section sense line false h = tt
spoilt_or section sense line true h =
    let ws : Words = words_of (fields line) in
    let are : AreWords ws = words_are (fields line) (filter-visible (pieces line) (pieces-visible line h)) (filled_words (pieces line)) in
    either HasWords (has_none ws) Blank (if is_data line then data_form section sense ws else head_form ws) tt (either HasWords (is_data line) (data_form section sense ws) (head_form ws) (data_words section sense ws are) (head_words ws are))

pub form_words : (section : Option Section) (sense : Bool) (line : List ℕ) → HasWords (form_of section sense line)
form_words section sense line = either HasWords (is_comment line) Blank (if not (list_all is_line_byte line) then Spoilt else words_form section sense (is_data line) (words_of (fields line))) tt (spoilt_or section sense line (list_all is_line_byte line) refl)

-- fields as names

name_bytes : (w : List ℕ) → list_all is_visible w ≡ true → All IsNameByte w
name_bytes [] h = All-nil IsNameByte
name_bytes (b ∷ w) h =
    let p = and_true (is_visible b) (list_all is_visible w) h in
    let q = and_true (nat_le 33 b) (nat_le b 126) p.0 in
    All-cons IsNameByte b w (record { low = grind (arith, nat_tests); high = grind (arith, nat_tests) }) (name_bytes w p.1)

not_longer : (n : ℕ) → nat_lt 255 n ≡ false → n ≤ 255
not_longer n h = grind (arith, nat_tests)

pub name_is : (w : List ℕ) → list_all is_visible w ≡ true → is_long w ≡ false → IsName w
name_is w h short = record { short = not_longer (length w) short; visible = name_bytes w h }

pub field_is : (w : List ℕ) → IsWord w → is_long w ≡ false → IsFieldName w
field_is w h short = record { is_name = name_is w h.visible short; nonempty = λ e. false≢true (ap is_filled (sym e) ∙ h.nonempty) }

pub row_name_is : (w : List ℕ) → IsWord w → is_long w ≡ false → bytes_eq w marker_word ≡ false → IsRowName w
row_name_is w h short other = record { field = field_is w h short; not_marker = λ e. false≢true (sym other ∙ ap (λ n. bytes_eq n marker_word) e) }
