use Rattle.std.proofs.Common.{◌≡◌, ◌∙◌, ◌+◌, ℕ, suc, Bool, true, false, not, nat_le, ◌&&◌, List, [], ◌∷◌, ◌++◌, length, map, All, Option, Some, None, is_none, codes, if◌then◌else◌, refl, sym, ap, subst, arith}
use Rattle.std.specs.List.{list_all}
use Rattle.std.specs.Str.{bytes_eq}
use Rattle.std.proofs.lemmas.Bool.{ne_eqb}
use Rattle.std.proofs.lemmas.List.{append_assoc, map-append}
use Rattle.std.proofs.lemmas.List.Elements.{All-head, All-tail}
use Rattle.std.proofs.lemmas.List.Folds.{list_all-append}
use Rattle.ip_core.specs.Names.{IsName}
use Rattle.mps_read.specs.Names.{is_among, is_long, with_item}
use Rattle.mps_lines.specs.Lines.{words_of, fields}
use Rattle.mps_lines.specs.Forms.{Head, SenseLine, FreeRow, KeptRow, Spoilt, form_of, words_form, marker_word}
use Rattle.mps_model.specs.Prints.{fresh_row}
use Rattle.mps_read.specs.DraftRows.{fresh_state}
use Rattle.mps_read.specs.DraftKinds.{draft_kind}
use Rattle.mps_read.specs.Kinds.{rank_of, is_objsense}
use Rattle.mps_read.specs.Readings.{Reading, is_maximise}
use Rattle.mps_read.specs.Drafts.{first_draft}
use Rattle.mps_read.specs.Steps.{after_free, after_row}
use Rattle.mps_model.specs.MpsModels.{IsMpsModel, IsMpsRow, IsRowName, AreDistinct}
use Rattle.mps_model.specs.Prints.{fields_text, data_line, name_line, sense_lines, kind_word, row_line, row_lines}
use Rattle.mps_model.specs.declared.model.RowKind.{RowKind}
use Rattle.mps_model.specs.declared.model.RowKind.TheVariants.{Less, Greater, Equal}
use Rattle.mps_model.specs.declared.model.MpsRow.{MpsRow}
use Rattle.mps_model.specs.declared.model.MpsModel.{MpsModel}
use Rattle.mps_lines.specs.declared.section.Section.{Section}
use Rattle.mps_lines.specs.declared.section.Section.TheVariants.{Name, Objsense, Rows}
use Rattle.mps_read.specs.declared.draft.RowPlace.TheVariants.{Kept}
use Rattle.mps_read.specs.declared.draft.Draft.{Draft}
use Rattle.mps_read.proofs.PrintBytes.{is_word, name_word, field_word, two_words, head_fields, head_line}
use Rattle.mps_read.proofs.PrintNames.{differ, fresh_at}
use Rattle.mps_read.proofs.PrintLines.{Gives, line_step, data_step, not_long, row_allowed}
use Rattle.mps_read.proofs.PrintPhases.{names_of, bare_row, place_of, places_from, is_valueless, InRows}

-- the header and the rows of a printed text, read back

-- the draft before the rows
abbrev pub opening : Option Section → Bool → List ℕ → Option Bool → Draft
opening section has_sense_line name maximise =
    record first_draft { section = section; has_sense_line = has_sense_line; name = name; maximise = maximise }

pub name_back : (name rest : List ℕ) (r : Reading) → IsName name
    → ((section : Option Section) → nat_le (rank_of section) 1 ≡ true → nat_le (rank_of section) 2 ≡ true → is_objsense section ≡ false → Gives (opening section false name None) rest r)
    → Gives first_draft (name_line name ++ rest) r
name_back [] rest r valid next = next None refl refl refl
name_back (b ∷ bs) rest r valid next =
    let name : List ℕ = b ∷ bs in
    let words : list_all is_word (codes "NAME" ∷ name ∷ []) ≡ true = two_words (codes "NAME") name refl (name_word b bs valid) in
    let line : List ℕ = codes "NAME" ++ fields_text (name ∷ []) in
    let text : name_line name ++ rest ≡ line ++ 10 ∷ rest =
    ap (λ t. (if t then [] else codes "NAME" ++ data_line (name ∷ [])) ++ rest) (ne_eqb (suc (length bs)) 0 (λ e. omega (arith, e)))
    ∙ ap (λ t. codes "NAME" ++ t) (append_assoc (fields_text (name ∷ [])) (codes "\n") rest)
    in
    let form : form_of None false line ≡ Head Name name =
    ap (λ b. if not b then Spoilt else words_form None false false (words_of (fields line))) (head_line (codes "NAME") (name ∷ []) words)
    ∙ ap (λ fs. words_form None false false (words_of fs)) (head_fields (codes "NAME") (name ∷ []) words)
    in
    let short : is_long name ≡ false = not_long name valid in
    let allowed : draft_kind first_draft (Head Name name) ≡ None = rw short refl in
    subst (λ (t : List ℕ). Gives first_draft t r) (sym text)
    (line_step first_draft (opening (Some Name) false name None) line rest (Head Name name) r (head_line (codes "NAME") (name ∷ []) words) form allowed refl refl
    (next (Some Name) refl refl refl))

pub sense_back : (section : Option Section) (name rest : List ℕ) (maximise : Bool) (r : Reading) → nat_le (rank_of section) 1 ≡ true → nat_le (rank_of section) 2 ≡ true → is_objsense section ≡ false
    → ((s : Option Section) (has_sense_line : Bool) (sense : Option Bool) → nat_le (rank_of s) 2 ≡ true → (is_objsense s && is_none sense) ≡ false → is_maximise sense ≡ maximise → Gives (opening s has_sense_line name sense) rest r)
    → Gives (opening section false name None) (sense_lines maximise ++ rest) r
sense_back section name rest false r early before plain next = next section false None before (ap (λ b. b && true) plain) refl
sense_back section name rest true r early before plain next =
    let allowed : draft_kind (opening section false name None) (Head Objsense []) ≡ None = rw early refl in
    line_step (opening section false name None) (opening (Some Objsense) false name None) (codes "OBJSENSE") (codes " MAX\n" ++ rest) (Head Objsense []) r refl refl allowed refl refl
    (line_step (opening (Some Objsense) false name None) (opening (Some Objsense) true name (Some true)) (codes " MAX") rest (SenseLine (codes "MAX")) r refl refl refl refl refl
    (next (Some Objsense) true (Some true) refl refl refl))

-- the draft after one more row, whose name is new
abbrev with_row : Draft → RowKind → List ℕ → Draft
with_row d kind name =
    record d {
      row_names = d.row_names ++ name ∷ [];
      row_states = d.row_states ++ fresh_state (Kept d.kept) ∷ [];
      kept = d.kept + 1;
      rows = d.rows ++ fresh_row kind name ∷ [];
      latest = d.latest ++ 0 ∷ [];
    }

after_row-new : (d : Draft) (kind : RowKind) (name : List ℕ) → is_among name d.row_names ≡ false → after_row d kind name ≡ with_row d kind name
after_row-new d kind name new =
    subst (λ (b : Bool).
    (record d {
      row_names = if b then d.row_names else d.row_names ++ name ∷ [];
      row_states = with_item b (fresh_state (Kept d.kept)) d.row_states;
      kept = if b then d.kept else d.kept + 1;
      rows = with_item b (fresh_row kind name) d.rows;
      latest = with_item b 0 d.latest;
    }) ≡ with_row d kind name) (sym new) refl

kind_is_word : (kind : RowKind) → is_word (kind_word kind) ≡ true
kind_is_word Less = refl
kind_is_word Greater = refl
kind_is_word Equal = refl

row_form_is : (has_sense_line : Bool) (kind : RowKind) (name : List ℕ) → words_form (Some Rows) has_sense_line true (words_of (kind_word kind ∷ name ∷ [])) ≡ KeptRow kind name
row_form_is has_sense_line Less name = refl
row_form_is has_sense_line Greater name = refl
row_form_is has_sense_line Equal name = refl

row_kept : (m : MpsModel) (row : MpsRow) (todo : List MpsRow) (d : Draft) → InRows m (row ∷ todo) d → InRows m todo (with_row d row.kind row.name)
row_kept m row todo d h = record {
  section = h.section;
  header = h.header;
  names = append_assoc d.row_names (row.name ∷ []) (names_of todo) ∙ h.names;
  places =
      ap (λ l. l ++ places_from (d.kept + 1) todo) (map-append place_of d.row_states (fresh_state (Kept d.kept) ∷ []))
      ∙ append_assoc (map place_of d.row_states) (Kept d.kept ∷ []) (places_from (d.kept + 1) todo)
      ∙ h.places;
  valueless = list_all-append is_valueless d.row_states (fresh_state (Kept d.kept) ∷ []) ∙ ap (λ a. a && true) h.valueless;
  objective = h.objective;
  rows = append_assoc d.rows (bare_row row ∷ []) (map bare_row todo) ∙ h.rows;
  columns = h.columns;
  values = h.values;
}

rows_back : (m : MpsModel) → IsMpsModel m → (rest : List ℕ) (r : Reading) (todo : List MpsRow) → All IsMpsRow todo → (d : Draft) → InRows m todo d
    → ((e : Draft) → InRows m [] e → Gives e rest r) → Gives d (row_lines todo ++ rest) r
rows_back m valid rest r [] all d h next = next d h
rows_back m valid rest r (row ∷ todo) all d h next =
    let named : IsRowName row.name = (All-head IsMpsRow row todo all).name in
    let new : is_among row.name d.row_names ≡ false = fresh_at d.row_names row.name (names_of todo) (subst (λ (ns : List (List ℕ)). AreDistinct ns []) (sym h.names) valid.row_names) in
    subst (λ (t : List ℕ). Gives d t r) (sym (append_assoc (row_line row) (row_lines todo) rest))
    (data_step d (with_row d row.kind row.name) (kind_word row.kind) (row.name ∷ []) (row_lines todo ++ rest) (KeptRow row.kind row.name) r
    (two_words (kind_word row.kind) row.name (kind_is_word row.kind) (field_word row.name named.field))
    (ap (λ s. words_form s d.has_sense_line true (words_of (kind_word row.kind ∷ row.name ∷ []))) h.section ∙ row_form_is d.has_sense_line row.kind row.name)
    (row_allowed d row.kind row.name new (differ row.name marker_word named.not_marker) (not_long row.name named.field.is_name))
    refl
    (after_row-new d row.kind row.name new)
    (rows_back m valid rest r todo (All-tail IsMpsRow row todo all) (with_row d row.kind row.name) (row_kept m row todo d h) next))

-- the section of rows, with that of the objective at its head
pub rows_section_back : (m : MpsModel) → IsMpsModel m → (rest : List ℕ) (r : Reading) (section : Option Section) (has_sense_line : Bool) (sense : Option Bool)
    → nat_le (rank_of section) 2 ≡ true → (is_objsense section && is_none sense) ≡ false → is_maximise sense ≡ m.maximise
    → ((e : Draft) → InRows m [] e → Gives e rest r)
    → Gives (opening section has_sense_line m.name sense) (codes "ROWS\n" ++ (data_line (codes "N" ∷ m.objective ∷ []) ++ (row_lines m.rows ++ rest))) r
rows_section_back m valid rest r section has_sense_line sense before plain maximise next =
    let d : Draft = opening (Some Rows) has_sense_line m.name sense in
    let e : Draft = after_free d m.objective in
    let allowed : draft_kind (opening section has_sense_line m.name sense) (Head Rows []) ≡ None = rw (before, plain) refl in
    let unmarked : bytes_eq m.objective marker_word ≡ false = differ m.objective marker_word valid.objective.not_marker in
    let short : is_long m.objective ≡ false = not_long m.objective valid.objective.field.is_name in
    let free : draft_kind d (FreeRow m.objective) ≡ None = rw (unmarked, short) refl in
    let begun : InRows m m.rows e = record {
      section = refl;
      header = record { same_name = refl; same_sense = maximise };
      names = refl;
      places = refl;
      valueless = refl;
      objective = refl;
      rows = refl;
      columns = record { no_column_names = refl; no_cols = refl; no_is_integer = refl; no_marks = refl };
      values = record { no_constant = refl; no_rhs = refl; no_ranges = refl; no_bounds = refl };
    } in
    line_step (opening section has_sense_line m.name sense) d (codes "ROWS") (data_line (codes "N" ∷ m.objective ∷ []) ++ (row_lines m.rows ++ rest)) (Head Rows []) r refl refl allowed refl refl
    (data_step d e (codes "N") (m.objective ∷ []) (row_lines m.rows ++ rest) (FreeRow m.objective) r
    (two_words (codes "N") m.objective refl (field_word m.objective valid.objective.field)) refl free refl refl
    (rows_back m valid rest r m.rows valid.rows e begun next))
