use Rattle.std.proofs.Common.{◌≡◌, ◌∙◌, ◌+◌, ℕ, Bool, true, false, List, [], ◌∷◌, ◌++◌, length, map, slice_set, All, Option, Some, None, codes, if◌then◌else◌, refl, sym, ap, subst}
use Rattle.std.proofs.lemmas.Bool.{false≢true}
use Rattle.std.proofs.lemmas.List.{append_assoc, append-nil, map-append, get_or_at, set_at, length-map}
use Rattle.std.proofs.lemmas.List.Elements.{All-head, All-tail}
use Rattle.ip_core.specs.Decimals.{Number, IsDecimal}
use Rattle.ip_core.specs.Prints.{number_text}
use Rattle.mps_read.specs.Names.{is_among, place_among}
use Rattle.mps_read.specs.Numerals.{decimal_of}
use Rattle.mps_lines.specs.Lines.{words_of}
use Rattle.mps_lines.specs.Forms.{Head, BoundLine, words_form, has_numeral}
use Rattle.mps_read.specs.Sets.{is_used}
use Rattle.mps_read.specs.Steps.{with_set, with_head, draft_model, after, after_head, after_bound, run}
use Rattle.mps_read.specs.DraftColumns.{fresh_column, bounded_column, with_bound}
use Rattle.mps_read.specs.Columns.{low_limit, high_limit}
use Rattle.mps_read.specs.DraftKinds.{draft_kind}
use Rattle.mps_read.specs.Readings.{Reading, Read, outcome, name_or_empty, is_maximise}
use Rattle.mps_model.specs.MpsModels.{IsMpsModel, IsMpsCol, IsLow, IsHigh, AreDistinct}
use Rattle.mps_model.specs.Prints.{data_line, section_lines, low_line, high_line, bound_lines}
use Rattle.mps_model.specs.declared.model.Limit.{Limit}
use Rattle.mps_model.specs.declared.model.Limit.TheVariants.{Unset, Free, At}
use Rattle.mps_model.specs.declared.model.MpsRow.{MpsRow}
use Rattle.mps_model.specs.declared.model.MpsCol.{MpsCol}
use Rattle.mps_model.specs.declared.model.MpsModel.{MpsModel}
use Rattle.mps_lines.specs.declared.section.Section.{Section}
use Rattle.mps_lines.specs.declared.section.Section.TheVariants.{Bounds, Endata}
use Rattle.mps_lines.specs.declared.section.BoundKind.{BoundKind}
use Rattle.mps_lines.specs.declared.section.BoundKind.TheVariants.{Lower, Upper, NoLower, NoUpper}
use Rattle.mps_read.specs.declared.draft.SetUse.{SetUse}
use Rattle.mps_read.specs.declared.draft.Draft.{Draft}
use Rattle.mps_read.proofs.PrintBytes.{is_word, field_word, number_word, three_words, four_words}
use Rattle.mps_read.proofs.PrintNames.{fresh_at, among_between, place_first}
use Rattle.mps_read.proofs.PrintLines.{Gives, data_step, numeral_is, value_is, bound_allowed, plain_bound_allowed}
use Rattle.mps_read.proofs.PrintPhases.{column_names, without_bounds}
use Rattle.mps_read.proofs.PrintedValues.{IsFrame, IsLate, InRanges, is_nil, section_back, still_used}

-- the bounds of a printed text, read back, and its end

-- the bounds of some columns are still to come: `current` has what the lines so far say of the next one
record InBounds (m : MpsModel) (lines : List ℕ) (done : List MpsCol) (col current : MpsCol) (todo : List MpsCol) (d : Draft) : Type 0 where
  late : IsLate d.section
  in_section : is_nil lines ≡ false → d.section ≡ Some Bounds
  frame : IsFrame m d.name d.maximise d.row_names d.objective d.column_names
  split : done ++ col ∷ todo ≡ m.cols
  rows : d.rows ≡ m.rows
  cols : d.cols ≡ done ++ current ∷ map without_bounds todo
  same_constant : d.constant ≡ m.constant
  uses_set : is_used d.bounds.set (codes "BND") ≡ true

-- all bounds are there
pub record IsWhole (m : MpsModel) (d : Draft) : Type 0 where
  pub late : IsLate d.section
  pub frame : IsFrame m d.name d.maximise d.row_names d.objective d.column_names
  pub rows : d.rows ≡ m.rows
  pub cols : d.cols ≡ m.cols
  pub same_constant : d.constant ≡ m.constant

-- a column between those done and those to come
record IsBetween (names : List (List ℕ)) (name : List ℕ) (number : ℕ) : Type 0 where
  known : is_among name names ≡ true
  same_number : place_among name names ≡ number

between_is : (m : MpsModel) → IsMpsModel m → (done : List MpsCol) (col : MpsCol) (todo : List MpsCol) (names : List (List ℕ)) → done ++ col ∷ todo ≡ m.cols → names ≡ column_names m.cols → IsBetween names col.name (length done)
between_is m valid done col todo names split same =
    let parted : column_names m.cols ≡ column_names done ++ col.name ∷ column_names todo =
    ap column_names (sym split) ∙ map-append (λ (c : MpsCol). c.name) done (col ∷ todo)
    in
    let distinct : AreDistinct (column_names done ++ col.name ∷ column_names todo) [] = subst (λ (ns : List (List ℕ)). AreDistinct ns []) parted valid.column_names in
    let all : names ≡ column_names done ++ col.name ∷ column_names todo = same ∙ parted in
    record {
      known = ap (is_among col.name) all ∙ among_between (column_names done) col.name (column_names todo);
      same_number =
          ap (place_among col.name) all
          ∙ place_first (column_names done) col.name (column_names todo) (fresh_at (column_names done) col.name (column_names todo) distinct)
          ∙ length-map done (λ (c : MpsCol). c.name);
    }

bound_kept : (m : MpsModel) (lines more : List ℕ) (done : List MpsCol) (col current : MpsCol) (todo : List MpsCol) (d : Draft) (kind : BoundKind) (value : Number) → is_nil lines ≡ false → InBounds m lines done col current todo d
    → InBounds m more done col (bounded_column kind value current) todo (record d { cols = with_bound kind value (length done) d.cols; bounds = with_set (codes "BND") d.bounds })
bound_kept m lines more done col current todo d kind value filled h = record {
  late = h.late;
  in_section = λ some. h.in_section filled;
  frame = h.frame;
  split = h.split;
  rows = h.rows;
  cols =
      ap (with_bound kind value (length done)) h.cols
      ∙ ap (λ c. slice_set (done ++ current ∷ map without_bounds todo) (length done) (bounded_column kind value c)) (get_or_at done current (map without_bounds todo) (fresh_column false []) (length done) refl)
      ∙ set_at done current (map without_bounds todo) (bounded_column kind value current) (length done) refl;
  same_constant = h.same_constant;
  uses_set = still_used (codes "BND") d.bounds h.uses_set;
}

-- the draft after a bound of the column of a number
abbrev bound_draft : Draft → BoundKind → Number → ℕ → Draft
bound_draft d kind value number = record d { cols = with_bound kind value number d.cols; bounds = with_set (codes "BND") d.bounds }

bound_after : (d : Draft) (kind : BoundKind) (name text : List ℕ) (value : Number) (number : ℕ) → is_used d.bounds.set (codes "BND") ≡ true → place_among name d.column_names ≡ number → decimal_of text ≡ value
    → after d (BoundLine kind (codes "BND") name text) ≡ bound_draft d kind value number
bound_after d kind name text value number used place is =
    ap (λ b. if b then after_bound d kind (codes "BND") name (decimal_of text) else d) used
    ∙ ap (λ k. bound_draft d kind (decimal_of text) k) place
    ∙ ap (λ v. bound_draft d kind v number) is

-- a line with a number, and one without
valued_step : (m : MpsModel) → IsMpsModel m → (lines more : List ℕ) (done : List MpsCol) (col current : MpsCol) (todo : List MpsCol) (d : Draft) (kind : BoundKind) (word : List ℕ) (value : Number) (rest : List ℕ) (r : Reading)
    → is_word word ≡ true → words_form (Some Bounds) d.has_sense_line true (words_of (word ∷ codes "BND" ∷ col.name ∷ number_text value ∷ [])) ≡ BoundLine kind (codes "BND") col.name (number_text value)
    → has_numeral kind ≡ true → IsMpsCol (length m.rows) col → IsDecimal value → is_nil lines ≡ false → InBounds m lines done col current todo d
    → ((e : Draft) → InBounds m more done col (bounded_column kind value current) todo e → Gives e rest r)
    → Gives d (data_line (word ∷ codes "BND" ∷ col.name ∷ number_text value ∷ []) ++ rest) r
valued_step m valid lines more done col current todo d kind word value rest r is_kind form counts is decimal filled h next =
    let text : List ℕ = number_text value in
    let at : IsBetween d.column_names col.name (length done) = between_is m valid done col todo d.column_names h.split h.frame.same_columns in
    data_step d (bound_draft d kind value (length done)) word (codes "BND" ∷ col.name ∷ text ∷ []) rest (BoundLine kind (codes "BND") col.name text) r
    (four_words word (codes "BND") col.name text is_kind refl (field_word col.name is.name) (number_word value decimal))
    (ap (λ s. words_form s d.has_sense_line true (words_of (word ∷ codes "BND" ∷ col.name ∷ text ∷ []))) (h.in_section filled) ∙ form)
    (bound_allowed d kind (codes "BND") col.name text h.uses_set counts (numeral_is value decimal) at.known refl) refl
    (bound_after d kind col.name text value (length done) h.uses_set at.same_number (value_is value decimal))
    (next (bound_draft d kind value (length done)) (bound_kept m lines more done col current todo d kind value filled h))

plain_step : (m : MpsModel) → IsMpsModel m → (lines more : List ℕ) (done : List MpsCol) (col current : MpsCol) (todo : List MpsCol) (d : Draft) (kind : BoundKind) (word rest : List ℕ) (r : Reading)
    → is_word word ≡ true → words_form (Some Bounds) d.has_sense_line true (words_of (word ∷ codes "BND" ∷ col.name ∷ [])) ≡ BoundLine kind (codes "BND") col.name []
    → has_numeral kind ≡ false → IsMpsCol (length m.rows) col → is_nil lines ≡ false → InBounds m lines done col current todo d
    → ((e : Draft) → InBounds m more done col (bounded_column kind (decimal_of []) current) todo e → Gives e rest r)
    → Gives d (data_line (word ∷ codes "BND" ∷ col.name ∷ []) ++ rest) r
plain_step m valid lines more done col current todo d kind word rest r is_kind form counts is filled h next =
    let at : IsBetween d.column_names col.name (length done) = between_is m valid done col todo d.column_names h.split h.frame.same_columns in
    data_step d (bound_draft d kind (decimal_of []) (length done)) word (codes "BND" ∷ col.name ∷ []) rest (BoundLine kind (codes "BND") col.name []) r
    (three_words word (codes "BND") col.name is_kind refl (field_word col.name is.name))
    (ap (λ s. words_form s d.has_sense_line true (words_of (word ∷ codes "BND" ∷ col.name ∷ []))) (h.in_section filled) ∙ form)
    (plain_bound_allowed d kind (codes "BND") col.name h.uses_set counts at.known refl) refl
    (bound_after d kind col.name [] (decimal_of []) (length done) h.uses_set at.same_number refl)
    (next (bound_draft d kind (decimal_of []) (length done)) (bound_kept m lines more done col current todo d kind (decimal_of []) filled h))

-- a column with its low alone
abbrev with_low : MpsCol → Limit → MpsCol
with_low col low = record col { low = low; high = Unset }

weaker : (m : MpsModel) (lines more : List ℕ) (done : List MpsCol) (col current : MpsCol) (todo : List MpsCol) (d : Draft) → (is_nil more ≡ false → is_nil lines ≡ false) → InBounds m lines done col current todo d
    → InBounds m more done col current todo d
weaker m lines more done col current todo d filled h = record {
  late = h.late;
  in_section = λ some. h.in_section (filled some);
  frame = h.frame;
  split = h.split;
  rows = h.rows;
  cols = h.cols;
  same_constant = h.same_constant;
  uses_set = h.uses_set;
}

low_back : (m : MpsModel) → IsMpsModel m → (more : List ℕ) (done : List MpsCol) (col : MpsCol) (todo : List MpsCol) (d : Draft) (rest : List ℕ) (r : Reading) → IsMpsCol (length m.rows) col
    → (low : Limit) → IsLow low → InBounds m (low_line col.name low ++ more) done col (without_bounds col) todo d
    → ((e : Draft) → InBounds m more done col (with_low col low) todo e → Gives e rest r) → Gives d (low_line col.name low ++ rest) r
low_back m valid more done col todo d rest r is Unset fit h next = next d h
low_back m valid more done col todo d rest r is Free fit h next =
    plain_step m valid (low_line col.name Free ++ more) more done col (without_bounds col) todo d NoLower (codes "MI") rest r refl refl refl is refl h next
low_back m valid more done col todo d rest r is (At value) fit h next =
    let low : low_limit value ≡ At value = ap (λ b. if b then Free else At value) fit.1 in
    valued_step m valid (low_line col.name (At value) ++ more) more done col (without_bounds col) todo d Lower (codes "LO") value rest r refl refl refl is fit.0 refl h
    (λ e kept. next e (subst (λ (l : Limit). InBounds m more done col (with_low col l) todo e) low kept))

high_back : (m : MpsModel) → IsMpsModel m → (more : List ℕ) (done : List MpsCol) (col : MpsCol) (todo : List MpsCol) (d : Draft) (rest : List ℕ) (r : Reading) → IsMpsCol (length m.rows) col
    → (high : Limit) → IsHigh high → InBounds m (high_line col.name high ++ more) done col (with_low col col.low) todo d
    → ((e : Draft) → InBounds m more done col (record col { high = high }) todo e → Gives e rest r) → Gives d (high_line col.name high ++ rest) r
high_back m valid more done col todo d rest r is Unset fit h next = next d h
high_back m valid more done col todo d rest r is Free fit h next =
    plain_step m valid (high_line col.name Free ++ more) more done col (with_low col col.low) todo d NoUpper (codes "PL") rest r refl refl refl is refl h next
high_back m valid more done col todo d rest r is (At value) fit h next =
    let high : high_limit value ≡ At value = ap (λ b. if b then Free else At value) fit.1 in
    valued_step m valid (high_line col.name (At value) ++ more) more done col (with_low col col.low) todo d Upper (codes "UP") value rest r refl refl refl is fit.0 refl h
    (λ e kept. next e (subst (λ (l : Limit). InBounds m more done col (record col { high = l }) todo e) high kept))

-- the bounds of the columns to come, of which there may be none
pub record InColumnBounds (m : MpsModel) (lines : List ℕ) (done todo : List MpsCol) (d : Draft) : Type 0 where
  pub late : IsLate d.section
  pub in_section : is_nil lines ≡ false → d.section ≡ Some Bounds
  pub frame : IsFrame m d.name d.maximise d.row_names d.objective d.column_names
  pub split : done ++ todo ≡ m.cols
  pub rows : d.rows ≡ m.rows
  pub cols : d.cols ≡ done ++ map without_bounds todo
  pub same_constant : d.constant ≡ m.constant
  pub uses_set : is_used d.bounds.set (codes "BND") ≡ true

column_done : (m : MpsModel) (lines : List ℕ) (done : List MpsCol) (col : MpsCol) (todo : List MpsCol) (d : Draft) → InBounds m lines done col col todo d → InColumnBounds m lines (done ++ col ∷ []) todo d
column_done m lines done col todo d h = record {
  late = h.late;
  in_section = h.in_section;
  frame = h.frame;
  split = append_assoc done (col ∷ []) todo ∙ h.split;
  rows = h.rows;
  cols = h.cols ∙ sym (append_assoc done (col ∷ []) (map without_bounds todo));
  same_constant = h.same_constant;
  uses_set = h.uses_set;
}

column_next : (m : MpsModel) (lines : List ℕ) (done : List MpsCol) (col : MpsCol) (todo : List MpsCol) (d : Draft) → InColumnBounds m lines done (col ∷ todo) d → InBounds m lines done col (without_bounds col) todo d
column_next m lines done col todo d h = record {
  late = h.late;
  in_section = h.in_section;
  frame = h.frame;
  split = h.split;
  rows = h.rows;
  cols = h.cols;
  same_constant = h.same_constant;
  uses_set = h.uses_set;
}

bounds_back : (m : MpsModel) → IsMpsModel m → (rest : List ℕ) (r : Reading) → (todo done : List MpsCol) → All (IsMpsCol (length m.rows)) todo
    → ((d : Draft) → IsWhole m d → Gives d rest r) → (d : Draft) → InColumnBounds m (bound_lines todo) done todo d → Gives d (bound_lines todo ++ rest) r
bounds_back m valid rest r [] done all next d h =
    next d (record {
      late = h.late;
      frame = h.frame;
      rows = h.rows;
      cols = h.cols ∙ h.split;
      same_constant = h.same_constant;
    })
bounds_back m valid rest r (col ∷ todo) done all next d h =
    let is : IsMpsCol (length m.rows) col = All-head (IsMpsCol (length m.rows)) col todo all in
    let low : List ℕ = low_line col.name col.low in
    let high : List ℕ = high_line col.name col.high in
    let more : List ℕ = bound_lines todo in
    let text : (low ++ high ++ more) ++ rest ≡ low ++ (high ++ (more ++ rest)) = append_assoc (low ++ high) more rest ∙ append_assoc low high (more ++ rest) in
    let lines : low ++ high ++ more ≡ low ++ (high ++ more) = append_assoc low high more in
    subst (λ (t : List ℕ). Gives d t r) (sym text)
    (low_back m valid (high ++ more) done col todo d (high ++ (more ++ rest)) r is col.low is.low
    (subst (λ (t : List ℕ). InBounds m t done col (without_bounds col) todo d) lines (column_next m (low ++ high ++ more) done col todo d h))
    (λ e first. high_back m valid more done col todo e (more ++ rest) r is col.high is.high first
    (λ f both. bounds_back m valid rest r todo (done ++ col ∷ []) (All-tail (IsMpsCol (length m.rows)) col todo all) next f (column_done m more done col todo f both))))

ranges_ended : (m : MpsModel) (section : Option Section) (bounds : SetUse) (d : Draft) → InRanges m [] m.rows [] d → IsLate section → is_used bounds.set (codes "BND") ≡ true
    → (is_nil (bound_lines m.cols) ≡ false → section ≡ Some Bounds) → InColumnBounds m (bound_lines m.cols) [] m.cols (record d { section = section; bounds = bounds })
ranges_ended m section bounds d h late used in_section = record {
  late = late;
  in_section = in_section;
  frame = h.frame;
  split = refl;
  rows = h.rows ∙ append-nil m.rows;
  cols = h.cols;
  same_constant = h.same_constant;
  uses_set = used;
}

-- the section of bounds, after the ranges
pub bounds_section_back : (m : MpsModel) → IsMpsModel m → (rest : List ℕ) (r : Reading) → ((d : Draft) → IsWhole m d → Gives d rest r)
    → (d : Draft) → InRanges m [] m.rows [] d → Gives d (section_lines (codes "BOUNDS") (bound_lines m.cols) ++ rest) r
bounds_section_back m valid rest r next d h =
    let unused : is_used d.bounds.set (codes "BND") ≡ true = ap (λ (u : SetUse). is_used u.set (codes "BND")) h.no_bounds in
    let unbegun : d.bounds.has_begun ≡ false = ap (λ (u : SetUse). u.has_begun) h.no_bounds in
    let ranked = h.late.high_rank in
    let plain = h.late.plain in
    let allowed : draft_kind d (Head Bounds []) ≡ None = rw (ranked, unbegun, plain) refl in
    section_back d Bounds (codes "BOUNDS") (bound_lines m.cols) rest r refl refl allowed refl
    (λ none. bounds_back m valid rest r m.cols [] valid.cols next d (ranges_ended m d.section d.bounds d h h.late unused (λ some. absurd (false≢true (sym some ∙ none)))))
    (bounds_back m valid rest r m.cols [] valid.cols next (after_head d Bounds []) (ranges_ended m (Some Bounds) (with_head d.bounds) d h (record { high_rank = refl; plain = refl }) unused (λ some. refl)))

-- The end.

model_by : (m : MpsModel) (name : List ℕ) (maximise : Bool) (objective : List ℕ) (constant : Number) (rows : List MpsRow) (cols : List MpsCol)
    → name ≡ m.name → maximise ≡ m.maximise → objective ≡ m.objective → constant ≡ m.constant → rows ≡ m.rows → cols ≡ m.cols
    → (record { name = name; maximise = maximise; objective = objective; constant = constant; rows = rows; cols = cols }) ≡ m
model_by m name maximise objective constant rows cols a b c d e f = rw (a, b, c, d, e, f) refl

pub end_back : (m : MpsModel) (d : Draft) → IsWhole m d → Gives d (codes "ENDATA\n") (Read m)
end_back m d h =
    let ranked = h.late.high_rank in
    let plain = h.late.plain in
    let allowed : draft_kind d (Head Endata []) ≡ None = rw (ranked, plain) refl in
    let same : draft_model d ≡ m =
    model_by m d.name (is_maximise d.maximise) (name_or_empty d.objective) d.constant d.rows d.cols h.frame.same_name h.frame.same_sense (ap name_or_empty h.frame.same_objective) h.same_constant h.rows h.cols
    in
    record { each = λ n. ap (λ k. outcome k true n (Read (draft_model d)) (run (after_head d Endata []) (n + 1) [])) allowed ∙ ap Read same }
