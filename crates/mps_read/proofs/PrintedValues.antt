use Rattle.std.proofs.Common.{◌≡◌, ◌∙◌, ◌≤◌, ◌<◌, ◌+◌, ◌-ℤ◌, ℕ, suc, Bool, true, false, nat_le, List, [], ◌∷◌, ◌++◌, length, map, slice_index_or, slice_set, All, ℤ, pos, neg_ℤ, Option, Some, None, codes, if◌then◌else◌, refl, sym, ap, subst, arith}
use Rattle.std.specs.List.{list_all}
use Rattle.std.proofs.lemmas.Bool.{false≢true, ne_eqb}
use Rattle.std.proofs.lemmas.Int.{ints}
use Rattle.std.proofs.lemmas.List.{append_assoc, append-nil, length-append, map-append, length_push, get_or_at, set_at, length-map, map-set, set-get_or, get_or-set_other}
use Rattle.std.proofs.lemmas.List.Elements.{All-head, All-tail}
use Rattle.ip_core.specs.Decimals.{Number, IsDecimal, negation}
use Rattle.ip_core.specs.Prints.{number_text}
use Rattle.ip_core.proofs.DecimalReduced.{negated_is}
use Rattle.mps_read.specs.Names.{is_among, place_among, is_long}
use Rattle.mps_model.specs.Numbers.{zero_decimal, is_zero}
use Rattle.mps_read.specs.Numerals.{is_numeral, decimal_of}
use Rattle.mps_lines.specs.Lines.{words_of, is_line_byte}
use Rattle.mps_lines.specs.Forms.{Pair, Head, Values, form_of, words_form, is_end}
use Rattle.mps_read.specs.Drafts.{no_set}
use Rattle.mps_read.specs.Sets.{is_used, first_name}
use Rattle.mps_read.specs.Steps.{with_set, with_head, after, after_head, after_value, after_value_pair, with_values_set}
use Rattle.mps_model.specs.Prints.{fresh_row}
use Rattle.mps_read.specs.DraftRows.{fresh_state, state_at, is_tested, with_value_mark, marked_state, with_marked_state, valued_row, place_of_pair}
use Rattle.mps_read.specs.DraftKinds.{draft_kind, has_value, values_use}
use Rattle.mps_read.specs.Kinds.{rank_of, is_objsense}
use Rattle.mps_read.specs.Readings.{Reading, is_maximise}
use Rattle.mps_model.specs.MpsModels.{IsMpsModel, IsMpsRow, IsRange}
use Rattle.mps_model.specs.Prints.{pair_line, nonzero_line, row_name, section_lines, side_lines, sides_lines, range_line, range_lines}
use Rattle.mps_model.specs.declared.model.RowKind.TheVariants.{Less}
use Rattle.mps_model.specs.declared.model.MpsRow.{MpsRow}
use Rattle.mps_model.specs.declared.model.MpsModel.{MpsModel}
use Rattle.mps_lines.specs.declared.section.Section.{Section}
use Rattle.mps_lines.specs.declared.section.Section.TheVariants.{Columns, Rhs, Ranges}
use Rattle.mps_lines.specs.declared.section.ValueKind.{ValueKind}
use Rattle.mps_lines.specs.declared.section.ValueKind.TheVariants.{Side, Range}
use Rattle.mps_read.specs.declared.draft.RowPlace.{RowPlace}
use Rattle.mps_read.specs.declared.draft.RowPlace.TheVariants.{Objective, Dropped, Kept}
use Rattle.mps_read.specs.declared.draft.RowState.{RowState}
use Rattle.mps_read.specs.declared.draft.SetUse.{SetUse}
use Rattle.mps_read.specs.declared.draft.Draft.{Draft}
use Rattle.mps_read.proofs.PrintBytes.{is_word, field_word, number_word, three_words}
use Rattle.mps_read.proofs.PrintNames.{same_bytes}
use Rattle.mps_read.proofs.PrintLines.{Gives, line_step, data_step, numeral_is, value_is, side_allowed, range_allowed}
use Rattle.mps_read.proofs.PrintPhases.{names_of, column_names, bare_row, without_range, without_bounds, place_of, places_from, InColumns}
use Rattle.mps_read.proofs.PrintPlaces.{IsRowOf, objective_row, kept_row, read_map, valueless_at, zero_is}

-- the right-hand sides and the ranges of a printed text, read back

-- A section that is left out where it has no lines.

abbrev pub is_nil : List ℕ → Bool
is_nil [] = true
is_nil (b ∷ bs) = false

pub more_filled : (a b : List ℕ) → is_nil b ≡ false → is_nil (a ++ b) ≡ false
more_filled [] b h = h
more_filled (x ∷ xs) b h = refl

-- the columns were read, and so may be some of the sections that follow
pub record IsLate (section : Option Section) : Type 0 where
  pub high_rank : nat_le 4 (rank_of section) ≡ true
  pub plain : is_objsense section ≡ false

pub section_back : (d : Draft) (section : Section) (head lines rest : List ℕ) (r : Reading) → list_all is_line_byte head ≡ true → form_of d.section d.has_sense_line head ≡ Head section []
    → draft_kind d (Head section []) ≡ None → is_end (Head section []) ≡ false
    → (is_nil lines ≡ true → Gives d (lines ++ rest) r) → Gives (after_head d section []) (lines ++ rest) r
    → Gives d (section_lines head lines ++ rest) r
section_back d section head [] rest r bytes form allowed more none full = none refl
section_back d section head (b ∷ bs) rest r bytes form allowed more none full =
    let lines : List ℕ = b ∷ bs in
    let text : section_lines head lines ++ rest ≡ head ++ 10 ∷ (lines ++ rest) =
    ap (λ t. (if t then [] else head ++ codes "\n" ++ lines) ++ rest) (ne_eqb (suc (length bs)) 0 (λ e. omega (arith, e)))
    ∙ append_assoc (head ++ codes "\n") lines rest
    ∙ append_assoc head (codes "\n") (lines ++ rest)
    in
    subst (λ (t : List ℕ). Gives d t r) (sym text)
    (line_step d (after_head d section []) head (lines ++ rest) (Head section []) r bytes form allowed more refl full)

-- One value.

abbrev section_for : ValueKind → Section
section_for Side = Rhs
section_for Range = Ranges

value_form : (kind : ValueKind) (has_sense_line : Bool) (set x text : List ℕ)
    → words_form (Some (section_for kind)) has_sense_line true (words_of (set ∷ x ∷ text ∷ [])) ≡ Values kind set (record { row = x; numeral = text }) None
value_form Side has_sense_line set x text = refl
value_form Range has_sense_line set x text = refl

value_allowed : (kind : ValueKind) (d : Draft) (set : List ℕ) (pair : Pair) → is_used (values_use kind d).set set ≡ true → is_numeral pair.numeral ≡ true
    → is_among pair.row d.row_names ≡ true → has_value kind (state_at d.row_states (place_among pair.row d.row_names)) ≡ false → is_long set ≡ false → draft_kind d (Values kind set pair None) ≡ None
value_allowed Side d set pair used numeral known free short = side_allowed d set pair used numeral known free short
value_allowed Range d set pair used numeral known free short = range_allowed d set pair used numeral known free short

value_step : (kind : ValueKind) (d : Draft) (set x : List ℕ) (i : ℕ) (p : RowPlace) (v : Number) (rest : List ℕ) (r : Reading)
    → d.section ≡ Some (section_for kind) → is_used (values_use kind d).set set ≡ true → is_word set ≡ true → is_long set ≡ false
    → IsRowOf d.row_names d.row_states x i p → is_word x ≡ true → IsDecimal v → has_value kind (state_at d.row_states i) ≡ false
    → Gives (with_values_set kind set (after_value kind i p v d)) rest r → Gives d (pair_line set x v ++ rest) r
value_step kind d set x i p v rest r section used set_word short is word decimal free next =
    let text : List ℕ = number_text v in
    let pair : Pair = record { row = x; numeral = text } in
    let form : words_form d.section d.has_sense_line true (words_of (set ∷ x ∷ text ∷ [])) ≡ Values kind set pair None =
    ap (λ s. words_form s d.has_sense_line true (words_of (set ∷ x ∷ text ∷ []))) section ∙ value_form kind d.has_sense_line set x text
    in
    let free_here : has_value kind (state_at d.row_states (place_among x d.row_names)) ≡ false = ap (λ k. has_value kind (state_at d.row_states k)) is.same_number ∙ free in
    let place : place_of_pair d.row_names d.row_states pair ≡ p = ap (λ k. (state_at d.row_states k).place) is.same_number ∙ is.same_place in
    let e : Draft = with_values_set kind set (after_value kind i p v d) in
    let same : after d (Values kind set pair None) ≡ e =
    ap (λ b. if b then with_values_set kind set (after_value_pair d kind pair d) else d) used
    ∙ ap (λ k. with_values_set kind set (after_value kind k (place_of_pair d.row_names d.row_states pair) (decimal_of text) d)) is.same_number
    ∙ ap (λ q. with_values_set kind set (after_value kind i q (decimal_of text) d)) place
    ∙ ap (λ n. with_values_set kind set (after_value kind i p n d)) (value_is v decimal)
    in
    data_step d e set (x ∷ text ∷ []) rest (Values kind set pair None) r (three_words set x text set_word word (number_word v decimal)) form
    (value_allowed kind d set pair used (numeral_is v decimal) is.known free_here short) refl same next

given_used : (set : List ℕ) (first : Option (List ℕ)) → is_used first set ≡ true → is_used (first_name first set) set ≡ true
given_used set None h = same_bytes set
given_used set (Some first) h = h

-- the set of a section goes on being used
pub still_used : (set : List ℕ) (u : SetUse) → is_used u.set set ≡ true → is_used (with_set set u).set set ≡ true
still_used set u h = ap (λ t. is_used ((if t then (record u { set = first_name u.set set }) else u).set) set) h ∙ given_used set u.set h

-- Marks of values.

map_marked : {A : Type 0} (f : RowState → A) (kind : ValueKind) (k : ℕ) (states : List RowState) → ((s : RowState) → f (marked_state kind s) ≡ f s) → map f (with_marked_state kind k states) ≡ map f states
map_marked f kind k states same =
    map-set f states k (marked_state kind (state_at states k))
    ∙ ap (slice_set (map f states) k) (same (state_at states k) ∙ sym (read_map f states k (fresh_state Dropped)))
    ∙ set-get_or (map f states) k (f (fresh_state Dropped))

place_by : (kind : ValueKind) (s : RowState) (b : Bool) → (if b then with_value_mark kind s else s).place ≡ s.place
place_by kind s false = refl
place_by Side s true = refl
place_by Range s true = refl

places_marked : (kind : ValueKind) (k : ℕ) (states : List RowState) → map place_of (with_marked_state kind k states) ≡ map place_of states
places_marked kind k states = map_marked place_of kind k states (λ s. place_by kind s (is_tested s.place))

abbrev range_mark : RowState → Bool
range_mark s = s.has_range

range_by : (s : RowState) (b : Bool) → (if b then with_value_mark Side s else s).has_range ≡ s.has_range
range_by s false = refl
range_by s true = refl

ranges_marked : (k i : ℕ) (states : List RowState) → (state_at (with_marked_state Side k states) i).has_range ≡ (state_at states i).has_range
ranges_marked k i states =
    sym (read_map range_mark (with_marked_state Side k states) i (fresh_state Dropped))
    ∙ ap (λ l. slice_index_or l i false) (map_marked range_mark Side k states (λ s. range_by s (is_tested s.place)))
    ∙ read_map range_mark states i (fresh_state Dropped)

other_state : (kind : ValueKind) (k i : ℕ) (states : List RowState) → k < i → state_at (with_marked_state kind k states) i ≡ state_at states i
other_state kind k i states l = get_or-set_other states k i (marked_state kind (state_at states k)) (fresh_state Dropped) (λ e. omega (arith, l, e))

-- a change between two lists
middle_set : {A : Type 0} (front : List A) (x : A) (back : List A) (n : ℕ) (d : A) (f : A → A) → length front ≡ n
    → slice_set (front ++ x ∷ back) n (f (slice_index_or (front ++ x ∷ back) n d)) ≡ front ++ f x ∷ back
middle_set front x back n d f long = ap (λ y. slice_set (front ++ x ∷ back) n (f y)) (get_or_at front x back d n long) ∙ set_at front x back (f x) n long

map-move : {A B : Type 0} (f g : A → B) (done : List A) (x : A) (todo : List A) (y : B) → y ≡ f x → map f done ++ y ∷ map g todo ≡ map f (done ++ x ∷ []) ++ map g todo
map-move f g done x todo y is =
    ap (λ z. map f done ++ z ∷ map g todo) is
    ∙ sym (append_assoc (map f done) (f x ∷ []) (map g todo))
    ∙ ap (λ l. l ++ map g todo) (sym (map-append f done (x ∷ [])))

-- What stays from the columns on.

-- all but values and bounds
pub record IsFrame (m : MpsModel) (name : List ℕ) (maximise : Option Bool) (row_names : List (List ℕ)) (objective : Option (List ℕ)) (columns : List (List ℕ)) : Type 0 where
  pub same_name : name ≡ m.name
  pub same_sense : is_maximise maximise ≡ m.maximise
  pub same_rows : row_names ≡ m.objective ∷ names_of m.rows
  pub same_objective : objective ≡ Some m.objective
  pub same_columns : columns ≡ column_names m.cols

-- the right-hand sides of some rows are still to come; the constant is as yet this, and rows below a number may have marks
pub record InSides (m : MpsModel) (lines : List ℕ) (done todo : List MpsRow) (from : ℕ) (constant : Number) (d : Draft) : Type 0 where
  late : IsLate d.section
  in_section : is_nil lines ≡ false → d.section ≡ Some Rhs
  frame : IsFrame m d.name d.maximise d.row_names d.objective d.column_names
  split : done ++ todo ≡ m.rows
  places : map place_of d.row_states ≡ Objective ∷ places_from 0 m.rows
  sides : (i : ℕ) → from ≤ i → (state_at d.row_states i).has_side ≡ false
  ranges : (i : ℕ) → (state_at d.row_states i).has_range ≡ false
  rows : d.rows ≡ map without_range done ++ map bare_row todo
  cols : d.cols ≡ map without_bounds m.cols
  same_constant : d.constant ≡ constant
  uses_set : is_used d.rhs.set (codes "RHS") ≡ true
  no_ranges : d.ranges ≡ no_set
  no_bounds : d.bounds ≡ no_set

-- the ranges of some rows are still to come
pub record InRanges (m : MpsModel) (lines : List ℕ) (done todo : List MpsRow) (d : Draft) : Type 0 where
  pub late : IsLate d.section
  pub in_section : is_nil lines ≡ false → d.section ≡ Some Ranges
  pub frame : IsFrame m d.name d.maximise d.row_names d.objective d.column_names
  pub split : done ++ todo ≡ m.rows
  pub places : map place_of d.row_states ≡ Objective ∷ places_from 0 m.rows
  pub ranges : (i : ℕ) → suc (length done) ≤ i → (state_at d.row_states i).has_range ≡ false
  pub rows : d.rows ≡ done ++ map without_range todo
  pub cols : d.cols ≡ map without_bounds m.cols
  pub same_constant : d.constant ≡ m.constant
  pub uses_set : is_used d.ranges.set (codes "RNG") ≡ true
  pub no_bounds : d.bounds ≡ no_set

-- the row between those done and those to come
row_between : (m : MpsModel) (done : List MpsRow) (row : MpsRow) (todo : List MpsRow) → done ++ row ∷ todo ≡ m.rows → (row_name m.rows (length done) ≡ row.name) × (length done < length m.rows)
row_between m done row todo all =
    let name : row_name m.rows (length done) ≡ row.name =
    ap (λ rows. row_name rows (length done)) (sym all) ∙ ap (λ (x : MpsRow). x.name) (get_or_at done row todo (fresh_row Less []) (length done) refl)
    in
    let long : length m.rows ≡ length done + length (row ∷ todo) = ap length (sym all) ∙ length-append done (row ∷ todo) in
    (name, omega (arith, long))

between_is : (m : MpsModel) → IsMpsModel m → (done : List MpsRow) (row : MpsRow) (todo : List MpsRow) (names : List (List ℕ)) (states : List RowState) → done ++ row ∷ todo ≡ m.rows
    → names ≡ m.objective ∷ names_of m.rows → map place_of states ≡ Objective ∷ places_from 0 m.rows → IsRowOf names states row.name (suc (length done)) (Kept (length done))
between_is m valid done row todo names states all same places =
    let p = row_between m done row todo all in
    subst (λ (x : List ℕ). IsRowOf names states x (suc (length done)) (Kept (length done))) p.0 (kept_row m names states (length done) valid same places p.1)

-- Right-hand sides.

side_kept : (m : MpsModel) (row : MpsRow) (todo done : List MpsRow) (d : Draft) (lines : List ℕ) → is_nil lines ≡ false → InSides m lines done (row ∷ todo) (suc (length done)) m.constant d
    → InSides m (side_lines todo) (done ++ row ∷ []) todo (suc (length (done ++ row ∷ []))) m.constant (with_values_set Side (codes "RHS") (after_value Side (suc (length done)) (Kept (length done)) row.rhs d))
side_kept m row todo done d lines filled h =
    let long : length (done ++ row ∷ []) ≡ length done + 1 = length_push done row in
    record {
      late = h.late;
      in_section = λ more. h.in_section filled;
      frame = h.frame;
      split = append_assoc done (row ∷ []) todo ∙ h.split;
      places = places_marked Side (suc (length done)) d.row_states ∙ h.places;
      sides = λ i l. ap (λ (s : RowState). s.has_side) (other_state Side (suc (length done)) i d.row_states (omega (arith, long, l))) ∙ h.sides i (omega (arith, long, l));
      ranges = λ i. ranges_marked (suc (length done)) i d.row_states ∙ h.ranges i;
      rows =
          ap (λ rows. slice_set rows (length done) (valued_row Side row.rhs (slice_index_or rows (length done) (fresh_row Less [])))) h.rows
          ∙ middle_set (map without_range done) (bare_row row) (map bare_row todo) (length done) (fresh_row Less []) (valued_row Side row.rhs) (length-map done without_range)
          ∙ map-move without_range bare_row done row todo (without_range row) refl;
      cols = h.cols;
      same_constant = h.same_constant;
      uses_set = still_used (codes "RHS") d.rhs h.uses_set;
      no_ranges = h.no_ranges;
      no_bounds = h.no_bounds;
    }

side_skipped : (m : MpsModel) (row : MpsRow) (todo done : List MpsRow) (d : Draft) (lines : List ℕ) → (is_nil (side_lines todo) ≡ false → is_nil lines ≡ false) → row.rhs ≡ zero_decimal
    → InSides m lines done (row ∷ todo) (suc (length done)) m.constant d → InSides m (side_lines todo) (done ++ row ∷ []) todo (suc (length (done ++ row ∷ []))) m.constant d
side_skipped m row todo done d lines filled zero_side h =
    let long : length (done ++ row ∷ []) ≡ length done + 1 = length_push done row in
    record {
      late = h.late;
      in_section = λ more. h.in_section (filled more);
      frame = h.frame;
      split = append_assoc done (row ∷ []) todo ∙ h.split;
      places = h.places;
      sides = λ i l. h.sides i (omega (arith, long, l));
      ranges = h.ranges;
      rows = h.rows ∙ map-move without_range bare_row done row todo (bare_row row) (ap (λ v. record { name = row.name; kind = row.kind; rhs = v; range = None }) (sym zero_side));
      cols = h.cols;
      same_constant = h.same_constant;
      uses_set = h.uses_set;
      no_ranges = h.no_ranges;
      no_bounds = h.no_bounds;
    }

side_line_back : (m : MpsModel) → IsMpsModel m → (rest : List ℕ) (r : Reading) → (row : MpsRow) (todo done : List MpsRow) → IsMpsRow row
    → ((e : Draft) → InSides m (side_lines todo) (done ++ row ∷ []) todo (suc (length (done ++ row ∷ []))) m.constant e → Gives e rest r)
    → (d : Draft) → InSides m (side_lines (row ∷ todo)) done (row ∷ todo) (suc (length done)) m.constant d
    → (b : Bool) → is_zero row.rhs ≡ b → Gives d ((if b then [] else pair_line (codes "RHS") row.name row.rhs) ++ rest) r
side_line_back m valid rest r row todo done is next d h true zero_side =
    next d
    (side_skipped m row todo done d (side_lines (row ∷ todo)) (more_filled (nonzero_line (codes "RHS") row.name row.rhs) (side_lines todo)) (zero_is row.rhs is.side zero_side) h)
side_line_back m valid rest r row todo done is next d h false nonzero =
    let filled : is_nil (side_lines (row ∷ todo)) ≡ false = ap (λ b. is_nil ((if b then [] else pair_line (codes "RHS") row.name row.rhs) ++ side_lines todo)) nonzero in
    value_step Side d (codes "RHS") row.name (suc (length done)) (Kept (length done)) row.rhs rest r (h.in_section filled) h.uses_set refl refl
    (between_is m valid done row todo d.row_names d.row_states h.split h.frame.same_rows h.places) (field_word row.name is.name.field) is.side (h.sides (suc (length done)) (omega arith))
    (next (with_values_set Side (codes "RHS") (after_value Side (suc (length done)) (Kept (length done)) row.rhs d)) (side_kept m row todo done d (side_lines (row ∷ todo)) filled h))

sides_back : (m : MpsModel) → IsMpsModel m → (rest : List ℕ) (r : Reading) → (todo done : List MpsRow) → All IsMpsRow todo
    → ((d : Draft) → InSides m [] m.rows [] (suc (length m.rows)) m.constant d → Gives d rest r)
    → (d : Draft) → InSides m (side_lines todo) done todo (suc (length done)) m.constant d → Gives d (side_lines todo ++ rest) r
sides_back m valid rest r [] done all next d h =
    let same : done ≡ m.rows = sym (append-nil done) ∙ h.split in
    next d (subst (λ (rows : List MpsRow). InSides m [] rows [] (suc (length rows)) m.constant d) same h)
sides_back m valid rest r (row ∷ todo) done all next d h =
    subst (λ (t : List ℕ). Gives d t r) (sym (append_assoc (nonzero_line (codes "RHS") row.name row.rhs) (side_lines todo) rest))
    (side_line_back m valid (side_lines todo ++ rest) r row todo done (All-head IsMpsRow row todo all)
    (sides_back m valid rest r todo (done ++ row ∷ []) (All-tail IsMpsRow row todo all) next) d h (is_zero row.rhs) refl)

-- The constant.

abbrev twice_is : ℤ → Type 0
twice_is k = neg_ℤ (neg_ℤ k) ≡ k

negated_twice : (k : ℤ) → twice_is k
negated_twice k = omega (arith, ints)

negated_decimal : (n : Number) → IsDecimal n → IsDecimal (negation n)
negated_decimal n h =
    let e : pos 0 -ℤ n.mantissa ≡ neg_ℤ n.mantissa = omega (arith, ints) in
    subst (λ (k : ℤ). IsDecimal (record { mantissa = k; exponent = n.exponent })) e (negated_is n.mantissa n.exponent h)

turned_back : (n : Number) → negation (negation n) ≡ n
turned_back n = ap (λ k. record { mantissa = k; exponent = n.exponent }) (negated_twice n.mantissa)

constant_zero : (n : Number) → IsDecimal n → is_zero (negation n) ≡ true → zero_decimal ≡ n
constant_zero n h none = sym (ap negation (zero_is (negation n) (negated_decimal n h) none)) ∙ turned_back n

constant_kept : (m : MpsModel) (d : Draft) (lines : List ℕ) → is_nil lines ≡ false → InSides m lines [] m.rows 0 zero_decimal d
    → InSides m (side_lines m.rows) [] m.rows 1 m.constant (with_values_set Side (codes "RHS") (after_value Side 0 Objective (negation m.constant) d))
constant_kept m d lines filled h = record {
  late = h.late;
  in_section = λ more. h.in_section filled;
  frame = h.frame;
  split = h.split;
  places = places_marked Side 0 d.row_states ∙ h.places;
  sides = λ i l. ap (λ (s : RowState). s.has_side) (other_state Side 0 i d.row_states (omega (arith, l))) ∙ h.sides i (omega arith);
  ranges = λ i. ranges_marked 0 i d.row_states ∙ h.ranges i;
  rows = h.rows;
  cols = h.cols;
  same_constant = turned_back m.constant;
  uses_set = still_used (codes "RHS") d.rhs h.uses_set;
  no_ranges = h.no_ranges;
  no_bounds = h.no_bounds;
}

constant_skipped : (m : MpsModel) (d : Draft) (lines : List ℕ) → (is_nil (side_lines m.rows) ≡ false → is_nil lines ≡ false) → zero_decimal ≡ m.constant
    → InSides m lines [] m.rows 0 zero_decimal d → InSides m (side_lines m.rows) [] m.rows 1 m.constant d
constant_skipped m d lines filled same h = record {
  late = h.late;
  in_section = λ more. h.in_section (filled more);
  frame = h.frame;
  split = h.split;
  places = h.places;
  sides = λ i l. h.sides i (omega arith);
  ranges = h.ranges;
  rows = h.rows;
  cols = h.cols;
  same_constant = h.same_constant ∙ same;
  uses_set = h.uses_set;
  no_ranges = h.no_ranges;
  no_bounds = h.no_bounds;
}

constant_back : (m : MpsModel) → IsMpsModel m → (rest : List ℕ) (r : Reading) → ((e : Draft) → InSides m (side_lines m.rows) [] m.rows 1 m.constant e → Gives e rest r)
    → (d : Draft) → InSides m (sides_lines m) [] m.rows 0 zero_decimal d
    → (b : Bool) → is_zero (negation m.constant) ≡ b → Gives d ((if b then [] else pair_line (codes "RHS") m.objective (negation m.constant)) ++ rest) r
constant_back m valid rest r next d h true none =
    next d (constant_skipped m d (sides_lines m) (more_filled (nonzero_line (codes "RHS") m.objective (negation m.constant)) (side_lines m.rows)) (constant_zero m.constant valid.constant none) h)
constant_back m valid rest r next d h false some =
    let filled : is_nil (sides_lines m) ≡ false = ap (λ b. is_nil ((if b then [] else pair_line (codes "RHS") m.objective (negation m.constant)) ++ side_lines m.rows)) some in
    value_step Side d (codes "RHS") m.objective 0 Objective (negation m.constant) rest r (h.in_section filled) h.uses_set refl refl
    (objective_row m d.row_names d.row_states valid h.frame.same_rows h.places) (field_word m.objective valid.objective.field) (negated_decimal m.constant valid.constant) (h.sides 0 (omega arith))
    (next (with_values_set Side (codes "RHS") (after_value Side 0 Objective (negation m.constant) d)) (constant_kept m d (sides_lines m) filled h))

all_sides_back : (m : MpsModel) → IsMpsModel m → (rest : List ℕ) (r : Reading) → ((d : Draft) → InSides m [] m.rows [] (suc (length m.rows)) m.constant d → Gives d rest r)
    → (d : Draft) → InSides m (sides_lines m) [] m.rows 0 zero_decimal d → Gives d (sides_lines m ++ rest) r
all_sides_back m valid rest r next d h =
    subst (λ (t : List ℕ). Gives d t r) (sym (append_assoc (nonzero_line (codes "RHS") m.objective (negation m.constant)) (side_lines m.rows) rest))
    (constant_back m valid (side_lines m.rows ++ rest) r (sides_back m valid rest r m.rows [] valid.rows next) d h (is_zero (negation m.constant)) refl)

-- the draft after the columns
columns_ended : (m : MpsModel) (section : Option Section) (rhs : SetUse) (d : Draft) → InColumns m false [] d → IsLate section → is_used rhs.set (codes "RHS") ≡ true → (is_nil (sides_lines m) ≡ false → section ≡ Some Rhs)
    → InSides m (sides_lines m) [] m.rows 0 zero_decimal (record d { section = section; rhs = rhs })
columns_ended m section rhs d h late used in_section = record {
  late = late;
  in_section = in_section;
  frame = record {
    same_name = h.header.same_name;
    same_sense = h.header.same_sense;
    same_rows = h.rows.all_names;
    same_objective = h.rows.first;
    same_columns = sym (append-nil d.column_names) ∙ h.names;
  };
  split = refl;
  places = h.rows.places;
  sides = λ i l. (valueless_at d.row_states i h.rows.valueless).0;
  ranges = λ i. (valueless_at d.row_states i h.rows.valueless).1;
  rows = h.rows.all_rows;
  cols = sym (append-nil d.cols) ∙ h.cols;
  same_constant = h.values.no_constant;
  uses_set = used;
  no_ranges = h.values.no_ranges;
  no_bounds = h.values.no_bounds;
}

late_at : (s : Option Section) (t : Option Section) → s ≡ t → IsLate t → IsLate s
late_at s t same h = subst IsLate (sym same) h

-- the section of right-hand sides, after the columns
pub sides_section_back : (m : MpsModel) → IsMpsModel m → (rest : List ℕ) (r : Reading) → ((d : Draft) → InSides m [] m.rows [] (suc (length m.rows)) m.constant d → Gives d rest r)
    → (d : Draft) → InColumns m false [] d → Gives d (section_lines (codes "RHS") (sides_lines m) ++ rest) r
sides_section_back m valid rest r next d h =
    let unused : is_used d.rhs.set (codes "RHS") ≡ true = ap (λ (u : SetUse). is_used u.set (codes "RHS")) h.values.no_rhs in
    let unbegun : d.rhs.has_begun ≡ false = ap (λ (u : SetUse). u.has_begun) h.values.no_rhs in
    let allowed : draft_kind d (Head Rhs []) ≡ None = rw (h.section, unbegun) refl in
    section_back d Rhs (codes "RHS") (sides_lines m) rest r refl refl allowed refl
    (λ none. all_sides_back m valid rest r next d
    (columns_ended m d.section d.rhs d h (late_at d.section (Some Columns) h.section (record { high_rank = refl; plain = refl })) unused (λ some. absurd (false≢true (sym some ∙ none)))))
    (all_sides_back m valid rest r next (after_head d Rhs [])
    (columns_ended m (Some Rhs) (with_head d.rhs) d h (record { high_rank = refl; plain = refl }) unused (λ some. refl)))

-- Ranges.

range_kept : (m : MpsModel) (row : MpsRow) (todo done : List MpsRow) (d : Draft) (lines : List ℕ) (range : Number) → row.range ≡ Some range → is_nil lines ≡ false → InRanges m lines done (row ∷ todo) d
    → InRanges m (range_lines todo) (done ++ row ∷ []) todo (with_values_set Range (codes "RNG") (after_value Range (suc (length done)) (Kept (length done)) range d))
range_kept m row todo done d lines range has filled h =
    let long : length (done ++ row ∷ []) ≡ length done + 1 = length_push done row in
    record {
      late = h.late;
      in_section = λ more. h.in_section filled;
      frame = h.frame;
      split = append_assoc done (row ∷ []) todo ∙ h.split;
      places = places_marked Range (suc (length done)) d.row_states ∙ h.places;
      ranges = λ i l. ap (λ (s : RowState). s.has_range) (other_state Range (suc (length done)) i d.row_states (omega (arith, long, l))) ∙ h.ranges i (omega (arith, long, l));
      rows =
          ap (λ rows. slice_set rows (length done) (valued_row Range range (slice_index_or rows (length done) (fresh_row Less [])))) h.rows
          ∙ middle_set done (without_range row) (map without_range todo) (length done) (fresh_row Less []) (valued_row Range range) refl
          ∙ ap (λ v. done ++ (record row { range = v }) ∷ map without_range todo) (sym has)
          ∙ sym (append_assoc done (row ∷ []) (map without_range todo));
      cols = h.cols;
      same_constant = h.same_constant;
      uses_set = still_used (codes "RNG") d.ranges h.uses_set;
      no_bounds = h.no_bounds;
    }

range_skipped : (m : MpsModel) (row : MpsRow) (todo done : List MpsRow) (d : Draft) (lines : List ℕ) → row.range ≡ None → (is_nil (range_lines todo) ≡ false → is_nil lines ≡ false) → InRanges m lines done (row ∷ todo) d
    → InRanges m (range_lines todo) (done ++ row ∷ []) todo d
range_skipped m row todo done d lines none filled h =
    let long : length (done ++ row ∷ []) ≡ length done + 1 = length_push done row in
    record {
      late = h.late;
      in_section = λ more. h.in_section (filled more);
      frame = h.frame;
      split = append_assoc done (row ∷ []) todo ∙ h.split;
      places = h.places;
      ranges = λ i l. h.ranges i (omega (arith, long, l));
      rows =
          h.rows
          ∙ ap (λ v. done ++ (record row { range = v }) ∷ map without_range todo) (sym none)
          ∙ sym (append_assoc done (row ∷ []) (map without_range todo));
      cols = h.cols;
      same_constant = h.same_constant;
      uses_set = h.uses_set;
      no_bounds = h.no_bounds;
    }

range_line_back : (m : MpsModel) → IsMpsModel m → (rest : List ℕ) (r : Reading) → (row : MpsRow) (todo done : List MpsRow) → IsMpsRow row
    → ((e : Draft) → InRanges m (range_lines todo) (done ++ row ∷ []) todo e → Gives e rest r)
    → (d : Draft) → InRanges m (range_lines (row ∷ todo)) done (row ∷ todo) d
    → (range : Option Number) → row.range ≡ range → IsRange range → Gives d (range_line row.name range ++ rest) r
range_line_back m valid rest r row todo done is next d h None none decimal =
    next d (range_skipped m row todo done d (range_lines (row ∷ todo)) none (more_filled (range_line row.name row.range) (range_lines todo)) h)
range_line_back m valid rest r row todo done is next d h (Some range) some decimal =
    let filled : is_nil (range_lines (row ∷ todo)) ≡ false = ap (λ v. is_nil (range_line row.name v ++ range_lines todo)) some in
    value_step Range d (codes "RNG") row.name (suc (length done)) (Kept (length done)) range rest r (h.in_section filled) h.uses_set refl refl
    (between_is m valid done row todo d.row_names d.row_states h.split h.frame.same_rows h.places) (field_word row.name is.name.field) decimal (h.ranges (suc (length done)) (omega arith))
    (next (with_values_set Range (codes "RNG") (after_value Range (suc (length done)) (Kept (length done)) range d)) (range_kept m row todo done d (range_lines (row ∷ todo)) range some filled h))

ranges_back : (m : MpsModel) → IsMpsModel m → (rest : List ℕ) (r : Reading) → (todo done : List MpsRow) → All IsMpsRow todo
    → ((d : Draft) → InRanges m [] m.rows [] d → Gives d rest r) → (d : Draft) → InRanges m (range_lines todo) done todo d → Gives d (range_lines todo ++ rest) r
ranges_back m valid rest r [] done all next d h =
    let same : done ≡ m.rows = sym (append-nil done) ∙ h.split in
    next d (subst (λ (rows : List MpsRow). InRanges m [] rows [] d) same h)
ranges_back m valid rest r (row ∷ todo) done all next d h =
    let is : IsMpsRow row = All-head IsMpsRow row todo all in
    subst (λ (t : List ℕ). Gives d t r) (sym (append_assoc (range_line row.name row.range) (range_lines todo) rest))
    (range_line_back m valid (range_lines todo ++ rest) r row todo done is (ranges_back m valid rest r todo (done ++ row ∷ []) (All-tail IsMpsRow row todo all) next) d h row.range refl is.range)

sides_ended : (m : MpsModel) (section : Option Section) (ranges : SetUse) (d : Draft) → InSides m [] m.rows [] (suc (length m.rows)) m.constant d → IsLate section → is_used ranges.set (codes "RNG") ≡ true
    → (is_nil (range_lines m.rows) ≡ false → section ≡ Some Ranges) → InRanges m (range_lines m.rows) [] m.rows (record d { section = section; ranges = ranges })
sides_ended m section ranges d h late used in_section = record {
  late = late;
  in_section = in_section;
  frame = h.frame;
  split = refl;
  places = h.places;
  ranges = λ i l. h.ranges i;
  rows = h.rows ∙ append-nil (map without_range m.rows);
  cols = h.cols;
  same_constant = h.same_constant;
  uses_set = used;
  no_bounds = h.no_bounds;
}

-- the section of ranges, after the right-hand sides
pub ranges_section_back : (m : MpsModel) → IsMpsModel m → (rest : List ℕ) (r : Reading) → ((d : Draft) → InRanges m [] m.rows [] d → Gives d rest r)
    → (d : Draft) → InSides m [] m.rows [] (suc (length m.rows)) m.constant d → Gives d (section_lines (codes "RANGES") (range_lines m.rows) ++ rest) r
ranges_section_back m valid rest r next d h =
    let unused : is_used d.ranges.set (codes "RNG") ≡ true = ap (λ (u : SetUse). is_used u.set (codes "RNG")) h.no_ranges in
    let unbegun : d.ranges.has_begun ≡ false = ap (λ (u : SetUse). u.has_begun) h.no_ranges in
    let ranked = h.late.high_rank in
    let plain = h.late.plain in
    let allowed : draft_kind d (Head Ranges []) ≡ None = rw (ranked, unbegun, plain) refl in
    section_back d Ranges (codes "RANGES") (range_lines m.rows) rest r refl refl allowed refl
    (λ none. ranges_back m valid rest r m.rows [] valid.rows next d (sides_ended m d.section d.ranges d h h.late unused (λ some. absurd (false≢true (sym some ∙ none)))))
    (ranges_back m valid rest r m.rows [] valid.rows next (after_head d Ranges []) (sides_ended m (Some Ranges) (with_head d.ranges) d h (record { high_rank = refl; plain = refl }) unused (λ some. refl)))
