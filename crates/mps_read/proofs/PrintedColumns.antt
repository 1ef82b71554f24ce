use Rattle.std.proofs.Common.{◌≡◌, ◌≢◌, ◌∙◌, ◌<◌, ◌+◌, ℕ, suc, Bool, true, false, not, ◌==◌, ◌&&◌, List, [], ◌∷◌, ◌++◌, length, map, slice_index_or, slice_set, All, Some, None, codes, if◌then◌else◌, refl, sym, ap, subst, arith}
use Rattle.std.proofs.lemmas.Bool.{false≢true, ne_eqb, eq-eqb}
use Rattle.std.proofs.lemmas.List.{append_assoc, append-nil, length_push, get_or_at, set_at, length-map, get_or-map}
use Rattle.std.proofs.lemmas.List.Elements.{All-head, All-tail}
use Rattle.std.proofs.lemmas.List.Folds.{list_any-append}
use Rattle.ip_core.specs.Decimals.{Number, IsDecimal}
use Rattle.ip_core.specs.Prints.{number_text}
use Rattle.ip_core.proofs.DecimalDigits.{and_true}
use Rattle.mps_read.specs.Names.{is_among, place_among, with_item, with_name}
use Rattle.mps_model.specs.Numbers.{zero_decimal, is_zero}
use Rattle.mps_read.specs.Numerals.{decimal_of}
use Rattle.mps_lines.specs.Lines.{words_of}
use Rattle.mps_lines.specs.Forms.{Pair, Head, Marker, Entries, form_of, words_form, marker_form, marker_word}
use Rattle.mps_model.specs.Prints.{fresh_row}
use Rattle.mps_read.specs.DraftRows.{state_at, place_of_pair}
use Rattle.mps_read.specs.DraftColumns.{fresh_column, column_at, with_entry, with_coefficient, with_mark}
use Rattle.mps_read.specs.DraftKinds.{draft_kind, has_mark}
use Rattle.mps_read.specs.Readings.{Reading}
use Rattle.mps_read.specs.Steps.{after, after_head, after_column, after_entry, after_entry_pair}
use Rattle.mps_model.specs.MpsModels.{IsMpsModel, IsMpsCol, IsMpsEntry, IsMpsRow, AreDistinct}
use Rattle.mps_model.specs.Prints.{pair_line, marker_line, row_name, omits_cost, cost_line, entry_lines, column_lines, columns_lines}
use Rattle.mps_model.specs.declared.model.RowKind.TheVariants.{Less}
use Rattle.mps_model.specs.declared.model.Limit.TheVariants.{Unset}
use Rattle.mps_model.specs.declared.model.MpsEntry.{MpsEntry}
use Rattle.mps_model.specs.declared.model.MpsCol.{MpsCol}
use Rattle.mps_model.specs.declared.model.MpsModel.{MpsModel}
use Rattle.mps_lines.specs.declared.section.Section.TheVariants.{Columns}
use Rattle.mps_read.specs.declared.draft.RowPlace.{RowPlace}
use Rattle.mps_read.specs.declared.draft.RowPlace.TheVariants.{Objective, Kept}
use Rattle.mps_read.specs.declared.draft.Mark.{Mark}
use Rattle.mps_read.specs.declared.draft.Draft.{Draft}
use Rattle.mps_read.proofs.PrintBytes.{is_word, field_word, number_word, three_words}
use Rattle.mps_read.proofs.PrintNames.{differ, fresh_at, tail_distinct, front_apart, among_between, place_absent, place_first, with_new, with_known}
use Rattle.mps_read.proofs.PrintLines.{Gives, line_step, data_step, not_long, numeral_is, value_is, entry_allowed}
use Rattle.mps_read.proofs.PrintPhases.{column_names, without_bounds, place_of, IsHeaderOf, HasNoValues, AreRead, InRows, InColumns}
use Rattle.mps_read.proofs.PrintPlaces.{IsRowOf, objective_row, kept_row, zero_is}

-- the columns of a printed text, read back

-- a column's further entries are still to come: `current` is what its lines so far say, or a column without entries, and
-- `names` and `cols` are the columns before it
record InColumn (m : MpsModel) (col : MpsCol) (is_begun : Bool) (current : MpsCol) (names : List (List ℕ)) (cols : List MpsCol) (entries : List MpsEntry) (d : Draft) : Type 0 where
  section : d.section ≡ Some Columns
  header : IsHeaderOf m d.name d.maximise
  rows : AreRead m d.row_names d.row_states d.objective d.rows
  values : HasNoValues d.constant d.rhs d.ranges d.bounds
  among : is_among col.name d.column_names ≡ is_begun
  place : place_among col.name d.column_names ≡ length names
  whole : (is_among col.name d.column_names && not (place_among col.name d.column_names + 1 == length d.column_names)) ≡ false
  known : with_name col.name d.column_names ≡ names ++ col.name ∷ []
  so_far : with_item (is_among col.name d.column_names) (fresh_column d.is_integer col.name) d.cols ≡ cols ++ current ∷ []
  count : length cols ≡ length names
  new : is_among col.name names ≡ false
  turn : d.is_integer ≡ col.integer
  later : (row k : ℕ) → length names < k → has_mark row k d.marks ≡ false
  here : All (λ e. has_mark (suc e.row) (length names) d.marks ≡ false) entries

-- Marks.

abbrev with_one : ℕ → ℕ → List Mark → List Mark
with_one row col marks = marks ++ record { row = row; col = col } ∷ []

mark_other : (marks : List Mark) (i n row k : ℕ) → has_mark row k marks ≡ false → (i == row && n == k) ≡ false → has_mark row k (with_one i n marks) ≡ false
mark_other marks i n row k h other = list_any-append (λ m. m.row == row && m.col == k) marks (record { row = i; col = n } ∷ []) ∙ rw (h, other) refl

and_no : (a : Bool) → (a && false) ≡ false
and_no true = refl
and_no false = refl

mark_later : (marks : List Mark) (i n row k : ℕ) → has_mark row k marks ≡ false → n < k → has_mark row k (with_one i n marks) ≡ false
mark_later marks i n row k h l = mark_other marks i n row k h (ap (λ b. (i == row) && b) (ne_eqb n k (λ e. omega (arith, l, e))) ∙ and_no (i == row))

mark_apart : (marks : List Mark) (i n row : ℕ) → has_mark row n marks ≡ false → (i ≡ row → ⊥) → has_mark row n (with_one i n marks) ≡ false
mark_apart marks i n row h apart = mark_other marks i n row n h (ap (λ b. b && (n == n)) (ne_eqb i row apart))

-- One line of a column.

whole_at : (names : List (List ℕ)) (x : List ℕ) → is_among x names ≡ false
    → (is_among x (names ++ x ∷ []) && not (place_among x (names ++ x ∷ []) + 1 == length (names ++ x ∷ []))) ≡ false
whole_at names x new =
    ap (λ b. b && not (place_among x (names ++ x ∷ []) + 1 == length (names ++ x ∷ []))) (among_between names x [])
    ∙ ap (λ p. not (p + 1 == length (names ++ x ∷ []))) (place_first names x [] new)
    ∙ ap (λ l. not (length names + 1 == l)) (length_push names x)
    ∙ ap not (eq-eqb (length names + 1) (length names + 1) refl)

pair_kept : (m : MpsModel) (col : MpsCol) (is_begun : Bool) (current next : MpsCol) (names : List (List ℕ)) (cols : List MpsCol) (entries rest : List MpsEntry) (d : Draft) (i : ℕ) (p : RowPlace) (v : Number)
    → InColumn m col is_begun current names cols entries d
    → with_mark p i (length names) d.marks ≡ with_one i (length names) d.marks
    → with_coefficient p v (length names) (cols ++ current ∷ []) ≡ cols ++ next ∷ []
    → All (λ e. has_mark (suc e.row) (length names) (with_one i (length names) d.marks) ≡ false) rest
    → InColumn m col true next names cols rest (after_entry i p (length names) v (after_column d col.name))
pair_kept m col is_begun current next names cols entries rest d i p v h marked coefficient here =
    let among : is_among col.name (with_name col.name d.column_names) ≡ true =
    ap (is_among col.name) h.known ∙ among_between names col.name []
    in record {
      section = h.section;
      header = h.header;
      rows = h.rows;
      values = h.values;
      among = among;
      place = ap (place_among col.name) h.known ∙ place_first names col.name [] h.new;
      whole = ap (λ ns. is_among col.name ns && not (place_among col.name ns + 1 == length ns)) h.known ∙ whole_at names col.name h.new;
      known = with_known col.name (with_name col.name d.column_names) among ∙ h.known;
      so_far =
          ap (λ b. with_item b (fresh_column d.is_integer col.name) (with_coefficient p v (length names) (with_item (is_among col.name d.column_names) (fresh_column d.is_integer col.name) d.cols))) among
          ∙ ap (with_coefficient p v (length names)) h.so_far
          ∙ coefficient;
      count = h.count;
      new = h.new;
      turn = h.turn;
      later = λ row k l. ap (has_mark row k) marked ∙ mark_later d.marks i (length names) row k (h.later row k l) l;
      here = subst (λ (ms : List Mark). All (λ (e : MpsEntry). has_mark (suc e.row) (length names) ms ≡ false) rest) (sym marked) here;
    }

pair_step : (m : MpsModel) (col : MpsCol) (is_begun : Bool) (current : MpsCol) (names : List (List ℕ)) (cols : List MpsCol) (entries : List MpsEntry) (d : Draft) (x : List ℕ) (i : ℕ) (p : RowPlace) (v : Number) (rest : List ℕ) (r : Reading)
    → IsMpsCol (length m.rows) col → InColumn m col is_begun current names cols entries d
    → IsRowOf d.row_names d.row_states x i p → is_word x ≡ true → x ≢ marker_word → IsDecimal v → has_mark i (length names) d.marks ≡ false
    → Gives (after_entry i p (length names) v (after_column d col.name)) rest r → Gives d (pair_line col.name x v ++ rest) r
pair_step m col is_begun current names cols entries d x i p v rest r valid h is word unmarked decimal free next =
    let name : List ℕ = col.name in
    let text : List ℕ = number_text v in
    let pair : Pair = record { row = x; numeral = text } in
    let form : words_form d.section d.has_sense_line true (words_of (name ∷ x ∷ text ∷ [])) ≡ Entries name pair None =
    ap (λ s. words_form s d.has_sense_line true (words_of (name ∷ x ∷ text ∷ []))) h.section
    ∙ ap (λ b. if b then marker_form text else Entries name pair None) (differ x marker_word unmarked)
    in
    let free_here : has_mark (place_among x d.row_names) (place_among name d.column_names) d.marks ≡ false =
    ap (λ k. has_mark k (place_among name d.column_names) d.marks) is.same_number ∙ ap (λ k. has_mark i k d.marks) h.place ∙ free
    in
    let place : place_of_pair d.row_names d.row_states pair ≡ p = ap (λ k. (state_at d.row_states k).place) is.same_number ∙ is.same_place in
    let e : Draft = after_entry i p (length names) v (after_column d name) in
    let same : after d (Entries name pair None) ≡ e =
    ap (λ k. after_entry_pair d k pair (after_column d name)) h.place
    ∙ ap (λ k. after_entry k (place_of_pair d.row_names d.row_states pair) (length names) (decimal_of text) (after_column d name)) is.same_number
    ∙ ap (λ q. after_entry i q (length names) (decimal_of text) (after_column d name)) place
    ∙ ap (λ n. after_entry i p (length names) n (after_column d name)) (value_is v decimal)
    in
    data_step d e name (x ∷ text ∷ []) rest (Entries name pair None) r
    (three_words name x text (field_word name valid.name) word (number_word v decimal)) form
    (entry_allowed d name pair (numeral_is v decimal) is.known free_here h.whole (not_long name valid.name.is_name)) refl same next

-- The cost of a column.

-- a column before its entries, with its cost
abbrev with_cost : MpsCol → Number → MpsCol
with_cost col cost = record { name = col.name; integer = col.integer; cost = cost; entries = []; low = Unset; high = Unset }

-- a change of the last column alone
last_set : (cols : List MpsCol) (current : MpsCol) (n : ℕ) (f : MpsCol → MpsCol) → length cols ≡ n
    → slice_set (cols ++ current ∷ []) n (f (column_at (cols ++ current ∷ []) n)) ≡ cols ++ f current ∷ []
last_set cols current n f long =
    ap (λ c. slice_set (cols ++ current ∷ []) n (f c)) (get_or_at cols current [] (fresh_column false []) n long) ∙ set_at cols current [] (f current) n long

cost_back : (m : MpsModel) → IsMpsModel m → (col : MpsCol) (names : List (List ℕ)) (cols : List MpsCol) (d : Draft) (rest : List ℕ) (r : Reading) → IsMpsCol (length m.rows) col
    → InColumn m col false (with_cost col zero_decimal) names cols col.entries d → ((row : ℕ) → has_mark row (length names) d.marks ≡ false)
    → ((is_begun : Bool) (e : Draft) → (length col.entries ≡ 0 → is_begun ≡ true) → InColumn m col is_begun (with_cost col col.cost) names cols col.entries e → Gives e rest r)
    → (b : Bool) → omits_cost col ≡ b → Gives d ((if b then [] else pair_line col.name m.objective col.cost) ++ rest) r
cost_back m valid col names cols d rest r is h free next false omitted =
    let row : IsRowOf d.row_names d.row_states m.objective 0 Objective = objective_row m d.row_names d.row_states valid h.rows.all_names h.rows.places in
    let e : Draft = after_entry 0 Objective (length names) col.cost (after_column d col.name) in
    let kept : InColumn m col true (with_cost col col.cost) names cols col.entries e =
    pair_kept m col false (with_cost col zero_decimal) (with_cost col col.cost) names cols col.entries col.entries d 0 Objective col.cost h refl
    (last_set cols (with_cost col zero_decimal) (length names) (λ c. record c { cost = col.cost }) h.count)
    (λ k other l. mark_apart d.marks 0 (length names) (suc (slice_index_or col.entries k other).row) (h.here k other l) (λ s. omega (arith, s)))
    in
    pair_step m col false (with_cost col zero_decimal) names cols col.entries d m.objective 0 Objective col.cost rest r is h row
    (field_word m.objective valid.objective.field) valid.objective.not_marker is.cost (free 0)
    (next true e (λ none. refl) kept)
cost_back m valid col names cols d rest r is h free next true omitted =
    let p = and_true (is_zero col.cost) (not (length col.entries == 0)) omitted in
    let zero_cost : zero_decimal ≡ col.cost = sym (zero_is col.cost is.cost p.0) in
    next false d (λ none. absurd (false≢true (ap not (sym (eq-eqb (length col.entries) 0 none)) ∙ p.1)))
    (subst (λ (c : Number). InColumn m col false (with_cost col c) names cols col.entries d) zero_cost h)

-- The entries of a column.

abbrev with_entries : MpsCol → List MpsEntry → MpsCol
with_entries col entries = record (without_bounds col) { entries = entries }

entry_coefficient : (cols : List MpsCol) (current : MpsCol) (n row : ℕ) (v : Number) → length cols ≡ n → is_zero v ≡ false
    → with_coefficient (Kept row) v n (cols ++ current ∷ []) ≡ cols ++ with_entry row v current ∷ []
entry_coefficient cols current n row v long nonzero =
    ap (λ b. if b then cols ++ current ∷ [] else slice_set (cols ++ current ∷ []) n (with_entry row v (column_at (cols ++ current ∷ []) n))) nonzero
    ∙ last_set cols current n (with_entry row v) long

entries_back : (m : MpsModel) → IsMpsModel m → (col : MpsCol) (names : List (List ℕ)) (cols : List MpsCol) (rest : List ℕ) (r : Reading) → IsMpsCol (length m.rows) col
    → ((e : Draft) → InColumn m col true (without_bounds col) names cols [] e → Gives e rest r)
    → (todo done : List MpsEntry) (is_begun : Bool) (d : Draft) → done ++ todo ≡ col.entries → All (IsMpsEntry (length m.rows)) todo → AreDistinct (map (λ e. e.row) todo) 0
    → (length todo ≡ 0 → is_begun ≡ true) → InColumn m col is_begun (with_entries col done) names cols todo d
    → Gives d (entry_lines m.rows col.name todo ++ rest) r
entries_back m valid col names cols rest r is next [] done is_begun d all fit once ends h =
    let all_done : done ≡ col.entries = sym (append-nil done) ∙ all in
    next d (subst (λ (b : Bool). InColumn m col b (without_bounds col) names cols [] d) (ends refl) (subst (λ (es : List MpsEntry). InColumn m col is_begun (with_entries col es) names cols [] d) all_done h))
entries_back m valid col names cols rest r is next (entry ∷ todo) done is_begun d all fit once ends h =
    let one : IsMpsEntry (length m.rows) entry = All-head (IsMpsEntry (length m.rows)) entry todo fit in
    let row : IsRowOf d.row_names d.row_states (row_name m.rows entry.row) (suc entry.row) (Kept entry.row) =
    kept_row m d.row_names d.row_states entry.row valid h.rows.all_names h.rows.places one.known
    in
    let named : IsMpsRow (slice_index_or m.rows entry.row (fresh_row Less [])) =
    valid.rows entry.row (fresh_row Less []) one.known
    in
    let e : Draft = after_entry (suc entry.row) (Kept entry.row) (length names) entry.value (after_column d col.name) in
    let apart : (k : ℕ) (other : MpsEntry) → k < length todo → suc entry.row ≡ suc (slice_index_or todo k other).row → ⊥ =
    λ k other l same. front_apart 0 entry.row (map (λ x. x.row) todo) k once (let long = length-map todo (λ (x : MpsEntry). x.row) in omega (arith, long, l))
    (get_or-map (λ (x : MpsEntry). x.row) todo k other 0 l ∙ (let s : (slice_index_or todo k other).row ≡ entry.row = omega (arith, same) in s))
    in
    let kept : InColumn m col true (with_entries col (done ++ entry ∷ [])) names cols todo e =
    pair_kept m col is_begun (with_entries col done) (with_entries col (done ++ entry ∷ [])) names cols (entry ∷ todo) todo d (suc entry.row) (Kept entry.row) entry.value h refl
    (entry_coefficient cols (with_entries col done) (length names) entry.row entry.value h.count one.nonzero)
    (λ k other l. mark_apart d.marks (suc entry.row) (length names) (suc (slice_index_or todo k other).row) (h.here (suc k) other (omega (arith, l))) (apart k other l))
    in
    subst (λ (t : List ℕ). Gives d t r) (sym (append_assoc (pair_line col.name (row_name m.rows entry.row) entry.value) (entry_lines m.rows col.name todo) rest))
    (pair_step m col is_begun (with_entries col done) names cols (entry ∷ todo) d (row_name m.rows entry.row) (suc entry.row) (Kept entry.row) entry.value (entry_lines m.rows col.name todo ++ rest) r is h row
    (field_word (row_name m.rows entry.row) named.name.field) named.name.not_marker one.decimal (All-head (λ x. has_mark (suc x.row) (length names) d.marks ≡ false) entry todo h.here)
    (entries_back m valid col names cols rest r is next todo (done ++ entry ∷ []) true e (append_assoc done (entry ∷ []) todo ∙ all)
    (All-tail (IsMpsEntry (length m.rows)) entry todo fit) (tail_distinct 0 entry.row (map (λ x. x.row) todo) once) (λ none. refl) kept))

-- One column, and all.

column_begun : (m : MpsModel) → IsMpsModel m → (col : MpsCol) (todo : List MpsCol) (d : Draft) → InColumns m col.integer (col ∷ todo) d
    → InColumn m col false (with_cost col zero_decimal) d.column_names d.cols col.entries d
column_begun m valid col todo d h =
    let distinct : AreDistinct (d.column_names ++ column_names (col ∷ todo)) [] = subst (λ (ns : List (List ℕ)). AreDistinct ns []) (sym h.names) valid.column_names in
    let new : is_among col.name d.column_names ≡ false = fresh_at d.column_names col.name (column_names todo) distinct in
    record {
      section = h.section;
      header = h.header;
      rows = h.rows;
      values = h.values;
      among = new;
      place = place_absent col.name d.column_names new;
      whole = ap (λ b. b && not (place_among col.name d.column_names + 1 == length d.column_names)) new;
      known = with_new col.name d.column_names new;
      so_far = ap (λ b. with_item b (fresh_column d.is_integer col.name) d.cols) new ∙ ap (λ t. d.cols ++ fresh_column t col.name ∷ []) h.turn;
      count = h.count;
      new = new;
      turn = h.turn;
      later = λ row k l. h.marks row k (omega (arith, l));
      here = λ k other l. h.marks (suc (slice_index_or col.entries k other).row) (length d.column_names) (omega arith);
    }

column_ended : (m : MpsModel) (col : MpsCol) (todo : List MpsCol) (names : List (List ℕ)) (cols : List MpsCol) (e : Draft)
    → names ++ column_names (col ∷ todo) ≡ column_names m.cols → cols ++ map without_bounds (col ∷ todo) ≡ map without_bounds m.cols
    → InColumn m col true (without_bounds col) names cols [] e → InColumns m col.integer todo e
column_ended m col todo names cols e all_names all_cols h =
    let names_are : e.column_names ≡ names ++ col.name ∷ [] = sym (with_known col.name e.column_names h.among) ∙ h.known in
    let cols_are : e.cols ≡ cols ++ without_bounds col ∷ [] = sym (ap (λ b. with_item b (fresh_column e.is_integer col.name) e.cols) h.among) ∙ h.so_far in
    let long : length e.column_names ≡ length names + 1 = ap length names_are ∙ length_push names col.name in
    record {
      section = h.section;
      header = h.header;
      rows = h.rows;
      values = h.values;
      names = ap (λ ns. ns ++ column_names todo) names_are ∙ append_assoc names (col.name ∷ []) (column_names todo) ∙ all_names;
      count = ap length cols_are ∙ length_push cols (without_bounds col) ∙ ap (λ n. n + 1) h.count ∙ sym long;
      cols = ap (λ cs. cs ++ map without_bounds todo) cols_are ∙ append_assoc cols (without_bounds col ∷ []) (map without_bounds todo) ∙ all_cols;
      turn = h.turn;
      marks = λ row k l. h.later row k (omega (arith, long, l));
    }

column_back : (m : MpsModel) → IsMpsModel m → (col : MpsCol) (todo : List MpsCol) (d : Draft) (rest : List ℕ) (r : Reading) → IsMpsCol (length m.rows) col → InColumns m col.integer (col ∷ todo) d
    → ((e : Draft) → InColumns m col.integer todo e → Gives e rest r) → Gives d (column_lines m.objective m.rows col ++ rest) r
column_back m valid col todo d rest r is h next =
    let lines : List ℕ = entry_lines m.rows col.name col.entries in
    subst (λ (t : List ℕ). Gives d t r) (sym (append_assoc (cost_line m.objective col) lines rest))
    (cost_back m valid col d.column_names d.cols d (lines ++ rest) r is (column_begun m valid col todo d h) (λ row. h.marks row (length d.column_names) (omega arith))
    (λ is_begun e ends kept. entries_back m valid col d.column_names d.cols rest r is
    (λ f last. next f (column_ended m col todo d.column_names d.cols f h.names h.cols last))
    col.entries [] is_begun e refl is.entries is.once ends kept)
    (omits_cost col) refl)

marker_turn : (m : MpsModel) (integer turn : Bool) (todo : List MpsCol) (d : Draft) → InColumns m integer todo d → InColumns m turn todo (record d { is_integer = turn })
marker_turn m integer turn todo d h = record {
  section = h.section;
  header = h.header;
  rows = h.rows;
  values = h.values;
  names = h.names;
  count = h.count;
  cols = h.cols;
  turn = refl;
  marks = h.marks;
}

marker_back : (m : MpsModel) (integer turn : Bool) (todo : List MpsCol) (d : Draft) (rest : List ℕ) (r : Reading) → InColumns m integer todo d
    → ((e : Draft) → InColumns m turn todo e → Gives e rest r) → Gives d (marker_line integer turn ++ rest) r
marker_back m false false todo d rest r h next = next d h
marker_back m true true todo d rest r h next = next d h
marker_back m false true todo d rest r h next =
    line_step d (record d { is_integer = true }) (codes " M 'MARKER' 'INTORG'") rest (Marker true) r refl
    (ap (λ s. form_of s d.has_sense_line (codes " M 'MARKER' 'INTORG'")) h.section) refl refl refl (next (record d { is_integer = true }) (marker_turn m false true todo d h))
marker_back m true false todo d rest r h next =
    line_step d (record d { is_integer = false }) (codes " M 'MARKER' 'INTEND'") rest (Marker false) r refl
    (ap (λ s. form_of s d.has_sense_line (codes " M 'MARKER' 'INTEND'")) h.section) refl refl refl (next (record d { is_integer = false }) (marker_turn m true false todo d h))

columns_back : (m : MpsModel) → IsMpsModel m → (rest : List ℕ) (r : Reading) → ((e : Draft) → InColumns m false [] e → Gives e rest r)
    → (todo : List MpsCol) → All (IsMpsCol (length m.rows)) todo → (integer : Bool) (d : Draft) → InColumns m integer todo d → Gives d (columns_lines m.objective m.rows integer todo ++ rest) r
columns_back m valid rest r next [] all integer d h = marker_back m integer false [] d rest r h next
columns_back m valid rest r next (col ∷ todo) all integer d h =
    let marker : List ℕ = marker_line integer col.integer in
    let lines : List ℕ = column_lines m.objective m.rows col in
    let more : List ℕ = columns_lines m.objective m.rows col.integer todo in
    let text : (marker ++ lines ++ more) ++ rest ≡ marker ++ (lines ++ (more ++ rest)) =
    append_assoc (marker ++ lines) more rest ∙ append_assoc marker lines (more ++ rest)
    in
    subst (λ (t : List ℕ). Gives d t r) (sym text)
    (marker_back m integer col.integer (col ∷ todo) d (lines ++ (more ++ rest)) r h
    (λ e turned. column_back m valid col todo e (more ++ rest) r (All-head (IsMpsCol (length m.rows)) col todo all) turned
    (λ f ended. columns_back m valid rest r next todo (All-tail (IsMpsCol (length m.rows)) col todo all) col.integer f ended)))

-- the section of columns, after the rows
pub columns_section_back : (m : MpsModel) → IsMpsModel m → (rest : List ℕ) (r : Reading) → ((e : Draft) → InColumns m false [] e → Gives e rest r)
    → (d : Draft) → InRows m [] d → Gives d (codes "COLUMNS\n" ++ (columns_lines m.objective m.rows false m.cols ++ rest)) r
columns_section_back m valid rest r next d h =
    let e : Draft = after_head d Columns [] in
    let allowed : draft_kind d (Head Columns []) ≡ None = rw (h.section, h.objective) refl in
    let read : AreRead m d.row_names d.row_states d.objective d.rows = record {
      all_names = sym (append-nil d.row_names) ∙ h.names;
      places = sym (append-nil (map place_of d.row_states)) ∙ h.places;
      valueless = h.valueless;
      first = h.objective;
      all_rows = sym (append-nil d.rows) ∙ h.rows;
    } in
    let begins : InColumns m false m.cols e = record {
      section = refl;
      header = h.header;
      rows = read;
      values = h.values;
      names = ap (λ ns. ns ++ column_names m.cols) h.columns.no_column_names;
      count = ap length h.columns.no_cols ∙ sym (ap length h.columns.no_column_names);
      cols = ap (λ cs. cs ++ map without_bounds m.cols) h.columns.no_cols;
      turn = h.columns.no_is_integer;
      marks = λ row k l. ap (has_mark row k) h.columns.no_marks;
    } in
    line_step d e (codes "COLUMNS") (columns_lines m.objective m.rows false m.cols ++ rest) (Head Columns []) r refl refl allowed refl refl
    (columns_back m valid rest r next m.cols valid.cols false e begins)
