use Rattle.std.proofs.Common.{◌≡◌, ℕ, Bool, true, false, ◌||◌, List, [], ◌∷◌, refl, filter, ◌≤◌, ◌^◌, suc, length, arith, if◌then◌else◌}
use Rattle.std.specs.List.{list_all}
use Rattle.mps_lines.specs.Lines.{with_byte, pieces, fields, is_separator, is_visible, is_line_byte, is_filled, words_of}
use Rattle.mps_lines.specs.FieldWords.{IsField, AreFields}
use Rattle.mps_lines.proofs.Truths.{and_true}

-- the fields of a line that may hold its bytes have visible bytes alone

abbrev pub all_visible : List (List ℕ) → Bool
all_visible ws = list_all (list_all is_visible) ws

with_byte-visible : (b : ℕ) (ps : List (List ℕ)) → is_visible b ≡ true → all_visible ps ≡ true → all_visible (with_byte b ps) ≡ true
with_byte-visible b [] h all = rw h refl
with_byte-visible b (p ∷ ps) h all = rw h all

piece_by : (s : Bool) (b : ℕ) (ps : List (List ℕ)) → (s || is_visible b) ≡ true → all_visible ps ≡ true → all_visible (if s then [] ∷ ps else with_byte b ps) ≡ true
piece_by true b ps h all = all
piece_by false b ps h all = with_byte-visible b ps h all

pub pieces-visible : (line : List ℕ) → list_all is_line_byte line ≡ true → all_visible (pieces line) ≡ true
pieces-visible [] h = refl
pieces-visible (b ∷ line) h =
    let p = and_true (is_line_byte b) (list_all is_line_byte line) h in
    piece_by (is_separator b) b (pieces line) p.0 (pieces-visible line p.1)

filled_by : (f : Bool) (p : List ℕ) (ps : List (List ℕ)) → list_all is_visible p ≡ true → all_visible ps ≡ true → all_visible (if f then p ∷ ps else ps) ≡ true
filled_by true p ps h all = rw h all
filled_by false p ps h all = all

pub filter-visible : (ps : List (List ℕ)) → all_visible ps ≡ true → all_visible (filter is_filled ps) ≡ true
filter-visible [] h = refl
filter-visible (p ∷ ps) h =
    let q = and_true (list_all is_visible p) (all_visible ps) h in
    filled_by (is_filled p) p (filter is_filled ps) q.0 (filter-visible ps q.1)

-- and no more bytes than the line

abbrev AreShort : ℕ → List (List ℕ) → Type 0
AreShort n [] = Unit {0}
AreShort n (p ∷ ps) = (length p ≤ n) × AreShort n ps

short-more : (n m : ℕ) (ps : List (List ℕ)) → n ≤ m → AreShort n ps → AreShort m ps
short-more n m [] le all = tt
short-more n m (p ∷ ps) le (here, all) = (omega arith, short-more n m ps le all)

with_byte-short : (b n : ℕ) (ps : List (List ℕ)) → AreShort n ps → AreShort (suc n) (with_byte b ps)
with_byte-short b n [] all = (omega arith, tt)
with_byte-short b n (p ∷ ps) (here, all) = (omega arith, short-more n (suc n) ps (omega arith) all)

piece_short-by : (s : Bool) (b n : ℕ) (ps : List (List ℕ)) → AreShort n ps → AreShort (suc n) (if s then [] ∷ ps else with_byte b ps)
piece_short-by true b n ps all = (omega arith, short-more n (suc n) ps (omega arith) all)
piece_short-by false b n ps all = with_byte-short b n ps all

pieces-short : (line : List ℕ) → AreShort (length line) (pieces line)
pieces-short [] = (omega arith, tt)
pieces-short (b ∷ line) = piece_short-by (is_separator b) b (length line) (pieces line) (pieces-short line)

filled_short-by : (f : Bool) (n : ℕ) (p : List ℕ) (ps : List (List ℕ)) → length p ≤ n → AreShort n ps → AreShort n (if f then p ∷ ps else ps)
filled_short-by true n p ps here all = (here, all)
filled_short-by false n p ps here all = all

filter-short : (n : ℕ) (ps : List (List ℕ)) → AreShort n ps → AreShort n (filter is_filled ps)
filter-short n [] all = tt
filter-short n (p ∷ ps) (here, all) = filled_short-by (is_filled p) n p (filter is_filled ps) here (filter-short n ps all)

field-is : (n : ℕ) (p : List ℕ) → n ≤ 2 ^ 30 → length p ≤ n → list_all is_visible p ≡ true → IsField p
field-is n p few here h = record { visible = h; short = omega arith }

words-fields : (n : ℕ) (ws : List (List ℕ)) → n ≤ 2 ^ 30 → AreShort n ws → all_visible ws ≡ true → AreFields (words_of ws)
words-fields n [] few all h = tt
words-fields n (a ∷ []) few (sa, all) h = field-is n a few sa (and_true (list_all is_visible a) true h).0
words-fields n (a ∷ b ∷ []) few (sa, (sb, all)) h =
    let p = and_true (list_all is_visible a) (all_visible (b ∷ [])) h in
    (field-is n a few sa p.0, field-is n b few sb (and_true (list_all is_visible b) true p.1).0)
words-fields n (a ∷ b ∷ c ∷ []) few (sa, (sb, (sc, all))) h =
    let p = and_true (list_all is_visible a) (all_visible (b ∷ c ∷ [])) h in
    let q = and_true (list_all is_visible b) (all_visible (c ∷ [])) p.1 in
    (field-is n a few sa p.0, field-is n b few sb q.0, field-is n c few sc (and_true (list_all is_visible c) true q.1).0)
words-fields n (a ∷ b ∷ c ∷ d ∷ []) few (sa, (sb, (sc, (sd, all)))) h =
    let p = and_true (list_all is_visible a) (all_visible (b ∷ c ∷ d ∷ [])) h in
    let q = and_true (list_all is_visible b) (all_visible (c ∷ d ∷ [])) p.1 in
    let r = and_true (list_all is_visible c) (all_visible (d ∷ [])) q.1 in
    (field-is n a few sa p.0, field-is n b few sb q.0, field-is n c few sc r.0, field-is n d few sd (and_true (list_all is_visible d) true r.1).0)
words-fields n (a ∷ b ∷ c ∷ d ∷ e ∷ []) few (sa, (sb, (sc, (sd, (se, all))))) h =
    let p = and_true (list_all is_visible a) (all_visible (b ∷ c ∷ d ∷ e ∷ [])) h in
    let q = and_true (list_all is_visible b) (all_visible (c ∷ d ∷ e ∷ [])) p.1 in
    let r = and_true (list_all is_visible c) (all_visible (d ∷ e ∷ [])) q.1 in
    let s = and_true (list_all is_visible d) (all_visible (e ∷ [])) r.1 in
    (field-is n a few sa p.0, field-is n b few sb q.0, field-is n c few sc r.0, field-is n d few sd s.0, field-is n e few se (and_true (list_all is_visible e) true s.1).0)
words-fields n (a ∷ b ∷ c ∷ d ∷ e ∷ f ∷ more) few (sa, (sb, all)) h =
    let p = and_true (list_all is_visible a) (all_visible (b ∷ c ∷ d ∷ e ∷ f ∷ more)) h in
    (field-is n a few sa p.0, field-is n b few sb (and_true (list_all is_visible b) (all_visible (c ∷ d ∷ e ∷ f ∷ more)) p.1).0)

pub line-fields : (line : List ℕ) → length line ≤ 2 ^ 30 → list_all is_line_byte line ≡ true → AreFields (words_of (fields line))
line-fields line few h =
    words-fields (length line) (fields line) few (filter-short (length line) (pieces line) (pieces-short line)) (filter-visible (pieces line) (pieces-visible line h))
