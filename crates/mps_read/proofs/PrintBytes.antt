use Rattle.std.proofs.Common.{◌≡◌, ◌≢◌, ◌∙◌, ◌≤◌, ◌<◌, ◌/◌, ◌^◌, ℕ, zero, suc, Bool, true, false, not, nat_le, ◌==◌, ◌&&◌, ◌||◌, cond, List, [], ◌∷◌, ◌++◌, length, filter, ℤ, pos, negsuc, int_lt, unsigned_abs, ◌≤ℤ◌, All, if◌then◌else◌, refl, ap, subst, arith}
use Rattle.std.specs.List.{list_all}
use Rattle.std.specs.Fmt.{decimal as decimal_digits, signed_decimal, sign_text}
use Rattle.std.proofs.lemmas.Bool.{false≢true, ne_eqb}
use Rattle.std.proofs.lemmas.Bool.Decides.{nat_tests}
use Rattle.std.proofs.lemmas.Int.{ints}
use Rattle.std.proofs.lemmas.List.Elements.{All-head, All-tail}
use Rattle.std.proofs.lemmas.List.Folds.{list_all-append}
use Rattle.std.proofs.lemmas.Fmt.{decimal_nonempty}
use Rattle.std.proofs.lemmas.List.{append_assoc}
use Rattle.std.proofs.Math.Nat.{div-le_self}
use Rattle.ip_core.specs.Names.{IsName, IsNameByte}
use Rattle.ip_core.specs.Decimals.{Number, IsDecimal, is_digit}
use Rattle.ip_core.specs.Texts.{last_digits}
use Rattle.ip_core.specs.Prints.{numeral_text, number_text}
use Rattle.ip_core.proofs.DecimalDigits.{and_true, le_of_test}
use Rattle.ip_core.proofs.DecimalPrints.{written_digits, last_are_digits}
use Rattle.mps_lines.specs.Lines.{with_byte, lines_of, pieces, fields, is_separator, is_visible, is_line_byte, is_filled}
use Rattle.mps_model.specs.MpsModels.{IsFieldName}
use Rattle.mps_model.specs.Prints.{fields_text}

-- the bytes of a printed text as lines, and lines as fields

-- a field: visible bytes, at least one
abbrev pub is_word : List ℕ → Bool
is_word word = list_all is_visible word && is_filled word

visible_from : (b : ℕ) → is_visible b ≡ true → 33 ≤ b
visible_from b h = le_of_test 33 b (and_true (nat_le 33 b) (nat_le b 126) h).0

not_separator : (b : ℕ) → is_visible b ≡ true → is_separator b ≡ false
not_separator b h =
    let low = visible_from b h in
    rw (ne_eqb b 9 (λ e. omega (arith, low, e)), ne_eqb b 13 (λ e. omega (arith, low, e)), ne_eqb b 32 (λ e. omega (arith, low, e))) refl

in_line : (b : ℕ) → is_visible b ≡ true → is_line_byte b ≡ true
in_line b h = ap (λ s. s || is_visible b) (not_separator b h) ∙ h

not_feed : (b : ℕ) → is_line_byte b ≡ true → (b == 10) ≡ false
not_feed b h = ne_eqb b 10 (λ e. false≢true (subst (λ (k : ℕ). is_line_byte k ≡ true) e h))

joined_by : (t : Bool) (b : ℕ) (ls : List (List ℕ)) (line : List ℕ) (more : List (List ℕ)) → t ≡ false → ls ≡ line ∷ more → (if t then [] ∷ ls else with_byte b ls) ≡ (b ∷ line) ∷ more
joined_by t b ls line more h is = rw (h, is) refl

-- a line ends at its line feed
pub line_first : (line rest : List ℕ) → list_all is_line_byte line ≡ true → lines_of (line ++ 10 ∷ rest) ≡ line ∷ lines_of rest
line_first [] rest h = refl
line_first (b ∷ line) rest h =
    let p = and_true (is_line_byte b) (list_all is_line_byte line) h in
    joined_by (b == 10) b (lines_of (line ++ 10 ∷ rest)) line (lines_of rest) (not_feed b p.0) (line_first line rest p.1)

word_pieces : (w t : List ℕ) (more : List (List ℕ)) → list_all is_visible w ≡ true → pieces t ≡ [] ∷ more → pieces (w ++ t) ≡ w ∷ more
word_pieces [] t more h is = is
word_pieces (b ∷ w) t more h is =
    let p = and_true (is_visible b) (list_all is_visible w) h in
    joined_by (is_separator b) b (pieces (w ++ t)) w more (not_separator b p.0) (word_pieces w t more p.1 is)

-- the parts of what holds of the first field and the others
pub word_parts : (w : List ℕ) (ws : List (List ℕ)) → list_all is_word (w ∷ ws) ≡ true → (list_all is_visible w ≡ true) × ((is_filled w ≡ true) × (list_all is_word ws ≡ true))
word_parts w ws h =
    let p = and_true (is_word w) (list_all is_word ws) h in
    let q = and_true (list_all is_visible w) (is_filled w) p.0 in
    (q.0, (q.1, p.1))

pieces-fields_text : (ws : List (List ℕ)) → list_all is_word ws ≡ true → pieces (fields_text ws) ≡ [] ∷ ws
pieces-fields_text [] h = refl
pieces-fields_text (w ∷ ws) h =
    let p = word_parts w ws h in ap (λ ps. [] ∷ ps) (word_pieces w (fields_text ws) ws p.0 (pieces-fields_text ws p.1.1))

kept_by : (t : Bool) (w : List ℕ) (fs ws : List (List ℕ)) → t ≡ true → fs ≡ ws → cond t (w ∷ fs) fs ≡ w ∷ ws
kept_by t w fs ws h is = rw (h, is) refl

filled_words : (ws : List (List ℕ)) → list_all is_word ws ≡ true → filter is_filled ws ≡ ws
filled_words [] h = refl
filled_words (w ∷ ws) h = let p = word_parts w ws h in kept_by (is_filled w) w (filter is_filled ws) ws p.1.0 (filled_words ws p.1.1)

-- the fields of a data line
pub fields-fields_text : (ws : List (List ℕ)) → list_all is_word ws ≡ true → fields (fields_text ws) ≡ ws
fields-fields_text ws h = ap (filter is_filled) (pieces-fields_text ws h) ∙ filled_words ws h

-- the fields of a section line
pub head_fields : (w : List ℕ) (ws : List (List ℕ)) → list_all is_word (w ∷ ws) ≡ true → fields (w ++ fields_text ws) ≡ w ∷ ws
head_fields w ws h =
    let p = word_parts w ws h in ap (filter is_filled) (word_pieces w (fields_text ws) ws p.0 (pieces-fields_text ws p.1.1)) ∙ filled_words (w ∷ ws) h

visible_line : (w : List ℕ) → list_all is_visible w ≡ true → list_all is_line_byte w ≡ true
visible_line [] h = refl
visible_line (b ∷ w) h =
    let p = and_true (is_visible b) (list_all is_visible w) h in ap (λ s. s && list_all is_line_byte w) (in_line b p.0) ∙ visible_line w p.1

both : (p : ℕ → Bool) (xs ys : List ℕ) → list_all p xs ≡ true → list_all p ys ≡ true → list_all p (xs ++ ys) ≡ true
both p xs ys first second = list_all-append p xs ys ∙ ap (λ a. a && list_all p ys) first ∙ second

-- a data line has the bytes that a line may hold
pub bytes-fields_text : (ws : List (List ℕ)) → list_all is_word ws ≡ true → list_all is_line_byte (fields_text ws) ≡ true
bytes-fields_text [] h = refl
bytes-fields_text (w ∷ ws) h = let p = word_parts w ws h in both is_line_byte w (fields_text ws) (visible_line w p.0) (bytes-fields_text ws p.1.1)

pub head_line : (w : List ℕ) (ws : List (List ℕ)) → list_all is_word (w ∷ ws) ≡ true → list_all is_line_byte (w ++ fields_text ws) ≡ true
head_line w ws h = let p = word_parts w ws h in both is_line_byte w (fields_text ws) (visible_line w p.0) (bytes-fields_text ws p.1.1)

-- lines of two, three and four fields

pub two_words : (a b : List ℕ) → is_word a ≡ true → is_word b ≡ true → list_all is_word (a ∷ b ∷ []) ≡ true
two_words a b h k = rw (h, k) refl

pub three_words : (a b c : List ℕ) → is_word a ≡ true → is_word b ≡ true → is_word c ≡ true → list_all is_word (a ∷ b ∷ c ∷ []) ≡ true
three_words a b c h k l = ap (λ t. t && list_all is_word (b ∷ c ∷ [])) h ∙ two_words b c k l

pub four_words : (a b c d : List ℕ) → is_word a ≡ true → is_word b ≡ true → is_word c ≡ true → is_word d ≡ true → list_all is_word (a ∷ b ∷ c ∷ d ∷ []) ≡ true
four_words a b c d h k l m = ap (λ t. t && list_all is_word (b ∷ c ∷ d ∷ [])) h ∙ three_words b c d k l m

-- Names and numerals are fields.

name_byte : (b : ℕ) → IsNameByte b → is_visible b ≡ true
name_byte b h = let low = h.low in let high = h.high in grind (arith, nat_tests)

visible_name : (w : List ℕ) → All IsNameByte w → list_all is_visible w ≡ true
visible_name [] h = refl
visible_name (b ∷ w) h = ap (λ s. s && list_all is_visible w) (name_byte b (All-head IsNameByte b w h)) ∙ visible_name w (All-tail IsNameByte b w h)

filled_cons : (b : ℕ) (w : List ℕ) → is_filled (b ∷ w) ≡ true
filled_cons b w = ap not (ne_eqb (suc (length w)) 0 (λ e. omega (arith, e)))

filled_name : (w : List ℕ) → w ≢ [] → is_filled w ≡ true
filled_name [] h = absurd (h refl)
filled_name (b ∷ w) h = filled_cons b w

word_by : (w : List ℕ) → list_all is_visible w ≡ true → is_filled w ≡ true → is_word w ≡ true
word_by w first second = ap (λ a. a && is_filled w) first ∙ second

-- a name that isn't empty
pub name_word : (b : ℕ) (w : List ℕ) → IsName (b ∷ w) → is_word (b ∷ w) ≡ true
name_word b w h = word_by (b ∷ w) (visible_name (b ∷ w) h.visible) (filled_cons b w)

pub field_word : (w : List ℕ) → IsFieldName w → is_word w ≡ true
field_word w h = word_by w (visible_name w h.is_name.visible) (filled_name w h.nonempty)

digit_visible : (b : ℕ) → is_digit b ≡ true → is_visible b ≡ true
digit_visible b h =
    let p = and_true (nat_le 48 b) (nat_le b 57) h in
    let low : 48 ≤ b = le_of_test 48 b p.0 in
    let high : b ≤ 57 = le_of_test b 57 p.1 in
    name_byte b (record { low = omega (arith, low); high = omega (arith, high) })

digits_visible : (ds : List ℕ) → list_all is_digit ds ≡ true → list_all is_visible ds ≡ true
digits_visible [] h = refl
digits_visible (d ∷ ds) h =
    let p = and_true (is_digit d) (list_all is_digit ds) h in ap (λ s. s && list_all is_visible ds) (digit_visible d p.0) ∙ digits_visible ds p.1

decimal_digits-visible : (n : ℕ) → n < 2 ^ 64 → list_all is_visible (decimal_digits n) ≡ true
decimal_digits-visible n small = digits_visible (decimal_digits n) (written_digits n small)

filled_long : (w : List ℕ) → 0 < length w → is_filled w ≡ true
filled_long [] h = absurd (omega (arith, h))
filled_long (b ∷ w) h = filled_cons b w

filled_front : (w t : List ℕ) → is_filled w ≡ true → is_filled (w ++ t) ≡ true
filled_front [] t h = absurd (false≢true h)
filled_front (b ∷ w) t h = filled_cons b (w ++ t)

more_word : (w t : List ℕ) → is_word w ≡ true → list_all is_visible t ≡ true → is_word (w ++ t) ≡ true
more_word w t h more =
    let p = and_true (list_all is_visible w) (is_filled w) h in
    word_by (w ++ t) (both is_visible w t p.0 more) (filled_front w t p.1)

digits_word : (n : ℕ) → n < 2 ^ 64 → is_word (decimal_digits n) ≡ true
digits_word n small = word_by (decimal_digits n) (decimal_digits-visible n small) (filled_long (decimal_digits n) (decimal_nonempty n small))

signed_word : (m : ℤ) → unsigned_abs m < 10 ^ 18 → is_word (signed_decimal m) ≡ true
signed_word (pos n) few = digits_word n (omega (arith, few))
signed_word (negsuc n) few = word_by (45 ∷ decimal_digits (suc n)) (decimal_digits-visible (suc n) (omega (arith, few))) (filled_cons 45 (decimal_digits (suc n)))

sign_visible : (negative : Bool) → list_all is_visible (sign_text negative) ≡ true
sign_visible true = refl
sign_visible false = refl

sign_word : (negative : Bool) (w : List ℕ) → is_word w ≡ true → is_word (sign_text negative ++ w) ≡ true
sign_word true w h = word_by (45 ∷ w) (and_true (list_all is_visible w) (is_filled w) h).0 (filled_cons 45 w)
sign_word false w h = h

point_word : (negative : Bool) (n e : ℕ) → n < 10 ^ 18 → is_word (sign_text negative ++ (decimal_digits (n / 10 ^ suc e) ++ 46 ∷ last_digits (suc e) n)) ≡ true
point_word negative n e small =
    let below : n / 10 ^ suc e ≤ n = div-le_self n (10 ^ suc e) in
    sign_word negative (decimal_digits (n / 10 ^ suc e) ++ 46 ∷ last_digits (suc e) n)
    (more_word (decimal_digits (n / 10 ^ suc e)) (46 ∷ last_digits (suc e) n) (digits_word (n / 10 ^ suc e) (omega (arith, small, below)))
    (digits_visible (last_digits (suc e) n) (last_are_digits (suc e) n)))

numeral_word : (m e : ℤ) → unsigned_abs m < 10 ^ 18 → e ≤ℤ pos 400 → is_word (numeral_text m e) ≡ true
numeral_word m (pos zero) few most = signed_word m few
numeral_word m (pos (suc n)) few most =
    let small : suc n < 2 ^ 64 = omega (arith, ints, most) in
    more_word (signed_decimal m) (101 ∷ decimal_digits (suc n)) (signed_word m few) (decimal_digits-visible (suc n) small)
numeral_word m (negsuc e) few most =
    ap is_word (append_assoc (sign_text (int_lt m (pos 0))) (decimal_digits (unsigned_abs m / 10 ^ suc e)) (46 ∷ last_digits (suc e) (unsigned_abs m)))
    ∙ point_word (int_lt m (pos 0)) (unsigned_abs m) e few

pub number_word : (n : Number) → IsDecimal n → is_word (number_text n) ≡ true
number_word n h = numeral_word n.mantissa n.exponent h.few h.greatest
