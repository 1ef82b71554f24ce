-- Words without blanks and line feeds, and lines that are joined from them.
use Rattle.std.proofs.Common.{◌≡◌, ◌∙◌, ℕ, suc, ◌<◌, ◌≤◌, ◌^◌, Bool, true, false, ◌==◌, List, [], ◌∷◌, length, ℤ, pos, negsuc, refl, arith, ap, sym, cond}
use Rattle.std.specs.Prelude.{nat_lt}
use Rattle.std.specs.List.{list_all, list_any, AllByRecursion}
use Rattle.std.specs.Fmt.{decimal as numeral, signed_decimal}
use Rattle.std.proofs.lemmas.Bool.{ne_eqb, eqb-true}
use Rattle.std.proofs.lemmas.Bool.Decides.{nat_tests}
use Rattle.std.proofs.lemmas.List.{append-nil}
use Rattle.std.proofs.lemmas.List.Folds.{list_any-append}
use Rattle.std.proofs.lemmas.Fmt.{decimal_nonempty}
use Rattle.ip_core.specs.Decimals.{is_digit}
use Rattle.ip_core.specs.declared.row_ref.RowRef.{RowRef}
use Rattle.ip_core.specs.declared.row_ref.RowRef.TheVariants.{Model as ModelRow, Cut as CutRow}
use Rattle.cert_line.specs.Words.{pieces, with_byte, fields, joined}
use Rattle.cert_line.specs.Readings.{is_empty_word}
use Rattle.cert_line.specs.Lines.{IsCount, IsWeight, IsNumber, IsRow}
use Rattle.ip_core.proofs.DecimalDigits.{and_true}
use Rattle.cert_line.proofs.Parting.{pieces-cut, pieces-none}
use Rattle.cert_line.proofs.Numbers.{numeral_digits}
use Rattle.cert_line.proofs.LineWords.{row_word}

-- a byte above the blank
abbrev is_plain : ℕ → Bool
is_plain b = nat_lt 32 b

-- a word: at least one byte, and each above the blank
pub record IsWord (word : List ℕ) : Type 0 where
  pub filled : is_empty_word word ≡ false
  pub plain : list_all is_plain word ≡ true

abbrev pub AreWords : List (List ℕ) → Type 0
AreWords words = AllByRecursion IsWord words

other_byte : (b s : ℕ) → s ≤ 32 → is_plain b ≡ true → (b == s) ≡ false
other_byte b s low plain = grind (arith, nat_tests)

-- no such byte stands in a word
lacks : (s : ℕ) (word : List ℕ) → s ≤ 32 → list_all is_plain word ≡ true → list_any (λ b. b == s) word ≡ false
lacks s [] low plain = refl
lacks s (b ∷ word) low plain =
    let k = and_true (is_plain b) (list_all is_plain word) plain in
    let other : (b == s) ≡ false = other_byte b s low k.0 in
    let rest : list_any (λ b. b == s) word ≡ false = lacks s word low k.1 in
    rw (other, rest) refl

-- the words of a line that is joined from words are these
pub joined_pieces : (word : List ℕ) (words : List (List ℕ)) → AreWords (word ∷ words) → pieces (joined (word ∷ words)) ≡ word ∷ words
joined_pieces word [] k = ap pieces (append-nil word) ∙ pieces-none word (lacks 32 word (omega arith) k.0.plain)
joined_pieces word (next ∷ words) k = pieces-cut word (joined (next ∷ words)) (lacks 32 word (omega arith) k.0.plain) ∙ ap (λ ws. word ∷ ws) (joined_pieces next words k.1)

with_byte_joined : (b : ℕ) (words : List (List ℕ)) → joined (with_byte b words) ≡ b ∷ joined words
with_byte_joined b [] = refl
with_byte_joined b (word ∷ words) = refl

with_byte_some : (b : ℕ) (words : List (List ℕ)) → with_byte b words ≡ [] → ⊥
with_byte_some b [] h = cc
with_byte_some b (word ∷ words) h = cc

some_by : (t : Bool) (b : ℕ) (words : List (List ℕ)) → cond t ([] ∷ words) (with_byte b words) ≡ [] → ⊥
some_by true b words h = cc
some_by false b words h = with_byte_some b words h

no_pieces : (bs : List ℕ) → pieces bs ≡ [] → ⊥
no_pieces [] h = cc
no_pieces (b ∷ bs) h = some_by (b == 32) b (pieces bs) h

empty_first : (words : List (List ℕ)) (bs : List ℕ) → pieces bs ≡ words → joined words ≡ bs → joined ([] ∷ words) ≡ 32 ∷ bs
empty_first [] bs is same = absurd (no_pieces bs is)
empty_first (word ∷ words) bs is same = ap (λ r. 32 ∷ r) same

joined_by : (t : Bool) (b : ℕ) (bs : List ℕ) → (b == 32) ≡ t → joined (pieces bs) ≡ bs → joined (cond t ([] ∷ pieces bs) (with_byte b (pieces bs))) ≡ b ∷ bs
joined_by true b bs t same = empty_first (pieces bs) bs refl same ∙ ap (λ c. c ∷ bs) (sym (eqb-true b 32 t))
joined_by false b bs t same = with_byte_joined b (pieces bs) ∙ ap (λ r. b ∷ r) same

-- the words of a line make up the line
pub pieces_joined : (bs : List ℕ) → joined (pieces bs) ≡ bs
pieces_joined [] = refl
pieces_joined (b ∷ bs) = joined_by (b == 32) b bs refl (pieces_joined bs)

-- no word is empty
pub none_empty : (words : List (List ℕ)) → AreWords words → list_any is_empty_word words ≡ false
none_empty [] k = refl
none_empty (word ∷ words) k = let first = k.0.filled in let rest = none_empty words k.1 in rw (first, rest) refl

feed_in_fields : (words : List (List ℕ)) → AreWords words → list_any (λ b. b == 10) (fields words) ≡ false
feed_in_fields [] k = refl
feed_in_fields (word ∷ words) k =
    let here = lacks 10 word (omega arith) k.0.plain in
    let rest = feed_in_fields words k.1 in
    rw (list_any-append (λ b. b == 10) word (fields words), here, rest) refl

-- a line that is joined from words has no line feed
pub no_feed : (words : List (List ℕ)) → AreWords words → list_any (λ b. b == 10) (joined words) ≡ false
no_feed [] k = refl
no_feed (word ∷ words) k =
    let here = lacks 10 word (omega arith) k.0.plain in
    let rest = feed_in_fields words k.1 in
    rw (list_any-append (λ b. b == 10) word (fields words), here, rest) refl

filled_of : (word : List ℕ) → 0 < length word → is_empty_word word ≡ false
filled_of word some = ne_eqb (length word) 0 (λ same. omega (arith, some, same))

plain_digit : (b : ℕ) → is_digit b ≡ true → is_plain b ≡ true
plain_digit b h = grind (arith, nat_tests)

plain_digits : (word : List ℕ) → list_all is_digit word ≡ true → list_all is_plain word ≡ true
plain_digits [] h = refl
plain_digits (b ∷ word) h =
    let k = and_true (is_digit b) (list_all is_digit word) h in
    let first : is_plain b ≡ true = plain_digit b k.0 in
    let rest : list_all is_plain word ≡ true = plain_digits word k.1 in
    rw (first, rest) refl

plain_numeral : (n : ℕ) → n < 2 ^ 64 → list_all is_plain (numeral n) ≡ true
plain_numeral n small = plain_digits (numeral n) (numeral_digits n small)

pub numeral_is_word : (n : ℕ) → n < 2 ^ 64 → IsWord (numeral n)
numeral_is_word n small = record {
  filled = filled_of (numeral n) (decimal_nonempty n small);
  plain = plain_numeral n small;
}

-- so is a numeral behind one more byte
after_byte : (b n : ℕ) → n < 2 ^ 64 → is_plain b ≡ true → IsWord (b ∷ numeral n)
after_byte b n small first =
    let rest : list_all is_plain (numeral n) ≡ true = plain_numeral n small in
    record {
      filled = filled_of (b ∷ numeral n) (omega arith);
      plain = rw (first, rest) refl;
    }

pub count_is_word : (n : ℕ) → IsCount n → IsWord (numeral n)
count_is_word n k = numeral_is_word n (omega (arith, k.small))

pub weight_is_word : (n : ℕ) → IsWeight n → IsWord (numeral n)
weight_is_word n k = numeral_is_word n (omega (arith, k.small))

pub number_is_word : (z : ℤ) → IsNumber z → IsWord (signed_decimal z)
number_is_word (pos n) k = numeral_is_word n (omega (arith, k.small))
number_is_word (negsuc n) k = after_byte 45 (suc n) (omega (arith, k.small)) refl

pub row_is_word : (row : RowRef) → IsRow row → IsWord (row_word row)
row_is_word (ModelRow n) k = after_byte 114 n (omega (arith, k.small)) refl
row_is_word (CutRow n) k = after_byte 107 n (omega (arith, k.small)) refl
