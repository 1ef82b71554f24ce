use Rattle.std.proofs.Common.{◌≡◌, ℕ, suc, ◌+◌, ◌*◌, ◌<◌, ◌^◌, List, [], ◌∷◌, ◌++◌, length, ℤ, refl, sym, ap, ◌∙◌, arith, take, get_or, append_assoc}
use Rattle.std.proofs.lemmas.List.{take_more}
use Rattle.std.proofs.lemmas.Int.{of_z-to_z}
use mir.Syntax.{w64}
use Rattle.ip_core.specs.declared.leaf.Pair.{Pair}
use Rattle.work_stamp.specs.Words.{signed_words, pair_words, signed_word, row_word}
use Rattle.work_stamp.specs.Reads.{signed_numbers, signed_number}

pub length-signed_words : (zs : List ℤ) → length (signed_words zs) ≡ length zs
length-signed_words [] = refl
length-signed_words (z ∷ zs) = ap suc (length-signed_words zs)

pub length-pair_words : (pairs : List Pair) → length (pair_words pairs) ≡ 2 * length pairs
length-pair_words [] = refl
length-pair_words (p ∷ ps) = omega (arith, length-pair_words ps)

pub signed_words-append : (xs ys : List ℤ) → signed_words (xs ++ ys) ≡ signed_words xs ++ signed_words ys
signed_words-append [] ys = refl
signed_words-append (x ∷ xs) ys = ap (λ (r : List ℕ). signed_word x ∷ r) (signed_words-append xs ys)

pub pair_words-append : (xs ys : List Pair) → pair_words (xs ++ ys) ≡ pair_words xs ++ pair_words ys
pair_words-append [] ys = refl
pair_words-append (x ∷ xs) ys = ap (λ (r : List ℕ). row_word x.row ∷ x.weight ∷ r) (pair_words-append xs ys)

pub signed_numbers-append : (xs ys : List ℕ) → signed_numbers (xs ++ ys) ≡ signed_numbers xs ++ signed_numbers ys
signed_numbers-append [] ys = refl
signed_numbers-append (x ∷ xs) ys = ap (λ (r : List ℤ). signed_number x ∷ r) (signed_numbers-append xs ys)

-- a word that was read as a signed number gives that number again
pub signed_again : (n : ℕ) (z : ℤ) → n < 2 ^ 64 → z ≡ signed_number n → signed_number (signed_word z) ≡ signed_number n
signed_again n z h e = ap (λ (y : ℤ). signed_number (signed_word y)) e ∙ ap signed_number (of_z-to_z w64 n h)

pub signed_numbers_more : (words : List ℕ) (i : ℕ) (values new : List ℤ) (z : ℤ) →
    i < length words → get_or words i 0 < 2 ^ 64 → z ≡ signed_number (get_or words i 0) →
    values ≡ signed_numbers (take i words) → new ≡ values ++ signed_number (signed_word z) ∷ [] → new ≡ signed_numbers (take (i + 1) words)
signed_numbers_more words i values new z within fits e so_far pushed =
    pushed ∙ ap (λ (y : ℤ). values ++ y ∷ []) (signed_again (get_or words i 0) z fits e) ∙ ap (λ (vs : List ℤ). vs ++ signed_number (get_or words i 0) ∷ []) so_far ∙ sym (signed_numbers-append (take i words) (get_or words i 0 ∷ [])) ∙ ap signed_numbers (sym (take_more words i 0 within))

pub pair_words_more : (pairs : List Pair) (i : ℕ) (d : Pair) (start out middle new : List ℕ) (w : ℕ) →
    i < length pairs → w ≡ row_word (get_or pairs i d).row → out ≡ start ++ pair_words (take i pairs) →
    middle ≡ out ++ w ∷ [] → new ≡ middle ++ (get_or pairs i d).weight ∷ [] → new ≡ start ++ pair_words (take (i + 1) pairs)
pair_words_more pairs i d start out middle new w within e so_far first second =
    let more = take_more pairs i d within in
    rw (more, pair_words-append) (grind (arith, append_assoc, so_far, first, second, e))
