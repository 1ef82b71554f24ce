-- Which words have numbers: those that are written for them, and no others.
use Rattle.std.proofs.Common.{◌≡◌, ℕ, zero, suc, ◌<◌, ◌^◌, Bool, true, false, not, ◌==◌, List, [], ◌∷◌, length, ℤ, pos, negsuc, refl, arith, ap, subst, Option, Some, None, cond}
use Rattle.std.specs.List.{list_all}
use Rattle.std.specs.Option.{option_map}
use Rattle.std.specs.Fmt.{decimal as numeral, signed_decimal}
use Rattle.std.proofs.lemmas.Bool.{ne_eqb, eqb-true}
use Rattle.std.proofs.lemmas.Fmt.{decimal_nonempty}
use Rattle.ip_core.specs.Decimals.{is_digit}
use Rattle.ip_core.specs.declared.row_ref.RowRef.{RowRef}
use Rattle.ip_core.specs.declared.row_ref.RowRef.TheVariants.{Model as ModelRow, Cut as CutRow}
use Rattle.ip_core.proofs.DecimalDigits.{digit_from}
use Rattle.cert_line.specs.declared.numeral.TheConstants.{MAX_COUNT, MAX_WEIGHT, MAX_NUMBER}
use Rattle.cert_line.specs.Numerals.{natural_of, count_of, weight_of, negative_of, number_of, is_row, row_of}
use Rattle.cert_line.specs.Lines.{IsCount, IsWeight, IsNumber, IsRow}
use Rattle.cert_line.proofs.Numbers.{IsNaturalText, natural_text, natural_again, numeral_digits}
use Rattle.cert_line.proofs.LineWords.{row_word}

pub count_is : (word : List ℕ) (n : ℕ) → count_of word ≡ Some n → (word ≡ numeral n) × IsCount n
count_is word n e =
    let k = subst (IsNaturalText MAX_COUNT word) e (natural_text MAX_COUNT word (omega arith)) in
    (k.0, record { small = k.1 })

pub count_again : (n : ℕ) → IsCount n → count_of (numeral n) ≡ Some n
count_again n k = natural_again MAX_COUNT n (omega arith) k.small

pub weight_is : (word : List ℕ) (n : ℕ) → weight_of word ≡ Some n → (word ≡ numeral n) × IsWeight n
weight_is word n e =
    let k = subst (IsNaturalText MAX_WEIGHT word) e (natural_text MAX_WEIGHT word (omega arith)) in
    (k.0, record { small = k.1 })

pub weight_again : (n : ℕ) → IsWeight n → weight_of (numeral n) ≡ Some n
weight_again n k = natural_again MAX_WEIGHT n (omega arith) k.small

-- a word that has a number is what is written for it
abbrev IsNumberText : List ℕ → Option ℤ → Type 0
IsNumberText word None = Unit {0}
IsNumberText word (Some z) = (word ≡ signed_decimal z) × IsNumber z

negative_text : (b : ℕ) (bs : List ℕ) (o : Option ℕ) → b ≡ 45 → IsNaturalText MAX_NUMBER bs o → IsNumberText (b ∷ bs) (negative_of o)
negative_text b bs None at k = tt
negative_text b bs (Some zero) at k = tt
negative_text b bs (Some (suc n)) at k = (rw (at, k.0) refl, record { small = k.1 })

positive_text : (word : List ℕ) (o : Option ℕ) → IsNaturalText MAX_NUMBER word o → IsNumberText word (option_map pos o)
positive_text word None k = tt
positive_text word (Some n) k = (k.0, record { small = k.1 })

number_by : (b : ℕ) (bs : List ℕ) (t : Bool) → (b == 45) ≡ t → IsNumberText (b ∷ bs) (cond t (negative_of (natural_of MAX_NUMBER bs)) (option_map pos (natural_of MAX_NUMBER (b ∷ bs))))
number_by b bs true t = negative_text b bs (natural_of MAX_NUMBER bs) (eqb-true b 45 t) (natural_text MAX_NUMBER bs (omega arith))
number_by b bs false t = positive_text (b ∷ bs) (natural_of MAX_NUMBER (b ∷ bs)) (natural_text MAX_NUMBER (b ∷ bs) (omega arith))

number_text : (word : List ℕ) → IsNumberText word (number_of word)
number_text [] = tt
number_text (b ∷ bs) = number_by b bs (b == 45) refl

pub number_is : (word : List ℕ) (z : ℤ) → number_of word ≡ Some z → (word ≡ signed_decimal z) × IsNumber z
number_is word z e = subst (IsNumberText word) e (number_text word)

digits_number : (n : ℕ) (word : List ℕ) → list_all is_digit word ≡ true → natural_of MAX_NUMBER word ≡ Some n → number_of word ≡ Some (pos n)
digits_number n [] all e = cc
digits_number n (b ∷ bs) all e =
    let least = digit_from (b ∷ bs) 0 all (omega arith) in
    let other : (b == 45) ≡ false = ne_eqb b 45 (λ same. omega (arith, least, same)) in
    rw (other, e) refl

pub number_again : (z : ℤ) → IsNumber z → number_of (signed_decimal z) ≡ Some z
number_again (pos n) k = digits_number n (numeral n) (numeral_digits n (omega (arith, k.small))) (natural_again MAX_NUMBER n (omega arith) k.small)
number_again (negsuc n) k = ap negative_of (natural_again MAX_NUMBER (suc n) (omega arith) k.small)

-- a word that names a row is what is written for its name
abbrev IsRowText : List ℕ → Option RowRef → Type 0
IsRowText word None = Unit {0}
IsRowText word (Some row) = (word ≡ row_word row) × IsRow row

model_text : (b : ℕ) (bs : List ℕ) (o : Option ℕ) → b ≡ 114 → IsNaturalText MAX_COUNT bs o → IsRowText (b ∷ bs) (option_map ModelRow o)
model_text b bs None at k = tt
model_text b bs (Some n) at k = (rw (at, k.0) refl, record { small = k.1 })

cut_text : (b : ℕ) (bs : List ℕ) (o : Option ℕ) → b ≡ 107 → IsNaturalText MAX_COUNT bs o → IsRowText (b ∷ bs) (option_map CutRow o)
cut_text b bs None at k = tt
cut_text b bs (Some n) at k = (rw (at, k.0) refl, record { small = k.1 })

row_by : (b : ℕ) (bs : List ℕ) (s t : Bool) → (b == 114) ≡ s → (b == 107) ≡ t → IsRowText (b ∷ bs) (cond s (option_map ModelRow (count_of bs)) (cond t (option_map CutRow (count_of bs)) None))
row_by b bs true t model cut = model_text b bs (count_of bs) (eqb-true b 114 model) (natural_text MAX_COUNT bs (omega arith))
row_by b bs false true model cut = cut_text b bs (count_of bs) (eqb-true b 107 cut) (natural_text MAX_COUNT bs (omega arith))
row_by b bs false false model cut = tt

row_text : (word : List ℕ) → IsRowText word (row_of word)
row_text [] = tt
row_text (b ∷ bs) = row_by b bs (b == 114) (b == 107) refl refl

pub row_is : (word : List ℕ) (row : RowRef) → row_of word ≡ Some row → (word ≡ row_word row) × IsRow row
row_is word row e = subst (IsRowText word) e (row_text word)

pub row_again : (row : RowRef) → IsRow row → row_of (row_word row) ≡ Some row
row_again (ModelRow n) k = ap (option_map ModelRow) (count_again n (record { small = k.small }))
row_again (CutRow n) k = ap (option_map CutRow) (count_again n (record { small = k.small }))

some_digit : (n : ℕ) → n < 2 ^ 64 → (length (numeral n) == 0) ≡ false
some_digit n small = let some = decimal_nonempty n small in ne_eqb (length (numeral n)) 0 (λ same. omega (arith, some, same))

-- the name of a row stands as one
pub stands_as_row : (row : RowRef) → IsRow row → is_row (row_word row) ≡ true
stands_as_row (ModelRow n) k = ap not (some_digit n (omega (arith, k.small)))
stands_as_row (CutRow n) k = ap not (some_digit n (omega (arith, k.small)))
