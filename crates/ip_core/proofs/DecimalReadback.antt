use Rattle.std.proofs.Common.{◌≡◌, ◌∙◌, ◌≤◌, ◌<◌, ◌+◌, ◌-◌, ◌*◌, ◌/◌, ◌^◌, ℕ, zero, suc, Bool, true, false, nat_le, ◌==◌, ◌&&◌, List, [], ◌∷◌, ◌++◌, length, take, drop, ℤ, pos, negsuc, neg_ℤ, ◌+ℤ◌, ◌-ℤ◌, ◌≤ℤ◌, int_le, int_lt, unsigned_abs, Some, Ok, refl, sym, ap, subst, arith}
use Rattle.std.specs.List.{list_all}
use Rattle.std.specs.Fmt.{decimal as decimal_digits, sign_text}
use Rattle.std.specs.Fmt.{digits as digits_written}
use Rattle.std.proofs.lemmas.Bool.{false≢true, ne_eqb}
use Rattle.std.proofs.lemmas.Int.{ints}
use Rattle.std.proofs.lemmas.List.{append_assoc, append-nil}
use Rattle.std.proofs.Math.Seq.{take-length}
use Rattle.std.proofs.Math.Nat.{div-le_self}
use Rattle.std.proofs.lemmas.Fmt.{decimal_nonempty}
use Rattle.ip_core.specs.Decimals.{Number, IsDecimal, Parts, parts, with_fraction, with_exponent, read_parts, read_decimal, lacks_digits, reduced_number, power, signed_number, is_digit, is_sign, is_minus, first_passes, after_one, digits, after_digits, decimal, significant_digits, trailing_zeros, leading_zeros, exponent_in_range}
use Rattle.ip_core.specs.Texts.{decimal_text, last_digits}
use Rattle.ip_core.specs.Prints.{numeral_text, number_text}
use Rattle.ip_core.proofs.DecimalDigits.{and_true, le_of_test}
use Rattle.ip_core.proofs.DecimalParts.{both_digits}
use Rattle.ip_core.proofs.DecimalPowers.{reduced_is}
use Rattle.ip_core.proofs.DecimalPrints.{written_digits, written_value, last_are_digits, last_length, last_value, no_trailing, value_kept, few_left, first_run, after_run}

not_sign : (d : ℕ) → is_digit d ≡ true → is_sign d ≡ false
not_sign d h = let low = le_of_test 48 d (and_true (nat_le 48 d) (nat_le d 57) h).0 in rw (ne_eqb d 43 (λ e. omega (arith, low, e)), ne_eqb d 45 (λ e. omega (arith, low, e))) refl

not_minus : (d : ℕ) → is_digit d ≡ true → is_minus d ≡ false
not_minus d h = let low = le_of_test 48 d (and_true (nat_le 48 d) (nat_le d 57) h).0 in ne_eqb d 45 (λ e. omega (arith, low, e))

-- what a sign and digits are parted into
after_sign_text : (negative : Bool) (d : ℕ) (rest : List ℕ) → is_digit d ≡ true → after_one is_sign (sign_text negative ++ d ∷ rest) ≡ d ∷ rest
after_sign_text true d rest h = refl
after_sign_text false d rest h = rw (not_sign d h) refl

minus_of_text : (negative : Bool) (d : ℕ) (rest : List ℕ) → is_digit d ≡ true → first_passes is_minus (sign_text negative ++ d ∷ rest) ≡ negative
minus_of_text true d rest h = refl
minus_of_text false d rest h = not_minus d h

parts_as : (bytes rest whole tail : List ℕ) (negative : Bool) → after_one is_sign bytes ≡ rest → first_passes is_minus bytes ≡ negative → digits rest ≡ whole → after_digits rest ≡ tail → parts bytes ≡ with_fraction negative whole tail
parts_as bytes rest whole tail negative after sign front back =
    ap (λ b. with_fraction b (digits (after_one is_sign bytes)) (after_digits (after_one is_sign bytes))) sign
    ∙ ap (λ r. with_fraction negative (digits r) (after_digits r)) after
    ∙ ap (λ w. with_fraction negative w (after_digits rest)) front
    ∙ ap (with_fraction negative whole) back

-- the parts of a sign, digits and what follows them
parts_of_text : (negative : Bool) (d : ℕ) (ds tail : List ℕ) → list_all is_digit (d ∷ ds) ≡ true → first_passes is_digit tail ≡ false
    → parts (sign_text negative ++ (d ∷ (ds ++ tail))) ≡ with_fraction negative (d ∷ ds) tail
parts_of_text negative d ds tail all none =
    let here = (and_true (is_digit d) (list_all is_digit ds) all).0 in
    parts_as (sign_text negative ++ (d ∷ (ds ++ tail))) (d ∷ (ds ++ tail)) (d ∷ ds) tail negative (after_sign_text negative d (ds ++ tail) here) (minus_of_text negative d (ds ++ tail) here)
    (first_run (d ∷ ds) tail all none) (after_run (d ∷ ds) tail all none)

all_run : (ds : List ℕ) → list_all is_digit ds ≡ true → digits ds ≡ ds
all_run ds all = ap digits (sym (append-nil ds)) ∙ first_run ds [] all refl

none_left : (ds : List ℕ) → list_all is_digit ds ≡ true → after_digits ds ≡ []
none_left ds all = ap after_digits (sym (append-nil ds)) ∙ after_run ds [] all refl

abbrev with_power : Bool → List ℕ → Bool → List ℕ → List ℕ → Parts
with_power negative whole minus es left = record { negative = negative; whole = whole; fraction = []; has_exponent = true; exponent_negative = minus; exponent = es; left = left }

exponent_parts : (negative : Bool) (whole es : List ℕ) (e : ℕ) → list_all is_digit (e ∷ es) ≡ true → with_fraction negative whole (101 ∷ e ∷ es) ≡ with_power negative whole false (e ∷ es) []
exponent_parts negative whole es e all =
    let here = (and_true (is_digit e) (list_all is_digit es) all).0 in
    let after : after_one is_sign (e ∷ es) ≡ e ∷ es = after_sign_text false e es here in
    ap (λ m. with_power negative whole m (digits (after_one is_sign (e ∷ es))) (after_digits (after_one is_sign (e ∷ es)))) (not_minus e here)
    ∙ ap (λ r. with_power negative whole false (digits r) (after_digits r)) after
    ∙ ap (λ r. with_power negative whole false r (after_digits (e ∷ es))) (all_run (e ∷ es) all)
    ∙ ap (with_power negative whole false (e ∷ es)) (none_left (e ∷ es) all)

abbrev with_point : Bool → List ℕ → List ℕ → Parts
with_point negative whole fs = record { negative = negative; whole = whole; fraction = fs; has_exponent = false; exponent_negative = false; exponent = []; left = [] }

fraction_parts : (negative : Bool) (whole fs : List ℕ) → list_all is_digit fs ≡ true → with_fraction negative whole (46 ∷ fs) ≡ with_point negative whole fs
fraction_parts negative whole fs all =
    ap (λ r. with_exponent negative whole r (after_digits fs)) (all_run fs all) ∙ ap (with_exponent negative whole fs) (none_left fs all)

range_is : (e : ℤ) → neg_ℤ (pos 18) ≤ℤ e → e ≤ℤ pos 400 → exponent_in_range e ≡ Some e
range_is e low high =
    let first : int_le (neg_ℤ (pos 18)) e ≡ true = grind (arith, ints) in
    let second : int_le e (pos 400) ≡ true = grind (arith, ints) in
    rw (first, second) refl

nonempty : (ds : List ℕ) → (decimal 0 ds ≡ 0 → ⊥) → 0 < length ds
nonempty [] other = absurd (other refl)
nonempty (d ∷ ds) other = omega arith

-- digits that stand for a number which isn't divisible by ten are read as it
reduced_to : (negative : Bool) (ds : List ℕ) (e : ℤ) (n : ℕ) → list_all is_digit ds ≡ true → decimal 0 ds ≡ n → n < 10 ^ 18 → ((k : ℕ) → n ≡ k * 10 → ⊥)
    → neg_ℤ (pos 18) ≤ℤ e → e ≤ℤ pos 400 → reduced_number negative (significant_digits ds) e ≡ Ok (record { mantissa = signed_number negative n; exponent = e })
reduced_to negative ds e n all value small other low high =
    let no_end : trailing_zeros ds ≡ 0 = no_trailing ds all (λ k same. other k (sym value ∙ same)) in
    let whole : take (length ds - trailing_zeros ds) ds ≡ ds = ap (λ z. take (length ds - z) ds) no_end ∙ (let all_of : length ds - 0 ≡ length ds = omega arith in ap (λ k. take k ds) all_of) ∙ take-length ds in
    let left : significant_digits ds ≡ drop (leading_zeros ds) ds = ap (drop (leading_zeros ds)) whole in
    let same : decimal 0 (significant_digits ds) ≡ n = ap (decimal 0) left ∙ value_kept ds ∙ value in
    let few : length (significant_digits ds) ≤ 18 = rw left (few_left ds all (omega (arith, value, small))) in
    let some : 0 < length (significant_digits ds) = nonempty (significant_digits ds) (λ none. other 0 (sym same ∙ none)) in
    reduced_is negative (significant_digits ds) e e some few (range_is e low high) ∙ ap (λ k. Ok (record { mantissa = signed_number negative k; exponent = e })) same

-- what is read of parts with nothing left over
read_of : (n : ℕ) (p : Parts) → p.left ≡ [] → lacks_digits p ≡ false → read_parts n p ≡ reduced_number p.negative (significant_digits (p.whole ++ p.fraction)) (power p.exponent_negative p.exponent (length p.fraction) (trailing_zeros (p.whole ++ p.fraction)))
read_of n p none some = rw (none, some) refl

-- what is read of a numeral by its parts
back : (bytes : List ℕ) (p : Parts) (n : ℕ) (e : ℤ) → parts bytes ≡ p → p.left ≡ [] → lacks_digits p ≡ false → list_all is_digit (p.whole ++ p.fraction) ≡ true
    → decimal 0 (p.whole ++ p.fraction) ≡ n → n < 10 ^ 18 → ((k : ℕ) → n ≡ k * 10 → ⊥) → signed_number p.exponent_negative (decimal 0 p.exponent) -ℤ pos (length p.fraction) ≡ e
    → neg_ℤ (pos 18) ≤ℤ e → e ≤ℤ pos 400 → read_decimal bytes ≡ Ok (record { mantissa = signed_number p.negative n; exponent = e })
back bytes p n e split none some all value small other sum low high =
    let ds = p.whole ++ p.fraction in
    let no_end : trailing_zeros ds ≡ 0 = no_trailing ds all (λ k same. other k (sym value ∙ same)) in
    let base = signed_number p.exponent_negative (decimal 0 p.exponent) -ℤ pos (length p.fraction) in
    let power_is : power p.exponent_negative p.exponent (length p.fraction) (trailing_zeros ds) ≡ e =
    ap (λ z. base +ℤ pos z) no_end ∙ omega (arith, ints, sum)
    in
    ap (read_parts (length bytes)) split ∙ read_of (length bytes) p none some ∙ ap (reduced_number p.negative (significant_digits ds)) power_is ∙ reduced_to p.negative ds e n all value small other low high

has_digits : (p : Parts) → 0 < length (p.whole ++ p.fraction) → (p.has_exponent && length p.exponent == 0) ≡ false → lacks_digits p ≡ false
has_digits p some more = rw (ne_eqb (length (p.whole ++ p.fraction)) 0 (λ none. omega (arith, some, none)), more) refl

-- A number that isn't divisible by ten, as numeral: the sign, the digits and the exponent are read back.

whole_as : (negative : Bool) (ds : List ℕ) (n : ℕ) → list_all is_digit ds ≡ true → 0 < length ds → decimal 0 ds ≡ n → n < 10 ^ 18 → ((k : ℕ) → n ≡ k * 10 → ⊥)
    → read_decimal (sign_text negative ++ ds) ≡ Ok (record { mantissa = signed_number negative n; exponent = pos 0 })
whole_as negative [] n all some value small other = absurd (omega (arith, some))
whole_as negative (d ∷ ds) n all some value small other =
    let p = with_point negative (d ∷ ds) [] in
    let same : (d ∷ ds) ++ [] ≡ d ∷ ds = append-nil (d ∷ ds) in
    let split : parts (sign_text negative ++ (d ∷ ds)) ≡ p = ap (λ r. parts (sign_text negative ++ (d ∷ r))) (sym (append-nil ds)) ∙ parts_of_text negative d ds [] all refl in
    back (sign_text negative ++ (d ∷ ds)) p n (pos 0) split refl (has_digits p (omega arith) refl) (ap (list_all is_digit) same ∙ all) (ap (decimal 0) same ∙ value) small other refl (omega (arith, ints)) (omega (arith, ints))

pub whole_back : (negative : Bool) (n : ℕ) → n < 10 ^ 18 → ((k : ℕ) → n ≡ k * 10 → ⊥) → read_decimal (sign_text negative ++ decimal_digits n) ≡ Ok (record { mantissa = signed_number negative n; exponent = pos 0 })
whole_back negative n small other =
    whole_as negative (decimal_digits n) n (written_digits n (omega (arith, small))) (decimal_nonempty n (omega (arith, small))) (written_value n (omega (arith, small))) small other

power_as : (negative : Bool) (ds es : List ℕ) (n e : ℕ) → list_all is_digit ds ≡ true → 0 < length ds → decimal 0 ds ≡ n → n < 10 ^ 18 → ((k : ℕ) → n ≡ k * 10 → ⊥)
    → list_all is_digit es ≡ true → 0 < length es → decimal 0 es ≡ suc e → suc e ≤ 400
    → read_decimal (sign_text negative ++ (ds ++ 101 ∷ es)) ≡ Ok (record { mantissa = signed_number negative n; exponent = pos (suc e) })
power_as negative [] es n e all some value small other digits_e some_e value_e few = absurd (omega (arith, some))
power_as negative (d ∷ ds) [] n e all some value small other digits_e some_e value_e few = absurd (omega (arith, some_e))
power_as negative (d ∷ ds) (c ∷ es) n e all some value small other digits_e some_e value_e few =
    let p = with_power negative (d ∷ ds) false (c ∷ es) [] in
    let same : (d ∷ ds) ++ [] ≡ d ∷ ds = append-nil (d ∷ ds) in
    let split : parts (sign_text negative ++ (d ∷ (ds ++ 101 ∷ c ∷ es))) ≡ p = parts_of_text negative d ds (101 ∷ c ∷ es) all refl ∙ exponent_parts negative (d ∷ ds) es c digits_e in
    back (sign_text negative ++ (d ∷ (ds ++ 101 ∷ c ∷ es))) p n (pos (suc e)) split refl (has_digits p (omega arith) (ne_eqb (suc (length es)) 0 (λ none. omega (arith, none)))) (ap (list_all is_digit) same ∙ all) (ap (decimal 0) same ∙ value) small other
    (ap (λ k. pos k -ℤ pos 0) value_e ∙ omega (arith, ints)) (omega (arith, ints)) (omega (arith, ints, few))

pub power_back : (negative : Bool) (n e : ℕ) → n < 10 ^ 18 → ((k : ℕ) → n ≡ k * 10 → ⊥) → suc e ≤ 400
    → read_decimal (sign_text negative ++ (decimal_digits n ++ 101 ∷ decimal_digits (suc e))) ≡ Ok (record { mantissa = signed_number negative n; exponent = pos (suc e) })
power_back negative n e small other few =
    power_as negative (decimal_digits n) (decimal_digits (suc e)) n e (written_digits n (omega (arith, small))) (decimal_nonempty n (omega (arith, small))) (written_value n (omega (arith, small))) small other
    (written_digits (suc e) (omega (arith, few))) (decimal_nonempty (suc e) (omega (arith, few))) (written_value (suc e) (omega (arith, few))) few

decimal_append : (a : ℕ) (xs ys : List ℕ) → decimal a (xs ++ ys) ≡ decimal (decimal a xs) ys
decimal_append a [] ys = refl
decimal_append a (x ∷ xs) ys = decimal_append (a * 10 + (x - 48)) xs ys

point_as : (negative : Bool) (ds fs : List ℕ) (n e : ℕ) → list_all is_digit ds ≡ true → 0 < length ds → list_all is_digit fs ≡ true → length fs ≡ suc e → decimal 0 (ds ++ fs) ≡ n → n < 10 ^ 18
    → ((k : ℕ) → n ≡ k * 10 → ⊥) → suc e ≤ 18 → read_decimal (sign_text negative ++ (ds ++ 46 ∷ fs)) ≡ Ok (record { mantissa = signed_number negative n; exponent = negsuc e })
point_as negative [] fs n e all some digits_f long value small other few = absurd (omega (arith, some))
point_as negative (d ∷ ds) fs n e all some digits_f long value small other few =
    let p = with_point negative (d ∷ ds) fs in
    let split : parts (sign_text negative ++ (d ∷ (ds ++ 46 ∷ fs))) ≡ p = parts_of_text negative d ds (46 ∷ fs) all refl ∙ fraction_parts negative (d ∷ ds) fs digits_f in
    back (sign_text negative ++ (d ∷ (ds ++ 46 ∷ fs))) p n (negsuc e) split refl (has_digits p (omega arith) refl) (both_digits (d ∷ ds) fs all digits_f) value small other
    (ap (λ k. pos 0 -ℤ pos k) long ∙ omega (arith, ints)) (omega (arith, ints, few)) (omega (arith, ints))

pub point_back : (negative : Bool) (n e : ℕ) → n < 10 ^ 18 → ((k : ℕ) → n ≡ k * 10 → ⊥) → suc e ≤ 18
    → read_decimal (sign_text negative ++ (decimal_digits (n / 10 ^ suc e) ++ 46 ∷ last_digits (suc e) n)) ≡ Ok (record { mantissa = signed_number negative n; exponent = negsuc e })
point_back negative n e small other few =
    let q = n / 10 ^ suc e in
    let below : q ≤ n = div-le_self n (10 ^ suc e) in
    let value : decimal 0 (decimal_digits q ++ last_digits (suc e) n) ≡ n =
    decimal_append 0 (decimal_digits q) (last_digits (suc e) n) ∙ ap (λ a. decimal a (last_digits (suc e) n)) (written_value q (omega (arith, small, below))) ∙ last_value (suc e) n
    in
    point_as negative (decimal_digits q) (last_digits (suc e) n) n e (written_digits q (omega (arith, small, below))) (decimal_nonempty q (omega (arith, small, below))) (last_are_digits (suc e) n) (last_length (suc e) n) value small other few

abbrev is_none_of : ℤ → Bool
is_none_of (pos zero) = true
is_none_of (pos (suc n)) = false
is_none_of (negsuc n) = false

nothing_back : (e : ℤ) → e ≡ pos 0 → read_decimal (numeral_text (pos 0) e) ≡ Ok (record { mantissa = pos 0; exponent = e })
unfolding digits_written
nothing_back e none = subst (λ (k : ℤ). read_decimal (numeral_text (pos 0) k) ≡ Ok (record { mantissa = pos 0; exponent = k })) (sym none) refl

not_negative : (n : ℕ) → int_lt (pos n) (pos 0) ≡ false
not_negative n = grind (arith, ints)

negative : (n : ℕ) → int_lt (negsuc n) (pos 0) ≡ true
negative n = grind (arith, ints)

point_text : (m : ℤ) (sign : Bool) (n e : ℕ) → int_lt m (pos 0) ≡ sign → unsigned_abs m ≡ n
    → decimal_text m (suc e) ≡ sign_text sign ++ (decimal_digits (n / 10 ^ suc e) ++ 46 ∷ last_digits (suc e) n)
point_text m sign n e first size = rw (first, size) (append_assoc (sign_text sign) (decimal_digits (n / 10 ^ suc e)) (46 ∷ last_digits (suc e) n))

number_by : (m e : ℤ) → IsDecimal (record { mantissa = m; exponent = e }) → read_decimal (numeral_text m e) ≡ Ok (record { mantissa = m; exponent = e })
number_by (pos zero) e d = nothing_back e (d.zero refl)
number_by (pos (suc n)) (pos zero) d = whole_back false (suc n) d.few (λ k same. false≢true (ap is_none_of (d.reduced k same)))
number_by (pos (suc n)) (pos (suc e)) d = power_back false (suc n) e d.few (λ k same. false≢true (ap is_none_of (d.reduced k same))) (omega (arith, ints, d.greatest))
number_by (pos (suc n)) (negsuc e) d =
    ap read_decimal (point_text (pos (suc n)) false (suc n) e (not_negative (suc n)) refl) ∙ point_back false (suc n) e d.few (λ k same. false≢true (ap is_none_of (d.reduced k same))) (omega (arith, ints, d.least))
number_by (negsuc n) (pos zero) d = whole_back true (suc n) d.few (λ k same. false≢true (ap is_none_of (d.reduced k same)))
number_by (negsuc n) (pos (suc e)) d = power_back true (suc n) e d.few (λ k same. false≢true (ap is_none_of (d.reduced k same))) (omega (arith, ints, d.greatest))
number_by (negsuc n) (negsuc e) d =
    ap read_decimal (point_text (negsuc n) true (suc n) e (negative n) refl) ∙ point_back true (suc n) e d.few (λ k same. false≢true (ap is_none_of (d.reduced k same))) (omega (arith, ints, d.least))

-- the numeral of a decimal is read back as it
pub read_number_text : (n : Number) → IsDecimal n → read_decimal (number_text n) ≡ Ok n
read_number_text n d = number_by n.mantissa n.exponent d
