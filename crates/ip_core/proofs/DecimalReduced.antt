use Rattle.std.proofs.Common.{◌≡◌, ◌≢◌, ◌∙◌, ◌≤◌, ◌<◌, ◌+◌, ◌-◌, ◌*◌, ◌^◌, ℕ, zero, suc, Bool, true, false, List, [], ◌∷◌, ◌++◌, length, get_or, take, drop, ℤ, pos, neg_ℤ, ◌-ℤ◌, ◌≤ℤ◌, unsigned_abs, refl, sym, ap, arith}
use Rattle.std.specs.List.{list_all}
use Rattle.std.proofs.lemmas.Int.{ints}
use Rattle.std.proofs.lemmas.List.{take_more, drop-append-le, length-take-le}
use Rattle.ip_core.specs.Decimals.{is_digit, decimal, signed_number, IsDecimal}
use Rattle.ip_core.proofs.DecimalDigits.{digit_below_ten, digit_from}

pub decimal_more : (n d : ℕ) (ds : List ℕ) → decimal n (ds ++ d ∷ []) ≡ decimal n ds * 10 + (d - 48)
decimal_more n d [] = refl
decimal_more n d (e ∷ ds) = decimal_more (n * 10 + (e - 48)) d ds

pub last_splits : (ds : List ℕ) (from j : ℕ) → from ≤ j → j < length ds → decimal 0 (drop from (take (j + 1) ds)) ≡ decimal 0 (drop from (take j ds)) * 10 + (get_or ds j 0 - 48)
last_splits ds from j order within =
    ap (λ (xs : List ℕ). decimal 0 (drop from xs)) (take_more ds j 0 within)
    ∙ ap (decimal 0) (drop-append-le from (take j ds) (get_or ds j 0 ∷ []) (omega (arith, length-take-le j ds (omega arith))))
    ∙ decimal_more 0 (get_or ds j 0) (drop from (take j ds))

not_tenfold : (a d k : ℕ) → a * 10 + (d - 48) ≡ k * 10 → d - 48 < 10 → 48 ≤ d → d ≢ 48 → ⊥
not_tenfold a d k same small least other = omega (arith, other)

-- a number whose last digit isn't zero isn't divisible by ten
pub not_by_ten : (ds : List ℕ) (from to k : ℕ) → list_all is_digit ds ≡ true → from < to → to ≤ length ds → get_or ds (to - 1) 0 ≢ 48 → decimal 0 (drop from (take to ds)) ≡ k * 10 → ⊥
not_by_ten ds from zero k all order within last same = omega (arith, order)
not_by_ten ds from (suc j) k all order within last same =
    let before : suc j - 1 ≡ j = omega arith in
    let here : get_or ds j 0 ≢ 48 = rw before at last in
    let next : j + 1 ≡ suc j = omega arith in
    not_tenfold (decimal 0 (drop from (take j ds))) (get_or ds j 0) k (sym (last_splits ds from j (omega (arith, order)) (omega (arith, within))) ∙ ap (λ n. decimal 0 (drop from (take n ds))) next ∙ same)
    (digit_below_ten ds j all (omega (arith, within))) (digit_from ds j all (omega (arith, within))) here

pub signed_size : (negative : Bool) (n : ℕ) → unsigned_abs (signed_number negative n) ≡ n
signed_size true n = omega (arith, ints)
signed_size false n = omega (arith, ints)

-- digits whose last isn't zero make a decimal under either sign
pub signed_decimal_is : (ds : List ℕ) (from to number : ℕ) (m e : ℤ) → list_all is_digit ds ≡ true → from < to → to ≤ length ds → get_or ds (to - 1) 0 ≢ 48
    → number ≡ decimal 0 (drop from (take to ds)) → unsigned_abs m ≡ number → number < 10 ^ 18 → neg_ℤ (pos 18) ≤ℤ e → e ≤ℤ pos 400 → IsDecimal (record { mantissa = m; exponent = e })
signed_decimal_is ds from to number m e all order within last value size few least greatest = record {
  reduced = λ k same. absurd (not_by_ten ds from to k all order within last (sym value ∙ sym size ∙ same));
  zero = λ none. absurd (not_by_ten ds from to 0 all order within last (sym value ∙ sym size ∙ ap unsigned_abs none));
  few = omega (arith, size, few);
  least = least;
  greatest = greatest;
}

-- the other sign leaves a decimal one
pub negated_is : (m e : ℤ) → IsDecimal (record { mantissa = m; exponent = e }) → IsDecimal (record { mantissa = pos 0 -ℤ m; exponent = e })
negated_is m e d = record {
  reduced = λ k same. (let none : m ≡ pos 0 = d.reduced k (omega (arith, ints, same)) in omega (arith, ints, none));
  zero = λ none. d.zero (omega (arith, ints, none));
  few = omega (arith, ints, d.few);
  least = d.least;
  greatest = d.greatest;
}
