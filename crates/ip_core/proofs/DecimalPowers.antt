use Rattle.std.proofs.Common.{◌≡◌, ◌∙◌, ◌⊎◌, inl, inr, ℕ, ◌≤◌, min, Bool, true, false, ◌&&◌, cond, Some, None, is_some, ℤ, pos, neg_ℤ, ◌+ℤ◌, ◌-ℤ◌, ◌<ℤ◌, int_le, ◌<◌, ◌==◌, nat_le, not, ◌-◌, ◌+◌, ◌^◌, ◌++◌, unsigned_abs, w64, to_z, of_z, if◌then◌else◌, List, length, take, drop, Ok, Err, refl, sym, ap, arith}
use Rattle.std.proofs.lemmas.List.{length-append, length-drop, length-take-le}
use Rattle.std.proofs.lemmas.List.Sums.{suffix_len-le-length}
use Rattle.std.proofs.lemmas.Int.{ints, fits_signed_from_abs, to_z-of_z}
use Rattle.std.proofs.Math.Nat.{min-eq_left}
use Rattle.ip_core.specs.Decimals.{exponent_in_range, is_in_range, signed_number, power, reduced_number, decimal, leading_zeros, trailing_zeros, significant_digits, is_zero}
use Rattle.ip_core.specs.declared.decimal.NumeralError.TheVariants.{Range}
use Rattle.std.proofs.lemmas.Bool.{ne_eqb, false≢true, true≢false}
use Rattle.ip_core.specs.declared.decimal.TheConstants.{EXPONENT_CAP}
use Rattle.ip_core.proofs.DecimalDigits.{sides}

low_test : (p : ℤ) → p <ℤ neg_ℤ (pos 18) → int_le (neg_ℤ (pos 18)) p ≡ false
low_test p below = grind (arith, ints)

high_test : (p : ℤ) → pos 400 <ℤ p → int_le p (pos 400) ≡ false
high_test p above = grind (arith, ints)

none_of : (a : Bool) (p : ℤ) → cond (a && false) (Some p) None ≡ None
none_of true p = refl
none_of false p = refl

none_below : (p : ℤ) → p <ℤ neg_ℤ (pos 18) → exponent_in_range p ≡ None
none_below p below = ap (λ t. cond (t && int_le p (pos 400)) (Some p) None) (low_test p below)

none_above : (p : ℤ) → pos 400 <ℤ p → exponent_in_range p ≡ None
none_above p above = ap (λ t. cond (int_le (neg_ℤ (pos 18)) p && t) (Some p) None) (high_test p above) ∙ none_of (int_le (neg_ℤ (pos 18)) p) p

-- an exponent past the cap is out of range, whatever the digits before it
none_past : (negative : Bool) (n f z : ℕ) → EXPONENT_CAP ≤ n → f ≤ 4294967295 → z ≤ 4294967295 → exponent_in_range (signed_number negative n -ℤ pos f +ℤ pos z) ≡ None
none_past true n f z past few some = none_below (neg_ℤ (pos n) -ℤ pos f +ℤ pos z) (omega (arith, ints))
none_past false n f z past few some = none_above (pos n -ℤ pos f +ℤ pos z) (omega (arith, ints))

by_sides : (negative : Bool) (n f z : ℕ) → (n ≤ EXPONENT_CAP) ⊎ (EXPONENT_CAP ≤ n) → f ≤ 4294967295 → z ≤ 4294967295
    → exponent_in_range (signed_number negative (min n EXPONENT_CAP) -ℤ pos f +ℤ pos z) ≡ exponent_in_range (signed_number negative n -ℤ pos f +ℤ pos z)
by_sides negative n f z (inl low) few some = ap (λ k. exponent_in_range (signed_number negative k -ℤ pos f +ℤ pos z)) (min-eq_left low)
by_sides negative n f z (inr past) few some =
    let capped : EXPONENT_CAP ≤ min n EXPONENT_CAP = omega arith in
    none_past negative (min n EXPONENT_CAP) f z capped few some ∙ sym (none_past negative n f z past few some)

-- the cap changes no power that is in range
pub same_range : (negative : Bool) (n f z : ℕ) → f ≤ 4294967295 → z ≤ 4294967295
    → exponent_in_range (signed_number negative (min n EXPONENT_CAP) -ℤ pos f +ℤ pos z) ≡ exponent_in_range (signed_number negative n -ℤ pos f +ℤ pos z)
same_range negative n f z few some = by_sides negative n f z (sides n EXPONENT_CAP) few some

-- the decimal of one to eighteen digits whose power of ten is in range
ok_when : {A : Type 0} (none few here : Bool) (x y z ok : A) → none ≡ false → few ≡ true → here ≡ true
    → (if none then x else if not few then y else if not here then z else ok) ≡ ok
ok_when false true true x y z ok a b c = refl
ok_when true few here x y z ok a b c = absurd (true≢false a)
ok_when false false here x y z ok a b c = absurd (false≢true b)
ok_when false true false x y z ok a b c = absurd (false≢true c)

range_of : (a : Bool) (p e : ℤ) → cond a (Some p) None ≡ Some e → a ≡ true
range_of true p e h = refl
range_of false p e h = absurd (false≢true (ap is_some h))

pub reduced_is : (negative : Bool) (ds : List ℕ) (p e : ℤ) → 0 < length ds → length ds ≤ 18 → exponent_in_range p ≡ Some e
    → reduced_number negative ds p ≡ Ok (record { mantissa = signed_number negative (decimal 0 ds); exponent = p })
reduced_is negative ds p e some few here =
    ok_when (length ds == 0) (nat_le (length ds) 18) (is_in_range p) _ _ _ _ (ne_eqb _ _ (λ none. omega (arith, none))) (grind (arith)) (range_of (is_in_range p) p e here)

value_of : (a : Bool) (p e : ℤ) → cond a (Some p) None ≡ Some e → p ≡ e
value_of true p e h = grind arith
value_of false p e h = absurd (false≢true (ap is_some h))

range_when : {A : Type 0} (none few here : Bool) (x y z ok : A) → none ≡ false → few ≡ true → here ≡ false
    → (if none then x else if not few then y else if not here then z else ok) ≡ z
range_when false true false x y z ok a b c = refl
range_when true few here x y z ok a b c = absurd (true≢false a)
range_when false false here x y z ok a b c = absurd (false≢true b)
range_when false true true x y z ok a b c = absurd (true≢false c)

out_of : (a : Bool) (p : ℤ) → cond a (Some p) None ≡ None → a ≡ false
out_of false p h = refl
out_of true p h = absurd (true≢false (ap is_some h))

length_left : (ds : List ℕ) (from to : ℕ) → from ≡ leading_zeros ds → to ≡ length ds - trailing_zeros ds → to ≤ length ds → length (significant_digits ds) ≡ to - from
length_left ds from to first last within = rw (sym first, sym last) (length-drop from (take to ds) ∙ ap (λ k. k - from) (length-take-le to ds within))

-- what is read of digits some of which remain, few enough, and of a power in range
pub reduced_as : (negative : Bool) (ds : List ℕ) (from to number : ℕ) (p q m e : ℤ) → from ≡ leading_zeros ds → to ≡ length ds - trailing_zeros ds → to ≤ length ds
    → from < to → to - from ≤ 18 → number ≡ decimal 0 (drop from (take to ds)) → m ≡ signed_number negative number → exponent_in_range q ≡ Some e → exponent_in_range q ≡ exponent_in_range p
    → Ok (record { mantissa = m; exponent = e }) ≡ reduced_number negative (significant_digits ds) p
reduced_as negative ds from to number p q m e first last within some few value sign here same =
    let left : List ℕ = drop from (take to ds) in
    let is_left : left ≡ significant_digits ds = rw (first, last) refl in
    let long : length (significant_digits ds) ≡ to - from = length_left ds from to first last within in
    let there : exponent_in_range p ≡ Some e = sym same ∙ here in
    let power_is : p ≡ e = value_of (is_in_range p) p e there in
    let done = reduced_is negative (significant_digits ds) p e (omega (arith, long)) (omega (arith, long)) there in
    rw (sign, value, is_left, sym power_is) (sym done)

-- and of a power out of range
pub refused_as : (negative : Bool) (ds : List ℕ) (from to : ℕ) (p q : ℤ) → from ≡ leading_zeros ds → to ≡ length ds - trailing_zeros ds → to ≤ length ds
    → from < to → to - from ≤ 18 → exponent_in_range q ≡ None → exponent_in_range q ≡ exponent_in_range p → Err Range ≡ reduced_number negative (significant_digits ds) p
refused_as negative ds from to p q first last within some few here same =
    let long : length (significant_digits ds) ≡ to - from = length_left ds from to first last within in
    sym (range_when (length (significant_digits ds) == 0) (nat_le (length (significant_digits ds)) 18) (is_in_range p) _ _ _ _
    (ne_eqb _ _ (λ none. omega (arith, long, none))) (grind (arith, long)) (out_of (is_in_range p) p (sym same ∙ here)))

same_power : (negative : Bool) (n capped f z t : ℕ) (e q : ℤ) → q ≡ e -ℤ pos f +ℤ pos z → e ≡ signed_number negative capped → capped ≡ min n EXPONENT_CAP → z ≡ t
    → f ≤ 4294967295 → t ≤ 4294967295 → exponent_in_range q ≡ exponent_in_range (signed_number negative n -ℤ pos f +ℤ pos t)
same_power negative n capped f z t e q sum sign least zeros few some = rw (sum, sign, least, zeros) (same_range negative n f t few some)

-- The power that is tested, of a capped exponent, is in range where the power is.
pub tested_power : (negative : Bool) (whole fraction exponent : List ℕ) (to capped : ℕ) (e q : ℤ) → length (whole ++ fraction) ≤ 2 ^ 31
    → to ≡ length (whole ++ fraction) - trailing_zeros (whole ++ fraction) → capped ≡ min (decimal 0 exponent) EXPONENT_CAP
    → e ≡ signed_number negative capped → unsigned_abs e ≡ capped → q ≡ to_z w64 (of_z w64 e) -ℤ pos (length fraction) +ℤ pos (length whole + length fraction - to) → unsigned_abs q ≤ 10 ^ 13
    → exponent_in_range (to_z w64 (of_z w64 q)) ≡ exponent_in_range (power negative exponent (length fraction) (trailing_zeros (whole ++ fraction)))
tested_power negative whole fraction exponent to capped e q short last least sign size sum small =
    let total : length (whole ++ fraction) ≡ length whole + length fraction = length-append whole fraction in
    let zeros : length whole + length fraction - to ≡ trailing_zeros (whole ++ fraction) = omega (arith, total, last, suffix_len-le-length is_zero (whole ++ fraction)) in
    let q_is : to_z w64 (of_z w64 q) ≡ q = to_z-of_z w64 q (fits_signed_from_abs w64 q (omega (arith, small))) in
    let e_is : to_z w64 (of_z w64 e) ≡ e = to_z-of_z w64 e (fits_signed_from_abs w64 e (omega (arith, size, least))) in
    same_power negative (decimal 0 exponent) capped (length fraction) (length whole + length fraction - to) (trailing_zeros (whole ++ fraction)) (to_z w64 (of_z w64 e)) (to_z w64 (of_z w64 q))
    (q_is ∙ sum) (e_is ∙ sign) least zeros (omega (arith, total, short)) (omega (arith, zeros, total, short))
