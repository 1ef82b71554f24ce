use Rattle.std.proofs.Common.{◌≡◌, ◌∙◌, ◌⊎◌, inl, inr, ℕ, zero, suc, ◌+◌, ◌-◌, ◌*◌, ◌^◌, ◌<◌, ◌≤◌, max, Bool, true, false, ◌&&◌, nat_le, List, [], ◌∷◌, ◌++◌, ℤ, pos, neg_ℤ, ◌+ℤ◌, ◌-ℤ◌, ◌*ℤ◌, ◌≤ℤ◌, ◌<ℤ◌, unsigned_abs, int_lt, FitsSigned, w16, to_z, of_z, ap, sym, arith}
use Rattle.std.specs.Int.{int_div_euclid}
use Rattle.std.proofs.lemmas.Int.{ints, unsigned_abs-mul, by_lt_z, to_z-of_z, fits_signed_from_abs}
use Rattle.std.proofs.lemmas.Nat.{pow-add}
use Rattle.std.proofs.lemmas.Bool.{eqb-true, eq-eqb, false_from_ne_true, cases_lt, le-leb, lt-leb}
use Rattle.std.proofs.lemmas.List.Folds.{list_all-append}
use Rattle.std.proofs.Math.Nat.{mul_assoc, eq_of_mul-eq-mul_right, pow-suc}
use Rattle.ip_core.specs.Decimals.{Number, IsDecimal}
use Rattle.width_admit.specs.Exact.{units, is_whole, whole, are_whole, least_from, exponent_of}
use Rattle.width_admit.specs.Held.{IsFinest}
use Rattle.width_admit.proofs.Quotients.{IsTimes, product_of_two, quotient_of_product, times_of_no_rest, no_rest_of_times}

-- decimals in units, and from which power of ten on they are whole

pub ten_pow_pos : (k : ℕ) → 0 < 10 ^ k
ten_pow_pos zero = omega arith
ten_pow_pos (suc k) = omega (arith, ten_pow_pos k)

-- units that are whole at k are a whole number of times 10^(18 - k)
pub times_of_whole : (k : ℕ) (z : ℤ) → is_whole k z ≡ true → IsTimes (10 ^ (18 - k)) z
times_of_whole k z h = times_of_no_rest z (10 ^ (18 - k)) (eqb-true _ _ h)

pub whole_of_times : (k : ℕ) (z : ℤ) → IsTimes (10 ^ (18 - k)) z → is_whole k z ≡ true
whole_of_times k z t = eq-eqb _ _ (no_rest_of_times z (10 ^ (18 - k)) t)

-- a mantissa under the power of its exponent and 18, parted at k
units_parted : (m : ℤ) (s p k : ℕ) → s ≡ p + (18 - k) → m *ℤ pos (10 ^ s) ≡ (m *ℤ pos (10 ^ p)) *ℤ pos (10 ^ (18 - k))
units_parted m s p k sum = ap (λ n. m *ℤ pos (10 ^ n)) sum ∙ ap (λ n. m *ℤ pos n) (pow-add 10 p (18 - k)) ∙ sym (product_of_two m (10 ^ p) (10 ^ (18 - k)))

pub units_at : (n : Number) (k : ℕ) → k ≤ 18 → neg_ℤ (pos 18) ≤ℤ n.exponent → pos 0 ≤ℤ (n.exponent +ℤ pos k) → units n ≡ (n.mantissa *ℤ pos (10 ^ unsigned_abs (n.exponent +ℤ pos k))) *ℤ pos (10 ^ (18 - k))
units_at n k small least above = units_parted n.mantissa (unsigned_abs (n.exponent +ℤ pos 18)) (unsigned_abs (n.exponent +ℤ pos k)) k (omega (arith, ints))

-- a decimal whose exponent and k add up to 0 or more is whole at k
pub whole_above : (n : Number) (k : ℕ) → k ≤ 18 → neg_ℤ (pos 18) ≤ℤ n.exponent → pos 0 ≤ℤ (n.exponent +ℤ pos k) → is_whole k (units n) ≡ true
whole_above n k small least above = whole_of_times k (units n) (record { times = n.mantissa *ℤ pos (10 ^ unsigned_abs (n.exponent +ℤ pos k)); same = units_at n k small least above })

-- and is then the mantissa times ten to their sum
pub whole_is : (n : Number) (k : ℕ) → k ≤ 18 → neg_ℤ (pos 18) ≤ℤ n.exponent → pos 0 ≤ℤ (n.exponent +ℤ pos k) → whole k (units n) ≡ n.mantissa *ℤ pos (10 ^ unsigned_abs (n.exponent +ℤ pos k))
whole_is n k small least above =
    ap (λ z. int_div_euclid z (pos (10 ^ (18 - k)))) (units_at n k small least above) ∙ quotient_of_product _ (10 ^ (18 - k)) (ten_pow_pos (18 - k))

ten_divides : (m : ℤ) (w s t d : ℕ) → d ≡ s + suc t → unsigned_abs m * 10 ^ s ≡ w * 10 ^ d → unsigned_abs m ≡ w * 10 ^ t * 10
ten_divides m w s t d sum same =
    let power : 10 ^ d ≡ 10 ^ suc t * 10 ^ s = ap (λ n. 10 ^ n) (omega (arith, sum)) ∙ pow-add 10 (suc t) s in
    let moved : unsigned_abs m * 10 ^ s ≡ (w * 10 ^ suc t) * 10 ^ s = same ∙ ap (λ n. w * n) power ∙ sym (mul_assoc w (10 ^ suc t) (10 ^ s)) in
    let left : unsigned_abs m ≡ w * 10 ^ suc t = eq_of_mul-eq-mul_right (10 ^ s) (ten_pow_pos s) (unsigned_abs m) (w * 10 ^ suc t) moved in
    left ∙ ap (λ n. w * n) (pow-suc 10 t) ∙ sym (mul_assoc w (10 ^ t) 10)

-- below that a decimal isn't whole
pub whole_below : (n : Number) (k : ℕ) → IsDecimal n → (n.exponent +ℤ pos k) <ℤ pos 0 → is_whole k (units n) ≡ true → ⊥
whole_below n k valid below h =
    let t = times_of_whole k (units n) h in
    let s = unsigned_abs (n.exponent +ℤ pos 18) in
    let gap : ℕ = 18 - k - s - 1 in
    let sizes : unsigned_abs n.mantissa * 10 ^ s ≡ unsigned_abs t.times * 10 ^ (18 - k) =
    sym (unsigned_abs-mul n.mantissa (pos (10 ^ s))) ∙ ap unsigned_abs t.same ∙ unsigned_abs-mul t.times (pos (10 ^ (18 - k)))
    in
    let least = valid.least in
    let sum : 18 - k ≡ s + suc gap = omega (arith, ints, least, below) in
    let nothing : n.mantissa ≡ pos 0 = valid.reduced (unsigned_abs t.times * 10 ^ gap) (ten_divides n.mantissa (unsigned_abs t.times) s gap (18 - k) sum sizes) in
    let flat : n.exponent ≡ pos 0 = valid.zero nothing in
    omega (arith, ints, flat, below)

alone : (b : Bool) (c : Bool) → b ≡ c → (b && true) ≡ c
alone true c same = same
alone false c same = same

finest_at : (n : Number) (d k : ℕ) → IsDecimal n → n.exponent ≡ neg_ℤ (pos d) → k ≤ 18 → (k < d) ⊎ (d ≤ k) → is_whole k (units n) ≡ nat_le d k
finest_at n d k valid same small (inl below) = false_from_ne_true _ (λ h. whole_below n k valid (omega (arith, ints, same, below)) h) ∙ sym (lt-leb d k below)
finest_at n d k valid same small (inr above) = whole_above n k small valid.least (omega (arith, ints, same, above)) ∙ sym (le-leb d k above)

-- where it is whole, exponent and k add up to 0 or more
pub above_of_whole : (n : Number) (k : ℕ) → IsDecimal n → is_whole k (units n) ≡ true → pos 0 ≤ℤ (n.exponent +ℤ pos k)
above_of_whole n k valid h = by_lt_z (n.exponent +ℤ pos k) (pos 0) (λ below. absurd (whole_below n k valid below h)) (λ above. above)

-- a decimal of exponent -d is whole from d on
pub finest_fraction : (n : Number) (d : ℕ) → IsDecimal n → n.exponent ≡ neg_ℤ (pos d) → IsFinest (units n ∷ []) d
finest_fraction n d valid same =
    let least = valid.least in
    record { small = omega (arith, ints, least, same); each = λ k small. alone _ _ (finest_at n d k valid same small (cases_lt k d)) }

-- a decimal of an exponent that isn't negative is whole from 0 on
pub finest_whole : (n : Number) → IsDecimal n → pos 0 ≤ℤ n.exponent → IsFinest (units n ∷ []) 0
finest_whole n valid above =
    record { small = omega arith; each = λ k small. alone _ _ (whole_above n k small valid.least (omega (arith, ints, above)) ∙ sym (le-leb 0 k (omega arith))) }

max_test : (m n k : ℕ) → (nat_le m k && nat_le n k) ≡ nat_le (max m n) k
max_test m n k = grind arith

-- numbers of two lists are whole from the greater of the two on
pub finest_both : (xs ys : List ℤ) (m n : ℕ) → IsFinest xs m → IsFinest ys n → IsFinest (xs ++ ys) (max m n)
finest_both xs ys m n first second =
    let left = first.small in
    let right = second.small in
    record {
      small = omega (arith, left, right);
      each = λ k small. list_all-append (is_whole k) xs ys ∙ rw (first.each k small, second.each k small) (max_test m n k);
    }

pub finest_none : IsFinest [] 0
finest_none = record { small = omega arith; each = λ k small. sym (le-leb 0 k (omega arith)) }

least_found : (test : ℕ → Bool) (n start d : ℕ) → d ≤ start + n → start ≤ d → ((k : ℕ) → k ≤ 18 → test k ≡ nat_le d k) → start + n ≤ 18 → (start < d) ⊎ (d ≤ start) → least_from n test start ≡ d
least_found test zero start d within above each small order = omega (arith, within, above)
least_found test (suc n) start d within above each small (inl before) =
    let fails : test start ≡ false = each start (omega (arith, small)) ∙ lt-leb d start before in
    rw fails (least_found test n (start + 1) d (omega (arith, within)) (omega (arith, before)) each (omega (arith, small)) (cases_lt (start + 1) d))
least_found test (suc n) start d within above each small (inr here) =
    let passes : test start ≡ true = each start (omega (arith, small)) ∙ le-leb d start here in
    rw passes (omega (arith, above, here))

-- the least exponent is where they are whole from
pub exponent_is : (zs : List ℤ) (d : ℕ) → IsFinest zs d → exponent_of zs ≡ d
exponent_is zs d finest =
    least_found (are_whole zs) 18 0 d (omega (arith, finest.small)) (omega arith) finest.each (omega arith) (cases_lt 0 d)

-- the same of an exponent that is negated at 16 bits
pub finest_negated : (n : Number) (e : ℤ) → e ≡ n.exponent → IsDecimal n → int_lt (to_z w16 (of_z w16 e)) (pos 0) ≡ true → IsFinest (units n ∷ []) (unsigned_abs (to_z w16 (of_z w16 (pos 0 -ℤ to_z w16 (of_z w16 e)))))
finest_negated n e same valid negative =
    let least = valid.least in
    let greatest = valid.greatest in
    let fits : FitsSigned w16 e = fits_signed_from_abs w16 e (omega (arith, ints, least, greatest, same)) in
    let turned : FitsSigned w16 (pos 0 -ℤ e) = fits_signed_from_abs w16 (pos 0 -ℤ e) (omega (arith, ints, least, greatest, same)) in
    let below : int_lt e (pos 0) ≡ true = rw (to_z-of_z w16 e fits) at negative in
    rw (to_z-of_z w16 e fits, to_z-of_z w16 (pos 0 -ℤ e) turned) (finest_fraction n (unsigned_abs (pos 0 -ℤ e)) valid (grind (arith, ints, below, same)))

pub finest_unsigned : (n : Number) (e : ℤ) → e ≡ n.exponent → IsDecimal n → int_lt (to_z w16 (of_z w16 e)) (pos 0) ≡ false → IsFinest (units n ∷ []) 0
finest_unsigned n e same valid negative =
    let least = valid.least in
    let greatest = valid.greatest in
    let fits : FitsSigned w16 e = fits_signed_from_abs w16 e (omega (arith, ints, least, greatest, same)) in
    let above : int_lt e (pos 0) ≡ false = rw (to_z-of_z w16 e fits) at negative in
    finest_whole n valid (grind (arith, ints, above, same))

pub negated_exponent : (n : Number) (e : ℤ) → e ≡ n.exponent → IsDecimal n → int_lt (to_z w16 (of_z w16 e)) (pos 0) ≡ true → unsigned_abs (to_z w16 (of_z w16 (pos 0 -ℤ to_z w16 (of_z w16 e)))) ≤ 18
negated_exponent n e same valid negative = (finest_negated n e same valid negative).small
