use Rattle.std.proofs.Common.{◌≡◌, ◌≢◌, ◌∙◌, ◌<◌, ◌*◌, ◌/◌, ◌^◌, ◌⊎◌, inl, inr, ℕ, false, nat_le, pos, neg_ℤ, ◌-ℤ◌, ℤ, unsigned_abs, int_lt, refl, ap, subst, arith}
use Rattle.std.proofs.lemmas.Bool.{ne_eqb}
use Rattle.std.proofs.lemmas.Bool.Decides.{nat_tests}
use Rattle.std.proofs.lemmas.Int.{ints}
use Rattle.ip_core.specs.Decimals.{Number, IsDecimal, negation}
use Rattle.ip_core.proofs.DecimalReduced.{negated_is}
use Rattle.mps_model.specs.Numbers.{is_zero, is_infinite}
use Rattle.width_admit.specs.Exact.{floor}
use Rattle.sample_model.specs.Wholes.{zeros, whole_decimal}
use Rattle.sample_model.proofs.WholeReads.{whole_parted, whole_positive, zero_or_more, whole_is_decimal}

-- whole numbers as decimals: zero, size and the other sign

-- a mantissa and an exponent that aren't negative, which stand for n
pub record IsWhole (n : ℕ) (d : Number) : Type 0 where
  pub mantissa : ℕ
  pub exponent : ℕ
  pub is : d ≡ record { mantissa = pos mantissa; exponent = pos exponent }
  pub value : mantissa * 10 ^ exponent ≡ n

-- a decimal whose power of ten isn't negative, and whose size is n
pub record HasSize (n : ℕ) (d : Number) : Type 0 where
  pub exponent : ℕ
  pub is : d.exponent ≡ pos exponent
  pub value : unsigned_abs d.mantissa * 10 ^ exponent ≡ n

not_negative : (z : ℤ) (m : ℕ) → z ≡ pos m → int_lt z (pos 0) ≡ false
not_negative z m same = grind (arith, ints, same)

whole_by : (n : ℕ) → n < 2 ^ 64 → (n ≡ 0) ⊎ (0 < n) → IsWhole n (whole_decimal n)
whole_by n small (inl none) = record { mantissa = 0; exponent = 0; is = rw none refl; value = omega (arith, none) }
whole_by n small (inr some) = record { mantissa = n / 10 ^ zeros n; exponent = zeros n; is = whole_positive n some; value = whole_parted n small }

pub whole_is : (n : ℕ) → n < 2 ^ 64 → IsWhole n (whole_decimal n)
whole_is n small = whole_by n small (zero_or_more n)

nonzero_mantissa : (m p n : ℕ) → m * p ≡ n → 0 < n → m ≢ 0
nonzero_mantissa m p n same some none = let product : m * p ≡ 0 * p = ap (λ k. k * p) none in omega (arith, same, some, product)

nonzero_by : (n : ℕ) (d : Number) → 0 < n → IsWhole n d → is_zero d ≡ false
nonzero_by n d some w = rw w.is (ne_eqb w.mantissa 0 (nonzero_mantissa w.mantissa (10 ^ w.exponent) n w.value some))

-- a number above 0 isn't zero
pub whole_nonzero : (n : ℕ) → 0 < n → n < 2 ^ 64 → is_zero (whole_decimal n) ≡ false
whole_nonzero n some small = nonzero_by n (whole_decimal n) some (whole_is n small)

not_le : (n m : ℕ) → m < n → nat_le n m ≡ false
not_le n m h = grind (arith, nat_tests)

finite_by : (n : ℕ) (d : Number) → n < 10 ^ 18 → IsWhole n d → is_infinite d ≡ false
finite_by n d small w = rw w.is (not_le (10 ^ 20) (w.mantissa * 10 ^ w.exponent) (omega (arith, w.value, small)))

pub whole_finite : (n : ℕ) → n < 10 ^ 18 → is_infinite (whole_decimal n) ≡ false
whole_finite n small = finite_by n (whole_decimal n) small (whole_is n (omega (arith, small)))

turned : (m : ℤ) → pos 0 -ℤ m ≡ neg_ℤ m
turned m = omega (arith, ints)

pub negated_is_decimal : (n : ℕ) → n < 10 ^ 18 → IsDecimal (negation (whole_decimal n))
negated_is_decimal n small =
    let d = whole_decimal n in
    subst (λ m. IsDecimal (record { mantissa = m; exponent = d.exponent })) (turned d.mantissa) (negated_is d.mantissa d.exponent (whole_is_decimal n small))

-- the power of ten and the size, under either sign

size_by : (n : ℕ) (d : Number) → IsWhole n d → HasSize n d
size_by n d w = record { exponent = w.exponent; is = ap (λ (x : Number). x.exponent) w.is; value = ap (λ (x : Number). unsigned_abs x.mantissa * 10 ^ w.exponent) w.is ∙ w.value }

pub whole_size : (n : ℕ) → n < 2 ^ 64 → HasSize n (whole_decimal n)
whole_size n small = size_by n (whole_decimal n) (whole_is n small)

pub turned_size : (z : ℤ) → unsigned_abs (neg_ℤ z) ≡ unsigned_abs z
turned_size z = omega (arith, ints)

negated_by : (n : ℕ) (d : Number) → HasSize n d → HasSize n (negation d)
negated_by n d s = record { exponent = s.exponent; is = s.is; value = ap (λ k. k * 10 ^ s.exponent) (turned_size d.mantissa) ∙ s.value }

pub negated_size : (n : ℕ) → n < 2 ^ 64 → HasSize n (negation (whole_decimal n))
negated_size n small = negated_by n (whole_decimal n) (whole_size n small)

-- rounded down it is itself
floor_by : (n : ℕ) (d : Number) → IsWhole n d → floor d ≡ pos n
floor_by n d w = ap floor w.is ∙ ap pos w.value

pub whole_floor : (n : ℕ) → n < 2 ^ 64 → floor (whole_decimal n) ≡ pos n
whole_floor n small = floor_by n (whole_decimal n) (whole_is n small)

pub whole_not_negative : (n : ℕ) → n < 2 ^ 64 → int_lt (whole_decimal n).mantissa (pos 0) ≡ false
whole_not_negative n small = not_negative (whole_decimal n).mantissa (whole_is n small).mantissa (ap (λ (x : Number). x.mantissa) (whole_is n small).is)
