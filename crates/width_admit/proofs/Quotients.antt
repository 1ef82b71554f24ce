use Rattle.std.proofs.Common.{◌≡◌, ◌∙◌, ℕ, zero, suc, ◌+◌, ◌*◌, ◌/◌, ◌%◌, ◌<◌, ℤ, pos, negsuc, neg_ℤ, ◌+ℤ◌, ◌*ℤ◌, unsigned_abs, refl, ap, sym, arith}
use Rattle.std.specs.Int.{int_div_euclid}
use Rattle.std.proofs.lemmas.Int.{ints, unsigned_abs-mul}
use Rattle.std.proofs.lemmas.Nat.{div-mul-add}
use Rattle.std.proofs.lemmas.Nat.Gcd.{dvd_of_mod-eq-zero}
use Rattle.std.proofs.Math.Nat.{mul_assoc, mul-div_cancel, div-mul_cancel, mul-mod_left}

-- products of whole numbers with a natural factor, and their exact quotients

negated_product : (n q : ℕ) → neg_ℤ (pos n) *ℤ pos q ≡ neg_ℤ (pos (n * q))
negated_product zero q = omega (arith, ints)
negated_product (suc n) q = refl

-- two factors one after the other
pub product_of_two : (z : ℤ) (p q : ℕ) → (z *ℤ pos p) *ℤ pos q ≡ z *ℤ pos (p * q)
product_of_two (pos a) p q = ap pos (mul_assoc a p q)
product_of_two (negsuc a) p q = negated_product (suc a * p) q ∙ ap (λ n. neg_ℤ (pos n)) (mul_assoc (suc a) p q)

-- a factor goes over a sum, a difference and a sign
pub product_of_sum : (a b : ℤ) (q : ℕ) → (a +ℤ b) *ℤ pos q ≡ a *ℤ pos q +ℤ b *ℤ pos q
product_of_sum a b zero = omega (arith, ints)
product_of_sum a b (suc q) = omega (arith, ints, product_of_sum a b q)

pub product_of_negated : (a : ℤ) (q : ℕ) → neg_ℤ a *ℤ pos q ≡ neg_ℤ (a *ℤ pos q)
product_of_negated a zero = omega (arith, ints)
product_of_negated a (suc q) = omega (arith, ints, product_of_negated a q)

-- z is a whole number of times q
pub record IsTimes (q : ℕ) (z : ℤ) : Type 0 where
  pub times : ℤ
  pub same : z ≡ times *ℤ pos q

negative_quotient : (a q n : ℕ) → suc a * suc q ≡ suc n → n / suc q ≡ a
negative_quotient a q n same =
    let parts : n ≡ a * suc q + q = omega (arith, same) in
    rw parts (div-mul-add a (suc q) q (omega arith))

quotient_cases : (a q n : ℕ) → suc a * suc q ≡ n → int_div_euclid (neg_ℤ (pos n)) (pos (suc q)) ≡ negsuc a
quotient_cases a q zero same = absurd (omega (arith, same))
quotient_cases a q (suc n) same = ap negsuc (negative_quotient a q n same)

-- the quotient of a product is its other factor
pub quotient_of_product : (z : ℤ) (q : ℕ) → 0 < q → int_div_euclid (z *ℤ pos q) (pos q) ≡ z
quotient_of_product z zero positive = absurd (omega (arith, positive))
quotient_of_product (pos a) (suc q) positive = ap pos (mul-div_cancel a positive)
quotient_of_product (negsuc a) (suc q) positive = quotient_cases a q (suc a * suc q) refl

negative_factor : (a q m : ℕ) → suc a ≡ m * q → IsTimes q (negsuc a)
negative_factor a q zero same = absurd (omega (arith, same))
negative_factor a q (suc m) same = record { times = negsuc m; same = ap (λ n. neg_ℤ (pos n)) same }

-- what leaves no remainder is a whole number of times
pub times_of_no_rest : (z : ℤ) (q : ℕ) → unsigned_abs z % q ≡ 0 → IsTimes q z
times_of_no_rest (pos a) q none = record { times = pos (a / q); same = ap pos (sym (div-mul_cancel q (dvd_of_mod-eq-zero q none))) }
times_of_no_rest (negsuc a) q none = negative_factor a q (suc a / q) (sym (div-mul_cancel q (dvd_of_mod-eq-zero q none)))

-- and what is leaves none
pub no_rest_of_times : (z : ℤ) (q : ℕ) → IsTimes q z → unsigned_abs z % q ≡ 0
no_rest_of_times z q t = rw (t.same, unsigned_abs-mul t.times (pos q)) (mul-mod_left (unsigned_abs t.times) q)

-- its quotient times q is the number again
pub quotient_times : (z : ℤ) (q : ℕ) → 0 < q → IsTimes q z → int_div_euclid z (pos q) *ℤ pos q ≡ z
quotient_times z q positive t =
    let quotient : int_div_euclid z (pos q) ≡ t.times = ap (λ y. int_div_euclid y (pos q)) t.same ∙ quotient_of_product t.times q positive in
    ap (λ y. y *ℤ pos q) quotient ∙ sym t.same

-- sums and negated numbers of such numbers
pub times_of_sum : (a b : ℤ) (q : ℕ) → IsTimes q a → IsTimes q b → IsTimes q (a +ℤ b)
times_of_sum a b q s t = record { times = s.times +ℤ t.times; same = rw (s.same, t.same) (sym (product_of_sum s.times t.times q)) }

pub times_of_negated : (a : ℤ) (q : ℕ) → IsTimes q a → IsTimes q (neg_ℤ a)
times_of_negated a q t = record { times = neg_ℤ t.times; same = ap neg_ℤ t.same ∙ sym (product_of_negated t.times q) }

-- and their quotients
pub quotient_of_sum : (a b : ℤ) (q : ℕ) → 0 < q → IsTimes q a → IsTimes q b → int_div_euclid (a +ℤ b) (pos q) ≡ int_div_euclid a (pos q) +ℤ int_div_euclid b (pos q)
unfolding times_of_sum
quotient_of_sum a b q positive s t =
    let first : int_div_euclid a (pos q) ≡ s.times = ap (λ y. int_div_euclid y (pos q)) s.same ∙ quotient_of_product s.times q positive in
    let second : int_div_euclid b (pos q) ≡ t.times = ap (λ y. int_div_euclid y (pos q)) t.same ∙ quotient_of_product t.times q positive in
    let sum = (times_of_sum a b q s t).same in
    ap (λ y. int_div_euclid y (pos q)) sum ∙ quotient_of_product (s.times +ℤ t.times) q positive ∙ sym (rw (first, second) refl)

pub quotient_of_negated : (a : ℤ) (q : ℕ) → 0 < q → IsTimes q a → int_div_euclid (neg_ℤ a) (pos q) ≡ neg_ℤ (int_div_euclid a (pos q))
unfolding times_of_negated
quotient_of_negated a q positive t =
    let first : int_div_euclid a (pos q) ≡ t.times = ap (λ y. int_div_euclid y (pos q)) t.same ∙ quotient_of_product t.times q positive in
    ap (λ y. int_div_euclid y (pos q)) (times_of_negated a q t).same ∙ quotient_of_product (neg_ℤ t.times) q positive ∙ sym (ap neg_ℤ first)
