use Rattle.std.proofs.Common.{◌≡◌, ◌∙◌, ℕ, ◌+◌, ◌-◌, ◌<◌, ◌≤◌, ◌⊎◌, inl, inr, min, true, false, List, get_or, ℤ, pos, neg_ℤ, ◌+ℤ◌, ◌-ℤ◌, ◌*ℤ◌, ◌≤ℤ◌, ◌<ℤ◌, int_lt, refl, sym, ap, arith}
use Rattle.std.proofs.lemmas.Int.{ints, by_lt_z}
use Rattle.std.proofs.lemmas.Bool.{cases_lt}
use Rattle.std.proofs.Math.IntN.{*ℤ_comm}
use Rattle.ip_core.proofs.Products.{mul_pos-le}
use Rattle.ip_core.proofs.IntProducts.{sub_mul}
use Rattle.safe_bound.specs.declared.limits.TheConstants.{MAX_MULTIPLIER}
use Rattle.dual_ascent.specs.Climbs.{better, first_greatest, changes}
use Rattle.dual_ascent.proofs.Candidates.{better_first, better_second}
use Rattle.dual_ascent.proofs.Changes.{HasTangents}

above_is : (a b : ℤ) → a <ℤ b → int_lt a b ≡ true
above_is a b more = grind (arith, ints)

not_above_is : (a b : ℤ) → b ≤ℤ a → int_lt a b ≡ false
not_above_is a b le = grind (arith, ints)

takes : (f : ℕ → ℤ) (y z : ℕ) → f y <ℤ f z → better f y z ≡ z
takes f y z more = better_second f y z (f y) (f z) refl refl (above_is (f y) (f z) more)

leaves : (f : ℕ → ℤ) (y z : ℕ) → f z ≤ℤ f y → better f y z ≡ y
leaves f y z le = better_first f y z (f y) (f z) refl refl (not_above_is (f y) (f z) le)

module _ (f : ℕ → ℤ) (size y : ℕ) where
  -- no candidate is worth more than the multiplier
  pub stays : f (min (y + size) MAX_MULTIPLIER) ≤ℤ f y → f (y - size) ≤ℤ f y → f 0 ≤ℤ f y → first_greatest f y (changes size y) ≡ y
  stays first second third =
      rw (leaves f y (min (y + size) MAX_MULTIPLIER) first, leaves f y (y - size) second) (leaves f y 0 third)

  -- the raised one is worth most
  pub rises : f y <ℤ f (min (y + size) MAX_MULTIPLIER) → f (y - size) ≤ℤ f y → f 0 ≤ℤ f y → first_greatest f y (changes size y) ≡ min (y + size) MAX_MULTIPLIER
  rises first second third =
      let z = min (y + size) MAX_MULTIPLIER in
      rw (takes f y z first, leaves f z (y - size) (omega (arith, ints))) (leaves f z 0 (omega (arith, ints)))

  -- the lowered one is
  pub falls : f (min (y + size) MAX_MULTIPLIER) ≤ℤ f y → f y <ℤ f (y - size) → f 0 ≤ℤ f (y - size) → first_greatest f y (changes size y) ≡ y - size
  falls first second third =
      rw (leaves f y (min (y + size) MAX_MULTIPLIER) first, takes f y (y - size) second) (leaves f (y - size) 0 third)

  -- 0 is
  pub drops : f (min (y + size) MAX_MULTIPLIER) ≤ℤ f y → f y <ℤ f (y - size) → f (y - size) <ℤ f 0 → first_greatest f y (changes size y) ≡ 0
  drops first second third =
      rw (leaves f y (min (y + size) MAX_MULTIPLIER) first, takes f y (y - size) second) (takes f (y - size) 0 third)

product_rises : (n : ℕ) (l : ℤ) → pos 0 ≤ℤ l → pos 0 ≤ℤ (pos n *ℤ l)
product_rises n l le = omega (arith, ints, mul_pos-le n (pos 0) l le, *ℤ_comm (pos n) (pos 0))

product_falls : (n : ℕ) (l : ℤ) → l ≤ℤ pos 0 → (pos n *ℤ l) ≤ℤ pos 0
product_falls n l le = omega (arith, ints, mul_pos-le n l (pos 0) le, *ℤ_comm (pos n) (pos 0))

below_once : (l : ℤ) → l <ℤ pos 0 → l ≤ℤ neg_ℤ (pos 1)
below_once l below = omega (arith, ints)

factor_above : (n : ℕ) (l : ℤ) → 0 < n → pos 0 ≤ℤ (pos n *ℤ l) → l <ℤ pos 0 → ⊥
factor_above n l some le below = omega (arith, ints, mul_pos-le n l (neg_ℤ (pos 1)) (below_once l below))

-- a product of a number that isn't 0 that is 0 or more has a factor of 0 or more
factor_rises : (n : ℕ) (l : ℤ) → 0 < n → pos 0 ≤ℤ (pos n *ℤ l) → pos 0 ≤ℤ l
factor_rises n l some le = by_lt_z l (pos 0) (λ below. absurd (factor_above n l some le below)) (λ above. above)

to_the_left : (f : ℕ → ℤ) (u v : ℕ) (l : ℤ) → u ≤ v → pos 0 ≤ℤ l → f u ≤ℤ (f v +ℤ ((pos u -ℤ pos v) *ℤ l)) → f u ≤ℤ f v
to_the_left f u v l before above le =
    let back : pos u -ℤ pos v ≡ pos 0 -ℤ pos (v - u) = omega (arith, ints) in
    let there : f u ≤ℤ (f v +ℤ ((pos 0 -ℤ pos (v - u)) *ℤ l)) = rw back at le in
    omega (arith, ints, sub_mul (pos 0) (pos (v - u)) l, product_rises (v - u) l above)

to_the_right : (f : ℕ → ℤ) (u v : ℕ) (l : ℤ) → v ≤ u → l ≤ℤ pos 0 → f u ≤ℤ (f v +ℤ ((pos u -ℤ pos v) *ℤ l)) → f u ≤ℤ f v
to_the_right f u v l after below le =
    let on : pos u -ℤ pos v ≡ pos (u - v) = omega (arith, ints) in
    let there : f u ≤ℤ (f v +ℤ (pos (u - v) *ℤ l)) = rw on at le in
    omega (arith, ints, product_falls (u - v) l below)

-- where a row lacks nothing, no greater multiplier is worth more
pub no_rise : (f : ℕ → ℤ) (tangents : HasTangents f) (y u : ℕ) → tangents.slope_at y ≤ℤ pos 0 → y ≤ u → f u ≤ℤ f y
no_rise f tangents y u below after = to_the_right f u y (tangents.slope_at y) after below (tangents.below y u)

-- where it has no more than it needs, no lesser one is
pub no_fall : (f : ℕ → ℤ) (tangents : HasTangents f) (y u : ℕ) → pos 0 ≤ℤ tangents.slope_at y → u ≤ y → f u ≤ℤ f y
no_fall f tangents y u above before = to_the_left f u y (tangents.slope_at y) before above (tangents.below y u)

slope_rises : (a b : ℤ) (n : ℕ) (l : ℤ) → 0 < n → b ≤ℤ a → a ≤ℤ (b +ℤ (pos n *ℤ l)) → pos 0 ≤ℤ l
slope_rises a b n l some le tangent = factor_rises n l some (omega (arith, ints))

drop_cases : (f : ℕ → ℤ) (tangents : HasTangents f) (size y : ℕ) → 0 < size → f (y - size) ≤ℤ f y → (size < y) ⊎ (y ≤ size) → f 0 ≤ℤ f y
drop_cases f tangents size y some less (inr all) =
    let last : y - size ≡ 0 = omega arith in
    rw last at less
drop_cases f tangents size y some less (inl part) =
    let v = y - size in
    let step : pos y -ℤ pos v ≡ pos size = omega (arith, ints) in
    let tangent : f y ≤ℤ (f v +ℤ (pos size *ℤ tangents.slope_at v)) = rw step at (tangents.below v y) in
    let slope : pos 0 ≤ℤ tangents.slope_at v = slope_rises (f y) (f v) size (tangents.slope_at v) some less tangent in
    omega (arith, ints, no_fall f tangents v 0 slope (omega arith))

-- where a drop by the step size doesn't pay, neither does one to 0
pub no_drop : (f : ℕ → ℤ) (tangents : HasTangents f) (size y : ℕ) → 0 < size → f (y - size) ≤ℤ f y → f 0 ≤ℤ f y
no_drop f tangents size y some less = drop_cases f tangents size y some less (cases_lt size y)
