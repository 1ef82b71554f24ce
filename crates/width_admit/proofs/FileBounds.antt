use Rattle.std.proofs.Common.{◌≡◌, ◌∙◌, ◌↔◌, ℕ, zero, suc, ◌+◌, ◌*◌, ◌/◌, ◌^◌, ◌<◌, false, List, [], ◌∷◌, length, map, ℤ, pos, negsuc, neg_ℤ, ◌+ℤ◌, ◌*ℤ◌, ◌≤ℤ◌, unsigned_abs, All, Option, Some, None, refl, sym, ap, subst, arith}
use Rattle.std.specs.Int.{int_div_euclid}
use Rattle.std.proofs.lemmas.Int.{ints}
use Rattle.std.proofs.lemmas.Nat.{pow-add}
use Rattle.std.proofs.lemmas.Bool.{true≢false, or_parts}
use Rattle.std.proofs.lemmas.List.Elements.{All-head, All-tail}
use Rattle.std.proofs.Math.Nat.{mul-div-le, lt-div-mul-add}
use Rattle.std.proofs.Math.IntN.{*ℤ_comm}
use Rattle.ip_core.specs.Decimals.{Number, negation}
use Rattle.ip_core.specs.Numbers.{int_at}
use Rattle.ip_core.specs.Sides.{IsInside}
use Rattle.ip_core.proofs.Quotients.{le-int_div_euclid}
use Rattle.mps_model.specs.declared.model.Limit.{Limit}
use Rattle.mps_model.specs.declared.model.Limit.TheVariants.{Unset, Free, At}
use Rattle.mps_model.specs.declared.model.MpsCol.{MpsCol}
use Rattle.mps_model.specs.MpsModels.{IsMpsCol, IsLow, IsHigh}
use Rattle.width_admit.specs.Exact.{units, rounded_down, floor, ceiling}
use Rattle.width_admit.specs.Columns.{low, high, root, is_free, lacks_high, is_unbounded}
use Rattle.width_admit.specs.Admission.{first_from}
use Rattle.width_admit.specs.FilePoints.{IsAboveLow, IsBelowHigh, AreColumnValues}
use Rattle.width_admit.proofs.Quotients.{product_of_two, product_of_negated}
use Rattle.width_admit.proofs.Decimals.{ten_pow_pos}
use Rattle.width_admit.proofs.Firsts.{none_cons}
use Rattle.width_admit.proofs.FileRows.{times-le, le_of_times}

-- a whole number suits the bounds of a column of a file exactly where it suits their whole numbers

-- ---- quotients rounded down

floor_times : (a : ℤ) (n : ℕ) → (int_div_euclid a (pos (suc n)) *ℤ pos (suc n)) ≤ℤ a
floor_times (pos a) n = let small = mul-div-le a (suc n) in let turned = *ℤ_comm (pos (a / suc n)) (pos (suc n)) in omega (arith, ints, small, turned)
floor_times (negsuc a) n = let more = lt-div-mul-add {a = a} {b = suc n} (omega arith) in omega (arith, ints, more)

floor_least : (a v : ℤ) (d : ℕ) → 0 < d → ((v *ℤ pos d) ≤ℤ a) ↔ (v ≤ℤ int_div_euclid a (pos d))
floor_least a v zero positive = absurd (omega (arith, positive))
floor_least a v (suc n) positive = (
  λ small. le-int_div_euclid a n v (subst (λ z. z ≤ℤ a) (*ℤ_comm v (pos (suc n))) small),
  λ le. let more = times-le (suc n) v (int_div_euclid a (pos (suc n))) le in let down = floor_times a n in omega (arith, ints, more, down),
)

-- ---- decimals rounded down and up

-- both sides of an order under one power of ten
scaled_order : (a b u w : ℤ) (q : ℕ) → 0 < q → u ≡ a *ℤ pos q → w ≡ b *ℤ pos q → (u ≤ℤ w) ↔ (a ≤ℤ b)
scaled_order a b u w q positive first second = (
  λ le. le_of_times q a b positive (rw (first, second) at le),
  λ le. rw (first, second) (times-le q a b le),
)

through : (A B C : Type 0) → A ↔ B → B ↔ C → A ↔ C
through A B C f g = (λ a. g.0 (f.0 a), λ c. f.1 (g.1 c))

below_power : (m v e : ℤ) → neg_ℤ (pos 18) ≤ℤ e → ((v *ℤ pos (10 ^ 18)) ≤ℤ (m *ℤ pos (10 ^ unsigned_abs (e +ℤ pos 18)))) ↔ (v ≤ℤ rounded_down m e)
below_power m v (pos e) least =
    let power : 10 ^ unsigned_abs (pos e +ℤ pos 18) ≡ 10 ^ e * 10 ^ 18 = pow-add 10 e 18 in
    scaled_order v (m *ℤ pos (10 ^ e)) (v *ℤ pos (10 ^ 18)) (m *ℤ pos (10 ^ unsigned_abs (pos e +ℤ pos 18))) (10 ^ 18) (ten_pow_pos 18) refl
    (ap (λ n. m *ℤ pos n) power ∙ sym (product_of_two m (10 ^ e) (10 ^ 18)))
below_power m v (negsuc e) least =
    let rest = unsigned_abs (negsuc e +ℤ pos 18) in
    let sum : 18 ≡ suc e + rest = omega (arith, ints, least) in
    let power : 10 ^ 18 ≡ 10 ^ suc e * 10 ^ rest = ap (λ n. 10 ^ n) sum ∙ pow-add 10 (suc e) rest in
    through ((v *ℤ pos (10 ^ 18)) ≤ℤ (m *ℤ pos (10 ^ rest))) ((v *ℤ pos (10 ^ suc e)) ≤ℤ m) (v ≤ℤ int_div_euclid m (pos (10 ^ suc e)))
    (scaled_order (v *ℤ pos (10 ^ suc e)) m (v *ℤ pos (10 ^ 18)) (m *ℤ pos (10 ^ rest)) (10 ^ rest) (ten_pow_pos rest) (ap (λ n. v *ℤ pos n) power ∙ sym (product_of_two v (10 ^ suc e) (10 ^ rest))) refl)
    (floor_least m v (10 ^ suc e) (ten_pow_pos (suc e)))

-- a whole number is at most a decimal exactly where it is at most its floor
below_floor : (n : Number) (v : ℤ) → neg_ℤ (pos 18) ≤ℤ n.exponent → ((v *ℤ pos (10 ^ 18)) ≤ℤ units n) ↔ (v ≤ℤ floor n)
below_floor n v least = below_power n.mantissa v n.exponent least

negated_units : (n : Number) → units (negation n) ≡ neg_ℤ (units n)
negated_units n = product_of_negated n.mantissa (10 ^ unsigned_abs (n.exponent +ℤ pos 18))

-- and at least it exactly where it is at least its ceiling
above_ceiling : (n : Number) (v : ℤ) → neg_ℤ (pos 18) ≤ℤ n.exponent → (units n ≤ℤ (v *ℤ pos (10 ^ 18))) ↔ (ceiling n ≤ℤ v)
above_ceiling n v least =
    let both = below_floor (negation n) (neg_ℤ v) least in
    let turned = negated_units n in
    let value = product_of_negated v (10 ^ 18) in (
      λ le. let under = both.0 (omega (arith, ints, le, turned, value)) in omega (arith, ints, under),
      λ le. let under = both.1 (omega (arith, ints, le)) in omega (arith, ints, under, turned, value),
    )

-- ---- the bounds of a column

above_low : (limit : Limit) (v : ℤ) → IsLow limit → is_free limit ≡ false → IsAboveLow limit v ↔ (low limit ≤ℤ v)
above_low Unset v valid bound = (λ h. h, λ h. h)
above_low Free v valid bound = absurd (true≢false bound)
above_low (At n) v valid bound = above_ceiling n v valid.0.least

below_high : (upper : Option ℕ) (limit : Limit) (v : ℤ) → IsHigh limit → lacks_high upper limit ≡ false → IsBelowHigh upper limit v ↔ (v ≤ℤ high upper limit)
below_high None Unset v valid bound = absurd (true≢false bound)
below_high (Some u) Unset v valid bound = (λ h. h, λ h. h)
below_high None Free v valid bound = absurd (true≢false bound)
below_high (Some u) Free v valid bound = (λ h. h, λ h. h)
below_high upper (At n) v valid bound = below_floor n v valid.0.least

-- the bounds in whole numbers of columns from j on
record IsBoxed (upper : Option ℕ) (x : List ℤ) (j : ℕ) (cols : List MpsCol) : Type 0 where
  pub above : (k : ℕ) → k < length cols → int_at (map (λ (c : MpsCol). low c.low) cols) k ≤ℤ int_at x (j + k)
  pub below : (k : ℕ) → k < length cols → int_at x (j + k) ≤ℤ int_at (map (λ (c : MpsCol). high upper c.high) cols) k

above_at : (upper : Option ℕ) (x : List ℤ) (j : ℕ) (c : MpsCol) (cs : List MpsCol) → low c.low ≤ℤ int_at x j → IsBoxed upper x (j + 1) cs → (k : ℕ) → k < length (c ∷ cs) → int_at (map (λ (d : MpsCol). low d.low) (c ∷ cs)) k ≤ℤ int_at x (j + k)
above_at upper x j c cs here rest zero within = let same : j + 0 ≡ j = omega arith in rw same here
above_at upper x j c cs here rest (suc k) within = let same : j + suc k ≡ j + 1 + k = omega arith in rw same (rest.above k (omega (arith, within)))

below_at : (upper : Option ℕ) (x : List ℤ) (j : ℕ) (c : MpsCol) (cs : List MpsCol) → int_at x j ≤ℤ high upper c.high → IsBoxed upper x (j + 1) cs → (k : ℕ) → k < length (c ∷ cs) → int_at x (j + k) ≤ℤ int_at (map (λ (d : MpsCol). high upper d.high) (c ∷ cs)) k
below_at upper x j c cs here rest zero within = let same : j + 0 ≡ j = omega arith in rw same here
below_at upper x j c cs here rest (suc k) within = let same : j + suc k ≡ j + 1 + k = omega arith in rw same (rest.below k (omega (arith, within)))

boxed_tail : (upper : Option ℕ) (x : List ℤ) (j : ℕ) (c : MpsCol) (cs : List MpsCol) → IsBoxed upper x j (c ∷ cs) → IsBoxed upper x (j + 1) cs
boxed_tail upper x j c cs all = record {
  above = λ k within. subst (λ i. int_at (map (λ (d : MpsCol). low d.low) cs) k ≤ℤ int_at x i) (omega arith) (all.above (suc k) (omega (arith, within)));
  below = λ k within. subst (λ i. int_at x i ≤ℤ int_at (map (λ (d : MpsCol). high upper d.high) cs) k) (omega arith) (all.below (suc k) (omega (arith, within)));
}

boxed : (n : ℕ) (upper : Option ℕ) (x : List ℤ) (i j : ℕ) (cols : List MpsCol) → All (IsMpsCol n) cols → first_from (λ _ c. is_unbounded upper c) i cols ≡ None → AreColumnValues upper x j cols ↔ IsBoxed upper x j cols
boxed n upper x i j [] valid bounded = (λ h. record { above = λ k within. absurd (omega (arith, within)); below = λ k within. absurd (omega (arith, within)) }, λ h. tt)
boxed n upper x i j (c ∷ cs) valid bounded =
    let parts = none_cons (λ _ c. is_unbounded upper c) i c cs bounded in
    let sides = or_parts (is_free c.low) (lacks_high upper c.high) parts.0 in
    let col = All-head (IsMpsCol n) c cs valid in
    let above = above_low c.low (int_at x j) col.low sides.0 in
    let below = below_high upper c.high (int_at x j) col.high sides.1 in
    let later = boxed n upper x (i + 1) (j + 1) cs (All-tail (IsMpsCol n) c cs valid) parts.1 in (
      λ h. record { above = above_at upper x j c cs (above.0 h.0.above) (later.0 h.1); below = below_at upper x j c cs (below.0 h.0.below) (later.0 h.1) },
      λ h. (
        record {
          above = above.1 (subst (λ k. low c.low ≤ℤ int_at x k) (omega arith) (h.above 0 (omega arith)));
          below = below.1 (subst (λ k. int_at x k ≤ℤ high upper c.high) (omega arith) (h.below 0 (omega arith)));
        },
        later.1 (boxed_tail upper x j c cs h),
      ),
    )

-- the values of a point suit the columns of the file exactly where the point lies in the box
pub column_values : (n : ℕ) (upper : Option ℕ) (x : List ℤ) (cols : List MpsCol) → All (IsMpsCol n) cols → first_from (λ _ c. is_unbounded upper c) 0 cols ≡ None → length x ≡ length cols → AreColumnValues upper x 0 cols ↔ IsInside (root upper cols) x
column_values n upper x cols valid bounded long =
    let both = boxed n upper x 0 0 cols valid bounded in (
      λ h.
          let box = both.0 h in
          record {
            above = λ j within. subst (λ k. int_at (root upper cols).lows j ≤ℤ int_at x k) (omega arith) (box.above j (omega (arith, long, within)));
            below = λ j within. subst (λ k. int_at x k ≤ℤ int_at (root upper cols).highs j) (omega arith) (box.below j (omega (arith, long, within)));
          },
      λ h. both.1 (record {
        above = λ j within. subst (λ k. int_at (root upper cols).lows j ≤ℤ int_at x k) (omega arith) (h.above j (omega (arith, long, within)));
        below = λ j within. subst (λ k. int_at x k ≤ℤ int_at (root upper cols).highs j) (omega arith) (h.below j (omega (arith, long, within)));
      }),
    )
