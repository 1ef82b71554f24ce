use Rattle.std.proofs.Common.{◌≡◌, ℕ, ◌+◌, ◌≤◌, false, List, [], ◌∷◌, map, ℤ, unsigned_abs, All, Option, None, refl, arith}
use Rattle.std.proofs.lemmas.Bool.{ltb-false, or_parts}
use Rattle.std.proofs.lemmas.List.Elements.{All-cons}
use Rattle.ip_core.specs.Sides.{HasLimits}
use Rattle.ip_core.specs.declared.limits.TheConstants.{MAX_BOUND}
use Rattle.mps_model.specs.declared.model.MpsCol.{MpsCol}
use Rattle.width_admit.specs.Columns.{low, high, root, is_large, has_large_bound}
use Rattle.width_admit.specs.Admission.{first_from}
use Rattle.width_admit.specs.Held.{held_number}
use Rattle.width_admit.proofs.Firsts.{none_cons}
use Rattle.width_admit.proofs.HeldNumbers.{held_is}

-- the box of columns none of which has a bound that is too large

small_bound : (z : ℤ) → is_large z ≡ false → unsigned_abs z ≤ MAX_BOUND
small_bound z h = ltb-false MAX_BOUND (unsigned_abs z) h

held_bound : (z : ℤ) → is_large z ≡ false → held_number z ≡ z
held_bound z h = let small = small_bound z h in held_is z (omega (arith, small))

-- held down the bounds are the same
pub same_lows : (upper : Option ℕ) (i : ℕ) (cols : List MpsCol) → first_from (λ _ c. has_large_bound upper c) i cols ≡ None → map (λ (c : MpsCol). held_number (low c.low)) cols ≡ map (λ (c : MpsCol). low c.low) cols
same_lows upper i [] h = refl
same_lows upper i (c ∷ cs) h =
    let parts = none_cons (λ _ c. has_large_bound upper c) i c cs h in
    let here = held_bound (low c.low) (or_parts (is_large (low c.low)) (is_large (high upper c.high)) parts.0).0 in
    rw (here, same_lows upper (i + 1) cs parts.1) refl

pub same_highs : (upper : Option ℕ) (i : ℕ) (cols : List MpsCol) → first_from (λ _ c. has_large_bound upper c) i cols ≡ None → map (λ (c : MpsCol). held_number (high upper c.high)) cols ≡ map (λ (c : MpsCol). high upper c.high) cols
same_highs upper i [] h = refl
same_highs upper i (c ∷ cs) h =
    let parts = none_cons (λ _ c. has_large_bound upper c) i c cs h in
    let here = held_bound (high upper c.high) (or_parts (is_large (low c.low)) (is_large (high upper c.high)) parts.0).1 in
    rw (here, same_highs upper (i + 1) cs parts.1) refl

low_at : (upper : Option ℕ) (i : ℕ) (cols : List MpsCol) → first_from (λ _ c. has_large_bound upper c) i cols ≡ None → All (λ z. unsigned_abs z ≤ MAX_BOUND) (map (λ (c : MpsCol). low c.low) cols)
low_at upper i [] h = λ k d within. absurd (omega (arith, within))
low_at upper i (c ∷ cs) h =
    let parts = none_cons (λ _ c. has_large_bound upper c) i c cs h in
    All-cons (λ z. unsigned_abs z ≤ MAX_BOUND) (low c.low) (map (λ (c : MpsCol). low c.low) cs) (small_bound (low c.low) (or_parts (is_large (low c.low)) (is_large (high upper c.high)) parts.0).0) (low_at upper (i + 1) cs parts.1)

high_at : (upper : Option ℕ) (i : ℕ) (cols : List MpsCol) → first_from (λ _ c. has_large_bound upper c) i cols ≡ None → All (λ z. unsigned_abs z ≤ MAX_BOUND) (map (λ (c : MpsCol). high upper c.high) cols)
high_at upper i [] h = λ k d within. absurd (omega (arith, within))
high_at upper i (c ∷ cs) h =
    let parts = none_cons (λ _ c. has_large_bound upper c) i c cs h in
    All-cons (λ z. unsigned_abs z ≤ MAX_BOUND) (high upper c.high) (map (λ (c : MpsCol). high upper c.high) cs) (small_bound (high upper c.high) (or_parts (is_large (low c.low)) (is_large (high upper c.high)) parts.0).1) (high_at upper (i + 1) cs parts.1)

-- the box keeps the limits
pub root_limits : (upper : Option ℕ) (cols : List MpsCol) → first_from (λ _ c. has_large_bound upper c) 0 cols ≡ None → HasLimits (root upper cols)
root_limits upper cols h = record { lows = record { each = low_at upper 0 cols h }; highs = record { each = high_at upper 0 cols h } }
