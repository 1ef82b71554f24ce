use Rattle.std.proofs.Common.{◌≡◌, ◌≢◌, ◌∙◌, ℕ, ◌<◌, length, ℤ, pos, ◌<ℤ◌, int_lt, true, FitsSigned, w64, to_z, of_z, sym, ap, arith}
use Rattle.std.specs.Int.{int_min, int_max}
use Rattle.std.proofs.lemmas.Int.{ints, clamps, to_z-of_z}
use Rattle.std.proofs.lemmas.List.{get_or-set_same}
use Rattle.ip_core.specs.Numbers.{int_at}
use Rattle.ip_core.specs.Sides.{Sides, with_low, with_high}

-- a raised low isn't the low from before
pub raised_differs : (s : Sides) (col : ℕ) (low : ℤ) → col < length s.lows → int_at s.lows col <ℤ low → with_low s col low ≢ s
raised_differs s col low known above same =
    let there : int_max (int_at s.lows col) low ≡ int_at s.lows col = sym (get_or-set_same s.lows col (int_max (int_at s.lows col) low) (pos 0) known) ∙ ap (λ (b : Sides). int_at b.lows col) same in
    omega (arith, ints, clamps, there)

-- and a lowered high isn't the high from before
pub lowered_differs : (s : Sides) (col : ℕ) (high : ℤ) → col < length s.highs → high <ℤ int_at s.highs col → with_high s col high ≢ s
lowered_differs s col high known below same =
    let there : int_min (int_at s.highs col) high ≡ int_at s.highs col = sym (get_or-set_same s.highs col (int_min (int_at s.highs col) high) (pos 0) known) ∙ ap (λ (b : Sides). int_at b.highs col) same in
    omega (arith, ints, clamps, there)

-- what a comparison at 64 bits says where it holds
pub below_holds : (a b : ℤ) → FitsSigned w64 a → FitsSigned w64 b → int_lt (to_z w64 (of_z w64 a)) (to_z w64 (of_z w64 b)) ≡ true → a <ℤ b
below_holds a b first second holds =
    let plain : int_lt a b ≡ true = rw (to_z-of_z w64 a first, to_z-of_z w64 b second) at holds in
    omega (arith, ints)
