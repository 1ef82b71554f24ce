use Rattle.std.proofs.Common.{◌≡◌, Bool, true, false, ◌||◌, refl}

-- both sides of an `||` that fails fail
pub or_false : (p q : Bool) → (p || q) ≡ false → (p ≡ false) × (q ≡ false)
or_false true q h = cc
or_false false q h = (refl, h)

-- a test comes out in one of two ways
pub by_case : (b : Bool) (P : Type 0) → (b ≡ true → P) → (b ≡ false → P) → P
by_case true P holds fails = holds refl
by_case false P holds fails = fails refl
