use Rattle.std.proofs.Common.{◌≡◌, Bool, true, false, ◌||◌, ◌&&◌, Option, Some, None, if◌then◌else◌, refl}

-- both sides of an `||` that fails fail
pub or_false : (p q : Bool) → (p || q) ≡ false → (p ≡ false) × (q ≡ false)
or_false true q h = cc
or_false false q h = (refl, h)

-- both sides of an `&&` that holds hold
pub and_true : (p q : Bool) → (p && q) ≡ true → (p ≡ true) × (q ≡ true)
and_true true q h = (refl, h)
and_true false q h = cc

-- a test comes out in one of two ways
pub by_case : (b : Bool) (P : Type 0) → (b ≡ true → P) → (b ≡ false → P) → P
by_case true P holds fails = holds refl
by_case false P holds fails = fails refl

-- where nothing is found, the first test fails, and the others find nothing
pub none_else : {A : Type 0} (b : Bool) (x : A) (r : Option A) → (if b then Some x else r) ≡ None → (b ≡ false) × (r ≡ None)
none_else true x r h = cc
none_else false x r h = (refl, h)
