use Rattle.std.proofs.Common.{◌≡◌, ℕ, suc, ◌+◌, Bool, true, false, List, [], ◌∷◌, length, arith, refl, cond, not, ◌||◌}
use Rattle.std.specs.List.{list_any, position_or_len}
use Rattle.std.specs.Str.{bytes_eq}
use Rattle.mps_read.specs.Names.{is_among, place_among}

module _ {A : Type 0} (p : A → Bool) where
  place_by : (b q : Bool) (n m : ℕ) → (b || q) ≡ false → (q ≡ false → n ≡ m) → cond (not b) (1 + n) 0 ≡ suc m
  place_by true q n m h more = cc
  place_by false q n m h more = omega (arith, more h)

  none_placed : (xs : List A) → list_any p xs ≡ false → position_or_len p xs ≡ length xs
  none_placed [] h = refl
  none_placed (x ∷ xs) h = place_by (p x) (list_any p xs) (position_or_len p xs) (length xs) h (none_placed xs)

-- the place of a name that isn't among some is their number
pub place_new : (name : List ℕ) (names : List (List ℕ)) → is_among name names ≡ false → place_among name names ≡ length names
place_new name names new = none_placed (bytes_eq name) names new
