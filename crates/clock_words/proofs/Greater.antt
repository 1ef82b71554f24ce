-- The greater of two clock words at each place.
use Rattle.std.proofs.Common.{ℕ, zero, suc, ◌<◌, ◌≤◌, ◌≡◌, max, List, [], ◌∷◌, length, map, set, slice_index, refl, sym, ap, ◌∙◌, subst, arith}
use mathlib.Core.Logic.{dite}
use native.Mathlib.Decide.{dec_le}
use Rattle.clock_words.specs.Clocks.{stamp_of}
use Rattle.clock_words.specs.Views.{greater_of}
use Rattle.clock_words.proofs.Stamps.{stamps_rise}

-- taking the greater at one place changes nothing of the greater ones
pub greater_at : (xs ys : List ℕ) (i m : ℕ) → length xs ≡ length ys
    → m ≡ max (slice_index xs i) (slice_index ys i)
    → greater_of (set xs i m) ys ≡ greater_of xs ys
greater_at [] ys i m e is = refl
greater_at (x ∷ xs) [] i m e is = absurd (omega arith)
greater_at (x ∷ xs) (y ∷ ys) zero m e is = ap (λ (n : ℕ). n ∷ greater_of xs ys) (omega arith)
greater_at (x ∷ xs) (y ∷ ys) (suc i) m e is =
    ap (λ (l : List ℕ). max x y ∷ l) (greater_at xs ys i m (omega arith) is)

-- where nothing is greater in the other row, the greater ones are the row
pub greater_all : (xs ys : List ℕ) → length xs ≡ length ys
    → ((i : ℕ) → i < length ys → slice_index ys i ≤ slice_index xs i) → greater_of xs ys ≡ xs
greater_all [] [] e below = refl
greater_all [] (y ∷ ys) e below = absurd (omega arith)
greater_all (x ∷ xs) [] e below = refl
greater_all (x ∷ xs) (y ∷ ys) e below = let first : y ≤ x = below 0 (omega arith) in
    let head : max x y ≡ x = omega arith in
    let tail : greater_of xs ys ≡ xs = greater_all xs ys (omega arith)
    (λ i lt. below (suc i) (omega arith)) in
    ap (λ (n : ℕ). n ∷ greater_of xs ys) head ∙ ap (λ (l : List ℕ). x ∷ l) tail

pub greater_length : (xs ys : List ℕ) → length xs ≡ length ys
    → length (greater_of xs ys) ≡ length xs
greater_length [] [] e = refl
greater_length [] (y ∷ ys) e = absurd (omega arith)
greater_length (x ∷ xs) [] e = refl
greater_length (x ∷ xs) (y ∷ ys) e = ap suc (greater_length xs ys (omega arith))

stamp_of_greater : (m n : ℕ) → stamp_of (max m n) ≡ max (stamp_of m) (stamp_of n)
stamp_of_greater m n = dite (dec_le m n)
    (λ le. let a : max m n ≡ n = omega arith in let b = stamps_rise m n le in
    let c : max (stamp_of m) (stamp_of n) ≡ stamp_of n = max_right (stamp_of m) (stamp_of n) b in
    ap stamp_of a ∙ sym c)
    (λ gt. let a : max m n ≡ m = omega arith in let b = stamps_rise n m (omega arith) in
    let c : max (stamp_of m) (stamp_of n) ≡ stamp_of m = max_left (stamp_of m) (stamp_of n) b in
    ap stamp_of a ∙ sym c)
  where
    max_right : (a b : ℕ) → a ≤ b → max a b ≡ b
    max_right a b le = omega arith

    max_left : (a b : ℕ) → b ≤ a → max a b ≡ a
    max_left a b le = omega arith

-- the stamps of the greater clock words are the greater stamps
pub stamps_of_greater : (xs ys : List ℕ) → map stamp_of (greater_of xs ys) ≡ greater_of
    (map stamp_of xs) (map stamp_of ys)
stamps_of_greater [] ys = refl
stamps_of_greater (x ∷ xs) [] = refl
stamps_of_greater (x ∷ xs) (y ∷ ys) =
    ap (λ (n : ℕ). n ∷ map stamp_of (greater_of xs ys)) (stamp_of_greater x y)
    ∙ ap (λ (l : List ℕ). max (stamp_of x) (stamp_of y) ∷ l) (stamps_of_greater xs ys)

-- what holds of both at a place holds of the greater
pub greater_either : (P : ℕ → Type 0) (xs ys : List ℕ) (i : ℕ) → P (slice_index xs i)
    → P (slice_index ys i)
    → P (slice_index (greater_of xs ys) i)
greater_either P [] ys i a b = b
greater_either P (x ∷ xs) [] i a b = a
greater_either P (x ∷ xs) (y ∷ ys) zero a b = dite (dec_le x y)
    (λ le. let e : y ≡ max x y = omega arith in subst P e b)
    (λ gt. let e : x ≡ max x y = omega arith in subst P e a)
greater_either P (x ∷ xs) (y ∷ ys) (suc i) a b = greater_either P xs ys i a b
