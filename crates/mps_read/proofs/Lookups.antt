use Rattle.std.proofs.Common.{◌≡◌, ◌∙◌, ℕ, suc, Bool, true, false, ◌||◌, List, [], ◌∷◌, map, slice_index_or, slice_set, refl, sym, ap}
use Rattle.std.specs.List.{list_any, position_or_len}
use Rattle.std.specs.Str.{bytes_eq}
use Rattle.std.proofs.lemmas.Bool.{false≢true}
use Rattle.std.proofs.lemmas.Slice.Eq.{bytes_eq-Decides}
use Rattle.mps_lines.proofs.Truths.{by_case, or_false}
use Rattle.mps_read.proofs.PrintNames.{place_by, differ, same_bytes}

-- lists of images, and the item that a test finds

pub or_second : (b c : Bool) → b ≡ false → (b || c) ≡ true → c ≡ true
or_second true c h has = absurd (false≢true (sym h))
or_second false c h has = has

-- one item at most passes a test
abbrev pub IsSingle : {A : Type 0} → (A → Bool) → List A → Type 0
IsSingle p [] = Unit {0}
IsSingle p (x ∷ xs) = (p x ≡ true → list_any p xs ≡ false) × IsSingle p xs

module _ {A B : Type 0} (f g : A → B) where
  pub map_all : (xs : List A) → ((x : A) → f x ≡ g x) → map f xs ≡ map g xs
  map_all [] same = refl
  map_all (x ∷ xs) same = ap (λ y. y ∷ map f xs) (same x) ∙ ap (λ ys. g x ∷ ys) (map_all xs same)

  -- two functions that agree where a test fails
  pub map_same : (p : A → Bool) (xs : List A) → list_any p xs ≡ false → ((x : A) → p x ≡ false → f x ≡ g x) → map f xs ≡ map g xs
  map_same p [] none same = refl
  map_same p (x ∷ xs) none same =
      let h = or_false (p x) (list_any p xs) none in
      ap (λ y. y ∷ map f xs) (same x h.0) ∙ ap (λ ys. g x ∷ ys) (map_same p xs h.1 same)

  -- a change of the image of the one item that passes a test
  pub map_change : (change : B → B) (d : B) (p : A → Bool) (xs : List A) → IsSingle p xs → list_any p xs ≡ true
      → ((x : A) → p x ≡ false → f x ≡ g x) → ((x : A) → p x ≡ true → change (f x) ≡ g x)
      → slice_set (map f xs) (position_or_len p xs) (change (slice_index_or (map f xs) (position_or_len p xs) d)) ≡ map g xs
  map_change change d p [] single has same changed = absurd (false≢true has)
  map_change change d p (x ∷ xs) (here, single) has same changed =
      by_case (p x) _
      (λ at.
      let zero_at : position_or_len p (x ∷ xs) ≡ 0 = rw at refl in
      rw zero_at (ap (λ y. y ∷ map f xs) (changed x at) ∙ ap (λ ys. g x ∷ ys) (map_same p xs (here at) same)))
      (λ past.
      let next : position_or_len p (x ∷ xs) ≡ suc (position_or_len p xs) = place_by (p x) (position_or_len p xs) (position_or_len p xs) past refl in
      rw next (ap (λ y. y ∷ slice_set (map f xs) (position_or_len p xs) (change (slice_index_or (map f xs) (position_or_len p xs) d))) (same x past)
      ∙ ap (λ ys. g x ∷ ys) (map_change change d p xs single (or_second (p x) (list_any p xs) past has) same changed)))

-- the image of an item that passes a test
pub map_at : {A B : Type 0} (f : A → B) (y d : B) (p : A → Bool) (xs : List A) → list_any p xs ≡ true → ((x : A) → p x ≡ true → f x ≡ y) → slice_index_or (map f xs) (position_or_len p xs) d ≡ y
map_at f y d p [] has at = absurd (false≢true has)
map_at f y d p (x ∷ xs) has at =
    by_case (p x) _
    (λ here.
    let zero_at : position_or_len p (x ∷ xs) ≡ 0 = rw here refl in
    rw zero_at (at x here))
    (λ past.
    let next : position_or_len p (x ∷ xs) ≡ suc (position_or_len p xs) = place_by (p x) (position_or_len p xs) (position_or_len p xs) past refl in
    rw next (map_at f y d p xs (or_second (p x) (list_any p xs) past has) at))

-- names

pub eq_of : (x y : List ℕ) → bytes_eq x y ≡ true → x ≡ y
eq_of x y h = (bytes_eq-Decides x y).0 h

pub bytes_eq-symmetric : (x y : List ℕ) → bytes_eq x y ≡ bytes_eq y x
bytes_eq-symmetric x y =
    by_case (bytes_eq x y) _
    (λ h. h ∙ sym (ap (λ n. bytes_eq n x) (sym (eq_of x y h)) ∙ same_bytes x))
    (λ h. h ∙ sym (differ y x (λ e. false≢true (sym h ∙ ap (λ n. bytes_eq n y) (sym e) ∙ same_bytes y))))

pub bytes_eq-turn : (x y : List ℕ) (b : Bool) → bytes_eq x y ≡ b → bytes_eq y x ≡ b
bytes_eq-turn x y b h = sym (bytes_eq-symmetric x y) ∙ h
