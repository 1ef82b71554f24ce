use Rattle.std.proofs.Common.{◌≡◌, ◌≢◌, ◌∙◌, ◌<◌, ℕ, zero, suc, Bool, true, false, ◌||◌, List, [], ◌∷◌, ◌++◌, length, map, slice_index_or, slice_set, refl, sym, ap, arith, All}
use Rattle.std.specs.Str.{bytes_eq}
use Rattle.std.proofs.lemmas.Bool.{false≢true}
use Rattle.std.proofs.lemmas.List.Elements.{All-cons, All-head, All-tail}
use Rattle.std.proofs.lemmas.List.Folds.{list_any-append}
use Rattle.std.proofs.lemmas.Slice.Eq.{bytes_eq-Decides}
use Rattle.mps_read.specs.Names.{is_among}
use Rattle.mps_model.specs.MpsModels.{AreDistinct}
use Rattle.mps_lines.proofs.Truths.{or_false}
use Rattle.mps_read.proofs.PrintNames.{same_bytes}

-- lists whose items differ

-- an item that isn't among some
abbrev pub Misses : {A : Type 0} → A → List A → Type 0
Misses x [] = Unit {0}
Misses x (y ∷ ys) = (x ≢ y) × Misses x ys

abbrev pub AreApart : {A : Type 0} → List A → Type 0
AreApart [] = Unit {0}
AreApart (x ∷ xs) = Misses x xs × AreApart xs

module _ {A : Type 0} where
  pub misses_push : (x y : A) (xs : List A) → Misses x xs → x ≢ y → Misses x (xs ++ y ∷ [])
  misses_push x y [] all other = (other, tt)
  misses_push x y (z ∷ xs) (here, all) other = (here, misses_push x y xs all other)

  pub apart_push : (xs : List A) (y : A) → AreApart xs → Misses y xs → AreApart (xs ++ y ∷ [])
  apart_push [] y all new = (tt, tt)
  apart_push (x ∷ xs) y (here, all) (other, new) = (misses_push x y xs here (λ e. other (sym e)), apart_push xs y all new)

  misses_at : (x : A) (xs : List A) (i : ℕ) (d : A) → Misses x xs → i < length xs → x ≡ slice_index_or xs i d → ⊥
  misses_at x [] i d all l e = omega (arith, l)
  misses_at x (y ∷ ys) zero d (here, all) l e = here e
  misses_at x (y ∷ ys) (suc i) d (here, all) l e = misses_at x ys i d all (omega (arith, l)) e

  apart_at : (xs : List A) (d : A) (i j : ℕ) → AreApart xs → i < length xs → j < length xs → slice_index_or xs i d ≡ slice_index_or xs j d → i ≡ j
  apart_at [] d i j all li lj e = absurd (omega (arith, li))
  apart_at (x ∷ xs) d zero zero all li lj e = refl
  apart_at (x ∷ xs) d zero (suc j) (here, all) li lj e = absurd (misses_at x xs j d here (omega (arith, lj)) e)
  apart_at (x ∷ xs) d (suc i) zero (here, all) li lj e = absurd (misses_at x xs i d here (omega (arith, li)) (sym e))
  apart_at (x ∷ xs) d (suc i) (suc j) (here, all) li lj e = ap suc (apart_at xs d i j all (omega (arith, li)) (omega (arith, lj)) e)

  pub distinct : (xs : List A) (d : A) → AreApart xs → AreDistinct xs d
  distinct xs d all = record { each = λ i j li lj same. apart_at xs d i j all li lj same }

  -- what holds at a place after a write or one more item
  pub at_set : (P : A → Type 0) (xs : List A) (col i : ℕ) (c d : A) → P (slice_index_or xs i d) → (col ≡ i → P c) → P (slice_index_or (slice_set xs col c) i d)
  at_set P [] col i c d h here = h
  at_set P (x ∷ xs) zero zero c d h here = here refl
  at_set P (x ∷ xs) zero (suc i) c d h here = h
  at_set P (x ∷ xs) (suc col) zero c d h here = h
  at_set P (x ∷ xs) (suc col) (suc i) c d h here = at_set P xs col i c d h (λ e. here (ap suc e))

  pub at_push : (P : A → Type 0) (xs : List A) (i : ℕ) (c d : A) → P (slice_index_or xs i d) → P c → P (slice_index_or (xs ++ c ∷ []) i d)
  at_push P [] zero c d h here = here
  at_push P [] (suc i) c d h here = h
  at_push P (x ∷ xs) zero c d h here = h
  at_push P (x ∷ xs) (suc i) c d h here = at_push P xs i c d h here

  pub at_each : (P Q : A → Type 0) (xs : List A) (i : ℕ) (d : A) → All P xs → ((x : A) → P x → Q x) → Q d → Q (slice_index_or xs i d)
  at_each P Q [] i d all more none = none
  at_each P Q (x ∷ xs) zero d all more none = more x (All-head P x xs all)
  at_each P Q (x ∷ xs) (suc i) d all more none = at_each P Q xs i d (All-tail P x xs all) more none

  pub each_set : (P : A → Type 0) (xs : List A) (i : ℕ) (c d : A) → All P xs → (P (slice_index_or xs i d) → P c) → All P (slice_set xs i c)
  each_set P [] i c d all more = all
  each_set P (x ∷ xs) zero c d all more = All-cons P c xs (more (All-head P x xs all)) (All-tail P x xs all)
  each_set P (x ∷ xs) (suc i) c d all more = All-cons P x (slice_set xs i c) (All-head P x xs all) (each_set P xs i c d (All-tail P x xs all) more)

-- a write that keeps what is looked at
pub map_set_same : {A B : Type 0} (f : A → B) (xs : List A) (i : ℕ) (c d : A) → f c ≡ f (slice_index_or xs i d) → map f (slice_set xs i c) ≡ map f xs
map_set_same f [] i c d e = refl
map_set_same f (x ∷ xs) zero c d e = ap (λ y. y ∷ map f xs) e
map_set_same f (x ∷ xs) (suc i) c d e = ap (λ ys. f x ∷ ys) (map_set_same f xs i c d e)

-- a name that isn't among some differs from each
pub misses_names : (name : List ℕ) (names : List (List ℕ)) → is_among name names ≡ false → Misses name names
misses_names name [] h = tt
misses_names name (n ∷ names) h =
    let p = or_false (bytes_eq name n) (is_among name names) h in
    ((λ e. false≢true (sym p.0 ∙ (bytes_eq-Decides name n).1 e)), misses_names name names p.1)

-- each of some is among names
abbrev pub AreAmong : List (List ℕ) → List (List ℕ) → Type 0
AreAmong names [] = Unit {0}
AreAmong names (x ∷ xs) = (is_among x names ≡ true) × AreAmong names xs

or_last : (b c : Bool) → c ≡ true → (b || c) ≡ true
or_last true c h = refl
or_last false c h = h

pub among_more : (names xs : List (List ℕ)) (n : List ℕ) → AreAmong names xs → AreAmong (names ++ n ∷ []) xs
among_more names [] n all = tt
among_more names (x ∷ xs) n (here, all) =
    (list_any-append (bytes_eq x) names (n ∷ []) ∙ ap (λ b. b || is_among x (n ∷ [])) here, among_more names xs n all)

pub among_last : (names : List (List ℕ)) (n : List ℕ) → is_among n (names ++ n ∷ []) ≡ true
among_last names n =
    list_any-append (bytes_eq n) names (n ∷ []) ∙ or_last (is_among n names) (is_among n (n ∷ [])) (ap (λ b. b || false) (same_bytes n))

among_end : (names xs : List (List ℕ)) (y : List ℕ) → AreAmong names xs → is_among y names ≡ true → AreAmong names (xs ++ y ∷ [])
among_end names [] y all here = (here, tt)
among_end names (x ∷ xs) y (first, all) here = (first, among_end names xs y all here)

-- one more name, among itself
pub among_push : (names xs : List (List ℕ)) (n : List ℕ) → AreAmong names xs → AreAmong (names ++ n ∷ []) (xs ++ n ∷ [])
among_push names xs n all = among_end (names ++ n ∷ []) xs n (among_more names xs n all) (among_last names n)

-- a new name differs from those that are known
pub misses_among : (name : List ℕ) (names xs : List (List ℕ)) → is_among name names ≡ false → AreAmong names xs → Misses name xs
misses_among name names [] new all = tt
misses_among name names (x ∷ xs) new (here, all) =
    ((λ e. false≢true (sym new ∙ ap (λ n. is_among n names) e ∙ here)), misses_among name names xs new all)
