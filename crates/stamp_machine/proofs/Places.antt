-- Items at places of a list.
use Rattle.std.proofs.Common.{◌≡◌, ℕ, zero, suc, ◌<◌, ◌⊎◌, inl, inr, List, [], ◌∷◌, ◌++◌, length, map, set, get_or, Option, Some, None, refl, ap, subst, arith}
use Rattle.stamp_machine.specs.Slots.{at}

pub at-get_or : {A : Type 0} (d : A) (xs : List A) (k : ℕ) (x : A) → at xs k ≡ Some x → get_or xs k d ≡ x
at-get_or d [] k x e = cc
at-get_or d (y ∷ xs) zero x e = cc
at-get_or d (y ∷ xs) (suc k) x e = at-get_or d xs k x e

pub at-map : {A B : Type 0} (f : A → B) (xs : List A) (k : ℕ) (x : A) → at xs k ≡ Some x → at (map f xs) k ≡ Some (f x)
at-map f [] k x e = cc
at-map f (y ∷ xs) zero x e = cc
at-map f (y ∷ xs) (suc k) x e = at-map f xs k x e

pub same_some : {A : Type 0} (x y : A) → Some x ≡ Some y → x ≡ y
same_some x y e = cc

pub none_is_no_some : {A : Type 0} (x : A) → None ≡ Some x → ⊥
none_is_no_some x e = cc

pub at-length : {A : Type 0} (xs : List A) (k : ℕ) (x : A) → at xs k ≡ Some x → k < length xs
at-length [] k x e = absurd (none_is_no_some x e)
at-length (y ∷ xs) zero x e = omega arith
at-length (y ∷ xs) (suc k) x e = omega (arith, at-length xs k x e)

pub at-set_same : {A : Type 0} (xs : List A) (k : ℕ) (x y : A) → at xs k ≡ Some x → at (set xs k y) k ≡ Some y
at-set_same [] k x y e = cc
at-set_same (z ∷ xs) zero x y e = refl
at-set_same (z ∷ xs) (suc k) x y e = at-set_same xs k x y e

pub at-set_other : {A : Type 0} (xs : List A) (k j : ℕ) (y : A) → (k ≡ j → ⊥) → at (set xs k y) j ≡ at xs j
at-set_other [] k j y ne = refl
at-set_other (z ∷ xs) zero zero y ne = absurd (ne refl)
at-set_other (z ∷ xs) zero (suc j) y ne = refl
at-set_other (z ∷ xs) (suc k) zero y ne = refl
at-set_other (z ∷ xs) (suc k) (suc j) y ne = at-set_other xs k j y (λ e. ne (ap suc e))

pub map-set : {A B : Type 0} (f : A → B) (xs : List A) (k : ℕ) (y : A) → map f (set xs k y) ≡ set (map f xs) k (f y)
map-set f [] k y = refl
map-set f (z ∷ xs) zero y = refl
map-set f (z ∷ xs) (suc k) y = ap (λ rest. f z ∷ rest) (map-set f xs k y)

pub set-set : {A : Type 0} (xs : List A) (k : ℕ) (x y : A) → set (set xs k x) k y ≡ set xs k y
set-set [] k x y = refl
set-set (z ∷ xs) zero x y = refl
set-set (z ∷ xs) (suc k) x y = ap (λ rest. z ∷ rest) (set-set xs k x y)

pub set-at : {A : Type 0} (xs : List A) (k : ℕ) (x : A) → at xs k ≡ Some x → set xs k x ≡ xs
set-at [] k x e = refl
set-at (z ∷ xs) zero x e = cc
set-at (z ∷ xs) (suc k) x e = ap (λ rest. z ∷ rest) (set-at xs k x e)

-- a list of options, read by a default of none
pub get_or-at : {A : Type 0} (xs : List (Option A)) (k : ℕ) (x : A) → get_or xs k None ≡ Some x → at xs k ≡ Some (Some x)
get_or-at [] k x e = cc
get_or-at (y ∷ xs) zero x e = cc
get_or-at (y ∷ xs) (suc k) x e = get_or-at xs k x e

pub some_at : {A : Type 0} (xs : List A) (k : ℕ) → k < length xs → (x : A) × (at xs k ≡ Some x)
some_at [] k h = absurd (omega arith)
some_at (y ∷ xs) zero h = (y, refl)
some_at (y ∷ xs) (suc k) h = some_at xs k (omega arith)

-- what holds of each item holds after one is replaced by an item of which it holds
pub set_all : {A : Type 0} (P : A → Type 0) (xs : List A) (k : ℕ) (y : A) → ((j : ℕ) (x : A) → at xs j ≡ Some x → P x) → P y → (j : ℕ) (x : A) → at (set xs k y) j ≡ Some x → P x
set_all P [] k y each new j x e = each j x e
set_all P (z ∷ xs) zero y each new zero x e = let q : y ≡ x = cc in subst P q new
set_all P (z ∷ xs) zero y each new (suc j) x e = each (suc j) x e
set_all P (z ∷ xs) (suc k) y each new zero x e = each zero x e
set_all P (z ∷ xs) (suc k) y each new (suc j) x e = set_all P xs k y (λ i w h. each (suc i) w h) new j x e

-- places in a longer list
pub at-append : {A : Type 0} (xs ys : List A) (place : ℕ) (x : A) → at (xs ++ ys) place ≡ Some x → (at xs place ≡ Some x) ⊎ ((later : ℕ) × (at ys later ≡ Some x))
at-append [] ys place x e = inr (place, e)
at-append (z ∷ xs) ys zero x e = inl e
at-append (z ∷ xs) ys (suc place) x e = at-append xs ys place x e

pub at-front : {A : Type 0} (xs ys : List A) (place : ℕ) (x : A) → at xs place ≡ Some x → at (xs ++ ys) place ≡ Some x
at-front [] ys place x e = absurd (none_is_no_some x e)
at-front (z ∷ xs) ys zero x e = e
at-front (z ∷ xs) ys (suc place) x e = at-front xs ys place x e

pub at-behind : {A : Type 0} (xs ys : List A) (place : ℕ) (x : A) → at ys place ≡ Some x → (later : ℕ) × (at (xs ++ ys) later ≡ Some x)
at-behind [] ys place x e = (place, e)
at-behind (z ∷ xs) ys place x e = let r = at-behind xs ys place x e in (suc r.0, r.1)
