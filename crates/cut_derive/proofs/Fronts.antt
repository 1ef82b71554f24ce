-- The terms of the coefficients of the first columns.
use Rattle.std.proofs.Common.{◌≡◌, ◌≢◌, ◌∙◌, get_or, ℕ, zero, suc, ◌+◌, ◌<◌, ◌≤◌, Bool, true, false, cond, nat_le, List, [], ◌∷◌, ◌++◌, length, map, ℤ, pos, ◌+ℤ◌, ◌*ℤ◌, sum_by, All, refl, sym, ap, ap₂, subst, arith}
use Rattle.std.specs.Ordering.{int_eq}
use Rattle.std.specs.List.Sorted.{IsStrictlyIncreasing}
use Rattle.std.proofs.lemmas.Int.{ints}
use Rattle.std.proofs.lemmas.Bool.{and_from, and_parts, le-leb, leb-true}
use Rattle.std.proofs.lemmas.List.{append-nil}
use Rattle.std.proofs.lemmas.List.Elements.{All-append, All-cons, All-nil, All-tail, All-weaker}
use Rattle.std.proofs.lemmas.List.Sums.{sum_by-append, sum_by-cons}
use Rattle.ip_core.specs.Numbers.{int_at, int_sum_by, int_sum_below, sum_below}
use Rattle.ip_core.specs.Sides.{Sides}
use Rattle.ip_core.specs.Rows.{IsTerm, activity, part_width, term_width}
use Rattle.ip_core.specs.Dense.{dense_term}
use Rattle.ip_core.specs.declared.row.Term.{Term}
use Rattle.ip_core.proofs.IntSums.{int_sum_by-append}
use Rattle.cut_derive.specs.Gomory.{terms_below}
use Rattle.cut_derive.specs.Covers.{rise_from}

-- the columns of terms
abbrev pub cols_of : List Term → List ℕ
cols_of terms = map (λ (t : Term). t.col) terms

-- columns that rise from a number on rise
next_rises : (low x : ℕ) (xs : List ℕ) → rise_from low (x ∷ xs) ≡ true → ((k : ℕ) → k + 1 < length xs → get_or xs k 0 < get_or xs (k + 1) 0) → (k : ℕ) → k + 1 < length (x ∷ xs) → get_or (x ∷ xs) k 0 < get_or (x ∷ xs) (k + 1) 0
next_rises low x [] test later k h = absurd (omega (arith, h))
next_rises low x (y ∷ xs) test later zero h =
    let rest = (and_parts (nat_le low x) (rise_from (x + 1) (y ∷ xs)) test).1 in
    let next : x + 1 ≤ y = leb-true (x + 1) y (and_parts (nat_le (x + 1) y) (rise_from (y + 1) xs) rest).0 in
    omega (arith, next)
next_rises low x (y ∷ xs) test later (suc k) h =
    let e : suc k + 1 ≡ suc (k + 1) = omega arith in
    rw e (later k (omega (arith, h)))

pub rising_from_test : (low : ℕ) (xs : List ℕ) → rise_from low xs ≡ true → IsStrictlyIncreasing xs
rising_from_test low [] test k h = absurd (omega (arith, h))
rising_from_test low (x ∷ xs) test k h =
    next_rises low x xs test (rising_from_test (x + 1) xs (and_parts (nat_le low x) (rise_from (x + 1) xs) test).1) k h

-- and the other way round
pub test_from_rising : (low x : ℕ) (xs : List ℕ) → low ≤ x → IsStrictlyIncreasing (x ∷ xs) → rise_from low (x ∷ xs) ≡ true
test_from_rising low x [] first rising = and_from (nat_le low x) true (le-leb low x first) refl
test_from_rising low x (y ∷ xs) first rising =
    let next : x < y = rising 0 (omega arith) in
    and_from (nat_le low x) (rise_from (x + 1) (y ∷ xs)) (le-leb low x first)
    (test_from_rising (x + 1) y xs (omega (arith, next)) (λ k h. let e : suc k + 1 ≡ suc (k + 1) = omega arith in rw e at (rising (suc k) (omega (arith, h)))))

pub rises_from_zero : (xs : List ℕ) → IsStrictlyIncreasing xs → rise_from 0 xs ≡ true
rises_from_zero [] rising = refl
rises_from_zero (x ∷ xs) rising = test_from_rising 0 x xs (omega arith) rising

-- one more column behind others
rise_push : (low n : ℕ) (terms : List Term) (t : Term) → rise_from low (cols_of terms) ≡ true → All (IsTerm n) terms → low ≤ n → t.col ≡ n → rise_from low (cols_of (terms ++ t ∷ [])) ≡ true
rise_push low n [] t test known first at = and_from (nat_le low t.col) true (le-leb low t.col (omega (arith, first, at))) refl
rise_push low n (u ∷ terms) t test known first at =
    let parts = and_parts (nat_le low u.col) (rise_from (u.col + 1) (cols_of terms)) test in
    let below : u.col < n = (known 0 u (omega arith)).known in
    and_from (nat_le low u.col) (rise_from (u.col + 1) (cols_of (terms ++ t ∷ []))) parts.0
    (rise_push (u.col + 1) n terms t parts.1 (All-tail (IsTerm n) u terms known) (omega (arith, below)) at)

-- terms of the first n columns, which rise
pub record IsFront (n : ℕ) (terms : List Term) : Type 0 where
  pub known : All (IsTerm n) terms
  pub rising : rise_from 0 (cols_of terms) ≡ true

wider : (n : ℕ) (terms : List Term) → All (IsTerm n) terms → All (IsTerm (suc n)) terms
wider n terms known = All-weaker (IsTerm n) (IsTerm (suc n)) (λ t h. record { known = omega (arith, h.known); nonzero = h.nonzero }) terms known

front_same : (n : ℕ) (terms : List Term) → IsFront n terms → IsFront (suc n) (terms ++ [])
front_same n terms front = subst (IsFront (suc n)) (sym (append-nil terms)) (record { known = wider n terms front.known; rising = front.rising })

front_more : (n : ℕ) (terms : List Term) (t : Term) → IsFront n terms → t.col ≡ n → t.coef ≢ pos 0 → IsFront (suc n) (terms ++ t ∷ [])
front_more n terms t front at nonzero = record {
  known = All-append (IsTerm (suc n)) terms (t ∷ []) (wider n terms front.known) (All-cons (IsTerm (suc n)) t [] (record { known = omega (arith, at); nonzero = nonzero }) (All-nil (IsTerm (suc n))));
  rising = rise_push 0 n terms t front.rising front.known (omega arith) at;
}

int_apart : (z : ℤ) → int_eq z (pos 0) ≡ false → z ≢ pos 0
int_apart z test = λ e. absurd (grind (arith, ints, test, ap (λ (y : ℤ). int_eq y (pos 0)) e))

front_next : (n : ℕ) (terms : List Term) (z : ℤ) (b : Bool) → (b ≡ false → z ≢ pos 0) → IsFront n terms → IsFront (suc n) (terms ++ cond b [] (record { col = n; coef = z } ∷ []))
front_next n terms z true apart front = front_same n terms front
front_next n terms z false apart front = front_more n terms (record { col = n; coef = z }) front refl (apart refl)

-- the terms of the first n coefficients
pub front_below : (n : ℕ) (a : ℕ → ℤ) → IsFront n (terms_below n a)
front_below zero a = record { known = All-nil (IsTerm 0); rising = refl }
front_below (suc n) a = front_next n (terms_below n a) (a n) (int_eq (a n) (pos 0)) (int_apart (a n)) (front_below n a)

-- what a term gives to a sum, and a term left out where its coefficient is 0
one_or_none : (f : Term → ℤ) (n : ℕ) (z : ℤ) (b : Bool) → (b ≡ true → f (record { col = n; coef = z }) ≡ pos 0) → int_sum_by f (cond b [] (record { col = n; coef = z } ∷ [])) ≡ f (record { col = n; coef = z })
one_or_none f n z true nothing = sym (nothing refl)
one_or_none f n z false nothing = omega (arith, ints)

int_same : (z : ℤ) → int_eq z (pos 0) ≡ true → z ≡ pos 0
int_same z test = grind (arith, ints, test)

zero_times : (z x : ℤ) → z ≡ pos 0 → z *ℤ x ≡ pos 0
zero_times z x nothing = rw nothing (omega (arith, ints))

-- the activity of the terms of the first n coefficients
pub activity_below : (x : List ℤ) (n : ℕ) (a : ℕ → ℤ) → activity x (terms_below n a) ≡ int_sum_below n (λ j. a j *ℤ int_at x j)
activity_below x zero a = refl
activity_below x (suc n) a =
    let f : Term → ℤ = λ t. t.coef *ℤ int_at x t.col in
    int_sum_by-append f (terms_below n a) (dense_term n (a n))
    ∙ ap₂ (λ (y z : ℤ). y +ℤ z) (activity_below x n a) (one_or_none f n (a n) (int_eq (a n) (pos 0)) (λ test. zero_times (a n) (int_at x n) (int_same (a n) test)))

width_or_none : (s : Sides) (n : ℕ) (z : ℤ) (b : Bool) → (b ≡ true → z ≡ pos 0) → sum_by (term_width s) (cond b [] (record { col = n; coef = z } ∷ [])) ≡ part_width s z n
width_or_none s n z true nothing = rw (nothing refl) (omega arith)
width_or_none s n z false nothing = rw sum_by-cons (omega arith)

-- and their width
pub width_below : (s : Sides) (n : ℕ) (a : ℕ → ℤ) → sum_by (term_width s) (terms_below n a) ≡ sum_below n (λ j. part_width s (a j) j)
width_below s zero a = refl
width_below s (suc n) a =
    sum_by-append (term_width s) (terms_below n a) (dense_term n (a n))
    ∙ ap₂ (λ (y z : ℕ). y + z) (width_below s n a) (width_or_none s n (a n) (int_eq (a n) (pos 0)) (int_same (a n)))

-- equal coefficients have equal terms
pub terms_below-same : (n : ℕ) (a b : ℕ → ℤ) → ((j : ℕ) → j < n → a j ≡ b j) → terms_below n a ≡ terms_below n b
terms_below-same zero a b each = refl
terms_below-same (suc n) a b each = ap₂ (λ (ts us : List Term). ts ++ us) (terms_below-same n a b (λ j h. each j (omega arith))) (ap (dense_term n) (each n (omega arith)))
