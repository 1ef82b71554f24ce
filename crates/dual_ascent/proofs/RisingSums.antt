use Rattle.std.proofs.Common.{◌≡◌, ◌∙◌, ℕ, zero, suc, ◌+◌, ◌<◌, ◌≤◌, ◌⊎◌, inl, inr, List, [], ◌∷◌, length, map, get_or, ℤ, pos, ◌+ℤ◌, sum_by, All, refl, sym, ap, subst, arith, add-one}
use Rattle.std.specs.List.Sorted.{IsStrictlyIncreasing}
use Rattle.std.proofs.lemmas.Int.{ints}
use Rattle.std.proofs.lemmas.Bool.{cases_eq}
use Rattle.std.proofs.lemmas.List.{get_or-map, length-map}
use Rattle.std.proofs.lemmas.List.Elements.{All-head, All-tail}
use Rattle.std.proofs.lemmas.List.Sums.{sum_by-cons}
use Rattle.ip_core.specs.Numbers.{sum_below}
use Rattle.ip_core.specs.Rows.{IsTerm, own_coefficient, coefficient}
use Rattle.ip_core.specs.declared.row.Term.{Term}
use Rattle.safe_bound.proofs.Weighted.{own_here, own_elsewhere}

same_sum : (a b c d : ℕ) → a ≡ c → b ≡ d → a + b ≡ c + d
same_sum a b c d first second = omega arith

sum_below-same : (n : ℕ) (f g : ℕ → ℕ) → ((j : ℕ) → j < n → f j ≡ g j) → sum_below n f ≡ sum_below n g
sum_below-same zero f g each = refl
sum_below-same (suc n) f g each = same_sum (sum_below n f) (f n) (sum_below n g) (g n) (sum_below-same n f g (λ j h. each j (omega arith))) (each n (omega arith))

sum_below-zero : (n : ℕ) (f : ℕ → ℕ) → ((j : ℕ) → j < n → f j ≡ 0) → sum_below n f ≡ 0
sum_below-zero zero f each = refl
sum_below-zero (suc n) f each = same_sum (sum_below n f) (f n) 0 0 (sum_below-zero n f (λ j h. each j (omega arith))) (each n (omega arith))

sum_below-add : (n : ℕ) (f g : ℕ → ℕ) → sum_below n (λ j. f j + g j) ≡ sum_below n f + sum_below n g
sum_below-add zero f g = refl
sum_below-add (suc n) f g = omega (arith, sum_below-add n f g)

-- terms of later columns have no coefficient in a column
absent : (j : ℕ) (terms : List Term) → ((k : ℕ) → k < length terms → j < (get_or terms k (record { col = 0; coef = pos 0 })).col) → coefficient j terms ≡ pos 0
absent j [] later = refl
absent j (t ∷ terms) later =
    let here : own_coefficient j t ≡ pos 0 = own_elsewhere j t (λ e. omega (arith, later 0 (omega arith))) in
    let rest : coefficient j terms ≡ pos 0 = absent j terms (λ k h. later (suc k) (omega arith)) in
    omega (arith, ints, here, rest)

-- in a rising list each later number is above the first
rising_above : (x : ℕ) (xs : List ℕ) → IsStrictlyIncreasing (x ∷ xs) → (k : ℕ) → k < length xs → x < get_or xs k 0
rising_above x xs rising zero within = rising 0 (omega arith)
rising_above x xs rising (suc k) within =
    let next : get_or (x ∷ xs) (suc k) 0 < get_or (x ∷ xs) (suc k + 1) 0 = rising (suc k) (omega arith) in
    let there : get_or xs k 0 < get_or xs (suc k) 0 = rw add-one at next in
    omega (arith, there, rising_above x xs rising k (omega arith))

-- and the rest rises too
rising_rest : (x : ℕ) (xs : List ℕ) → IsStrictlyIncreasing (x ∷ xs) → IsStrictlyIncreasing xs
rising_rest x xs rising k within =
    let next : get_or (x ∷ xs) (suc k) 0 < get_or (x ∷ xs) (suc k + 1) 0 = rising (suc k) (omega arith) in
    let there : get_or xs k 0 < get_or xs (suc k) 0 = rw add-one at next in
    rw add-one there

first_absent : (t : Term) (terms : List Term) → IsStrictlyIncreasing (map (λ (u : Term). u.col) (t ∷ terms)) → coefficient t.col terms ≡ pos 0
first_absent t terms rising = absent t.col terms (λ k h.
    let above : t.col < get_or (map (λ (u : Term). u.col) terms) k 0 = rising_above t.col (map (λ (u : Term). u.col) terms) rising k (rw length-map h) in
    rw (get_or-map (λ (u : Term). u.col) terms k (record { col = 0; coef = pos 0 }) 0 h) at above)

alone_left : (F : ℤ → ℕ) (a b : ℤ) → F (pos 0) ≡ 0 → b ≡ pos 0 → F (a +ℤ b) ≡ F a + F b
alone_left F a b none nothing =
    let whole : a +ℤ pos 0 ≡ a = omega (arith, ints) in
    rw (nothing, whole, none) (omega arith)

alone_right : (F : ℤ → ℕ) (a b : ℤ) → F (pos 0) ≡ 0 → a ≡ pos 0 → F (a +ℤ b) ≡ F a + F b
alone_right F a b none nothing =
    let whole : pos 0 +ℤ b ≡ b = omega (arith, ints) in
    rw (nothing, whole, none) (omega arith)

parted_cases : (F : ℕ → ℤ → ℕ) (t : Term) (terms : List Term) (j : ℕ) → F j (pos 0) ≡ 0 → coefficient t.col terms ≡ pos 0 → (t.col ≡ j) ⊎ (t.col ≡ j → ⊥) → F j (coefficient j (t ∷ terms)) ≡ F j (own_coefficient j t) + F j (coefficient j terms)
parted_cases F t terms j none nothing (inl here) = alone_left (F j) (own_coefficient j t) (coefficient j terms) none (subst (λ i. coefficient i terms ≡ pos 0) here nothing)
parted_cases F t terms j none nothing (inr elsewhere) = alone_right (F j) (own_coefficient j t) (coefficient j terms) none (own_elsewhere j t elsewhere)

last_alone : (s a b : ℕ) → s ≡ 0 → a ≡ b → s + a ≡ b
last_alone s a b nothing same = omega arith

last_nothing : (s a b : ℕ) → s ≡ b → a ≡ 0 → s + a ≡ b
last_nothing s a b same nothing = omega arith

own_none : (F : ℕ → ℤ → ℕ) (t : Term) (j : ℕ) → F j (pos 0) ≡ 0 → (t.col ≡ j → ⊥) → F j (own_coefficient j t) ≡ 0
own_none F t j none elsewhere = ap (F j) (own_elsewhere j t elsewhere) ∙ none

own_sum_cases : (F : ℕ → ℤ → ℕ) → ((j : ℕ) → F j (pos 0) ≡ 0) → (n : ℕ) (t : Term) → (t.col < n → sum_below n (λ j. F j (own_coefficient j t)) ≡ F t.col t.coef) → (t.col < n) ⊎ (t.col ≡ n) → sum_below (suc n) (λ j. F j (own_coefficient j t)) ≡ F t.col t.coef
own_sum_cases F none n t before (inl below) =
    last_nothing (sum_below n (λ j. F j (own_coefficient j t))) (F n (own_coefficient n t)) (F t.col t.coef) (before below) (own_none F t n (none n) (λ e. omega arith))
own_sum_cases F none n t before (inr here) =
    last_alone (sum_below n (λ j. F j (own_coefficient j t))) (F n (own_coefficient n t)) (F t.col t.coef)
    (sum_below-zero n (λ j. F j (own_coefficient j t)) (λ j h. own_none F t j (none j) (λ e. omega arith)))
    (subst (λ i. F i (own_coefficient i t) ≡ F t.col t.coef) here (ap (F t.col) (own_here t.col t refl)))

lt-suc_cases : (k n : ℕ) → k < suc n → (k < n) ⊎ (k ≡ n)
lt-suc_cases k n h = grind arith

own_sum : (F : ℕ → ℤ → ℕ) → ((j : ℕ) → F j (pos 0) ≡ 0) → (n : ℕ) (t : Term) → t.col < n → sum_below n (λ j. F j (own_coefficient j t)) ≡ F t.col t.coef
own_sum F none zero t known = absurd (omega arith)
own_sum F none (suc n) t known = own_sum_cases F none n t (own_sum F none n t) (lt-suc_cases t.col n known)

-- by columns, what rising terms give adds up to the same as one by one, where a coefficient of 0 gives nothing
pub rising_by_columns : (F : ℕ → ℤ → ℕ) → ((j : ℕ) → F j (pos 0) ≡ 0) → (n : ℕ) (terms : List Term) → All (IsTerm n) terms → IsStrictlyIncreasing (map (λ (t : Term). t.col) terms) → sum_below n (λ j. F j (coefficient j terms)) ≡ sum_by (λ (t : Term). F t.col t.coef) terms
rising_by_columns F none n [] known rising = sum_below-zero n (λ j. F j (coefficient j [])) (λ j h. none j)
rising_by_columns F none n (t ∷ terms) known rising =
    let nothing = first_absent t terms rising in
    let rest = rising_by_columns F none n terms (All-tail (IsTerm n) t terms known) (rising_rest t.col (map (λ (u : Term). u.col) terms) rising) in
    sum_below-same n (λ j. F j (coefficient j (t ∷ terms))) (λ j. F j (own_coefficient j t) + F j (coefficient j terms)) (λ j h. parted_cases F t terms j (none j) nothing (cases_eq t.col j))
    ∙ sum_below-add n (λ j. F j (own_coefficient j t)) (λ j. F j (coefficient j terms))
    ∙ same_sum _ _ _ _ (own_sum F none n t (All-head (IsTerm n) t terms known).known) rest
    ∙ sym (sum_by-cons (λ (u : Term). F u.col u.coef) t terms)
