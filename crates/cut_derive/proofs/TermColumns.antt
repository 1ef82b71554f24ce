-- Terms whose columns rise, by columns.
use Rattle.std.proofs.Common.{◌≡◌, ◌≢◌, ◌∙◌, ℕ, zero, suc, ◌+◌, ◌<◌, ◌≤◌, ◌⊎◌, inl, inr, true, nat_le, List, [], ◌∷◌, ℤ, pos, ◌+ℤ◌, All, refl, sym, ap, ap₂, arith}
use Rattle.std.proofs.lemmas.Int.{ints}
use Rattle.std.proofs.lemmas.Bool.{and_parts, leb-true, cases_eq}
use Rattle.std.proofs.lemmas.List.Elements.{All-head, All-tail}
use Rattle.ip_core.specs.Numbers.{int_sum_by, int_sum_below}
use Rattle.ip_core.specs.Rows.{IsTerm, own_coefficient, coefficient}
use Rattle.ip_core.specs.declared.row.Term.{Term}
use Rattle.ip_core.proofs.ColumnSums.{int_sum_below-same, int_sum_below-zero, int_sum_below-add}
use Rattle.safe_bound.proofs.Weighted.{own_here, own_elsewhere}
use Rattle.cut_derive.specs.Covers.{rise_from}
use Rattle.cut_derive.proofs.Fronts.{cols_of}

both_nothing : (a b : ℤ) → a ≡ pos 0 → b ≡ pos 0 → a +ℤ b ≡ pos 0
both_nothing a b first second = omega (arith, ints, first, second)

-- a column before the first one has no coefficient
pub coefficient_before : (low : ℕ) (terms : List Term) (j : ℕ) → rise_from low (cols_of terms) ≡ true → j < low → coefficient j terms ≡ pos 0
coefficient_before low [] j test before = refl
coefficient_before low (t ∷ terms) j test before =
    let parts = and_parts (nat_le low t.col) (rise_from (t.col + 1) (cols_of terms)) test in
    let first : low ≤ t.col = leb-true low t.col parts.0 in
    both_nothing (own_coefficient j t) (coefficient j terms) (own_elsewhere j t (λ e. omega (arith, e, first, before)))
    (coefficient_before (t.col + 1) terms j parts.1 (omega (arith, first, before)))

-- nor has one past the last
pub coefficient_past : (n : ℕ) (terms : List Term) (j : ℕ) → All (IsTerm n) terms → n ≤ j → coefficient j terms ≡ pos 0
coefficient_past n [] j known past = refl
coefficient_past n (t ∷ terms) j known past =
    let below : t.col < n = (All-head (IsTerm n) t terms known).known in
    both_nothing (own_coefficient j t) (coefficient j terms) (own_elsewhere j t (λ e. omega (arith, e, below, past)))
    (coefficient_past n terms j (All-tail (IsTerm n) t terms known) past)

last_only : (a b c : ℤ) → a ≡ pos 0 → b ≡ c → a +ℤ b ≡ c
last_only a b c first second = omega (arith, ints, first, second)

first_only : (a b c : ℤ) → a ≡ c → b ≡ pos 0 → a +ℤ b ≡ c
first_only a b c first second = omega (arith, ints, first, second)

own_cases : (n : ℕ) (t : Term) (g : ℕ → ℤ → ℤ) → ((j : ℕ) → g j (pos 0) ≡ pos 0) → (t.col < n → int_sum_below n (λ j. g j (own_coefficient j t)) ≡ g t.col t.coef) → (t.col < n) ⊎ (t.col ≡ n) → int_sum_below (suc n) (λ j. g j (own_coefficient j t)) ≡ g t.col t.coef
own_cases n t g nothing before (inl below) =
    first_only (int_sum_below n (λ j. g j (own_coefficient j t))) (g n (own_coefficient n t)) (g t.col t.coef) (before below) (ap (g n) (own_elsewhere n t (λ e. omega (arith, e, below))) ∙ nothing n)
own_cases n t g nothing before (inr here) =
    last_only (int_sum_below n (λ j. g j (own_coefficient j t))) (g n (own_coefficient n t)) (g t.col t.coef)
    (int_sum_below-zero n (λ j. g j (own_coefficient j t)) (λ j h. ap (g j) (own_elsewhere j t (λ e. omega (arith, e, here, h))) ∙ nothing j))
    (ap (g n) (own_here n t here) ∙ ap (λ (j : ℕ). g j t.coef) (sym here))

lt-suc_cases : (k n : ℕ) → k < suc n → (k < n) ⊎ (k ≡ n)
lt-suc_cases k n h = grind arith

-- one term by columns
pub own_column : (n : ℕ) (t : Term) (g : ℕ → ℤ → ℤ) → ((j : ℕ) → g j (pos 0) ≡ pos 0) → t.col < n → int_sum_below n (λ j. g j (own_coefficient j t)) ≡ g t.col t.coef
own_column zero t g nothing known = absurd (omega (arith, known))
own_column (suc n) t g nothing known = own_cases n t g nothing (own_column n t g nothing) (lt-suc_cases t.col n known)

parted_cases : (t : Term) (terms : List Term) (j : ℕ) (g : ℕ → ℤ → ℤ) → g j (pos 0) ≡ pos 0 → rise_from (t.col + 1) (cols_of terms) ≡ true → (t.col ≡ j) ⊎ (t.col ≢ j) → g j (coefficient j (t ∷ terms)) ≡ g j (own_coefficient j t) +ℤ g j (coefficient j terms)
parted_cases t terms j g nothing test (inl here) =
    let rest : coefficient j terms ≡ pos 0 = coefficient_before (t.col + 1) terms j test (omega (arith, here)) in
    ap (g j) (first_only (own_coefficient j t) (coefficient j terms) (own_coefficient j t) refl rest)
    ∙ sym (first_only (g j (own_coefficient j t)) (g j (coefficient j terms)) (g j (own_coefficient j t)) refl (ap (g j) rest ∙ nothing))
parted_cases t terms j g nothing test (inr elsewhere) =
    let own : own_coefficient j t ≡ pos 0 = own_elsewhere j t elsewhere in
    ap (g j) (last_only (own_coefficient j t) (coefficient j terms) (coefficient j terms) own refl)
    ∙ sym (last_only (g j (own_coefficient j t)) (g j (coefficient j terms)) (g j (coefficient j terms)) (ap (g j) own ∙ nothing) refl)

-- terms whose columns rise give the same by columns
pub columns_of_terms : (n low : ℕ) (terms : List Term) (g : ℕ → ℤ → ℤ) → ((j : ℕ) → g j (pos 0) ≡ pos 0) → rise_from low (cols_of terms) ≡ true → All (IsTerm n) terms → int_sum_below n (λ j. g j (coefficient j terms)) ≡ int_sum_by (λ (t : Term). g t.col t.coef) terms
columns_of_terms n low [] g nothing test known = int_sum_below-zero n (λ j. g j (pos 0)) (λ j h. nothing j)
columns_of_terms n low (t ∷ terms) g nothing test known =
    let parts = and_parts (nat_le low t.col) (rise_from (t.col + 1) (cols_of terms)) test in
    int_sum_below-same n (λ j. g j (coefficient j (t ∷ terms))) (λ j. g j (own_coefficient j t) +ℤ g j (coefficient j terms)) (λ j h. parted_cases t terms j g (nothing j) parts.1 (cases_eq t.col j))
    ∙ int_sum_below-add n (λ j. g j (own_coefficient j t)) (λ j. g j (coefficient j terms))
    ∙ ap₂ (λ (y z : ℤ). y +ℤ z) (own_column n t g nothing (All-head (IsTerm n) t terms known).known) (columns_of_terms n (t.col + 1) terms g nothing parts.1 (All-tail (IsTerm n) t terms known))
