use Rattle.std.proofs.Common.{◌≡◌, ◌∙◌, ℕ, zero, suc, ◌+◌, ◌<◌, ◌⊎◌, inl, inr, List, [], ◌∷◌, ◌++◌, length, replicate, take, drop, get_or, set, ℤ, pos, ◌+ℤ◌, ◌-ℤ◌, ◌*ℤ◌, ◌≤ℤ◌, All, refl, ap, arith, add-one}
use Rattle.std.proofs.lemmas.Int.{ints}
use Rattle.std.proofs.lemmas.Bool.Decides.{nat_tests}
use Rattle.std.proofs.lemmas.List.Elements.{All-tail, All-head}
use Rattle.ip_core.specs.Numbers.{int_sum_below, int_sum_by}
use Rattle.ip_core.specs.Rows.{IsTerm, AreTerms}
use Rattle.ip_core.specs.declared.row.Row.{Row}
use Rattle.ip_core.specs.declared.row.Term.{Term}
use Rattle.ip_core.proofs.Products.{mul_pos-le, add-le_both}
use Rattle.ip_core.specs.Rows.{own_coefficient, coefficient}
use Rattle.safe_bound.specs.Weights.{weighted_sum, weighted_coefficient}
use Rattle.ip_core.proofs.IntProducts.{add_mul, sub_mul, natural_mul_assoc}
use Rattle.ip_core.proofs.ColumnSums.{int_sum_below-same, int_sum_below-zero, int_sum_below-add, int_sum_below-scale}

-- a term at its own column, and at another
pub own_here : (j : ℕ) (t : Term) → t.col ≡ j → own_coefficient j t ≡ t.coef
own_here j t here = grind (arith, nat_tests)

pub own_elsewhere : (j : ℕ) (t : Term) → (t.col ≡ j → ⊥) → own_coefficient j t ≡ pos 0
own_elsewhere j t elsewhere = grind (arith, nat_tests)

zero_mul : (a x : ℤ) → a ≡ pos 0 → a *ℤ x ≡ pos 0
zero_mul a x nothing = rw nothing (omega (arith, ints))

last_alone : (s a b : ℤ) → s ≡ pos 0 → a ≡ b → s +ℤ a ≡ b
last_alone s a b nothing same = omega (arith, ints)

last_nothing : (s a b : ℤ) → s ≡ b → a ≡ pos 0 → s +ℤ a ≡ b
last_nothing s a b same nothing = omega (arith, ints)

own_column_cases : (n : ℕ) (t : Term) (x : ℕ → ℤ) → (t.col < n → int_sum_below n (λ j. own_coefficient j t *ℤ x j) ≡ t.coef *ℤ x t.col) → (t.col < n) ⊎ (t.col ≡ n) → int_sum_below (suc n) (λ j. own_coefficient j t *ℤ x j) ≡ t.coef *ℤ x t.col
own_column_cases n t x before (inl below) =
    last_nothing (int_sum_below n (λ j. own_coefficient j t *ℤ x j)) (own_coefficient n t *ℤ x n) (t.coef *ℤ x t.col) (before below) (zero_mul (own_coefficient n t) (x n) (own_elsewhere n t (λ e. omega arith)))
own_column_cases n t x before (inr here) =
    last_alone (int_sum_below n (λ j. own_coefficient j t *ℤ x j)) (own_coefficient n t *ℤ x n) (t.coef *ℤ x t.col)
    (int_sum_below-zero n (λ j. own_coefficient j t *ℤ x j) (λ j h. zero_mul (own_coefficient j t) (x j) (own_elsewhere j t (λ e. omega arith))))
    (rw (own_here n t here, here) refl)

lt-suc_cases : (k n : ℕ) → k < suc n → (k < n) ⊎ (k ≡ n)
lt-suc_cases k n h = grind arith

-- a term's column is the only one to which it adds
pub own_column : (n : ℕ) (t : Term) (x : ℕ → ℤ) → t.col < n → int_sum_below n (λ j. own_coefficient j t *ℤ x j) ≡ t.coef *ℤ x t.col
own_column zero t x known = absurd (omega arith)
own_column (suc n) t x known = own_column_cases n t x (own_column n t x) (lt-suc_cases t.col n known)

-- by columns, terms add up to the same as one by one
pub terms_by_columns : (n : ℕ) (x : ℕ → ℤ) (terms : List Term) → All (IsTerm n) terms → int_sum_below n (λ j. coefficient j terms *ℤ x j) ≡ int_sum_by (λ t. t.coef *ℤ x t.col) terms
terms_by_columns n x [] known = int_sum_below-zero n (λ j. coefficient j [] *ℤ x j) (λ j h. omega (arith, ints))
terms_by_columns n x (t ∷ terms) known =
    int_sum_below-same n (λ j. coefficient j (t ∷ terms) *ℤ x j) (λ j. (own_coefficient j t *ℤ x j) +ℤ (coefficient j terms *ℤ x j)) (λ j h. add_mul (own_coefficient j t) (coefficient j terms) (x j))
    ∙ int_sum_below-add n (λ j. own_coefficient j t *ℤ x j) (λ j. coefficient j terms *ℤ x j)
    ∙ ap (λ z. z +ℤ int_sum_below n (λ j. coefficient j terms *ℤ x j)) (own_column n t x (All-head (IsTerm n) t terms known).known)
    ∙ ap (λ z. (t.coef *ℤ x t.col) +ℤ z) (terms_by_columns n x terms (All-tail (IsTerm n) t terms known))

-- each row has columns of a model with n columns
pub record AreKnown (n : ℕ) (rows : List Row) : Type 0 where
  pub each : All (λ row. AreTerms n row.terms) rows

known_head : (n : ℕ) (row : Row) (rows : List Row) → AreKnown n (row ∷ rows) → AreTerms n row.terms
known_head n row rows known = All-head (λ (r : Row). AreTerms n r.terms) row rows known.each

known_tail : (n : ℕ) (row : Row) (rows : List Row) → AreKnown n (row ∷ rows) → AreKnown n rows
known_tail n row rows known = record { each = All-tail (λ (r : Row). AreTerms n r.terms) row rows known.each }

-- by columns, weighted rows add up to the same as row by row
pub rows_by_columns : (n : ℕ) (x : ℕ → ℤ) (rows : List Row) (ys : List ℕ) → AreKnown n rows → int_sum_below n (λ j. weighted_coefficient j rows ys *ℤ x j) ≡ weighted_sum (λ row. int_sum_by (λ t. t.coef *ℤ x t.col) row.terms) rows ys
rows_by_columns n x [] ys known = int_sum_below-zero n (λ j. weighted_coefficient j [] ys *ℤ x j) (λ j h. omega (arith, ints))
rows_by_columns n x (row ∷ rows) [] known = int_sum_below-zero n (λ j. weighted_coefficient j (row ∷ rows) [] *ℤ x j) (λ j h. omega (arith, ints))
rows_by_columns n x (row ∷ rows) (y ∷ ys) known =
    int_sum_below-same n (λ j. weighted_coefficient j (row ∷ rows) (y ∷ ys) *ℤ x j) (λ j. (pos y *ℤ (coefficient j row.terms *ℤ x j)) +ℤ (weighted_coefficient j rows ys *ℤ x j)) (λ j h.
    add_mul (pos y *ℤ coefficient j row.terms) (weighted_coefficient j rows ys) (x j) ∙ ap (λ z. z +ℤ (weighted_coefficient j rows ys *ℤ x j)) (natural_mul_assoc y (coefficient j row.terms) (x j)))
    ∙ int_sum_below-add n (λ j. pos y *ℤ (coefficient j row.terms *ℤ x j)) (λ j. weighted_coefficient j rows ys *ℤ x j)
    ∙ ap (λ z. z +ℤ int_sum_below n (λ j. weighted_coefficient j rows ys *ℤ x j)) (int_sum_below-scale n (pos y) (λ j. coefficient j row.terms *ℤ x j) ∙ ap (λ z. pos y *ℤ z) (terms_by_columns n x row.terms (known_head n row rows known).each))
    ∙ ap (λ z. (pos y *ℤ int_sum_by (λ (t : Term). t.coef *ℤ x t.col) row.terms) +ℤ z) (rows_by_columns n x rows ys (known_tail n row rows known))

-- rows that give no more have no greater weighted sum
pub weighted_sum-le : (f g : Row → ℤ) (rows : List Row) (ys : List ℕ) → All (λ row. f row ≤ℤ g row) rows → weighted_sum f rows ys ≤ℤ weighted_sum g rows ys
weighted_sum-le f g [] ys each = omega (arith, ints)
weighted_sum-le f g (row ∷ rows) [] each = omega (arith, ints)
weighted_sum-le f g (row ∷ rows) (y ∷ ys) each =
    add-le_both (pos y *ℤ f row) (weighted_sum f rows ys) (pos y *ℤ g row) (weighted_sum g rows ys) (mul_pos-le y (f row) (g row) (All-head (λ (r : Row). f r ≤ℤ g r) row rows each)) (weighted_sum-le f g rows ys (All-tail (λ (r : Row). f r ≤ℤ g r) row rows each))

-- rows one after the other take the multipliers one after the other
pub weighted_sum-append : (f : Row → ℤ) (xs rows : List Row) (ys : List ℕ) → weighted_sum f (xs ++ rows) ys ≡ weighted_sum f xs (take (length xs) ys) +ℤ weighted_sum f rows (drop (length xs) ys)
weighted_sum-append f [] rows ys = omega (arith, ints)
weighted_sum-append f (x ∷ xs) [] [] = omega (arith, ints)
weighted_sum-append f (x ∷ xs) (r ∷ rows) [] = omega (arith, ints)
weighted_sum-append f (x ∷ xs) rows (y ∷ ys) = omega (arith, ints, weighted_sum-append f xs rows ys)

row_more : (f : Row → ℤ) (rows : List Row) (ys : List ℕ) (i : ℕ) (d : Row) → i < length rows → i < length ys → weighted_sum f (take (suc i) rows) ys ≡ weighted_sum f (take i rows) ys +ℤ (pos (get_or ys i 0) *ℤ f (get_or rows i d))
row_more f [] ys i d within many = absurd (omega arith)
row_more f (row ∷ rows) [] i d within many = absurd (omega arith)
row_more f (row ∷ rows) (y ∷ ys) zero d within many = omega (arith, ints)
row_more f (row ∷ rows) (y ∷ ys) (suc i) d within many = omega (arith, ints, row_more f rows ys i d (omega arith) (omega arith))

-- one more row
pub weighted_sum_more : (f : Row → ℤ) (rows : List Row) (ys : List ℕ) (i : ℕ) (d : Row) → i < length rows → i < length ys → weighted_sum f (take (i + 1) rows) ys ≡ weighted_sum f (take i rows) ys +ℤ (pos (get_or ys i 0) *ℤ f (get_or rows i d))
weighted_sum_more f rows ys i d within many = rw add-one (row_more f rows ys i d within many)

-- multipliers of 0 leave nothing
pub weighted_sum-none : (f : Row → ℤ) (rows : List Row) (n : ℕ) → weighted_sum f rows (replicate n 0) ≡ pos 0
weighted_sum-none f [] n = refl
weighted_sum-none f (row ∷ rows) zero = refl
weighted_sum-none f (row ∷ rows) (suc n) = omega (arith, ints, weighted_sum-none f rows n)

-- one multiplier changed moves the weighted sum by its change times what its row gives
pub weighted_sum-set : (f : Row → ℤ) (rows : List Row) (ys : List ℕ) (i y : ℕ) (d : Row) → i < length rows → i < length ys → weighted_sum f rows (set ys i y) ≡ weighted_sum f rows ys +ℤ ((pos y -ℤ pos (get_or ys i 0)) *ℤ f (get_or rows i d))
weighted_sum-set f [] ys i y d within many = absurd (omega arith)
weighted_sum-set f (row ∷ rows) [] i y d within many = absurd (omega arith)
weighted_sum-set f (row ∷ rows) (x ∷ ys) zero y d within many = omega (arith, ints, sub_mul (pos y) (pos x) (f row))
weighted_sum-set f (row ∷ rows) (x ∷ ys) (suc i) y d within many = omega (arith, ints, weighted_sum-set f rows ys i y d (omega arith) (omega arith))

natural_mul_sub : (n : ℕ) (a b : ℤ) → pos n *ℤ (a -ℤ b) ≡ (pos n *ℤ a) -ℤ (pos n *ℤ b)
natural_mul_sub zero a b = omega (arith, ints)
natural_mul_sub (suc n) a b = omega (arith, ints, natural_mul_sub n a b)

-- a weighted sum of differences
pub weighted_sum-sub : (f g : Row → ℤ) (rows : List Row) (ys : List ℕ) → weighted_sum (λ row. f row -ℤ g row) rows ys ≡ weighted_sum f rows ys -ℤ weighted_sum g rows ys
weighted_sum-sub f g [] ys = refl
weighted_sum-sub f g (row ∷ rows) [] = refl
weighted_sum-sub f g (row ∷ rows) (y ∷ ys) = omega (arith, ints, natural_mul_sub y (f row) (g row), weighted_sum-sub f g rows ys)
