use Rattle.std.specs.Prelude.{ℕ, zero, suc, ◌+◌, ℤ, pos, ◌+ℤ◌, List, [], ◌∷◌, slice_index_or}

-- the number at place k, and 0 past the end
abbrev pub int_at : List ℤ → ℕ → ℤ
int_at xs k = slice_index_or xs k (pos 0)

-- the sum over a list of what `f` gives for each item
abbrev pub int_sum_by : {A : Type 0} → (A → ℤ) → List A → ℤ
int_sum_by f [] = pos 0
int_sum_by f (x ∷ xs) = f x +ℤ int_sum_by f xs

-- the sum of `f 0` to `f (n - 1)`
abbrev pub int_sum_below : ℕ → (ℕ → ℤ) → ℤ
int_sum_below zero f = pos 0
int_sum_below (suc n) f = int_sum_below n f +ℤ f n

-- the same of natural numbers
abbrev pub sum_below : ℕ → (ℕ → ℕ) → ℕ
sum_below zero f = 0
sum_below (suc n) f = sum_below n f + f n
