use Rattle.std.proofs.Common.{◌≡◌, ◌∙◌, ◌⊎◌, inl, inr, ℕ, zero, suc, ◌+◌, ◌*◌, ◌^◌, ◌<◌, ◌≤◌, ◌==◌, Bool, true, false, List, [], ◌∷◌, ◌++◌, length, map, slice_index_or, ℤ, pos, negsuc, ◌+ℤ◌, unsigned_abs, All, cond, refl, sym, ap, subst, arith}
use Rattle.std.specs.List.Sorted.{IsStrictlyIncreasing}
use Rattle.std.proofs.lemmas.Int.{unsigned_abs-mul}
use Rattle.std.proofs.lemmas.Bool.{true≢false, cases_Bool, eqb-true, ne_eqb}
use Rattle.std.proofs.lemmas.List.{length-append}
use Rattle.std.proofs.lemmas.List.Elements.{All-append, All-weaker, All-cons}
use Rattle.std.proofs.Math.Nat.{mul-pos}
use Rattle.ip_core.specs.Decimals.{Number}
use Rattle.ip_core.specs.Rows.{IsTerm}
use Rattle.ip_core.specs.declared.row.Term.{Term}
use Rattle.mps_model.specs.Numbers.{is_zero, is_zero_int}
use Rattle.mps_model.specs.MpsModels.{IsMpsEntry, AreDistinct}
use Rattle.width_admit.specs.Gathered.{IsColumn}
use Rattle.mps_model.specs.declared.model.MpsEntry.{MpsEntry}
use Rattle.mps_model.specs.declared.model.MpsCol.{MpsCol}
use Rattle.width_admit.specs.Exact.{units}
use Rattle.width_admit.specs.ExactRows.{entry_terms, exact_terms}
use Rattle.width_admit.proofs.Decimals.{ten_pow_pos}

-- what the terms of a row are like: known columns, each once, in rising order, and no zero

-- ---- units of a nonzero decimal

by_mantissa : (m : ℤ) → is_zero_int m ≡ false → 0 < unsigned_abs m
by_mantissa (pos zero) h = absurd (true≢false h)
by_mantissa (pos (suc m)) h = omega arith
by_mantissa (negsuc m) h = omega arith

nonzero_mantissa : (n : Number) → is_zero n ≡ false → 0 < unsigned_abs n.mantissa
nonzero_mantissa n h = by_mantissa n.mantissa h

nonzero_units : (n : Number) → is_zero n ≡ false → units n ≡ pos 0 → ⊥
nonzero_units n h none =
    let size : unsigned_abs n.mantissa * 10 ^ unsigned_abs (n.exponent +ℤ pos 18) ≡ 0 = sym (unsigned_abs-mul n.mantissa (pos (10 ^ unsigned_abs (n.exponent +ℤ pos 18)))) ∙ ap unsigned_abs none in
    let some : 0 < unsigned_abs n.mantissa * 10 ^ unsigned_abs (n.exponent +ℤ pos 18) = mul-pos (nonzero_mantissa n h) (ten_pow_pos (unsigned_abs (n.exponent +ℤ pos 18))) in
    omega (arith, size, some)

-- ---- at most one term of a column

distinct_tail : (x : ℕ) (xs : List ℕ) → AreDistinct (x ∷ xs) 0 → AreDistinct xs 0
distinct_tail x xs h = record { each = λ i j first second same. let next = h.each (suc i) (suc j) (omega (arith, first)) (omega (arith, second)) same in omega (arith, next) }

no_terms : (i j : ℕ) (es : List MpsEntry) → ((k : ℕ) → k < length (map (λ (e : MpsEntry). e.row) es) → slice_index_or (map (λ (e : MpsEntry). e.row) es) k 0 ≡ i → ⊥) → entry_terms i j es ≡ []
no_terms i j [] none = refl
no_terms i j (e ∷ es) none =
    let other : (e.row == i) ≡ false = ne_eqb e.row i (λ same. none 0 (omega arith) same) in
    rw other (no_terms i j es (λ k within same. none (suc k) (omega (arith, within)) same))

data AtMostOne (j : ℕ) (ts : List Term) : Type 0 where
  Nothing : ts ≡ [] → AtMostOne j ts
  One : (t : Term) → ts ≡ t ∷ [] → t.col ≡ j → AtMostOne j ts

one_of : (i j : ℕ) (e : MpsEntry) (es : List MpsEntry) → AreDistinct (map (λ (x : MpsEntry). x.row) (e ∷ es)) 0 → AtMostOne j (entry_terms i j es) → ((e.row == i) ≡ true) ⊎ ((e.row == i) ≡ false) → AtMostOne j (entry_terms i j (e ∷ es))
one_of i j e es distinct later (inl here) =
    let same : e.row ≡ i = eqb-true e.row i here in
    let rest : entry_terms i j es ≡ [] = no_terms i j es (λ k within again. let clash = distinct.each 0 (suc k) (omega arith) (omega (arith, within)) (same ∙ sym again) in omega (arith, clash)) in
    rw (here, rest) (One (record { col = j; coef = units e.value }) refl refl)
one_of i j e es distinct later (inr other) = rw other later

one_term : (i j : ℕ) (es : List MpsEntry) → AreDistinct (map (λ (e : MpsEntry). e.row) es) 0 → AtMostOne j (entry_terms i j es)
one_term i j [] distinct = Nothing refl
one_term i j (e ∷ es) distinct = one_of i j e es distinct (one_term i j es (distinct_tail e.row (map (λ (x : MpsEntry). x.row) es) distinct)) (cases_Bool (e.row == i))

-- ---- rising columns

record IsRisingFrom (j : ℕ) (ts : List Term) : Type 0 where
  pub above : All (λ (t : Term). j ≤ t.col) ts
  pub rising : IsStrictlyIncreasing (map (λ (t : Term). t.col) ts)

rising_at : (t : Term) (ts : List Term) (j : ℕ) → t.col ≡ j → IsRisingFrom (j + 1) ts → (k : ℕ) → k + 1 < length (map (λ (x : Term). x.col) (t ∷ ts)) → slice_index_or (map (λ (x : Term). x.col) (t ∷ ts)) k 0 < slice_index_or (map (λ (x : Term). x.col) (t ∷ ts)) (k + 1) 0
rising_at t [] j here rest k within = absurd (omega (arith, within))
rising_at t (x ∷ xs) j here rest zero within = let above : j + 1 ≤ x.col = rest.above 0 x (omega arith) in omega (arith, here, above)
rising_at t (x ∷ xs) j here rest (suc k) within =
    let next : suc (k + 1) ≡ suc k + 1 = omega arith in
    subst (λ n. slice_index_or (map (λ (y : Term). y.col) (t ∷ x ∷ xs)) (suc k) 0 < slice_index_or (map (λ (y : Term). y.col) (t ∷ x ∷ xs)) n 0) next (rest.rising k (omega (arith, within)))

rising_cons : (t : Term) (ts : List Term) (j : ℕ) → t.col ≡ j → IsRisingFrom (j + 1) ts → IsRisingFrom j (t ∷ ts)
rising_cons t ts j here rest = record {
  above = All-cons (λ (x : Term). j ≤ x.col) t ts (omega (arith, here)) (All-weaker (λ (x : Term). j + 1 ≤ x.col) (λ (x : Term). j ≤ x.col) (λ x h. omega (arith, h)) ts rest.above);
  rising = λ k within. rising_at t ts j here rest k within;
}

rising_weaker : (ts : List Term) (j : ℕ) → IsRisingFrom (j + 1) ts → IsRisingFrom j ts
rising_weaker ts j rest = record {
  above = All-weaker (λ (x : Term). j + 1 ≤ x.col) (λ (x : Term). j ≤ x.col) (λ x h. omega (arith, h)) ts rest.above;
  rising = rest.rising;
}

rising_join : (j : ℕ) (front ts : List Term) → AtMostOne j front → IsRisingFrom (j + 1) ts → IsRisingFrom j (front ++ ts)
rising_join j front ts (Nothing none) rest = rw none (rising_weaker ts j rest)
rising_join j front ts (One t one here) rest = rw one (rising_cons t ts j here rest)

All-tail : {A : Type 0} (P : A → Type 0) (x : A) (xs : List A) → All P (x ∷ xs) → All P xs
All-tail P x xs all = λ k d within. all (suc k) d (omega (arith, within))

exact_rising : (rows i j : ℕ) (cols : List MpsCol) → All (IsColumn rows) cols → IsRisingFrom j (exact_terms i j cols)
exact_rising rows i j [] valid = record { above = λ k d within. absurd (omega (arith, within)); rising = λ k within. absurd (omega (arith, within)) }
exact_rising rows i j (c ∷ cs) valid =
    rising_join j (entry_terms i j c.entries) (exact_terms i (j + 1) cs) (one_term i j c.entries (valid 0 c (omega arith)).once) (exact_rising rows i (j + 1) cs (All-tail (IsColumn rows) c cs valid))

short_front : (j : ℕ) (front : List Term) → AtMostOne j front → length front ≤ 1
short_front j front (Nothing none) = rw none (omega arith)
short_front j front (One t one here) = rw one (omega arith)

-- a row has no more terms than there are columns
pub exact_short : (rows i j : ℕ) (cols : List MpsCol) → All (IsColumn rows) cols → length (exact_terms i j cols) ≤ length cols
exact_short rows i j [] valid = omega arith
exact_short rows i j (c ∷ cs) valid =
    let sum = length-append (entry_terms i j c.entries) (exact_terms i (j + 1) cs) in
    let first = short_front j (entry_terms i j c.entries) (one_term i j c.entries (valid 0 c (omega arith)).once) in
    let rest = exact_short rows i (j + 1) cs (All-tail (IsColumn rows) c cs valid) in
    omega (arith, sum, first, rest)

-- ---- known columns and no zero

by_test : (b : Bool) (P : List Term → Type 0) (xs ys : List Term) → P xs → P ys → P (cond b xs ys)
by_test true P xs ys first second = first
by_test false P xs ys first second = second

entry_known : (n rows i j : ℕ) (es : List MpsEntry) → j < n → All (IsMpsEntry rows) es → All (IsTerm n) (entry_terms i j es)
entry_known n rows i j [] known valid = λ k d within. absurd (omega (arith, within))
entry_known n rows i j (e ∷ es) known valid =
    let rest = entry_known n rows i j es known (All-tail (IsMpsEntry rows) e es valid) in
    let term : IsTerm n (record { col = j; coef = units e.value }) = record { known = known; nonzero = nonzero_units e.value (valid 0 e (omega arith)).nonzero } in
    by_test (e.row == i) (λ ts. All (IsTerm n) ts) _ _ (All-cons (IsTerm n) (record { col = j; coef = units e.value }) (entry_terms i j es) term rest) rest

pub exact_known : (n rows i j : ℕ) (cols : List MpsCol) → j + length cols ≤ n → All (IsColumn rows) cols → All (IsTerm n) (exact_terms i j cols)
exact_known n rows i j [] few valid = λ k d within. absurd (omega (arith, within))
exact_known n rows i j (c ∷ cs) few valid =
    All-append (IsTerm n) (entry_terms i j c.entries) (exact_terms i (j + 1) cs)
    (entry_known n rows i j c.entries (omega (arith, few)) (valid 0 c (omega arith)).entries)
    (exact_known n rows i (j + 1) cs (omega (arith, few)) (All-tail (IsColumn rows) c cs valid))

-- the columns of a row's terms rise
pub exact_columns : (rows i j : ℕ) (cols : List MpsCol) → All (IsColumn rows) cols → IsStrictlyIncreasing (map (λ (t : Term). t.col) (exact_terms i j cols))
exact_columns rows i j cols valid = (exact_rising rows i j cols valid).rising
