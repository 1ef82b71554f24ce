use Rattle.std.proofs.Common.{◌≡◌, ◌∙◌, ◌⊎◌, inl, inr, ℕ, ◌+◌, ◌<◌, Bool, true, false, ◌==◌, List, [], ◌∷◌, ◌++◌, length, get_or, take, slice_set, slice_index_or, if◌then◌else◌, refl, sym, ap, arith}
use Rattle.std.proofs.lemmas.List.{take_more, length-take-le, length-set, get_or-set_same, get_or-set_other}
use Rattle.std.proofs.lemmas.Bool.{cases_eq, ne_eqb, eq-eqb}
use Rattle.ip_core.specs.declared.row.Term.{Term}
use Rattle.mps_model.specs.declared.model.MpsCol.{MpsCol}
use Rattle.mps_model.specs.declared.model.MpsEntry.{MpsEntry}
use Rattle.width_admit.specs.declared.gather.Coefficient.{Coefficient}
use Rattle.width_admit.specs.Exact.{units}
use Rattle.width_admit.specs.ExactRows.{exact_terms, entry_terms}
use Rattle.width_admit.specs.Gathered.{exact, exact_term, AreGatheredUpTo, AreGathered}

-- how the lists of the rows grow, entry by entry and column by column

after_nothing : {A : Type 0} (xs : List A) → xs ++ [] ≡ xs
after_nothing [] = refl
after_nothing (x ∷ xs) = ap (λ ys. x ∷ ys) (after_nothing xs)

pub grouped : {A : Type 0} (xs ys zs : List A) → (xs ++ ys) ++ zs ≡ xs ++ (ys ++ zs)
grouped [] ys zs = refl
grouped (x ∷ xs) ys zs = ap (λ rest. x ∷ rest) (grouped xs ys zs)

by_test : (b : Bool) (t : Term) (xs all ys : List Term) → all ≡ xs ++ ys → (if b then t ∷ all else all) ≡ (if b then t ∷ xs else xs) ++ ys
by_test true t xs all ys same = ap (λ rest. t ∷ rest) same
by_test false t xs all ys same = same

length_front : (at : ℕ) (cols : List MpsCol) → at < length cols → 0 + length (take at cols) ≡ at
length_front at cols within = omega (arith, length-take-le at cols (omega (arith, within)))

entry_terms-append : (i j : ℕ) (xs ys : List MpsEntry) → entry_terms i j (xs ++ ys) ≡ entry_terms i j xs ++ entry_terms i j ys
entry_terms-append i j [] ys = refl
entry_terms-append i j (x ∷ xs) ys = by_test (x.row == i) (record { col = j; coef = units x.value }) (entry_terms i j xs) (entry_terms i j (xs ++ ys)) (entry_terms i j ys) (entry_terms-append i j xs ys)

exact_terms-append : (i j : ℕ) (xs ys : List MpsCol) → exact_terms i j (xs ++ ys) ≡ exact_terms i j xs ++ exact_terms i (j + length xs) ys
exact_terms-append i j [] ys = ap (λ k. exact_terms i k ys) (omega arith)
exact_terms-append i j (x ∷ xs) ys =
    ap (λ rest. entry_terms i j x.entries ++ rest) (exact_terms-append i (j + 1) xs ys)
    ∙ ap (λ k. entry_terms i j x.entries ++ (exact_terms i (j + 1) xs ++ exact_terms i k ys)) (omega arith)
    ∙ sym (grouped (entry_terms i j x.entries) (exact_terms i (j + 1) xs) (exact_terms i (j + length (x ∷ xs)) ys))

-- one more column
pub exact_terms_more : (i at : ℕ) (cols : List MpsCol) (d : MpsCol) → at < length cols → exact_terms i 0 (take (at + 1) cols) ≡ exact_terms i 0 (take at cols) ++ entry_terms i at (get_or cols at d).entries
exact_terms_more i at cols d within =
    ap (exact_terms i 0) (take_more cols at d within)
    ∙ exact_terms-append i 0 (take at cols) (get_or cols at d ∷ [])
    ∙ ap (λ rest. exact_terms i 0 (take at cols) ++ rest) (after_nothing (entry_terms i (0 + length (take at cols)) (get_or cols at d).entries) ∙ ap (λ k. entry_terms i k (get_or cols at d).entries) (length_front at cols within))

pub exact-append : (xs ys : List Coefficient) → exact (xs ++ ys) ≡ exact xs ++ exact ys
exact-append [] ys = refl
exact-append (x ∷ xs) ys = ap (λ rest. exact_term x ∷ rest) (exact-append xs ys)

in_row : (i j : ℕ) (cols : List MpsCol) (entries : List MpsEntry) (e : MpsEntry) (old new : List Coefficient) → exact old ≡ exact_terms i 0 cols ++ entry_terms i j entries → exact new ≡ exact old ++ entry_terms i j (e ∷ [])
    → exact new ≡ exact_terms i 0 cols ++ entry_terms i j (entries ++ e ∷ [])
in_row i j cols entries e old new before grown =
    grown ∙ ap (λ xs. xs ++ entry_terms i j (e ∷ [])) before
    ∙ grouped (exact_terms i 0 cols) (entry_terms i j entries) (entry_terms i j (e ∷ []))
    ∙ ap (λ xs. exact_terms i 0 cols ++ xs) (sym (entry_terms-append i j entries (e ∷ [])))

entry_at : (n i j : ℕ) (cols : List MpsCol) (entries : List MpsEntry) (e : MpsEntry) (c : Coefficient) (lists : List (List Coefficient)) → AreGatheredUpTo n cols j entries lists → e.row < n → c ≡ record { col = j; value = e.value } → i < n → (i ≡ e.row) ⊎ (i ≡ e.row → ⊥)
    → exact (slice_index_or (slice_set lists e.row (slice_index_or lists e.row [] ++ c ∷ [])) i []) ≡ exact_terms i 0 cols ++ entry_terms i j (entries ++ e ∷ [])
entry_at n i j cols entries e c lists before known made within (inl here) =
    let at : slice_index_or (slice_set lists e.row (slice_index_or lists e.row [] ++ c ∷ [])) i [] ≡ slice_index_or lists i [] ++ c ∷ [] = rw here (get_or-set_same lists e.row _ [] (omega (arith, before.as_many, known))) in
    let term : entry_terms i j (e ∷ []) ≡ exact (c ∷ []) = rw (eq-eqb e.row i (sym here), made) refl in
    in_row i j cols entries e (slice_index_or lists i []) _ (before.each i within) (ap exact at ∙ exact-append (slice_index_or lists i []) (c ∷ []) ∙ ap (λ xs. exact (slice_index_or lists i []) ++ xs) (sym term))
entry_at n i j cols entries e c lists before known made within (inr elsewhere) =
    let at : slice_index_or (slice_set lists e.row (slice_index_or lists e.row [] ++ c ∷ [])) i [] ≡ slice_index_or lists i [] = get_or-set_other lists e.row i _ [] elsewhere in
    let term : entry_terms i j (e ∷ []) ≡ [] = rw (ne_eqb e.row i (λ same. elsewhere (sym same))) refl in
    in_row i j cols entries e (slice_index_or lists i []) _ (before.each i within) (ap exact at ∙ sym (ap (λ xs. exact (slice_index_or lists i []) ++ xs) term ∙ after_nothing (exact (slice_index_or lists i []))))

-- one more entry, put at the end of its row's list
pub entry_gathered : (n j : ℕ) (cols : List MpsCol) (entries : List MpsEntry) (e : MpsEntry) (c : Coefficient) (lists : List (List Coefficient)) → AreGatheredUpTo n cols j entries lists → e.row < n → c ≡ record { col = j; value = e.value }
    → AreGatheredUpTo n cols j (entries ++ e ∷ []) (slice_set lists e.row (slice_index_or lists e.row [] ++ c ∷ []))
entry_gathered n j cols entries e c lists before known made = record {
  as_many = length-set lists e.row _ ∙ before.as_many;
  each = λ i within. entry_at n i j cols entries e c lists before known made within (cases_eq i e.row);
}

-- a column whose entries are all gathered joins the columns
pub column_gathered : (n at : ℕ) (cols : List MpsCol) (d : MpsCol) (lists : List (List Coefficient)) → at < length cols → AreGatheredUpTo n (take at cols) at (get_or cols at d).entries lists → AreGathered n (take (at + 1) cols) lists
column_gathered n at cols d lists within all = record {
  as_many = all.as_many;
  each = λ i below. all.each i below ∙ sym (exact_terms_more i at cols d within);
}

-- before the first entry of a column nothing is gathered of it
pub column_begun : (n at : ℕ) (cols : List MpsCol) (lists : List (List Coefficient)) → AreGathered n (take at cols) lists → AreGatheredUpTo n (take at cols) at [] lists
column_begun n at cols lists all = record {
  as_many = all.as_many;
  each = λ i below. all.each i below ∙ sym (after_nothing (exact_terms i 0 (take at cols)));
}
