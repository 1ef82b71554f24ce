-- Walking along the terms of a row from one chosen column to the next.
use Rattle.std.proofs.Common.{◌≡◌, ◌∙◌, ℕ, ◌+◌, ◌<◌, ◌≤◌, true, nat_le, List, [], ◌∷◌, ◌++◌, length, get_or, drop, take, ℤ, pos, ◌+ℤ◌, refl, sym, ap, ap₂, subst, arith}
use Rattle.std.proofs.lemmas.Int.{ints}
use Rattle.std.proofs.lemmas.Bool.{and_parts, and_from, leb-true, le-leb}
use Rattle.std.proofs.lemmas.List.{drop_more, take_more, map-append}
use Rattle.std.proofs.lemmas.List.Kept.{AllPairs-from_increasing}
use Rattle.ip_core.specs.Rows.{own_coefficient, coefficient}
use Rattle.ip_core.specs.declared.row.Term.{Term}
use Rattle.safe_bound.proofs.Weighted.{own_elsewhere}
use Rattle.cut_derive.specs.Covers.{rise_from}
use Rattle.cut_derive.proofs.Fronts.{cols_of, rising_from_test}
use Rattle.cut_derive.specs.Chosen.{chosen_term, chosen_terms}
use Rattle.cut_derive.proofs.TermColumns.{coefficient_before}

-- columns that rise from a number on rise from each lesser one
pub rise_lower : (low from : ℕ) (xs : List ℕ) → low ≤ from → rise_from from xs ≡ true → rise_from low xs ≡ true
rise_lower low from [] lower test = refl
rise_lower low from (x ∷ xs) lower test =
    let parts = and_parts (nat_le from x) (rise_from (x + 1) xs) test in
    let first : from ≤ x = leb-true from x parts.0 in
    and_from (nat_le low x) (rise_from (x + 1) xs) (le-leb low x (omega (arith, lower, first))) parts.1

raised : (low from x : ℕ) (xs : List ℕ) → from ≤ x → rise_from low (x ∷ xs) ≡ true → rise_from from (x ∷ xs) ≡ true
raised low from x xs le test = and_from (nat_le from x) (rise_from (x + 1) xs) (le-leb from x le) (and_parts (nat_le low x) (rise_from (x + 1) xs) test).1

-- from the first term at a column or after it, terms rise from this column on
pub from_here : (terms : List Term) (at col : ℕ) (d : Term) → rise_from 0 (cols_of (drop at terms)) ≡ true → at < length terms → col ≤ (get_or terms at d).col → rise_from col (cols_of (drop at terms)) ≡ true
from_here terms at col d test known le =
    let parted = drop_more terms at d known in
    let t = get_or terms at d in
    subst (λ (ts : List Term). rise_from col (cols_of ts) ≡ true) (sym parted)
    (raised 0 col t.col (cols_of (drop (at + 1) terms)) le (subst (λ (ts : List Term). rise_from 0 (cols_of ts) ≡ true) parted test))

-- what is left behind a term rises
pub rest_rises : (terms : List Term) (at : ℕ) (d : Term) → rise_from 0 (cols_of (drop at terms)) ≡ true → at < length terms → rise_from 0 (cols_of (drop (at + 1) terms)) ≡ true
rest_rises terms at d test known =
    let t = get_or terms at d in
    let whole = subst (λ (ts : List Term). rise_from 0 (cols_of ts) ≡ true) (drop_more terms at d known) test in
    rise_lower 0 (t.col + 1) (cols_of (drop (at + 1) terms)) (omega arith) (and_parts (nat_le 0 t.col) (rise_from (t.col + 1) (cols_of (drop (at + 1) terms))) whole).1

nothing_first : (a b c : ℤ) → a ≡ pos 0 → a +ℤ b ≡ c → b ≡ c
nothing_first a b c nothing same = omega (arith, ints, nothing, same)

-- a term before a column adds nothing to it
pub passed_term : (terms whole : List Term) (at c : ℕ) (d : Term) → at < length terms → (get_or terms at d).col < c → coefficient c (drop at terms) ≡ coefficient c whole → coefficient c (drop (at + 1) terms) ≡ coefficient c whole
passed_term terms whole at c d known before same =
    let t = get_or terms at d in
    nothing_first (own_coefficient c t) (coefficient c (drop (at + 1) terms)) (coefficient c whole) (own_elsewhere c t (λ e. omega (arith, e, before)))
    (subst (λ (ts : List Term). coefficient c ts ≡ coefficient c whole) (drop_more terms at d known) same)

first_alone : (a b : ℤ) → b ≡ pos 0 → a ≡ a +ℤ b
first_alone a b nothing = omega (arith, ints, nothing)

-- of terms that rise from a column on, the first alone can stand at it
pub first_own : (col : ℕ) (t : Term) (terms : List Term) → rise_from col (cols_of (t ∷ terms)) ≡ true → own_coefficient col t ≡ coefficient col (t ∷ terms)
first_own col t terms test =
    let parts = and_parts (nat_le col t.col) (rise_from (t.col + 1) (cols_of terms)) test in
    let first : col ≤ t.col = leb-true col t.col parts.0 in
    first_alone (own_coefficient col t) (coefficient col terms) (coefficient_before (t.col + 1) terms col parts.1 (omega (arith, first)))

-- of two columns the later one is the greater
pub rise_at : (xs : List ℕ) (i k : ℕ) → rise_from 0 xs ≡ true → i < k → k < length xs → get_or xs i 0 < get_or xs k 0
rise_at xs i k test before within = AllPairs-from_increasing xs (rising_from_test 0 xs test) i k 0 before within

-- one more column with its coefficient
pub chosen_more : (terms : List Term) (cols : List ℕ) (chosen next : List Term) (i : ℕ) (x : ℤ) → i < length cols → chosen ≡ chosen_terms terms (take i cols) → x ≡ coefficient (get_or cols i 0) terms → next ≡ chosen ++ record { col = get_or cols i 0; coef = x } ∷ [] → next ≡ chosen_terms terms (take (i + 1) cols)
chosen_more terms cols chosen next i x within so_far here pushed =
    pushed
    ∙ ap₂ (λ (ts : List Term) (z : ℤ). ts ++ record { col = get_or cols i 0; coef = z } ∷ []) so_far here
    ∙ sym (ap (chosen_terms terms) (take_more cols i 0 within) ∙ map-append (chosen_term terms) (take i cols) (get_or cols i 0 ∷ []))
