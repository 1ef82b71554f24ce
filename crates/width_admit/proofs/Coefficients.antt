use Rattle.std.proofs.Common.{◌≡◌, ◌∙◌, ◌⊎◌, inl, inr, ℕ, zero, suc, ◌+◌, ◌*◌, ◌^◌, ◌<◌, ◌≤◌, max, Bool, true, false, if◌then◌else◌, neg_ℤ, List, [], ◌∷◌, ◌++◌, length, map, get_or, take, ℤ, pos, unsigned_abs, sum_by, refl, sym, ap, subst, arith}
use Rattle.std.proofs.lemmas.List.{take_more, get_or_past, get_or-map, length-map}
use Rattle.std.proofs.lemmas.List.Sums.{sum_by-append}
use Rattle.std.proofs.lemmas.Bool.{and_parts, cases_lt}
use Rattle.std.proofs.Math.Nat.{mul-le-mul_right}
use Rattle.ip_core.specs.Sides.{Sides, HasLimits, IsWithinLimit, reach}
use Rattle.ip_core.specs.Rows.{term_width, AreTerms}
use Rattle.ip_core.specs.Numbers.{int_at}
use Rattle.ip_core.specs.declared.row.Term.{Term}
use Rattle.width_admit.specs.declared.gather.Coefficient.{Coefficient}
use Rattle.width_admit.specs.Exact.{units, is_whole, are_whole}
use Rattle.width_admit.specs.Held.{IsFinest, held_number, held_terms, held_term, held_whole, terms_under_sign}
use Rattle.width_admit.specs.ExactRows.{negated_term}
use Rattle.width_admit.specs.Gathered.{exact, exact_term}
use Rattle.width_admit.proofs.Decimals.{finest_both}
use Rattle.width_admit.proofs.Gathering.{exact-append}
use Rattle.width_admit.proofs.HeldNumbers.{held_size}

-- what holds of a row's coefficients, one after the other

-- the coefficients as numbers
abbrev pub numbers : List Term → List ℤ
numbers terms = map (λ t. t.coef) terms

numbers-append : (xs ys : List Term) → numbers (xs ++ ys) ≡ numbers xs ++ numbers ys
numbers-append [] ys = refl
numbers-append (x ∷ xs) ys = ap (λ rest. x.coef ∷ rest) (numbers-append xs ys)

more_numbers : (terms : List Coefficient) (i : ℕ) (t : Coefficient) → i < length terms → t ≡ get_or terms i t → numbers (exact (take (i + 1) terms)) ≡ numbers (exact (take i terms)) ++ units t.value ∷ []
more_numbers terms i t within read =
    ap (λ ts. numbers (exact ts)) (take_more terms i t within ∙ ap (λ x. take i terms ++ x ∷ []) (sym read))
    ∙ ap numbers (exact-append (take i terms) (t ∷ []))
    ∙ numbers-append (exact (take i terms)) (exact (t ∷ []))

-- one more coefficient of those that are whole from an exponent on
pub finest_more : (terms : List Coefficient) (i : ℕ) (t : Coefficient) (m n : ℕ) → i < length terms → t ≡ get_or terms i t → IsFinest (numbers (exact (take i terms))) m → IsFinest (units t.value ∷ []) n → IsFinest (numbers (exact (take (i + 1) terms))) (max m n)
finest_more terms i t m n within read before one =
    subst (λ zs. IsFinest zs (max m n)) (sym (more_numbers terms i t within read)) (finest_both (numbers (exact (take i terms))) (units t.value ∷ []) m n before one)

-- where all are whole, one of them is
pub coefficient_whole : (k : ℕ) (terms : List Coefficient) (i : ℕ) (t : Coefficient) → i < length terms → are_whole (numbers (exact terms)) k ≡ true → is_whole k (units (get_or terms i t).value) ≡ true
coefficient_whole k [] i t within all = absurd (omega (arith, within))
coefficient_whole k (x ∷ xs) zero t within all = (and_parts (is_whole k (units x.value)) _ all).0
coefficient_whole k (x ∷ xs) (suc i) t within all = coefficient_whole k xs i t (omega (arith, within)) (and_parts (is_whole k (units x.value)) _ all).1

held_terms-append : (k : ℕ) (xs ys : List Term) → held_terms k (xs ++ ys) ≡ held_terms k xs ++ held_terms k ys
held_terms-append k [] ys = refl
held_terms-append k (x ∷ xs) ys = ap (λ rest. held_term k x ∷ rest) (held_terms-append k xs ys)

one_alone : (a b : ℕ) → a + (0 + b) ≡ a + b
one_alone a b = omega arith

-- one more part of a width
pub width_more : (box : Sides) (k : ℕ) (terms : List Coefficient) (i : ℕ) (t : Coefficient) → i < length terms → t ≡ get_or terms i t
    → sum_by (term_width box) (held_terms k (exact (take (i + 1) terms))) ≡ sum_by (term_width box) (held_terms k (exact (take i terms))) + unsigned_abs (held_whole k t.value) * reach box t.col
width_more box k terms i t within read =
    ap (λ ts. sum_by (term_width box) (held_terms k (exact ts))) (take_more terms i t within ∙ ap (λ x. take i terms ++ x ∷ []) (sym read))
    ∙ ap (λ ts. sum_by (term_width box) (held_terms k ts)) (exact-append (take i terms) (t ∷ []))
    ∙ ap (sum_by (term_width box)) (held_terms-append k (exact (take i terms)) (exact (t ∷ [])))
    ∙ sum_by-append (term_width box) (held_terms k (exact (take i terms))) (held_terms k (exact (t ∷ [])))
    ∙ one_alone (sum_by (term_width box) (held_terms k (exact (take i terms)))) (unsigned_abs (held_whole k t.value) * reach box t.col)

bound_small : (xs : List ℤ) (j : ℕ) → IsWithinLimit xs → (j < length xs) ⊎ (length xs ≤ j) → unsigned_abs (int_at xs j) ≤ 2 ^ 31
bound_small xs j limits (inl within) = let here = limits.each j (pos 0) within in omega (arith, here)
bound_small xs j limits (inr past) = rw (get_or_past xs j (pos 0) past) (omega arith)

-- a column of a box within the limits reaches no further than 2^31
pub reach_small : (box : Sides) (j : ℕ) → HasLimits box → reach box j ≤ 2 ^ 31
reach_small box j limits =
    let low = bound_small box.lows j limits.lows (cases_lt j (length box.lows)) in
    let high = bound_small box.highs j limits.highs (cases_lt j (length box.highs)) in
    omega (arith, low, high)

-- a part of a width is at most 2^83
pub part_small : (z : ℤ) (r : ℕ) → r ≤ 2 ^ 31 → unsigned_abs (held_number z) * r ≤ 2 ^ 83
part_small z r near =
    let size : unsigned_abs (held_number z) ≤ 2 ^ 52 = rw (held_size z) (omega arith) in
    let first : unsigned_abs (held_number z) * r ≤ 2 ^ 52 * r = mul-le-mul_right r size in
    omega (arith, first, near)

-- where coefficients belong to known columns, one of them does
pub column_known : (n : ℕ) (terms : List Coefficient) (i : ℕ) (t : Coefficient) → i < length terms → AreTerms n (exact terms) → (get_or terms i t).col < n
column_known n terms i t within known =
    let long : length (exact terms) ≡ length terms = length-map terms exact_term in
    let here = known.each i (exact_term t) (omega (arith, long, within)) in
    let read : get_or (exact terms) i (exact_term t) ≡ exact_term (get_or terms i t) = get_or-map exact_term terms i t (exact_term t) within in
    subst (λ (x : Term). x.col < n) read here.known

turned_terms-append : (negate : Bool) (xs ys : List Term) → terms_under_sign negate (xs ++ ys) ≡ terms_under_sign negate xs ++ terms_under_sign negate ys
turned_terms-append true [] ys = refl
turned_terms-append true (x ∷ xs) ys = ap (λ rest. negated_term x ∷ rest) (turned_terms-append true xs ys)
turned_terms-append false xs ys = refl

turned_one : (negate : Bool) (col : ℕ) (z : ℤ) → terms_under_sign negate (record { col = col; coef = z } ∷ []) ≡ record { col = col; coef = if negate then neg_ℤ z else z } ∷ []
turned_one true col z = refl
turned_one false col z = refl

-- one more term of those that are held down, or negated
pub turned_more : (negate : Bool) (k : ℕ) (terms : List Coefficient) (i : ℕ) (t : Coefficient) → i < length terms → t ≡ get_or terms i t
    → terms_under_sign negate (held_terms k (exact (take (i + 1) terms))) ≡ terms_under_sign negate (held_terms k (exact (take i terms))) ++ record { col = t.col; coef = if negate then neg_ℤ (held_whole k t.value) else held_whole k t.value } ∷ []
turned_more negate k terms i t within read =
    ap (λ ts. terms_under_sign negate (held_terms k (exact ts))) (take_more terms i t within ∙ ap (λ x. take i terms ++ x ∷ []) (sym read))
    ∙ ap (λ ts. terms_under_sign negate (held_terms k ts)) (exact-append (take i terms) (t ∷ []))
    ∙ ap (terms_under_sign negate) (held_terms-append k (exact (take i terms)) (exact (t ∷ [])))
    ∙ turned_terms-append negate (held_terms k (exact (take i terms))) (held_terms k (exact (t ∷ [])))
    ∙ ap (λ ts. terms_under_sign negate (held_terms k (exact (take i terms))) ++ ts) (turned_one negate t.col (held_whole k t.value))
