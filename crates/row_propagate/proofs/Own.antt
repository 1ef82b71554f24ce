use Rattle.std.proofs.Common.{◌≡◌, ◌≢◌, ◌∙◌, ℕ, zero, suc, ◌+◌, ◌<◌, ◌==◌, Bool, true, false, cond, List, [], ◌∷◌, length, get_or, map, ℤ, pos, ◌+ℤ◌, ◌-ℤ◌, eq-eqb, ne_eqb, refl, sym, ap, arith, add-one}
use Rattle.std.specs.List.Sorted.{IsStrictlyIncreasing}
use Rattle.std.proofs.lemmas.Int.{ints}
use Rattle.std.proofs.lemmas.List.{get_or-map, length-map}
use Rattle.ip_core.specs.Numbers.{int_at, int_sum_by}
use Rattle.ip_core.specs.Sides.{Sides}
use Rattle.ip_core.specs.Boxes.{greatest_activity, greatest_part}
use Rattle.ip_core.specs.Rows.{coefficient}
use Rattle.ip_core.specs.declared.row.Row.{Row}
use Rattle.ip_core.specs.declared.row.Term.{Term}
use Rattle.row_propagate.specs.Rounding.{other_part, others_activity, remainder}
use Rattle.row_propagate.specs.Quiet.{room_of}

-- a number of a rising list is below all that come after it
after_first : (x : ℕ) (xs : List ℕ) → IsStrictlyIncreasing (x ∷ xs) → (k : ℕ) → k < length xs → x < get_or xs k 0
after_first x xs rising zero known = rising 0 (omega (arith, known))
after_first x xs rising (suc k) known =
    let next : get_or (x ∷ xs) (suc k) 0 < get_or (x ∷ xs) (suc k + 1) 0 = rising (suc k) (omega (arith, known)) in
    let there : get_or xs k 0 < get_or xs (suc k) 0 = rw add-one at next in
    omega (arith, there, after_first x xs rising k (omega (arith, known)))

rising_tail : (x : ℕ) (xs : List ℕ) → IsStrictlyIncreasing (x ∷ xs) → IsStrictlyIncreasing xs
rising_tail x xs rising k known =
    let next : get_or (x ∷ xs) (suc k) 0 < get_or (x ∷ xs) (suc k + 1) 0 = rising (suc k) (omega (arith, known)) in
    let there : get_or xs k 0 < get_or xs (suc k) 0 = rw add-one at next in
    rw add-one there

abbrev columns_of_terms : List Term → List ℕ
columns_of_terms terms = map (λ (t : Term). t.col) terms

later_col : (t : Term) (terms : List Term) (k : ℕ) (d : Term) → IsStrictlyIncreasing (columns_of_terms (t ∷ terms)) → k < length terms → t.col < (get_or terms k d).col
later_col t terms k d rising known =
    let below : t.col < get_or (columns_of_terms terms) k 0 = after_first t.col (columns_of_terms terms) rising k (rw length-map known) in
    let same : get_or (columns_of_terms terms) k 0 ≡ (get_or terms k d).col = get_or-map (λ (t : Term). t.col) terms k d 0 known in
    omega (arith, below, same)

-- the sum over the terms at a column of what `f` gives
abbrev own_sum : (Term → ℤ) → ℕ → List Term → ℤ
own_sum f col terms = int_sum_by (λ (t : Term). cond (t.col == col) (f t) (pos 0)) terms

skip_one : (b : Bool) (a rest total : ℤ) → b ≡ false → rest ≡ total → cond b a (pos 0) +ℤ rest ≡ total
skip_one true a rest total same more = cc
skip_one false a rest total same more = omega (arith, ints, more)

take_one : (b : Bool) (a rest : ℤ) → b ≡ true → rest ≡ pos 0 → cond b a (pos 0) +ℤ rest ≡ a
take_one true a rest same none = omega (arith, ints, none)
take_one false a rest same none = cc

own_sum_none : (f : Term → ℤ) (col : ℕ) (terms : List Term) → ((k : ℕ) (d : Term) → k < length terms → (get_or terms k d).col ≢ col) → own_sum f col terms ≡ pos 0
own_sum_none f col [] apart = refl
own_sum_none f col (t ∷ terms) apart =
    skip_one (t.col == col) (f t) (own_sum f col terms) (pos 0) (ne_eqb t.col col (apart 0 t (omega arith))) (own_sum_none f col terms (λ k d known. apart (suc k) d (omega (arith, known))))

-- where columns rise, a term is the only one at its column
own_sum_one : (f : Term → ℤ) (terms : List Term) (i : ℕ) (d : Term) → IsStrictlyIncreasing (columns_of_terms terms) → i < length terms → own_sum f (get_or terms i d).col terms ≡ f (get_or terms i d)
own_sum_one f [] i d rising known = absurd (omega (arith, known))
own_sum_one f (t ∷ terms) zero d rising known =
    take_one (t.col == t.col) (f t) (own_sum f t.col terms) (eq-eqb t.col t.col refl) (own_sum_none f t.col terms (λ k e within same. omega (arith, same, later_col t terms k e rising within)))
own_sum_one f (t ∷ terms) (suc i) d rising known =
    skip_one (t.col == (get_or terms i d).col) (f t) (own_sum f (get_or terms i d).col terms) (f (get_or terms i d)) (ne_eqb t.col (get_or terms i d).col (λ same. omega (arith, same, later_col t terms i d rising (omega (arith, known)))))
    (own_sum_one f terms i d (rising_tail t.col (columns_of_terms terms) rising) (omega (arith, known)))

share_cases : (b : Bool) (part rest others own : ℤ) → rest ≡ others +ℤ own → part +ℤ rest ≡ (cond b (pos 0) part +ℤ others) +ℤ (cond b part (pos 0) +ℤ own)
share_cases true part rest others own same = omega (arith, ints, same)
share_cases false part rest others own same = omega (arith, ints, same)

-- an activity is what the other columns give and what this column gives
all_shared : (s : Sides) (col : ℕ) (terms : List Term) → greatest_activity s terms ≡ others_activity s terms col +ℤ own_sum (λ t. greatest_part s t) col terms
all_shared s col [] = omega (arith, ints)
all_shared s col (t ∷ terms) = share_cases (t.col == col) (greatest_part s t) (greatest_activity s terms) (others_activity s terms col) (own_sum (λ t. greatest_part s t) col terms) (all_shared s col terms)

-- what a row leaves to the column of one of its terms
pub remainder_at : (s : Sides) (row : Row) (i : ℕ) (d : Term) → IsStrictlyIncreasing (map (λ t. t.col) row.terms) → i < length row.terms → remainder s row (get_or row.terms i d).col ≡ greatest_part s (get_or row.terms i d) -ℤ room_of s row
remainder_at s row i d rising known =
    let t = get_or row.terms i d in
    omega (arith, ints, all_shared s t.col row.terms, own_sum_one (λ u. greatest_part s u) row.terms i d rising known)

-- and the column's coefficient
pub coefficient_at : (row : Row) (i : ℕ) (d : Term) → IsStrictlyIncreasing (map (λ t. t.col) row.terms) → i < length row.terms → coefficient (get_or row.terms i d).col row.terms ≡ (get_or row.terms i d).coef
coefficient_at row i d rising known = own_sum_one (λ u. u.coef) row.terms i d rising known
