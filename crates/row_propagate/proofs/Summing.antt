use Rattle.std.proofs.Common.{◌≡◌, ◌≢◌, ◌∙◌, ℕ, ◌+◌, ◌<◌, ◌≤◌, ◌⊎◌, inl, inr, List, [], ◌∷◌, ◌++◌, length, get_or, take, set, ℤ, pos, ◌+ℤ◌, ◌-ℤ◌, refl, sym, ap, subst, arith, append_assoc, length-append, length-set}
use Rattle.std.proofs.Math.Seq.{get_or-append_seam}
use Rattle.std.proofs.lemmas.Bool.{cases_lt}
use Rattle.std.proofs.lemmas.Int.{ints}
use Rattle.std.proofs.lemmas.List.{append-nil, take_more, get_or_append_left, get_or-set_same, get_or-set_other}
use Rattle.ip_core.specs.Numbers.{int_at, int_sum_by}
use Rattle.ip_core.specs.Sides.{Sides}
use Rattle.ip_core.specs.Boxes.{greatest_activity}
use Rattle.ip_core.specs.declared.row.Row.{Row}
use Rattle.ip_core.specs.declared.row.Term.{Term}
use Rattle.ip_core.proofs.IntSums.{int_sum_by-append}
use Rattle.row_propagate.specs.Kept.{coefs_at, greatest_product, moved_by, AreSums}
use Rattle.row_propagate.proofs.Stepping.{at_or_apart}
use Rattle.row_propagate.proofs.Transposing.{coefs_at-more, one_at, none_at}

-- no sums of no rows
pub sums_none : (s : Sides) (sums : List ℤ) → sums ≡ [] → AreSums [] s sums
sums_none s sums none = record { one_each = ap length none; each = λ k other known. absurd (omega (arith, known)) }

sum_cases : (rows : List Row) (row : Row) (s : Sides) (sums : List ℤ) (v : ℤ) (k : ℕ) (other : Row) → v ≡ greatest_activity s row.terms → AreSums rows s sums → k < length rows + 1 → (k < length rows) ⊎ (length rows ≤ k) → int_at (sums ++ v ∷ []) k ≡ greatest_activity s (get_or (rows ++ row ∷ []) k other).terms
sum_cases rows row s sums v k other value kept known (inl below) =
    get_or_append_left sums (v ∷ []) (pos 0) k (omega (arith, below, kept.one_each)) ∙ kept.each k other below ∙ ap (λ (r : Row). greatest_activity s r.terms) (sym (get_or_append_left rows (row ∷ []) other k below))
sum_cases rows row s sums v k other value kept known (inr above) =
    let here : k ≡ length sums = omega (arith, known, above, kept.one_each) in
    let there : k ≡ length rows = omega (arith, known, above) in
    ap (λ i. get_or (sums ++ v ∷ []) i (pos 0)) here ∙ get_or-append_seam sums v [] (pos 0) ∙ value
    ∙ ap (λ (r : Row). greatest_activity s r.terms) (sym (ap (λ i. get_or (rows ++ row ∷ []) i other) there ∙ get_or-append_seam rows row [] other))

one_more : (rows : List Row) (row : Row) (s : Sides) (sums : List ℤ) (v : ℤ) → v ≡ greatest_activity s row.terms → AreSums rows s sums → AreSums (rows ++ row ∷ []) s (sums ++ v ∷ [])
one_more rows row s sums v value kept = record {
  one_each = length-append sums (v ∷ []) ∙ ap (λ n. n + 1) kept.one_each ∙ sym (length-append rows (row ∷ []));
  each = λ k other known.
      let within : k < length rows + 1 = omega (arith, known, length-append rows (row ∷ [])) in
      sum_cases rows row s sums v k other value kept within (cases_lt k (length rows));
}

-- the sum of one more of some rows that follow others
pub sums_more : (before rows : List Row) (i : ℕ) (row : Row) (s : Sides) (sums new : List ℤ) (v : ℤ) → i < length rows → row ≡ get_or rows i row → v ≡ greatest_activity s row.terms → new ≡ sums ++ v ∷ [] → AreSums (before ++ take i rows) s sums → AreSums (before ++ take (i + 1) rows) s new
sums_more before rows i row s sums new v within read value same kept =
    let whole : (before ++ take i rows) ++ row ∷ [] ≡ before ++ take (i + 1) rows = append_assoc before (take i rows) (row ∷ []) ∙ ap (λ rs. before ++ rs) (ap (λ r. take i rows ++ r ∷ []) read ∙ sym (take_more rows i row within)) in
    subst (AreSums (before ++ take (i + 1) rows) s) (sym same) (subst (λ rs. AreSums rs s (sums ++ v ∷ [])) whole (one_more (before ++ take i rows) row s sums v value kept))

-- before the first of them
pub sums_start : (before rows : List Row) (s : Sides) (sums : List ℤ) → AreSums before s sums → AreSums (before ++ take 0 rows) s sums
sums_start before rows s sums kept = subst (λ rs. AreSums rs s sums) (sym (append-nil before)) kept

more_moved : (low high new_low new_high : ℤ) (cs : List ℤ) (c : ℤ) → moved_by low high new_low new_high (cs ++ c ∷ []) ≡ moved_by low high new_low new_high cs +ℤ (greatest_product new_low new_high c -ℤ greatest_product low high c)
more_moved low high new_low new_high cs c =
    omega (arith, ints, int_sum_by-append (λ c. greatest_product new_low new_high c -ℤ greatest_product low high c) cs (c ∷ []))

-- one more entry of a column at its row
pub moved_here : (low high new_low new_high : ℤ) (column : List Term) (i k : ℕ) (d : Term) → i < length column → (get_or column i d).col ≡ k → moved_by low high new_low new_high (coefs_at k (take (i + 1) column)) ≡ moved_by low high new_low new_high (coefs_at k (take i column)) +ℤ (greatest_product new_low new_high (get_or column i d).coef -ℤ greatest_product low high (get_or column i d).coef)
moved_here low high new_low new_high column i k d within at =
    ap (moved_by low high new_low new_high) (coefs_at-more k column i d within ∙ ap (λ cs. coefs_at k (take i column) ++ cs) (one_at k (get_or column i d) at))
    ∙ more_moved low high new_low new_high (coefs_at k (take i column)) (get_or column i d).coef

-- and at another
pub moved_elsewhere : (low high new_low new_high : ℤ) (column : List Term) (i k : ℕ) (d : Term) → i < length column → (get_or column i d).col ≢ k → moved_by low high new_low new_high (coefs_at k (take (i + 1) column)) ≡ moved_by low high new_low new_high (coefs_at k (take i column))
moved_elsewhere low high new_low new_high column i k d within apart =
    ap (moved_by low high new_low new_high) (coefs_at-more k column i d within ∙ ap (λ cs. coefs_at k (take i column) ++ cs) (none_at k (get_or column i d) apart) ∙ append-nil (coefs_at k (take i column)))

add_on : (a b c d : ℤ) → a ≡ b +ℤ c → a +ℤ d ≡ b +ℤ (c +ℤ d)
add_on a b c d same = omega (arith, ints, same)

-- the sum that an entry is added to
pub next_sum : (low high new_low new_high : ℤ) (column : List Term) (i : ℕ) (d : Term) (old cur change : ℤ) → i < length column → cur ≡ old +ℤ moved_by low high new_low new_high (coefs_at (get_or column i d).col (take i column)) → change ≡ greatest_product new_low new_high (get_or column i d).coef -ℤ greatest_product low high (get_or column i d).coef → cur +ℤ change ≡ old +ℤ moved_by low high new_low new_high (coefs_at (get_or column i d).col (take (i + 1) column))
next_sum low high new_low new_high column i d old cur change within so_far value =
    ap (λ z. cur +ℤ z) value ∙ add_on cur old _ _ so_far ∙ ap (λ z. old +ℤ z) (sym (moved_here low high new_low new_high column i (get_or column i d).col d within refl))

-- all sums after one more entry
pub sums_step : (low high new_low new_high : ℤ) (column : List Term) (i : ℕ) (d : Term) (old cur new : List ℤ) (change : ℤ) → i < length column → (get_or column i d).col < length cur → length cur ≡ length old → ((k : ℕ) → k < length old → int_at cur k ≡ int_at old k +ℤ moved_by low high new_low new_high (coefs_at k (take i column))) → change ≡ greatest_product new_low new_high (get_or column i d).coef -ℤ greatest_product low high (get_or column i d).coef → new ≡ set cur (get_or column i d).col (int_at cur (get_or column i d).col +ℤ change) → (k : ℕ) → k < length old → int_at new k ≡ int_at old k +ℤ moved_by low high new_low new_high (coefs_at k (take (i + 1) column))
sums_step low high new_low new_high column i d old cur new change within known long so_far value same k there =
    let row = (get_or column i d).col in
    ap (λ xs. int_at xs k) same
    ∙ at_or_apart k row
    (λ at.
    ap (int_at (set cur row (int_at cur row +ℤ change))) at ∙ get_or-set_same cur row (int_at cur row +ℤ change) (pos 0) known
    ∙ next_sum low high new_low new_high column i d (int_at old row) (int_at cur row) change within (so_far row (omega (arith, known, long))) value
    ∙ ap (λ j. int_at old j +ℤ moved_by low high new_low new_high (coefs_at j (take (i + 1) column))) (sym at))
    (λ apart.
    get_or-set_other cur row k (int_at cur row +ℤ change) (pos 0) apart ∙ so_far k there
    ∙ ap (λ z. int_at old k +ℤ z) (sym (moved_elsewhere low high new_low new_high column i k d within (λ at. apart (sym at)))))
