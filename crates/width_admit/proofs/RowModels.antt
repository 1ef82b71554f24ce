use Rattle.std.proofs.Common.{◌≡◌, ◌∙◌, ◌⊎◌, inl, inr, ℕ, zero, suc, ◌+◌, ◌-◌, ◌%◌, ◌^◌, ◌≤◌, ◌==◌, Bool, true, false, ◌||◌, ◌&&◌, List, [], ◌∷◌, ◌++◌, length, map, ℤ, pos, neg_ℤ, ◌*ℤ◌, unsigned_abs, All, Option, Some, None, cond, option_to_list, refl, sym, ap, subst, arith}
use Rattle.std.specs.List.{list_any, list_all}
use Rattle.std.specs.List.Sorted.{IsStrictlyIncreasing}
use Rattle.std.proofs.lemmas.Int.{ints}
use Rattle.std.proofs.lemmas.Bool.{ltb-false, or_parts, and_parts, cases_Bool}
use Rattle.std.proofs.lemmas.List.Folds.{list_all-append}
use Rattle.std.proofs.lemmas.List.Elements.{All-append, All-cons}
use Rattle.std.proofs.Math.Nat.{mod-one}
use Rattle.ip_core.specs.Sides.{Sides}
use Rattle.ip_core.specs.Rows.{IsTerm, IsRow, row_width}
use Rattle.ip_core.specs.declared.row.Row.{Row}
use Rattle.ip_core.specs.declared.row.Term.{Term}
use Rattle.ip_core.specs.declared.limits.TheConstants.{MAX_WIDTH}
use Rattle.width_admit.specs.Gathered.{IsColumn}
use Rattle.mps_model.specs.declared.model.MpsCol.{MpsCol}
use Rattle.mps_model.specs.declared.model.MpsRow.{MpsRow}
use Rattle.width_admit.specs.Exact.{is_whole, whole, are_whole, least_from, exponent_of}
use Rattle.width_admit.specs.ExactRows.{ExactRow, exact_row, row_exponent, negated_term, negated_terms, whole_term, whole_terms, whole_side, rows_of, admitted_rows, rows_from, is_too_wide}
use Rattle.width_admit.specs.Admission.{first_from}
use Rattle.width_admit.specs.Held.{held_rows, held_rows_from}
use Rattle.width_admit.proofs.Quotients.{quotient_times}
use Rattle.width_admit.proofs.Decimals.{ten_pow_pos, times_of_whole}
use Rattle.width_admit.proofs.SideNumbers.{listed}
use Rattle.width_admit.proofs.Gathering.{grouped}
use Rattle.width_admit.proofs.Coefficients.{numbers}
use Rattle.width_admit.proofs.Firsts.{none_cons}
use Rattle.width_admit.proofs.HeldRows.{wide_row, narrow_rows}
use Rattle.width_admit.proofs.RowShapes.{exact_known, exact_columns}

-- the rows of at least of a file's rows none of which is too wide are rows of a model

-- ---- at its exponent a row is whole

whole_at_18 : (zs : List ℤ) → are_whole zs 18 ≡ true
whole_at_18 [] = refl
whole_at_18 (z ∷ zs) =
    let one : (unsigned_abs z % 10 ^ (18 - 18) == 0) ≡ true = grind (arith, mod-one) in
    rw (one, whole_at_18 zs) refl

by_start : (zs : List ℤ) (n start : ℕ) → are_whole zs (least_from n (are_whole zs) (start + 1)) ≡ true → (are_whole zs start ≡ true) ⊎ (are_whole zs start ≡ false) → are_whole zs (least_from (suc n) (are_whole zs) start) ≡ true
by_start zs n start later (inl here) = ap (λ (b : Bool). are_whole zs (cond b start (least_from n (are_whole zs) (start + 1)))) here ∙ here
by_start zs n start later (inr other) = ap (λ (b : Bool). are_whole zs (cond b start (least_from n (are_whole zs) (start + 1)))) other ∙ later

found_whole : (zs : List ℤ) (n start : ℕ) → start + n ≡ 18 → are_whole zs (least_from n (are_whole zs) start) ≡ true
found_whole zs zero start end = let last : start ≡ 18 = omega (arith, end) in ap (are_whole zs) last ∙ whole_at_18 zs
found_whole zs (suc n) start end = by_start zs n start (found_whole zs n (start + 1) (omega (arith, end))) (cases_Bool (are_whole zs start))

pub exponent_whole : (zs : List ℤ) → are_whole zs (exponent_of zs) ≡ true
exponent_whole zs = found_whole zs 18 0 refl

row_parts_whole : (r : ExactRow) → (are_whole (numbers r.terms) (row_exponent r) && are_whole (listed r.sides) (row_exponent r)) ≡ true
row_parts_whole r =
    sym (list_all-append (is_whole (row_exponent r)) (numbers r.terms) (listed r.sides))
    ∙ ap (list_all (is_whole (row_exponent r))) (sym (grouped (numbers r.terms) (option_to_list r.sides.lower) (option_to_list r.sides.upper)))
    ∙ exponent_whole (numbers r.terms ++ option_to_list r.sides.lower ++ option_to_list r.sides.upper)

pub row_sides_whole : (r : ExactRow) → are_whole (listed r.sides) (row_exponent r) ≡ true
row_sides_whole r = (and_parts (are_whole (numbers r.terms) (row_exponent r)) _ (row_parts_whole r)).1

pub row_terms_whole : (r : ExactRow) → are_whole (numbers r.terms) (row_exponent r) ≡ true
row_terms_whole r = (and_parts (are_whole (numbers r.terms) (row_exponent r)) _ (row_parts_whole r)).0

-- ---- terms in whole numbers

nonzero_whole : (k : ℕ) (z : ℤ) → is_whole k z ≡ true → (z ≡ pos 0 → ⊥) → whole k z ≡ pos 0 → ⊥
nonzero_whole k z h some none =
    let back = quotient_times z (10 ^ (18 - k)) (ten_pow_pos (18 - k)) (times_of_whole k z h) in
    some (sym back ∙ ap (λ y. y *ℤ pos (10 ^ (18 - k))) none ∙ omega (arith, ints))

whole_known : (n k : ℕ) (ts : List Term) → are_whole (numbers ts) k ≡ true → All (IsTerm n) ts → All (IsTerm n) (whole_terms k ts)
whole_known n k [] h valid = λ j d within. absurd (omega (arith, within))
whole_known n k (t ∷ ts) h valid =
    let parts = and_parts (is_whole k t.coef) (are_whole (numbers ts) k) h in
    let first = valid 0 t (omega arith) in
    All-cons (IsTerm n) (whole_term k t) (whole_terms k ts) (record { known = first.known; nonzero = nonzero_whole k t.coef parts.0 first.nonzero })
    (whole_known n k ts parts.1 (λ j d within. valid (suc j) d (omega (arith, within))))

negated_known : (n : ℕ) (ts : List Term) → All (IsTerm n) ts → All (IsTerm n) (negated_terms ts)
negated_known n [] valid = λ j d within. absurd (omega (arith, within))
negated_known n (t ∷ ts) valid =
    let first = valid 0 t (omega arith) in
    let some = first.nonzero in
    All-cons (IsTerm n) (negated_term t) (negated_terms ts) (record { known = first.known; nonzero = λ none. some (omega (arith, ints, none)) })
    (negated_known n ts (λ j d within. valid (suc j) d (omega (arith, within))))

abbrev columns : List Term → List ℕ
columns ts = map (λ (t : Term). t.col) ts

whole_columns : (k : ℕ) (ts : List Term) → columns (whole_terms k ts) ≡ columns ts
whole_columns k [] = refl
whole_columns k (t ∷ ts) = ap (λ rest. t.col ∷ rest) (whole_columns k ts)

negated_columns : (ts : List Term) → columns (negated_terms ts) ≡ columns ts
negated_columns [] = refl
negated_columns (t ∷ ts) = ap (λ rest. t.col ∷ rest) (negated_columns ts)

-- ---- rows

one_row : (n : ℕ) (box : Sides) (ts : List Term) (least : ℤ) → All (IsTerm n) ts → IsStrictlyIncreasing (columns ts) → wide_row box (record { terms = ts; least = least }) ≡ false → IsRow n box (record { terms = ts; least = least })
one_row n box ts least known rising narrow = record { terms = record { each = known }; rising = rising; narrow = ltb-false MAX_WIDTH (row_width box (record { terms = ts; least = least })) narrow }

negated_row : (n : ℕ) (box : Sides) (ts : List Term) (most : ℤ) → All (IsTerm n) ts → IsStrictlyIncreasing (columns ts) → wide_row box (record { terms = negated_terms ts; least = neg_ℤ most }) ≡ false → IsRow n box (record { terms = negated_terms ts; least = neg_ℤ most })
negated_row n box ts most known rising narrow =
    one_row n box (negated_terms ts) (neg_ℤ most) (negated_known n ts known) (subst IsStrictlyIncreasing (sym (negated_columns ts)) rising) narrow

no_rows : (P : Row → Type 0) → All P []
no_rows P = λ k d within. absurd (omega (arith, within))

rows_are : (n : ℕ) (box : Sides) (ts : List Term) (lower upper : Option ℤ) → All (IsTerm n) ts → IsStrictlyIncreasing (columns ts) → list_any (wide_row box) (rows_of ts (record { lower = lower; upper = upper })) ≡ false
    → All (IsRow n box) (rows_of ts (record { lower = lower; upper = upper }))
rows_are n box ts None None known rising narrow = no_rows (IsRow n box)
rows_are n box ts (Some x) None known rising narrow =
    let parts = or_parts (wide_row box (record { terms = ts; least = x })) false narrow in
    All-cons (IsRow n box) (record { terms = ts; least = x }) [] (one_row n box ts x known rising parts.0) (no_rows (IsRow n box))
rows_are n box ts None (Some y) known rising narrow =
    let parts = or_parts (wide_row box (record { terms = negated_terms ts; least = neg_ℤ y })) false narrow in
    All-cons (IsRow n box) (record { terms = negated_terms ts; least = neg_ℤ y }) [] (negated_row n box ts y known rising parts.0) (no_rows (IsRow n box))
rows_are n box ts (Some x) (Some y) known rising narrow =
    let parts = or_parts (wide_row box (record { terms = ts; least = x })) (wide_row box (record { terms = negated_terms ts; least = neg_ℤ y }) || false) narrow in
    let second = or_parts (wide_row box (record { terms = negated_terms ts; least = neg_ℤ y })) false parts.1 in
    All-cons (IsRow n box) (record { terms = ts; least = x }) (record { terms = negated_terms ts; least = neg_ℤ y } ∷ []) (one_row n box ts x known rising parts.0) (All-cons (IsRow n box) (record { terms = negated_terms ts; least = neg_ℤ y }) [] (negated_row n box ts y known rising second.0) (no_rows (IsRow n box)))

row_is : (n rows i : ℕ) (box : Sides) (cols : List MpsCol) (row : MpsRow) → length cols ≤ n → All (IsColumn rows) cols → is_too_wide box (exact_row cols i row) ≡ false → All (IsRow n box) (admitted_rows (exact_row cols i row))
row_is n rows i box cols row few valid narrow =
    let r = exact_row cols i row in
    let k = row_exponent r in
    rows_are n box (whole_terms k r.terms) (whole_side k r.sides.lower) (whole_side k r.sides.upper)
    (whole_known n k r.terms (row_terms_whole r) (exact_known n rows i 0 cols (omega (arith, few)) valid))
    (subst IsStrictlyIncreasing (sym (whole_columns k r.terms)) (exact_columns rows i 0 cols valid))
    narrow

pub rows_are_rows : (n rows i : ℕ) (box : Sides) (cols : List MpsCol) (file_rows : List MpsRow) → length cols ≤ n → All (IsColumn rows) cols → first_from (λ j row. is_too_wide box (exact_row cols j row)) i file_rows ≡ None
    → All (IsRow n box) (rows_from cols i file_rows)
rows_are_rows n rows i box cols [] few valid narrow = no_rows (IsRow n box)
rows_are_rows n rows i box cols (row ∷ rest) few valid narrow =
    let parts = none_cons (λ j r. is_too_wide box (exact_row cols j r)) i row rest narrow in
    All-append (IsRow n box) (admitted_rows (exact_row cols i row)) (rows_from cols (i + 1) rest) (row_is n rows i box cols row few valid parts.0) (rows_are_rows n rows (i + 1) box cols rest few valid parts.1)

-- and held down they are the same
pub held_rows_are : (i : ℕ) (box : Sides) (cols : List MpsCol) (file_rows : List MpsRow) → first_from (λ j row. is_too_wide box (exact_row cols j row)) i file_rows ≡ None → held_rows_from cols i file_rows ≡ rows_from cols i file_rows
held_rows_are i box cols [] narrow = refl
held_rows_are i box cols (row ∷ rest) narrow =
    let parts = none_cons (λ j r. is_too_wide box (exact_row cols j r)) i row rest narrow in
    let r = exact_row cols i row in
    let here : held_rows (row_exponent r) r.terms row ≡ admitted_rows r = narrow_rows box (row_exponent r) r.terms row refl (row_sides_whole r) parts.0 in
    rw (here, held_rows_are (i + 1) box cols rest parts.1) refl
