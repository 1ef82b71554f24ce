-- Chosen columns with their coefficients.
use Rattle.std.proofs.Common.{◌≡◌, ◌∙◌, ℕ, ◌+◌, ◌*◌, ◌<◌, ◌≤◌, ◌^◌, Bool, true, false, cond, nat_le, List, [], ◌∷◌, length, get_or, drop, map, ℤ, pos, negsuc, ◌-ℤ◌, ◌≤ℤ◌, ◌<ℤ◌, max, int_lt, unsigned_abs, sum_by, All, Option, Some, None, Result, Ok, Err, refl, sym, ap, ap₂, subst, arith}
use Rattle.std.proofs.lemmas.Int.{ints}
use Rattle.std.proofs.lemmas.Bool.{and_parts, leb-true, cond-true, cond-false}
use Rattle.std.proofs.lemmas.List.{drop_more, length-map}
use Rattle.std.proofs.lemmas.List.Elements.{All-nil, All-cons, All-head, All-tail}
use Rattle.std.proofs.lemmas.List.Sums.{sum_by-cons}
use Rattle.ip_core.specs.Sides.{Sides}
use Rattle.ip_core.specs.Rows.{IsRow, coefficient, term_width, row_width}
use Rattle.ip_core.specs.Numbers.{int_at}
use Rattle.ip_core.specs.declared.limits.TheConstants.{MAX_WIDTH}
use Rattle.ip_core.specs.declared.row.Row.{Row}
use Rattle.ip_core.specs.declared.row.Term.{Term}
use Rattle.std.proofs.lemmas.Bool.Decides.{nat_tests}
use Rattle.leaf_truth.proofs.TestResults.{int_lt-from}
use Rattle.cut_derive.specs.Gomory.{is_count}
use Rattle.cut_derive.specs.Premises.{AreNarrowTerms}
use Rattle.cut_derive.specs.Derivations.{cover_unless}
use Rattle.cut_derive.specs.declared.limits.TheConstants.{MAX_CUT_TERMS}
use Rattle.cut_derive.specs.declared.refusal.Refusal.{Refusal}
use Rattle.cut_derive.specs.declared.refusal.Refusal.TheVariants.{NotBinary, NotCover}
use Rattle.cut_derive.proofs.Covering.{IsChosen, all_chosen}
use Rattle.cut_derive.proofs.Summing.{row_coefficient}
use Rattle.cut_derive.proofs.Gomorying.{given_row}
use Rattle.cut_derive.specs.Chosen.{chosen_term, chosen_terms, is_fit, unfit_column, weight_of, signs_of, negatives_of}
use Rattle.cut_derive.specs.Covers.{cover_term, negative_one, cover_row, first_unfit, is_choice, chosen_weight, is_cover, slack, are_columns, rise_from}

-- the first of chosen columns that isn't fit, from one on
pub unfit_first : (s : Sides) (chosen : List Term) (i : ℕ) (d : Term) → i < length chosen → unfit_column s (drop i chosen) ≡ cond (is_fit s (get_or chosen i d)) (unfit_column s (drop (i + 1) chosen)) (Some (get_or chosen i d).col)
unfit_first s chosen i d known = ap (unfit_column s) (drop_more chosen i d known)

-- with their coefficients chosen columns say the same as by their row
pub unfit_same : (s : Sides) (row : Row) (cols : List ℕ) → unfit_column s (chosen_terms row.terms cols) ≡ first_unfit s row cols
unfit_same s row [] = refl
unfit_same s row (c ∷ cols) = ap (λ (o : Option ℕ). cond (is_choice s row c) o (Some c)) (unfit_same s row cols)

pub weight_same : (row : Row) (cols : List ℕ) → weight_of (chosen_terms row.terms cols) ≡ chosen_weight row cols
weight_same row [] = refl
weight_same row (c ∷ cols) = rw (sum_by-cons, sum_by-cons) (ap (λ (n : ℕ). unsigned_abs (coefficient c row.terms) + n) (weight_same row cols))

pub signs_same : (row : Row) (cols : List ℕ) → signs_of (chosen_terms row.terms cols) ≡ map (cover_term row) cols
signs_same row [] = refl
signs_same row (c ∷ cols) = ap (λ (ts : List Term). cover_term row c ∷ ts) (signs_same row cols)

pub negatives_same : (row : Row) (cols : List ℕ) → negatives_of (chosen_terms row.terms cols) ≡ sum_by (negative_one row) cols
negatives_same row [] = refl
negatives_same row (c ∷ cols) = rw (sum_by-cons, sum_by-cons) (ap (λ (n : ℕ). negative_one row c + n) (negatives_same row cols))

narrow_chosen : (terms : List Term) (cols : List ℕ) → ((j : ℕ) → unsigned_abs (coefficient j terms) ≤ 2 ^ 50) → All (λ (t : Term). unsigned_abs t.coef ≤ MAX_WIDTH) (chosen_terms terms cols)
narrow_chosen terms [] narrow = All-nil (λ (t : Term). unsigned_abs t.coef ≤ MAX_WIDTH)
narrow_chosen terms (c ∷ cols) narrow = All-cons (λ (t : Term). unsigned_abs t.coef ≤ MAX_WIDTH) (chosen_term terms c) (chosen_terms terms cols) (narrow c) (narrow_chosen terms cols narrow)

-- the coefficients of a row of a model are narrow
pub chosen_narrow : (n : ℕ) (s : Sides) (row : Row) (cols : List ℕ) (chosen : List Term) → IsRow n s row → chosen ≡ chosen_terms row.terms cols → AreNarrowTerms chosen
chosen_narrow n s row cols chosen valid same = rw same (record { each = narrow_chosen row.terms cols (λ j. row_coefficient n s j row valid) })

-- and so are few columns
pub few_columns : (cols : List ℕ) → are_columns cols ≡ true → length cols ≤ 256
few_columns cols test =
    let count = and_parts (is_count (length cols)) (rise_from 0 cols) test in
    leb-true (length cols) 256 (and_parts (nat_le 1 (length cols)) (nat_le (length cols) 256) count.0).1

pub rise_columns : (cols : List ℕ) → are_columns cols ≡ true → rise_from 0 cols ≡ true
rise_columns cols test = (and_parts (is_count (length cols)) (rise_from 0 cols) test).1

pub few_chosen : (terms : List Term) (cols : List ℕ) (chosen : List Term) → are_columns cols ≡ true → chosen ≡ chosen_terms terms cols → length chosen ≤ 256
few_chosen terms cols chosen test same = rw (same, length-map) (few_columns cols test)

first_is : (s : Sides) (row : Row) (cols : List ℕ) (chosen : List Term) (o : Option ℕ) → chosen ≡ chosen_terms row.terms cols → o ≡ unfit_column s chosen → first_unfit s row cols ≡ o
first_is s row cols chosen o same found = sym (found ∙ ap (unfit_column s) same ∙ unfit_same s row cols)

-- the answers of a cover: a column is unfit
pub cover_unfit : (s : Sides) (row : Row) (cols : List ℕ) (chosen : List Term) (o : Option ℕ) (col : ℕ) → chosen ≡ chosen_terms row.terms cols → o ≡ unfit_column s chosen → o ≡ Some col → Err (NotBinary col) ≡ cover_unless s row cols (first_unfit s row cols)
cover_unfit s row cols chosen o col same found is = sym (ap (cover_unless s row cols) (first_is s row cols chosen o same found ∙ is))

int_lt-false : (a b : ℤ) → b ≤ℤ a → int_lt a b ≡ false
int_lt-false a b le = first_of (grind (arith, ints, le), grind (arith, ints, nat_tests, le))

-- the columns aren't enough
pub cover_light : (s : Sides) (row : Row) (cols : List ℕ) (chosen : List Term) (o : Option ℕ) (w : ℕ) → chosen ≡ chosen_terms row.terms cols → o ≡ unfit_column s chosen → o ≡ None → w ≡ weight_of chosen → pos w ≤ℤ slack s row → Err NotCover ≡ cover_unless s row cols (first_unfit s row cols)
cover_light s row cols chosen o w same found is weighs light =
    let whole : w ≡ chosen_weight row cols = weighs ∙ ap weight_of same ∙ weight_same row cols in
    let test : is_cover s row cols ≡ false = int_lt-false (slack s row) (pos (chosen_weight row cols)) (subst (λ (k : ℕ). pos k ≤ℤ slack s row) whole light) in
    sym (ap (cover_unless s row cols) (first_is s row cols chosen o same found ∙ is) ∙ cond-false (is_cover s row cols) _ (Err NotCover) test)

sign_one : (b : Bool) → unsigned_abs (cond b (pos 1) (negsuc 0)) ≡ 1
sign_one true = refl
sign_one false = refl

one_reach : (low high : ℤ) → low ≡ pos 0 → high ≡ pos 1 → max (max (unsigned_abs low) (unsigned_abs high)) 1 ≡ 1
one_reach low high first second = rw (first, second) refl

one_width : (n : ℕ) (s : Sides) (row : Row) (c : ℕ) → IsChosen n s row c → term_width s (cover_term row c) ≡ 1
one_width n s row c chosen = ap₂ (λ (x y : ℕ). x * y) (sign_one (int_lt (pos 0) (coefficient c row.terms))) (one_reach (int_at s.lows c) (int_at s.highs c) chosen.low chosen.high)

cover_widths : (n : ℕ) (s : Sides) (row : Row) (cols : List ℕ) → All (IsChosen n s row) cols → sum_by (term_width s) (map (cover_term row) cols) ≡ length cols
cover_widths n s row [] chosen = refl
cover_widths n s row (c ∷ cols) chosen =
    rw sum_by-cons (ap₂ (λ (x y : ℕ). x + y) (one_width n s row c (All-head (IsChosen n s row) c cols chosen)) (cover_widths n s row cols (All-tail (IsChosen n s row) c cols chosen)) ∙ omega arith)

one_or_nothing : (b : Bool) → cond b 1 0 ≤ 1
one_or_nothing true = omega arith
one_or_nothing false = omega arith

negatives_few : (row : Row) (cols : List ℕ) → sum_by (negative_one row) cols ≤ length cols
negatives_few row [] = omega arith
negatives_few row (c ∷ cols) = rw sum_by-cons (omega (arith, one_or_nothing (int_lt (coefficient c row.terms) (pos 0)), negatives_few row cols))

-- a cover is neither wide nor long
cover_narrow : (n : ℕ) (s : Sides) (row : Row) (cols : List ℕ) → All (IsChosen n s row) cols → length cols ≤ 256 → row_width s (cover_row row cols) ≤ MAX_WIDTH
cover_narrow n s row cols chosen few = omega (arith, ints, cover_widths n s row cols chosen, negatives_few row cols, few)

abbrev answer : List Term → ℤ → Result Row Refusal
answer terms z = Ok (record { terms = terms; least = z })

row_parts : (terms us : List Term) (z b : ℤ) → terms ≡ us → z ≡ b → answer terms z ≡ answer us b
row_parts terms us z b first second = rw (first, second) refl

-- the columns are a cover
pub cover_made : (n : ℕ) (s : Sides) (row : Row) (cols : List ℕ) (chosen terms : List Term) (o : Option ℕ) (w : ℕ) (least : ℤ) → IsRow n s row → are_columns cols ≡ true → chosen ≡ chosen_terms row.terms cols → o ≡ unfit_column s chosen → o ≡ None → w ≡ weight_of chosen → slack s row <ℤ pos w → terms ≡ signs_of chosen → least ≡ pos 1 -ℤ pos (negatives_of chosen) → Ok (record { terms = terms; least = least }) ≡ cover_unless s row cols (first_unfit s row cols)
cover_made n s row cols chosen terms o w least valid test same found is weighs heavy signs asks =
    let none = first_is s row cols chosen o same found ∙ is in
    let whole : w ≡ chosen_weight row cols = weighs ∙ ap weight_of same ∙ weight_same row cols in
    let cover : is_cover s row cols ≡ true = int_lt-from (slack s row) (pos (chosen_weight row cols)) (subst (λ (k : ℕ). slack s row <ℤ pos k) whole heavy) in
    let few = few_columns cols test in
    let narrow = cover_narrow n s row cols (all_chosen n s row cols valid.terms none) few in
    let short : length (cover_row row cols).terms ≤ MAX_CUT_TERMS = rw length-map few in
    row_parts terms (map (cover_term row) cols) least (pos 1 -ℤ pos (sum_by (negative_one row) cols)) (signs ∙ ap signs_of same ∙ signs_same row cols) (asks ∙ ap (λ (ts : List Term). pos 1 -ℤ pos (negatives_of ts)) same ∙ ap (λ (k : ℕ). pos 1 -ℤ pos k) (negatives_same row cols))
    ∙ given_row s (cover_row row cols) narrow short
    ∙ sym (ap (cover_unless s row cols) none ∙ cond-true (is_cover s row cols) _ (Err NotCover) cover)
