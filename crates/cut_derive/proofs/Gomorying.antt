-- The row of parts, from the sums by columns.
use Rattle.std.proofs.Common.{◌≡◌, ◌∙◌, ℕ, ◌+◌, ◌*◌, ◌^◌, ◌<◌, ◌≤◌, true, nat_le, List, length, ℤ, unsigned_abs, Result, Ok, Err, refl, sym, ap, ap₂, subst, arith, mul-le-mul_left}
use Rattle.std.proofs.lemmas.Bool.{cond-true, cond-false, le-leb, lt-leb}
use Rattle.ip_core.specs.Sides.{Sides}
use Rattle.ip_core.specs.Models.{IsModel}
use Rattle.ip_core.specs.Rows.{part_width, row_width}
use Rattle.ip_core.specs.declared.limits.TheConstants.{MAX_WIDTH}
use Rattle.ip_core.specs.declared.row.Term.{Term}
use Rattle.safe_bound.proofs.Shares.{part_within_sum}
use Rattle.safe_bound.specs.Premises.{AreCuts}
use Rattle.cut_derive.specs.Derivations.{unless_large, derived_gomory}
use Rattle.cut_derive.specs.declared.limits.TheConstants.{MAX_CUT_TERMS}
use Rattle.cut_derive.specs.declared.refusal.Refusal.{Refusal}
use Rattle.cut_derive.specs.declared.refusal.Refusal.TheVariants.{UnknownRow, BadNumbers, TooWide, TooLong}
use Rattle.cut_derive.proofs.Fronts.{width_below}
use Rattle.ip_core.specs.Numbers.{int_at, sum_below}
use Rattle.ip_core.specs.declared.model.ModelParts.{ModelParts}
use Rattle.ip_core.specs.declared.row.Row.{Row}
use Rattle.ip_core.specs.declared.leaf.Pair.{Pair}
use Rattle.cut_derive.specs.Gomory.{combined_coefficient, combined_least, rounded_coefficient, rounded_least, rounded_row, gomory_row, terms_below, are_known, are_weights}
use Rattle.cut_derive.specs.Premises.{AreSums, IsNarrowSum}
use Rattle.cut_derive.proofs.Summing.{narrow_sum, parts_of_tests}
use Rattle.cut_derive.proofs.Rounded.{rounded_row-same}

pub summed_row : (m : ModelParts) (cuts : List Row) (parts : List Pair) (coefs : List ℤ) (least : ℤ) (divisor : ℕ) → AreSums m cuts parts coefs → least ≡ combined_least m.rows cuts parts → rounded_row (length m.cols) m.root (int_at coefs) least divisor ≡ gomory_row m cuts parts divisor
summed_row m cuts parts coefs least divisor sums same =
    rounded_row-same (length m.cols) m.root (int_at coefs) (combined_coefficient m.rows cuts parts) least (combined_least m.rows cuts parts) divisor sums.each same

wide_row : (s : Sides) (row : Row) → MAX_WIDTH < row_width s row → Err TooWide ≡ unless_large s row
wide_row s row wide = sym (cond-false (nat_le (row_width s row) MAX_WIDTH) _ (Err TooWide) (lt-leb (row_width s row) MAX_WIDTH wide))

long_row : (s : Sides) (row : Row) → row_width s row ≤ MAX_WIDTH → MAX_CUT_TERMS < length row.terms → Err TooLong ≡ unless_large s row
long_row s row narrow long =
    sym (cond-true (nat_le (row_width s row) MAX_WIDTH) _ (Err TooWide) (le-leb (row_width s row) MAX_WIDTH narrow)
    ∙ cond-false (nat_le (length row.terms) MAX_CUT_TERMS) (Ok row) (Err TooLong) (lt-leb (length row.terms) MAX_CUT_TERMS long))

pub given_row : (s : Sides) (row : Row) → row_width s row ≤ MAX_WIDTH → length row.terms ≤ MAX_CUT_TERMS → Ok row ≡ unless_large s row
given_row s row narrow short =
    sym (cond-true (nat_le (row_width s row) MAX_WIDTH) _ (Err TooWide) (le-leb (row_width s row) MAX_WIDTH narrow)
    ∙ cond-true (nat_le (length row.terms) MAX_CUT_TERMS) (Ok row) (Err TooLong) (le-leb (length row.terms) MAX_CUT_TERMS short))

-- what the code holds of a rounded row: what it asks for, and its width
pub record IsHeld (s : Sides) (coefs : List ℤ) (least : ℤ) (divisor : ℕ) (b : ℤ) (w : ℕ) : Type 0 where
  pub columns : length coefs ≡ length s.lows
  pub value : b ≡ rounded_least (length s.lows) s (int_at coefs) least divisor
  pub width : w ≡ unsigned_abs b + sum_below (length s.lows) (λ j. part_width s (rounded_coefficient (int_at coefs) divisor j) j)

pub held_of : (s : Sides) (coefs : List ℤ) (least : ℤ) (divisor : ℕ) (b : ℤ) (w : ℕ) → length coefs ≡ length s.lows → b ≡ rounded_least (length s.lows) s (int_at coefs) least divisor → w ≡ unsigned_abs b + sum_below (length s.lows) (λ j. part_width s (rounded_coefficient (int_at coefs) divisor j) j) → IsHeld s coefs least divisor b w
held_of s coefs least divisor b w columns value width = record { columns = columns; value = value; width = width }

-- this is the row's width
width_is : (s : Sides) (coefs : List ℤ) (least : ℤ) (divisor : ℕ) (b : ℤ) (w : ℕ) → IsHeld s coefs least divisor b w → w ≡ row_width s (rounded_row (length s.lows) s (int_at coefs) least divisor)
width_is s coefs least divisor b w held =
    let n = length s.lows in
    let e = rounded_coefficient (int_at coefs) divisor in
    held.width
    ∙ ap₂ (λ (x y : ℕ). x + y) (ap unsigned_abs held.value) (sym (width_below s n e))

pub held_wide : (s : Sides) (coefs : List ℤ) (least : ℤ) (divisor : ℕ) (b : ℤ) (w : ℕ) → IsHeld s coefs least divisor b w → MAX_WIDTH < w → Err TooWide ≡ unless_large s (rounded_row (length s.lows) s (int_at coefs) least divisor)
held_wide s coefs least divisor b w held wide =
    wide_row s (rounded_row (length s.lows) s (int_at coefs) least divisor) (subst (λ (k : ℕ). MAX_WIDTH < k) (width_is s coefs least divisor b w held) wide)

held_terms : (s : Sides) (coefs : List ℤ) (least : ℤ) (divisor : ℕ) (b : ℤ) (w : ℕ) (terms : List Term) → IsHeld s coefs least divisor b w → terms ≡ terms_below (length coefs) (rounded_coefficient (int_at coefs) divisor) → terms ≡ terms_below (length s.lows) (rounded_coefficient (int_at coefs) divisor)
held_terms s coefs least divisor b w terms held same = same ∙ ap (λ (k : ℕ). terms_below k (rounded_coefficient (int_at coefs) divisor)) held.columns

pub held_long : (s : Sides) (coefs : List ℤ) (least : ℤ) (divisor : ℕ) (b : ℤ) (w : ℕ) (terms : List Term) → IsHeld s coefs least divisor b w → w ≤ MAX_WIDTH → terms ≡ terms_below (length coefs) (rounded_coefficient (int_at coefs) divisor) → MAX_CUT_TERMS < length terms → Err TooLong ≡ unless_large s (rounded_row (length s.lows) s (int_at coefs) least divisor)
held_long s coefs least divisor b w terms held narrow same long =
    long_row s (rounded_row (length s.lows) s (int_at coefs) least divisor) (subst (λ (k : ℕ). k ≤ MAX_WIDTH) (width_is s coefs least divisor b w held) narrow)
    (subst (λ (ts : List Term). MAX_CUT_TERMS < length ts) (held_terms s coefs least divisor b w terms held same) long)

abbrev answer : List Term → ℤ → Result Row Refusal
answer terms z = Ok (record { terms = terms; least = z })

row_parts : (terms us : List Term) (z b : ℤ) → terms ≡ us → z ≡ b → answer terms z ≡ answer us b
row_parts terms us z b first second = rw (first, second) refl

pub held_given : (s : Sides) (coefs : List ℤ) (least : ℤ) (divisor : ℕ) (b z : ℤ) (w : ℕ) (terms : List Term) → IsHeld s coefs least divisor b w → w ≤ MAX_WIDTH → terms ≡ terms_below (length coefs) (rounded_coefficient (int_at coefs) divisor) → length terms ≤ MAX_CUT_TERMS → z ≡ b → Ok (record { terms = terms; least = z }) ≡ unless_large s (rounded_row (length s.lows) s (int_at coefs) least divisor)
held_given s coefs least divisor b z w terms held narrow same short exact =
    let there = held_terms s coefs least divisor b w terms held same in
    let row = rounded_row (length s.lows) s (int_at coefs) least divisor in
    row_parts terms row.terms z row.least there (exact ∙ held.value)
    ∙ given_row s row (subst (λ (k : ℕ). k ≤ MAX_WIDTH) (width_is s coefs least divisor b w held) narrow) (subst (λ (ts : List Term). length ts ≤ MAX_CUT_TERMS) there short)

-- in a narrow row each coefficient and what it asks for are narrow
pub held_narrow : (s : Sides) (coefs : List ℤ) (least : ℤ) (divisor : ℕ) (b : ℤ) (w : ℕ) → IsHeld s coefs least divisor b w → w ≤ MAX_WIDTH → (j : ℕ) → j < length coefs → unsigned_abs (rounded_coefficient (int_at coefs) divisor j) ≤ MAX_WIDTH
held_narrow s coefs least divisor b w held narrow j known =
    let e = rounded_coefficient (int_at coefs) divisor in
    let one : unsigned_abs (e j) * 1 ≤ part_width s (e j) j = mul-le-mul_left (unsigned_abs (e j)) (omega arith) in
    let part = part_within_sum j (length s.lows) (λ k. part_width s (e k) k) (omega (arith, known, held.columns)) in
    omega (arith, one, part, narrow, held.width)

pub held_least : (s : Sides) (coefs : List ℤ) (least : ℤ) (divisor : ℕ) (b : ℤ) (w : ℕ) → IsHeld s coefs least divisor b w → w ≤ MAX_WIDTH → unsigned_abs b ≤ 2 ^ 50
held_least s coefs least divisor b w held narrow = omega (arith, narrow, held.width)

-- the rounded sums of parts that pass the tests make the row that is derived
pub gomory_given : (m : ModelParts) (cuts : List Row) (parts : List Pair) (divisor : ℕ) (root : Sides) (coefs : List ℤ) (least : ℤ) → are_known m.rows cuts parts ≡ true → are_weights parts divisor ≡ true → AreSums m cuts parts coefs → least ≡ combined_least m.rows cuts parts → root ≡ m.root → length m.root.lows ≡ length m.cols → unless_large root (rounded_row (length root.lows) root (int_at coefs) least divisor) ≡ derived_gomory m cuts parts divisor
gomory_given m cuts parts divisor root coefs least known weights sums same there box =
    ap (λ (s : Sides). unless_large s (rounded_row (length s.lows) s (int_at coefs) least divisor)) there
    ∙ ap (λ (k : ℕ). unless_large m.root (rounded_row k m.root (int_at coefs) least divisor)) box
    ∙ ap (unless_large m.root) (summed_row m cuts parts coefs least divisor sums same)
    ∙ sym (cond-true (are_known m.rows cuts parts) _ (Err UnknownRow) known ∙ cond-true (are_weights parts divisor) _ (Err BadNumbers) weights)

-- and these sums are narrow
pub gomory_narrow : (m : ModelParts) (cuts : List Row) (parts : List Pair) (divisor : ℕ) (root : Sides) (coefs : List ℤ) (least : ℤ) → IsModel m → AreCuts m cuts → are_known m.rows cuts parts ≡ true → are_weights parts divisor ≡ true → AreSums m cuts parts coefs → least ≡ combined_least m.rows cuts parts → root ≡ m.root → IsNarrowSum root coefs least
gomory_narrow m cuts parts divisor root coefs least valid cut_rows known weights sums same there =
    rw (there, same) (narrow_sum m cuts parts coefs valid cut_rows (parts_of_tests m cuts parts divisor known weights) sums)
