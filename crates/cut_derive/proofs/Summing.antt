-- Weighted sums of rows, part by part.
use Rattle.std.proofs.Common.{◌≡◌, ◌∙◌, ℕ, zero, suc, ◌+◌, ◌*◌, ◌^◌, ◌<◌, ◌≤◌, true, nat_le, List, [], ◌∷◌, length, take, get_or, ℤ, pos, ◌+ℤ◌, ◌*ℤ◌, unsigned_abs, sum_by, All, refl, sym, subst, arith, mul-le-mul_right}
use Rattle.std.specs.List.{list_all}
use Rattle.std.proofs.lemmas.Int.{ints, unsigned_abs-mul}
use Rattle.std.proofs.lemmas.Bool.{and_parts, leb-true}
use Rattle.std.proofs.lemmas.List.{length-take, take_all}
use Rattle.std.proofs.Math.Nat.{mul_assoc}
use Rattle.std.proofs.lemmas.List.Elements.{All-cons, All-head, All-tail, All-take, All-nil}
use Rattle.std.proofs.lemmas.List.Sums.{sum_by-cons, sum_by-le-sum_by}
use Rattle.std.proofs.lemmas.Nat.{mul-le}
use Rattle.ip_core.specs.Numbers.{int_at, int_sum_by, sum_below}
use Rattle.ip_core.specs.Sides.{Sides, reach}
use Rattle.ip_core.specs.Models.{IsModel}
use Rattle.ip_core.specs.Rows.{IsRow, coefficient, term_width}
use Rattle.ip_core.specs.declared.model.ModelParts.{ModelParts}
use Rattle.ip_core.specs.declared.row.Row.{Row}
use Rattle.ip_core.specs.declared.row.Term.{Term}
use Rattle.ip_core.specs.declared.row_ref.RowRef.{RowRef}
use Rattle.ip_core.specs.declared.leaf.Pair.{Pair}
use Rattle.ip_core.proofs.BoxParts.{coefficient_small}
use Rattle.ip_core.proofs.IntSums.{int_sum_by_more, unsigned_abs-add_le}
use Rattle.ip_core.proofs.ColumnSums.{sum_below-le, sum_below-scale, pos-sum_below}
use Rattle.row_propagate.specs.Replay.{no_row, row_named}
use Rattle.safe_bound.specs.declared.limits.TheConstants.{MAX_MULTIPLIER}
use Rattle.safe_bound.specs.Premises.{AreCuts, AreLightTerms, AreWithin}
use Rattle.safe_bound.proofs.Sizes.{coefficient_narrow, times_narrow}
use Rattle.cut_derive.specs.Gomory.{part_sum, combined_coefficient, combined_least, are_known, are_weights, has_weight, is_count, is_divisor}
use Rattle.cut_derive.specs.declared.limits.TheConstants.{MAX_PARTS, MAX_DIVISOR}
use Rattle.leaf_truth.specs.Steps.{has_row}
use Rattle.leaf_truth.specs.Multipliers.{are_rising}
use Rattle.leaf_truth.proofs.TestResults.{four_parts}
use Rattle.cut_derive.proofs.Fronts.{cols_of, rises_from_zero}
use Rattle.cut_derive.proofs.TermColumns.{columns_of_terms}
use Rattle.cut_derive.specs.Premises.{AreParts, AreSums, IsNarrowSum}
use Rattle.cut_derive.proofs.Named.{named_holds}

-- a row of a model has light terms
pub light_terms : (n : ℕ) (root : Sides) (row : Row) → IsRow n root row → AreLightTerms n row.terms
light_terms n root row valid = record {
  known = valid.terms;
  narrow = let front : sum_by (λ (t : Term). unsigned_abs t.coef) row.terms ≤ sum_by (term_width root) row.terms = sum_by-le-sum_by (λ (t : Term). unsigned_abs t.coef) (term_width root) row.terms (coefficient_small root) in
      omega (arith, front, valid.narrow);
}

pub row_coefficient : (n : ℕ) (root : Sides) (j : ℕ) (row : Row) → IsRow n root row → unsigned_abs (coefficient j row.terms) ≤ 2 ^ 50
row_coefficient n root j row valid = let light : sum_by (λ (t : Term). unsigned_abs t.coef) row.terms ≤ 2 ^ 50 = (light_terms n root row valid).narrow in omega (arith, coefficient_narrow j row.terms, light)

row_least : (n : ℕ) (root : Sides) (row : Row) → IsRow n root row → unsigned_abs row.least ≤ 2 ^ 50
row_least n root row valid = omega (arith, valid.narrow)

-- what is small for each row of the model and each cut is small for the row of each name
pub named_small : (f : Row → ℤ) (m : ModelParts) (cuts : List Row) → unsigned_abs (f no_row) ≤ 2 ^ 50 → ((row : Row) → IsRow (length m.cols) m.root row → unsigned_abs (f row) ≤ 2 ^ 50) → IsModel m → AreCuts m cuts → (name : RowRef) → unsigned_abs (f (row_named m.rows cuts name)) ≤ 2 ^ 50
named_small f m cuts none each valid cut_rows name =
    named_holds (λ (row : Row). unsigned_abs (f row) ≤ 2 ^ 50) m.rows cuts name none (λ i d h. each _ (valid.rows.each i d h)) (λ i d h. each _ (cut_rows.rows.each i d h))

part_step : (y : ℕ) (z rest : ℤ) (n : ℕ) → y ≤ 2 ^ 40 → unsigned_abs z ≤ 2 ^ 50 → unsigned_abs rest ≤ n * 2 ^ 90 → unsigned_abs ((pos y *ℤ z) +ℤ rest) ≤ suc n * 2 ^ 90
part_step y z rest n small narrow more = omega (arith, unsigned_abs-add_le (pos y *ℤ z) rest (2 ^ 90) (n * 2 ^ 90) (times_narrow y z small narrow) more)

-- weighted parts are no larger than their number times the greatest weight times the greatest width
pub part_sum_narrow : (f : Row → ℤ) (rows cuts : List Row) (parts : List Pair) → ((name : RowRef) → unsigned_abs (f (row_named rows cuts name)) ≤ 2 ^ 50) → All (λ (p : Pair). p.weight ≤ MAX_MULTIPLIER) parts → unsigned_abs (part_sum f rows cuts parts) ≤ length parts * 2 ^ 90
part_sum_narrow f rows cuts [] narrow small = omega arith
part_sum_narrow f rows cuts (p ∷ parts) narrow small =
    part_step p.weight (f (row_named rows cuts p.row)) (part_sum f rows cuts parts) (length parts) (All-head (λ (q : Pair). q.weight ≤ MAX_MULTIPLIER) p parts small) (narrow p.row)
    (part_sum_narrow f rows cuts parts narrow (All-tail (λ (q : Pair). q.weight ≤ MAX_MULTIPLIER) p parts small))

front_few : (i : ℕ) (parts : List Pair) → length parts ≤ 256 → length (take i parts) ≤ 256
front_few i parts few = rw length-take (omega (arith, few))

front_narrow : (f : Row → ℤ) (rows cuts : List Row) (parts : List Pair) (i : ℕ) → ((name : RowRef) → unsigned_abs (f (row_named rows cuts name)) ≤ 2 ^ 50) → All (λ (p : Pair). p.weight ≤ MAX_MULTIPLIER) parts → length parts ≤ 256 → unsigned_abs (part_sum f rows cuts (take i parts)) ≤ 2 ^ 98
front_narrow f rows cuts parts i narrow small few =
    let bound = part_sum_narrow f rows cuts (take i parts) narrow (All-take (λ (p : Pair). p.weight ≤ MAX_MULTIPLIER) i parts small) in
    omega (arith, bound, front_few i parts few)

-- what the first parts ask for together
pub leasts_small : (m : ModelParts) (cuts : List Row) (parts : List Pair) (i : ℕ) → IsModel m → AreCuts m cuts → AreParts m cuts parts → unsigned_abs (combined_least m.rows cuts (take i parts)) ≤ 2 ^ 98
leasts_small m cuts parts i valid cut_rows are_parts =
    front_narrow (λ row. row.least) m.rows cuts parts i (named_small (λ row. row.least) m cuts (omega arith) (row_least (length m.cols) m.root) valid cut_rows) are_parts.small are_parts.few

-- and the coefficient of a column
pub coefficients_small : (m : ModelParts) (cuts : List Row) (parts : List Pair) (i j : ℕ) → IsModel m → AreCuts m cuts → AreParts m cuts parts → unsigned_abs (combined_coefficient m.rows cuts (take i parts) j) ≤ 2 ^ 98
coefficients_small m cuts parts i j valid cut_rows are_parts =
    front_narrow (λ row. coefficient j row.terms) m.rows cuts parts i (named_small (λ row. coefficient j row.terms) m cuts (omega arith) (row_coefficient (length m.cols) m.root j) valid cut_rows) are_parts.small are_parts.few

-- sums of the first parts stay within their room
pub sums_room : (m : ModelParts) (cuts : List Row) (parts : List Pair) (i : ℕ) (coefs : List ℤ) → IsModel m → AreCuts m cuts → AreParts m cuts parts → AreSums m cuts (take i parts) coefs → AreWithin (length coefs) (2 ^ 125) coefs
sums_room m cuts parts i coefs valid cut_rows are_parts sums = record {
  each = λ j h.
      let known : j < length m.cols = omega (arith, h, sums.columns) in
      rw (sums.each j known) (omega (arith, coefficients_small m cuts parts i j valid cut_rows are_parts));
}

next_sum : (a b c z : ℤ) → a ≡ b +ℤ z → b ≡ c → a ≡ c +ℤ z
next_sum a b c z first second = omega (arith, ints, first, second)

-- one more part
pub sums_more : (m : ModelParts) (cuts : List Row) (parts : List Pair) (i : ℕ) (d : Pair) (terms : List Term) (old new : List ℤ) → i < length parts → terms ≡ (row_named m.rows cuts (get_or parts i d).row).terms → AreSums m cuts (take i parts) old → length new ≡ length old → ((j : ℕ) → j < length old → int_at new j ≡ int_at old j +ℤ (pos (get_or parts i d).weight *ℤ coefficient j terms)) → AreSums m cuts (take (i + 1) parts) new
sums_more m cuts parts i d terms old new within same sums long added = record {
  columns = long ∙ sums.columns;
  each = λ j h.
      let f : Pair → ℤ = λ p. pos p.weight *ℤ coefficient j (row_named m.rows cuts p.row).terms in
      let p = get_or parts i d in
      let here : int_at new j ≡ int_at old j +ℤ (pos p.weight *ℤ coefficient j (row_named m.rows cuts p.row).terms) = rw (← same) (added j (omega (arith, h, sums.columns))) in
      rw (int_sum_by_more f parts i d within) (next_sum (int_at new j) (int_at old j) (combined_coefficient m.rows cuts (take i parts) j) (f p) here (sums.each j h));
}

width_of_terms : (root : Sides) (terms : List Term) → int_sum_by (λ (t : Term). pos (unsigned_abs t.coef * reach root t.col)) terms ≡ pos (sum_by (term_width root) terms)
width_of_terms root [] = refl
width_of_terms root (t ∷ terms) = rw sum_by-cons (omega (arith, ints, width_of_terms root terms))

natural_same : (a b : ℕ) → pos a ≡ pos b → a ≡ b
natural_same a b same = omega (arith, ints, same)

nothing_times : (r : ℕ) → pos (0 * r) ≡ pos 0
nothing_times r = omega (arith, ints)

-- the coefficients of a row by columns, times the reach of their columns
row_by_columns : (n : ℕ) (root : Sides) (row : Row) → IsRow n root row → sum_below n (λ j. unsigned_abs (coefficient j row.terms) * reach root j) ≤ 2 ^ 50
row_by_columns n root row valid =
    let g : ℕ → ℤ → ℤ = λ j z. pos (unsigned_abs z * reach root j) in
    let same : sum_below n (λ j. unsigned_abs (coefficient j row.terms) * reach root j) ≡ sum_by (term_width root) row.terms =
    natural_same (sum_below n (λ j. unsigned_abs (coefficient j row.terms) * reach root j)) (sum_by (term_width root) row.terms) (pos-sum_below n (λ j. unsigned_abs (coefficient j row.terms) * reach root j)
    ∙ columns_of_terms n 0 row.terms g (λ j. nothing_times (reach root j)) (rises_from_zero (cols_of row.terms) valid.rising) valid.terms.each
    ∙ width_of_terms root row.terms)
    in
    rw same (omega (arith, valid.narrow))

none_by_columns : (n : ℕ) (root : Sides) → sum_below n (λ j. unsigned_abs (coefficient j no_row.terms) * reach root j) ≤ 2 ^ 50
none_by_columns zero root = omega arith
none_by_columns (suc n) root = omega (arith, none_by_columns n root)

named_by_columns : (m : ModelParts) (cuts : List Row) (name : RowRef) → IsModel m → AreCuts m cuts → sum_below (length m.cols) (λ j. unsigned_abs (coefficient j (row_named m.rows cuts name).terms) * reach m.root j) ≤ 2 ^ 50
named_by_columns m cuts name valid cut_rows =
    let n = length m.cols in
    named_holds (λ (row : Row). sum_below n (λ j. unsigned_abs (coefficient j row.terms) * reach m.root j) ≤ 2 ^ 50) m.rows cuts name (none_by_columns n m.root) (λ i d h. row_by_columns n m.root _ (valid.rows.each i d h)) (λ i d h. row_by_columns n m.root _ (cut_rows.rows.each i d h))

sums_add : (n : ℕ) (f g : ℕ → ℕ) → sum_below n (λ j. f j + g j) ≡ sum_below n f + sum_below n g
sums_add zero f g = refl
sums_add (suc n) f g = omega (arith, sums_add n f g)

parted_times : (a b r : ℕ) → (a + b) * r ≡ (a * r) + (b * r)
parted_times a b zero = omega arith
parted_times a b (suc r) = omega (arith, parted_times a b r)

one_width : (y : ℕ) (c rest : ℤ) (r : ℕ) → unsigned_abs ((pos y *ℤ c) +ℤ rest) * r ≤ (y * (unsigned_abs c * r)) + (unsigned_abs rest * r)
one_width y c rest r =
    let whole : unsigned_abs ((pos y *ℤ c) +ℤ rest) ≤ (y * unsigned_abs c) + unsigned_abs rest = unsigned_abs-add_le (pos y *ℤ c) rest (y * unsigned_abs c) (unsigned_abs rest) (rw unsigned_abs-mul (omega arith)) (omega arith) in
    let times : unsigned_abs ((pos y *ℤ c) +ℤ rest) * r ≤ ((y * unsigned_abs c) + unsigned_abs rest) * r = mul-le-mul_right r whole in
    omega (arith, times, parted_times (y * unsigned_abs c) (unsigned_abs rest) r, mul_assoc y (unsigned_abs c) r)

nothing_by_reach : (n : ℕ) (root : Sides) → sum_below n (λ j. 0 * reach root j) ≡ 0
nothing_by_reach zero root = refl
nothing_by_reach (suc n) root = omega (arith, nothing_by_reach n root)

widths_step : (whole both first rest product n : ℕ) → whole ≤ both → both ≡ first + rest → first ≡ product → product ≤ 2 ^ 90 → rest ≤ n * 2 ^ 90 → whole ≤ suc n * 2 ^ 90
widths_step whole both first rest product n le parted scaled small more = omega (arith, le, parted, scaled, small, more)

-- the coefficients of weighted parts, times the reach of their columns, are no larger than their number times the greatest weight times the greatest width
parts_by_reach : (m : ModelParts) (cuts : List Row) (parts : List Pair) → IsModel m → AreCuts m cuts → All (λ (p : Pair). p.weight ≤ MAX_MULTIPLIER) parts → sum_below (length m.cols) (λ j. unsigned_abs (combined_coefficient m.rows cuts parts j) * reach m.root j) ≤ length parts * 2 ^ 90
parts_by_reach m cuts [] valid cut_rows small =
    let n = length m.cols in
    let nothing : sum_below n (λ j. unsigned_abs (combined_coefficient m.rows cuts [] j) * reach m.root j) ≡ 0 = nothing_by_reach n m.root in
    omega (arith, nothing)
parts_by_reach m cuts (p ∷ parts) valid cut_rows small =
    let n = length m.cols in
    let row = row_named m.rows cuts p.row in
    let one : ℕ → ℕ = λ j. unsigned_abs (coefficient j row.terms) * reach m.root j in
    let rest : ℕ → ℕ = λ j. unsigned_abs (combined_coefficient m.rows cuts parts j) * reach m.root j in
    let first = sum_below-le n (λ j. unsigned_abs (combined_coefficient m.rows cuts (p ∷ parts) j) * reach m.root j) (λ j. (p.weight * one j) + rest j) (λ j h. one_width p.weight (coefficient j row.terms) (combined_coefficient m.rows cuts parts j) (reach m.root j)) in
    let light : p.weight ≤ 2 ^ 40 = All-head (λ (q : Pair). q.weight ≤ MAX_MULTIPLIER) p parts small in
    let product : p.weight * sum_below n one ≤ 2 ^ 90 = omega (arith, mul-le p.weight (sum_below n one) (2 ^ 40) (2 ^ 50) light (named_by_columns m cuts p.row valid cut_rows)) in
    let more = parts_by_reach m cuts parts valid cut_rows (All-tail (λ (q : Pair). q.weight ≤ MAX_MULTIPLIER) p parts small) in
    widths_step (sum_below n (λ j. unsigned_abs (combined_coefficient m.rows cuts (p ∷ parts) j) * reach m.root j)) (sum_below n (λ j. (p.weight * one j) + rest j)) (sum_below n (λ j. p.weight * one j)) (sum_below n rest) (p.weight * sum_below n one) (length parts) first (sums_add n (λ j. p.weight * one j) rest) (sum_below-scale n p.weight one) product more

-- the sums of at most 256 parts are narrow
pub narrow_sum : (m : ModelParts) (cuts : List Row) (parts : List Pair) (coefs : List ℤ) → IsModel m → AreCuts m cuts → AreParts m cuts parts → AreSums m cuts parts coefs → IsNarrowSum m.root coefs (combined_least m.rows cuts parts)
narrow_sum m cuts parts coefs valid cut_rows are_parts sums =
    let n = length m.cols in
    let whole : take (length parts) parts ≡ parts = take_all (length parts) parts (omega arith) in
    let same = sum_below-le n (λ j. unsigned_abs (int_at coefs j) * reach m.root j) (λ j. unsigned_abs (combined_coefficient m.rows cuts parts j) * reach m.root j) (λ j h. rw (sums.each j h) (omega arith)) in
    record {
      columns = sums.columns ∙ sym valid.bounds.box;
      narrow = rw valid.bounds.box (omega (arith, same, parts_by_reach m cuts parts valid cut_rows are_parts.small, are_parts.few));
      small = subst (λ (ps : List Pair). unsigned_abs (combined_least m.rows cuts ps) ≤ 2 ^ 98) whole (leasts_small m cuts parts (length parts) valid cut_rows are_parts);
    }

weights_small : (parts : List Pair) → list_all has_weight parts ≡ true → All (λ (p : Pair). p.weight ≤ MAX_MULTIPLIER) parts
weights_small [] test = All-nil (λ (p : Pair). p.weight ≤ MAX_MULTIPLIER)
weights_small (p ∷ parts) test =
    let both = and_parts (has_weight p) (list_all has_weight parts) test in
    All-cons (λ (q : Pair). q.weight ≤ MAX_MULTIPLIER) p parts (leb-true p.weight MAX_MULTIPLIER (and_parts (nat_le 1 p.weight) (nat_le p.weight MAX_MULTIPLIER) both.0).1) (weights_small parts both.1)

-- parts that pass the tests
pub parts_of_tests : (m : ModelParts) (cuts : List Row) (parts : List Pair) (divisor : ℕ) → are_known m.rows cuts parts ≡ true → are_weights parts divisor ≡ true → AreParts m cuts parts
parts_of_tests m cuts parts divisor known weights =
    let tests = four_parts (is_divisor divisor) (is_count (length parts)) (list_all has_weight parts) (are_rising parts) weights in
    record {
      known = known;
      few = leb-true (length parts) MAX_PARTS (and_parts (nat_le 1 (length parts)) (nat_le (length parts) MAX_PARTS) tests.1).1;
      small = weights_small parts tests.2;
    }

pub divisor_of_tests : (parts : List Pair) (divisor : ℕ) → are_weights parts divisor ≡ true → 0 < divisor
divisor_of_tests parts divisor weights =
    let tests = four_parts (is_divisor divisor) (is_count (length parts)) (list_all has_weight parts) (are_rising parts) weights in
    let above : 1 ≤ divisor = leb-true 1 divisor (and_parts (nat_le 1 divisor) (nat_le divisor MAX_DIVISOR) tests.0).0 in
    omega (arith, above)

known_at : (rows cuts : List Row) (parts : List Pair) (i : ℕ) (d : Pair) → are_known rows cuts parts ≡ true → i < length parts → has_row rows cuts (get_or parts i d).row ≡ true
known_at rows cuts [] i d test within = absurd (omega (arith, within))
known_at rows cuts (p ∷ parts) zero d test within = (and_parts (has_row rows cuts p.row) (are_known rows cuts parts) test).0
known_at rows cuts (p ∷ parts) (suc i) d test within = known_at rows cuts parts i d (and_parts (has_row rows cuts p.row) (are_known rows cuts parts) test).1 (omega (arith, within))

-- each of the parts has its row
pub part_known : (m : ModelParts) (cuts : List Row) (parts : List Pair) (i : ℕ) (d : Pair) → AreParts m cuts parts → i < length parts → has_row m.rows cuts (get_or parts i d).row ≡ true
part_known m cuts parts i d are_parts within = known_at m.rows cuts parts i d are_parts.known within
