use Rattle.std.proofs.Common.{◌≡◌, ◌∙◌, ℕ, ◌+◌, ◌*◌, ◌^◌, ◌≤◌, Bool, true, false, ◌==◌, if◌then◌else◌, List, [], ◌∷◌, length, map, ℤ, pos, ◌+ℤ◌, ◌-ℤ◌, ◌*ℤ◌, ◌≤ℤ◌, unsigned_abs, sum_by, All, refl, sym, ap, arith}
use Rattle.std.proofs.lemmas.Int.{ints, unsigned_abs-mul}
use Rattle.std.proofs.lemmas.List.Elements.{All-append, All-map, All-weaker}
use Rattle.std.proofs.lemmas.List.Sums.{sum_by-cons}
use Rattle.std.proofs.Math.IntN.{*ℤ_comm}
use Rattle.std.proofs.Math.Nat.{mul_assoc}
use Rattle.ip_core.specs.Numbers.{int_at, int_sum_by, int_sum_below, sum_below}
use Rattle.ip_core.specs.Sides.{Sides, reach}
use Rattle.ip_core.specs.Rows.{IsTerm, AreTerms, IsRow, AreRows, part_width, term_width}
use Rattle.ip_core.specs.Models.{IsModel}
use Rattle.ip_core.specs.declared.model.ModelParts.{ModelParts}
use Rattle.ip_core.specs.declared.row.Row.{Row}
use Rattle.ip_core.specs.declared.row.Term.{Term}
use Rattle.ip_core.proofs.Products.{mul_pos-le, int_sum_below-le}
use Rattle.ip_core.proofs.Widths.{model_costs_narrow}
use Rattle.ip_core.specs.Rows.{own_coefficient, coefficient}
use Rattle.safe_bound.specs.Weights.{weighted_sum, weighted_coefficient}
use Rattle.safe_bound.specs.Bounds.{all_rows, reduced_cost}
use Rattle.safe_bound.specs.Premises.{AreSmall}
use Rattle.ip_core.proofs.IntProducts.{add_mul}
use Rattle.ip_core.proofs.ColumnSums.{int_sum_below-same, int_sum_below-add, pos-sum_below, sum_below-scale}
use Rattle.safe_bound.proofs.Weighted.{AreKnown, rows_by_columns}
use Rattle.safe_bound.proofs.Sizes.{weighted_narrow}

-- the term with the size of its coefficient
abbrev size_term : Term → Term
size_term t = record t { coef = pos (unsigned_abs t.coef) }

-- the row with the sizes of its coefficients
abbrev size_row : Row → Row
size_row row = record row { terms = map size_term row.terms }

own_choice_size : (b : Bool) (z : ℤ) → pos (unsigned_abs (if b then z else pos 0)) ≤ℤ (if b then pos (unsigned_abs z) else pos 0)
own_choice_size true z = omega (arith, ints)
own_choice_size false z = omega (arith, ints)

size_add : (a b c d : ℤ) → pos (unsigned_abs a) ≤ℤ c → pos (unsigned_abs b) ≤ℤ d → pos (unsigned_abs (a +ℤ b)) ≤ℤ (c +ℤ d)
size_add a b c d first second = omega (arith, ints)

-- a column's coefficient is no larger than the sum of the sizes there
coefficient_size : (j : ℕ) (terms : List Term) → pos (unsigned_abs (coefficient j terms)) ≤ℤ coefficient j (map size_term terms)
coefficient_size j [] = omega (arith, ints)
coefficient_size j (t ∷ terms) =
    size_add (own_coefficient j t) (coefficient j terms) (own_coefficient j (size_term t)) (coefficient j (map size_term terms)) (own_choice_size (t.col == j) t.coef) (coefficient_size j terms)

times_size : (y : ℕ) (a c : ℤ) → pos (unsigned_abs a) ≤ℤ c → pos (unsigned_abs (pos y *ℤ a)) ≤ℤ (pos y *ℤ c)
times_size y a c le = rw unsigned_abs-mul (mul_pos-le y (pos (unsigned_abs a)) c le)

-- the same of weighted rows
weighted_size : (j : ℕ) (rows : List Row) (ys : List ℕ) → pos (unsigned_abs (weighted_coefficient j rows ys)) ≤ℤ weighted_coefficient j (map size_row rows) ys
weighted_size j [] ys = omega (arith, ints)
weighted_size j (row ∷ rows) [] = omega (arith, ints)
weighted_size j (row ∷ rows) (y ∷ ys) =
    size_add (pos y *ℤ coefficient j row.terms) (weighted_coefficient j rows ys) (pos y *ℤ coefficient j (map size_term row.terms)) (weighted_coefficient j (map size_row rows) ys) (times_size y (coefficient j row.terms) (coefficient j (map size_term row.terms)) (coefficient_size j row.terms)) (weighted_size j rows ys)

size_zero : (z : ℤ) → pos (unsigned_abs z) ≡ pos 0 → z ≡ pos 0
size_zero z e = omega (arith, ints, e)

size_known : (n : ℕ) (terms : List Term) → AreTerms n terms → AreTerms n (map size_term terms)
size_known n terms known =
    let sized : (t : Term) → IsTerm n t → IsTerm n (size_term t) = λ t is_term. record { known = is_term.known; nonzero = λ e. is_term.nonzero (size_zero t.coef e) } in
    record { each = All-map (IsTerm n) size_term terms (All-weaker (IsTerm n) (λ t. IsTerm n (size_term t)) sized terms known.each) }

sizes_known : (n : ℕ) (root : Sides) (rows : List Row) → AreRows n root rows → AreKnown n (map size_row rows)
sizes_known n root rows valid =
    let Known : Row → Type 0 = λ row. AreTerms n row.terms in
    let sized : (row : Row) → IsRow n root row → Known (size_row row) = λ row is_row. size_known n row.terms is_row.terms in
    record { each = All-map Known size_row rows (All-weaker (IsRow n root) (λ row. Known (size_row row)) sized rows valid.each) }

-- the sizes of a row's coefficients times the reach of their columns add up to the width of its terms
sizes_width : (s : Sides) (terms : List Term) → int_sum_by (λ (t : Term). t.coef *ℤ pos (reach s t.col)) (map size_term terms) ≡ pos (sum_by (term_width s) terms)
sizes_width s [] = refl
sizes_width s (t ∷ terms) = rw sum_by-cons (omega (arith, ints, sizes_width s terms))

-- what a row gives where each column stands at its reach
abbrev reached_size : Sides → Row → ℤ
reached_size s row = int_sum_by (λ (t : Term). t.coef *ℤ pos (reach s t.col)) row.terms

weighted_map : (f : Row → ℤ) (g : Row → Row) (rows : List Row) (ys : List ℕ) → weighted_sum f (map g rows) ys ≡ weighted_sum (λ row. f (g row)) rows ys
weighted_map f g [] ys = refl
weighted_map f g (row ∷ rows) [] = refl
weighted_map f g (row ∷ rows) (y ∷ ys) = ap (λ z. (pos y *ℤ f (g row)) +ℤ z) (weighted_map f g rows ys)

size_at_most : (z : ℤ) (n : ℕ) → unsigned_abs z ≤ n → z ≤ℤ pos n
size_at_most z n small = omega (arith, ints)

natural_le : (a b : ℕ) → a ≤ b → pos a ≤ℤ pos b
natural_le a b le = omega (arith, ints)

natural_of_le : (a b : ℕ) → pos a ≤ℤ pos b → a ≤ b
natural_of_le a b le = omega (arith, ints)

size_sub : (a b c d : ℤ) → pos (unsigned_abs a) ≤ℤ c → pos (unsigned_abs b) ≤ℤ d → pos (unsigned_abs (a -ℤ b)) ≤ℤ (c +ℤ d)
size_sub a b c d first second = omega (arith, ints)

times_reach : (n r : ℕ) (a b : ℤ) → pos n ≤ℤ (a +ℤ b) → pos (n * r) ≤ℤ ((a *ℤ pos r) +ℤ (b *ℤ pos r))
times_reach n r a b le = omega (arith, ints, mul_pos-le r (pos n) (a +ℤ b) le, *ℤ_comm (pos r) (pos n), *ℤ_comm (pos r) (a +ℤ b), add_mul a b (pos r))

chained : (whole sum both first second : ℤ) (m n : ℕ) → whole ≡ sum → sum ≤ℤ both → both ≡ first +ℤ second → first ≤ℤ pos m → second ≤ℤ pos n → whole ≤ℤ pos (m + n)
chained whole sum both first second m n e le parts low high = omega (arith, ints)

-- the sizes of weighted rows, by columns, are no larger than their number times the greatest multiplier times the greatest width
sizes_small : (n : ℕ) (root : Sides) (rows : List Row) (ys : List ℕ) → AreRows n root rows → AreSmall ys → int_sum_below n (λ j. weighted_coefficient j (map size_row rows) ys *ℤ pos (reach root j)) ≤ℤ pos (length rows * 2 ^ 90)
sizes_small n root rows ys valid small =
    let Narrow : Row → Type 0 = λ row. unsigned_abs (reached_size root (size_row row)) ≤ 2 ^ 50 in
    let narrow : (row : Row) → IsRow n root row → Narrow row = λ row is_row. rw (sizes_width root row.terms) (omega (arith, is_row.narrow)) in
    let all_narrow : All Narrow rows = All-weaker (IsRow n root) Narrow narrow rows valid.each in
    let by_rows = rows_by_columns n (λ j. pos (reach root j)) (map size_row rows) ys (sizes_known n root rows valid) ∙ weighted_map (reached_size root) size_row rows ys in
    rw by_rows (size_at_most (weighted_sum (λ row. reached_size root (size_row row)) rows ys) (length rows * 2 ^ 90) (weighted_narrow (λ row. reached_size root (size_row row)) rows ys all_narrow small.each))

-- costs times the reach of their columns are no larger than the greatest width
costs_small : (m : ModelParts) → IsModel m → int_sum_below (length m.costs) (λ j. pos (1024 * unsigned_abs (int_at m.costs j)) *ℤ pos (reach m.root j)) ≤ℤ pos (2 ^ 60)
costs_small m valid =
    let n = length m.costs in
    let same : int_sum_below n (λ j. pos (1024 * unsigned_abs (int_at m.costs j)) *ℤ pos (reach m.root j)) ≡ pos (1024 * sum_below n (λ j. part_width m.root (int_at m.costs j) j)) =
    int_sum_below-same n (λ j. pos (1024 * unsigned_abs (int_at m.costs j)) *ℤ pos (reach m.root j)) (λ j. pos (1024 * part_width m.root (int_at m.costs j) j)) (λ j h. ap pos (mul_assoc 1024 (unsigned_abs (int_at m.costs j)) (reach m.root j)))
    ∙ sym (pos-sum_below n (λ j. 1024 * part_width m.root (int_at m.costs j) j))
    ∙ ap pos (sum_below-scale n 1024 (λ j. part_width m.root (int_at m.costs j) j))
    in
    let narrow = model_costs_narrow m m m.costs refl refl valid in
    rw same (natural_le (1024 * sum_below n (λ j. part_width m.root (int_at m.costs j) j)) (2 ^ 60) (omega (arith, narrow)))

reduced_size : (m : ModelParts) (cuts : List Row) (ys : List ℕ) (j : ℕ) → pos (unsigned_abs (reduced_cost m cuts ys j)) ≤ℤ (pos (1024 * unsigned_abs (int_at m.costs j)) +ℤ weighted_coefficient j (map size_row (all_rows m cuts)) ys)
unfolding reduced_cost
reduced_size m cuts ys j =
    let cost = int_at m.costs j in
    size_sub (pos 1024 *ℤ cost) (weighted_coefficient j (all_rows m cuts) ys) (pos (1024 * unsigned_abs cost)) (weighted_coefficient j (map size_row (all_rows m cuts)) ys) (rw unsigned_abs-mul (omega (arith, ints))) (weighted_size j (all_rows m cuts) ys)

-- reduced costs times the reach of their columns, together
pub reduced_small : (m : ModelParts) (cuts : List Row) (ys : List ℕ) → IsModel m → AreRows (length m.cols) m.root cuts → AreSmall ys → sum_below (length m.costs) (λ j. unsigned_abs (reduced_cost m cuts ys j) * reach m.root j) ≤ 2 ^ 60 + length (all_rows m cuts) * 2 ^ 90
reduced_small m cuts ys valid cut_rows small =
    let n = length m.costs in
    let rows = all_rows m cuts in
    let cost : ℕ → ℤ = λ j. pos (1024 * unsigned_abs (int_at m.costs j)) in
    let size : ℕ → ℤ = λ j. weighted_coefficient j (map size_row rows) ys in
    let far : ℕ → ℤ = λ j. pos (reach m.root j) in
    let all_valid : AreRows (length m.costs) m.root rows = rw valid.bounds.costs (record { each = All-append (IsRow (length m.cols) m.root) m.rows cuts valid.rows.each cut_rows.each }) in
    let first : int_sum_below n (λ j. pos (unsigned_abs (reduced_cost m cuts ys j) * reach m.root j)) ≤ℤ int_sum_below n (λ j. (cost j *ℤ far j) +ℤ (size j *ℤ far j)) =
    int_sum_below-le n (λ j. pos (unsigned_abs (reduced_cost m cuts ys j) * reach m.root j)) (λ j. (cost j *ℤ far j) +ℤ (size j *ℤ far j)) (λ j h.
    times_reach (unsigned_abs (reduced_cost m cuts ys j)) (reach m.root j) (cost j) (size j) (reduced_size m cuts ys j))
    in
    let parted = int_sum_below-add n (λ j. cost j *ℤ far j) (λ j. size j *ℤ far j) in
    let costs_part = costs_small m valid in
    let sizes_part = sizes_small n m.root rows ys all_valid small in
    let whole = pos-sum_below n (λ j. unsigned_abs (reduced_cost m cuts ys j) * reach m.root j) in
    natural_of_le _ _ (chained (pos (sum_below n (λ j. unsigned_abs (reduced_cost m cuts ys j) * reach m.root j))) _ _ _ _ (2 ^ 60) (length rows * 2 ^ 90) whole first parted costs_part sizes_part)
