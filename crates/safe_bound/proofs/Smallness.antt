use Rattle.std.proofs.Common.{◌≡◌, ◌∙◌, ℕ, ◌+◌, ◌*◌, ◌^◌, ◌<◌, ◌≤◌, List, [], ◌∷◌, length, ℤ, unsigned_abs, sum_by, All, refl, ap, arith}
use Rattle.std.proofs.lemmas.List.{length-append}
use Rattle.std.proofs.lemmas.List.Elements.{All-append, All-weaker}
use Rattle.std.proofs.lemmas.List.Sums.{sum_by-cons}
use Rattle.std.proofs.Math.Nat.{mul-le-mul_left}
use Rattle.ip_core.specs.Numbers.{int_at, int_sum_below, sum_below}
use Rattle.ip_core.specs.Sides.{Sides, reach}
use Rattle.ip_core.specs.Rows.{IsRow, AreRows, term_width}
use Rattle.ip_core.specs.Models.{IsModel}
use Rattle.ip_core.specs.declared.limits.TheConstants.{MAX_WIDTH}
use Rattle.ip_core.specs.declared.model.ModelParts.{ModelParts}
use Rattle.ip_core.specs.declared.row.Row.{Row}
use Rattle.ip_core.specs.declared.row.Term.{Term}
use Rattle.ip_core.proofs.IntSums.{unsigned_abs-int_sum_below, unsigned_abs-add_le}
use Rattle.ip_core.proofs.Reaching.{reach-le}
use Rattle.ip_core.proofs.Widths.{part_within_width, model_costs_narrow}
use Rattle.safe_bound.specs.Weights.{weighted_least}
use Rattle.safe_bound.specs.Bounds.{all_rows, reduced_cost, share, numerator}
use Rattle.safe_bound.specs.Laws.{NumeratorIsSmall}
use Rattle.safe_bound.specs.Premises.{AreCuts, AreLight, AreLightTerms, AreSmall, HasNarrowLeasts, shares_width}
use Rattle.ip_core.specs.Boxes.{IsWithinReach}
use Rattle.ip_core.proofs.ColumnSums.{int_sum_below-same, sum_below-le}
use Rattle.safe_bound.proofs.Sizes.{weighted_narrow}
use Rattle.safe_bound.proofs.Shares.{part_within_sum, share_small}
use Rattle.safe_bound.proofs.Columns.{reduced_small}

-- a cost of a model is within the greatest width
pub cost_narrow : (m : ModelParts) (j : ℕ) → IsModel m → j < length m.costs → unsigned_abs (int_at m.costs j) ≤ 2 ^ 50
cost_narrow m j valid known =
    let part = part_within_width m.root m.costs j (length m.costs) known in
    let factor : unsigned_abs (int_at m.costs j) * 1 ≤ unsigned_abs (int_at m.costs j) * reach m.root j = mul-le-mul_left (unsigned_abs (int_at m.costs j)) (omega arith) in
    omega (arith, part, factor, model_costs_narrow m m m.costs refl refl valid)

one_term : (s : Sides) (t : Term) → unsigned_abs t.coef * 1 ≤ term_width s t
one_term s t = mul-le-mul_left (unsigned_abs t.coef) (omega arith)

coefficients_within : (s : Sides) (terms : List Term) → sum_by (λ (t : Term). unsigned_abs t.coef) terms ≤ sum_by (term_width s) terms
coefficients_within s [] = omega arith
coefficients_within s (t ∷ terms) = rw (sum_by-cons (λ (u : Term). unsigned_abs u.coef) t terms, sum_by-cons (term_width s) t terms) (omega (arith, one_term s t, coefficients_within s terms))

-- the coefficients of a row are small together
pub light_row : (n : ℕ) (root : Sides) (row : Row) → IsRow n root row → AreLightTerms n row.terms
light_row n root row is_row = record { known = is_row.terms; narrow = omega (arith, coefficients_within root row.terms, is_row.narrow) }

-- rows of a model have small coefficients
pub rows_light : (n : ℕ) (root : Sides) (rows : List Row) → AreRows n root rows → AreLight n rows
rows_light n root rows valid = record { each = All-weaker (IsRow n root) (λ row. AreLightTerms n row.terms) (light_row n root) rows valid.each }

-- and each `least` is small
pub rows_least : (n : ℕ) (root : Sides) (rows : List Row) → AreRows n root rows → HasNarrowLeasts rows
rows_least n root rows valid =
    let narrow : (row : Row) → IsRow n root row → unsigned_abs row.least ≤ MAX_WIDTH = λ row is_row. omega (arith, is_row.narrow) in
    record { each = All-weaker (IsRow n root) (λ row. unsigned_abs row.least ≤ MAX_WIDTH) narrow rows valid.each }

shares_reduced : (m : ModelParts) (cuts : List Row) (s : Sides) (ys : List ℕ) → IsModel m → AreRows (length m.cols) m.root cuts → IsWithinReach m.root s → AreSmall ys → sum_below (length m.costs) (λ j. unsigned_abs (reduced_cost m cuts ys j) * reach s j) ≤ 2 ^ 60 + length (all_rows m cuts) * 2 ^ 90
shares_reduced m cuts s ys valid cut_rows within small =
    let n = length m.costs in
    let nearer = sum_below-le n (λ j. unsigned_abs (reduced_cost m cuts ys j) * reach s j) (λ j. unsigned_abs (reduced_cost m cuts ys j) * reach m.root j) (λ j h.
    mul-le-mul_left (unsigned_abs (reduced_cost m cuts ys j)) (reach-le m.root s j within))
    in
    omega (arith, nearer, reduced_small m cuts ys valid cut_rows small)

-- the shares of all columns at costs that are the reduced ones
pub scratch_width : (m : ModelParts) (cuts : List Row) (s : Sides) (ys : List ℕ) (costs : List ℤ) → IsModel m → AreRows (length m.cols) m.root cuts → IsWithinReach m.root s → AreSmall ys → ((j : ℕ) → j < length m.cols → int_at costs j ≡ reduced_cost m cuts ys j) → shares_width s costs ≤ 2 ^ 60 + length (all_rows m cuts) * 2 ^ 90
scratch_width m cuts s ys costs valid cut_rows within small same =
    let columns : length s.lows ≡ length m.costs = within.columns ∙ omega (arith, valid.bounds.costs, valid.bounds.box) in
    let equal = sum_below-le (length m.costs) (λ j. unsigned_abs (int_at costs j) * reach s j) (λ j. unsigned_abs (reduced_cost m cuts ys j) * reach s j) (λ j h. rw (same j (omega (arith, valid.bounds.costs))) (omega arith)) in
    rw columns (omega (arith, equal, shares_reduced m cuts s ys valid cut_rows within small))

-- with fewer than 2^32 rows a numerator is below 2^123 in size
pub numerator_is_small : NumeratorIsSmall
unfolding numerator
numerator_is_small m cuts s ys valid cut_rows few within small =
    let n = length m.costs in
    let rows = all_rows m cuts in
    let Narrow : Row → Type 0 = λ row. unsigned_abs row.least ≤ 2 ^ 50 in
    let narrow : (row : Row) → IsRow (length m.cols) m.root row → Narrow row = λ row is_row. omega (arith, is_row.narrow) in
    let valid_rows : All (IsRow (length m.cols) m.root) rows = All-append (IsRow (length m.cols) m.root) m.rows cuts valid.rows.each cut_rows.each in
    let least = weighted_narrow (λ row. row.least) rows ys (All-weaker (IsRow (length m.cols) m.root) Narrow narrow rows valid_rows) small.each in
    let shares = unsigned_abs-int_sum_below n (λ j. share s (reduced_cost m cuts ys j) j) (λ j. unsigned_abs (reduced_cost m cuts ys j) * reach s j) (λ j h. share_small s (reduced_cost m cuts ys j) j) in
    let both = unsigned_abs-add_le (weighted_least rows ys) (int_sum_below n (λ j. share s (reduced_cost m cuts ys j) j)) (length rows * 2 ^ 90) (sum_below n (λ j. unsigned_abs (reduced_cost m cuts ys j) * reach s j)) least shares in
    omega (arith, both, shares_reduced m cuts s ys valid cut_rows within small)

-- the shares of all columns at costs that are the reduced ones
pub scratch_shares : (m : ModelParts) (cuts : List Row) (s : Sides) (ys : List ℕ) (costs : List ℤ) → IsModel m → IsWithinReach m.root s → ((j : ℕ) → j < length m.cols → int_at costs j ≡ reduced_cost m cuts ys j) → int_sum_below (length s.lows) (λ j. share s (int_at costs j) j) ≡ int_sum_below (length m.costs) (λ j. share s (reduced_cost m cuts ys j) j)
scratch_shares m cuts s ys costs valid within same =
    let columns : length s.lows ≡ length m.costs = within.columns ∙ omega (arith, valid.bounds.costs, valid.bounds.box) in
    rw columns (int_sum_below-same (length m.costs) (λ j. share s (int_at costs j) j) (λ j. share s (reduced_cost m cuts ys j) j) (λ j h. ap (λ z. share s z j) (same j (omega (arith, valid.bounds.costs)))))

-- the rows of a model and its cuts are not too many
pub rows_few : (m : ModelParts) (cuts : List Row) → IsModel m → AreCuts m cuts → length (all_rows m cuts) ≤ 2 ^ 30 + 2 ^ 12
rows_few m cuts valid are_cuts = rw length-append (omega (arith, valid.few.row_limit, are_cuts.few))

one_reach : (n r most : ℕ) → n * r ≤ most → 1 ≤ r → n ≤ most
one_reach n r most within some =
    let whole : n * 1 ≤ n * r = mul-le-mul_left n some in
    omega (arith, whole)

-- one reduced cost
pub reduced_cost_small : (m : ModelParts) (cuts : List Row) (ys : List ℕ) (j : ℕ) → IsModel m → AreRows (length m.cols) m.root cuts → AreSmall ys → j < length m.costs → unsigned_abs (reduced_cost m cuts ys j) ≤ 2 ^ 60 + length (all_rows m cuts) * 2 ^ 90
reduced_cost_small m cuts ys j valid cut_rows small known =
    let part = part_within_sum j (length m.costs) (λ k. unsigned_abs (reduced_cost m cuts ys k) * reach m.root k) known in
    one_reach (unsigned_abs (reduced_cost m cuts ys j)) (reach m.root j) (2 ^ 60 + length (all_rows m cuts) * 2 ^ 90) (omega (arith, part, reduced_small m cuts ys valid cut_rows small)) (omega arith)
