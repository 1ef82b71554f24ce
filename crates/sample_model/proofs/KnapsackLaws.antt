use Rattle.std.proofs.Common.{◌≡◌, ◌∙◌, ◌≤◌, ◌<◌, ◌+◌, ◌*◌, ◌^◌, ◌==◌, ℕ, Bool, true, false, cond, List, ◌∷◌, length, get_or, slice_index_or, drop, sym, ap, subst, arith}
use Rattle.std.proofs.lemmas.List.{drop_more}
use Rattle.std.proofs.Math.Nat.{mul-le-mul_right}
use Rattle.sample_model.specs.Draws.{next, draw_below, after, positive_draws, AreAtMost}
use Rattle.sample_model.specs.Knapsacks.{coefficient, past_place, row_coefficients, matrix, knapsack, greatest_sum, IsRow, AreRows, IsKnapsack}
use Rattle.sample_model.proofs.Series.{series_length, all_series}

-- what is drawn are the numbers of a sample model

draw_small : (n z : ℕ) → 0 < n → 1 + draw_below n z ≤ n
draw_small n z some = grind arith

coefficient_by : (b : Bool) (z : ℕ) → cond b (1 + draw_below 50 z) 0 ≤ 50
coefficient_by true z = draw_small 50 z (omega arith)
coefficient_by false z = omega arith

coefficient_small : (z : ℕ) → coefficient z ≤ 50
coefficient_small z = coefficient_by (draw_below 4 z == 0) (next z)

draws_small : (n count z : ℕ) → 0 < n → AreAtMost n (positive_draws n count z)
draws_small n count z some = record { each = all_series (λ m. m ≤ n) (λ y. 1 + draw_below n y) next count z (λ y. draw_small n y some) }

row_is : (cols z : ℕ) → IsRow cols (row_coefficients cols z)
row_is cols z = record {
  as_many = series_length coefficient past_place cols z;
  small = record { each = all_series (λ m. m ≤ 50) coefficient past_place cols z coefficient_small };
}

pub knapsack_is : (rows cols z : ℕ) → rows ≤ 2 ^ 20 → cols ≤ 2 ^ 20 → IsKnapsack (knapsack rows cols z)
knapsack_is rows cols z few_rows few_cols =
    let many : length (positive_draws 3 cols z) ≡ cols = series_length (λ y. 1 + draw_below 3 y) next cols z in
    let all_rows : AreRows cols (matrix rows cols (after next cols (after next cols z))) = record { each = all_series (IsRow cols) (row_coefficients cols) (after past_place cols) rows (after next cols (after next cols z)) (row_is cols) } in
    record {
      uppers = draws_small 3 cols z (omega arith);
      costs = draws_small 100 cols (after next cols z) (omega arith);
      as_many = series_length (λ y. 1 + draw_below 100 y) next cols (after next cols z) ∙ sym many;
      rows = subst (λ n. AreRows n (matrix rows cols (after next cols (after next cols z)))) (sym many) all_rows;
      few_rows = omega (arith, series_length (row_coefficients cols) (after past_place cols) rows (after next cols (after next cols z)), few_rows);
      few_columns = omega (arith, many, few_cols);
    }

-- ---- the sum of a row

sum_more : (cs us : List ℕ) (at : ℕ) → at < length cs → at < length us
    → greatest_sum (drop at cs) (drop at us) ≡ slice_index_or cs at 0 * slice_index_or us at 0 + greatest_sum (drop (at + 1) cs) (drop (at + 1) us)
sum_more cs us at within known =
    ap (λ xs. greatest_sum xs (drop at us)) (drop_more cs at 0 within) ∙ ap (λ ys. greatest_sum (get_or cs at 0 ∷ drop (at + 1) cs) ys) (drop_more us at 0 known)

pub sum_on : (cs us : List ℕ) (at sum whole : ℕ) → at < length cs → at < length us → sum + greatest_sum (drop at cs) (drop at us) ≡ whole
    → sum + slice_index_or cs at 0 * slice_index_or us at 0 + greatest_sum (drop (at + 1) cs) (drop (at + 1) us) ≡ whole
sum_on cs us at sum whole within known left = omega (arith, left, sum_more cs us at within known)

pub product_small : (a b : ℕ) → a ≤ 50 → b ≤ 3 → a * b ≤ 150
product_small a b first last = let more : a * b ≤ 50 * b = mul-le-mul_right b first in omega (arith, more, last)

pub part_small : (cs us : List ℕ) (at : ℕ) → IsRow (length us) cs → AreAtMost 3 us → at < length cs → slice_index_or cs at 0 * slice_index_or us at 0 ≤ 150
part_small cs us at row uppers within = product_small (slice_index_or cs at 0) (slice_index_or us at 0) (row.small.each at 0 within) (uppers.each at 0 (omega (arith, row.as_many, within)))
