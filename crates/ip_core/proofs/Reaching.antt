-- How far a box reaches that is within the reach of another, as a box within the root box is.
use Rattle.std.proofs.Common.{◌≡◌, ℕ, ◌<◌, ◌≤◌, ◌^◌, ◌⊎◌, inl, inr, List, length, take, ℤ, pos, ◌≤ℤ◌, unsigned_abs, sum_by, refl, arith, le_trans, mul-le-mul_left}
use Rattle.std.proofs.lemmas.Bool.{cases_lt}
use Rattle.std.proofs.lemmas.Int.{ints}
use Rattle.std.proofs.lemmas.List.{get_or_past}
use Rattle.std.proofs.lemmas.List.Elements.{All-weaker}
use Rattle.std.proofs.lemmas.List.Sums.{sum_by-le-sum_by}
use Rattle.ip_core.specs.Numbers.{int_at, int_sum_below}
use Rattle.ip_core.specs.Sides.{Sides, HasLimits, HasNoEmpty, IsWithinLimit, reach}
use Rattle.ip_core.specs.Rows.{IsRow, AreRows, IsReady, AreReady, part_width, term_width, row_width}
use Rattle.ip_core.specs.Models.{IsModel}
use Rattle.ip_core.specs.Boxes.{IsWithin, IsWithinReach, greatest_activity, greatest_part, least_share, greatest_share}
use Rattle.ip_core.specs.declared.model.ModelParts.{ModelParts}
use Rattle.ip_core.specs.declared.row.Row.{Row}
use Rattle.ip_core.specs.declared.row.Term.{Term}
use Rattle.ip_core.proofs.BoxParts.{greatest_part_small, least_part_small}
use Rattle.ip_core.proofs.IntSums.{unsigned_abs_between, unsigned_abs-int_sum_below, sum_below_front}
use Rattle.ip_core.proofs.NarrowSums.{front_small}
use Rattle.ip_core.proofs.Widths.{part_within_width, model_costs_narrow}

-- the root box is within its own reach, also where a column is empty
pub root_within_reach : (root : Sides) → IsWithinReach root root
root_within_reach root = record { columns = refl; lows = λ j. omega arith; highs = λ j. omega arith }

between_reach : (root : Sides) (z : ℤ) (j : ℕ) → int_at root.lows j ≤ℤ z → z ≤ℤ int_at root.highs j → unsigned_abs z ≤ reach root j
between_reach root z j above below = omega (arith, unsigned_abs_between (int_at root.lows j) z (int_at root.highs j) above below)

past_end : (xs : List ℤ) (j n : ℕ) → length xs ≤ j → unsigned_abs (int_at xs j) ≤ n
past_end xs j n past = rw (get_or_past xs j (pos 0) past) (omega arith)

low_reach : (root s : Sides) (j : ℕ) → IsWithin root s → HasNoEmpty s → (j < length s.lows) ⊎ (length s.lows ≤ j) → unsigned_abs (int_at s.lows j) ≤ reach root j
low_reach root s j within inhabited (inl known) =
    between_reach root (int_at s.lows j) j (within.lows j known) (omega (arith, ints, (inhabited.all j known).ordered, within.highs j known))
low_reach root s j within inhabited (inr past) = past_end s.lows j (reach root j) past

high_reach : (root s : Sides) (j : ℕ) → IsWithin root s → length s.highs ≡ length s.lows → HasNoEmpty s → (j < length s.lows) ⊎ (length s.lows ≤ j) → unsigned_abs (int_at s.highs j) ≤ reach root j
high_reach root s j within paired inhabited (inl known) =
    between_reach root (int_at s.highs j) j (omega (arith, ints, (inhabited.all j known).ordered, within.lows j known)) (within.highs j known)
high_reach root s j within paired inhabited (inr past) = past_end s.highs j (reach root j) (omega (arith, paired))

-- so is a box within the root box that has no empty column
pub open_within_reach : (root s : Sides) → IsWithin root s → length s.highs ≡ length s.lows → HasNoEmpty s → IsWithinReach root s
open_within_reach root s within paired inhabited = record {
  columns = within.as_many_lows;
  lows = λ j. low_reach root s j within inhabited (cases_lt j (length s.lows));
  highs = λ j. high_reach root s j within paired inhabited (cases_lt j (length s.lows));
}

-- the same for the root box of a model
pub model_within_reach : (m : ModelParts) (s : Sides) → IsModel m → IsWithin m.root s → HasNoEmpty s → IsWithinReach m.root s
model_within_reach m s valid within inhabited =
    open_within_reach m.root s within (omega (arith, within.as_many_lows, within.as_many_highs, valid.bounds.box, valid.bounds.highs)) inhabited

limit_at : (xs : List ℤ) (j : ℕ) → IsWithinLimit xs → (j < length xs) ⊎ (length xs ≤ j) → unsigned_abs (int_at xs j) ≤ 2 ^ 31
limit_at xs j limit (inl known) = limit.each j (pos 0) known
limit_at xs j limit (inr past) = past_end xs j (2 ^ 31) past

-- a box with limits reaches no further than 2^31
pub reach-le_limit : (root : Sides) (j : ℕ) → HasLimits root → reach root j ≤ 2 ^ 31
reach-le_limit root j limits =
    let low = limit_at root.lows j limits.lows (cases_lt j (length root.lows)) in
    let high = limit_at root.highs j limits.highs (cases_lt j (length root.highs)) in
    omega (arith, low, high)

-- a column of a box within reach reaches no further than in the root box
pub reach-le : (root s : Sides) (j : ℕ) → IsWithinReach root s → reach s j ≤ reach root j
reach-le root s j near = omega (arith, near.lows j, near.highs j)

-- so no part of a width is greater there
pub part_width-le : (root s : Sides) (c : ℤ) (j : ℕ) → IsWithinReach root s → part_width s c j ≤ part_width root c j
part_width-le root s c j near = mul-le-mul_left (unsigned_abs c) (reach-le root s j near)

-- and no row is wider
pub row_width-le : (root s : Sides) (row : Row) → IsWithinReach root s → row_width s row ≤ row_width root row
row_width-le root s row near =
    let terms : sum_by (term_width s) row.terms ≤ sum_by (term_width root) row.terms = sum_by-le-sum_by (term_width s) (term_width root) row.terms (λ t. part_width-le root s t.coef t.col near) in
    omega (arith, terms)

-- a row of a model with this root box is ready for the box
pub row_ready : (n : ℕ) (root s : Sides) (row : Row) → length root.lows ≡ n → IsWithinReach root s → IsRow n root row → IsReady s row
row_ready n root s row columns near valid = record {
  terms = rw (near.columns, columns) valid.terms;
  narrow = le_trans (row_width-le root s row near) valid.narrow;
}

-- and so are all its rows, and cuts that keep the same limits
pub rows_ready : (n : ℕ) (root s : Sides) (rows : List Row) → length root.lows ≡ n → IsWithinReach root s → AreRows n root rows → AreReady s rows
rows_ready n root s rows columns near valid = record { each = All-weaker (IsRow n root) (IsReady s) (λ row h. row_ready n root s row columns near h) rows valid.each }

-- the greatest activity of a front of a row is no larger than the row's width over the root box
pub activity_within_width : (root s : Sides) (row : Row) (i : ℕ) → IsWithinReach root s → unsigned_abs (greatest_activity s (take i row.terms)) ≤ row_width root row
activity_within_width root s row i near =
    let front : unsigned_abs (greatest_activity s (take i row.terms)) ≤ sum_by (term_width s) row.terms = front_small (λ (t : Term). greatest_part s t) (term_width s) row.terms i (greatest_part_small s) in
    omega (arith, front, row_width-le root s row near)

-- what a column adds at least, and at most, is no larger than its part of the objective's width
pub least_share_within : (m : ModelParts) (s : Sides) (j : ℕ) → IsWithinReach m.root s → unsigned_abs (least_share m s j) ≤ part_width m.root (int_at m.costs j) j
least_share_within m s j near =
    let t : Term = record { col = j; coef = int_at m.costs j } in
    le_trans (least_part_small s t) (part_width-le m.root s (int_at m.costs j) j near)

pub greatest_share_within : (m : ModelParts) (s : Sides) (j : ℕ) → IsWithinReach m.root s → unsigned_abs (greatest_share m s j) ≤ part_width m.root (int_at m.costs j) j
greatest_share_within m s j near =
    let t : Term = record { col = j; coef = int_at m.costs j } in
    le_trans (greatest_part_small s t) (part_width-le m.root s (int_at m.costs j) j near)

shares_small : (m : ModelParts) (f : ℕ → ℤ) (i : ℕ) → IsModel m → ((j : ℕ) → unsigned_abs (f j) ≤ part_width m.root (int_at m.costs j) j) → i ≤ length m.costs → unsigned_abs (int_sum_below i f) ≤ 2 ^ 50
shares_small m f i valid each few =
    let width : ℕ → ℕ = λ j. part_width m.root (int_at m.costs j) j in
    let front = unsigned_abs-int_sum_below i f (λ j. part_width m.root (int_at m.costs j) j) (λ j h. each j) in
    omega (arith, front, sum_below_front i (length m.costs) (λ j. part_width m.root (int_at m.costs j) j) few, model_costs_narrow m m m.costs refl refl valid)

-- the shares of the first columns add up to no more than the greatest width
pub least_shares_small : (m : ModelParts) (s : Sides) (i : ℕ) → IsModel m → IsWithinReach m.root s → i ≤ length m.costs → unsigned_abs (int_sum_below i (least_share m s)) ≤ 2 ^ 50
least_shares_small m s i valid near few = shares_small m (least_share m s) i valid (λ j. least_share_within m s j near) few

pub greatest_shares_small : (m : ModelParts) (s : Sides) (i : ℕ) → IsModel m → IsWithinReach m.root s → i ≤ length m.costs → unsigned_abs (int_sum_below i (greatest_share m s)) ≤ 2 ^ 50
greatest_shares_small m s i valid near few = shares_small m (greatest_share m s) i valid (λ j. greatest_share_within m s j near) few

-- a column with its cost, as a term, is no wider than the greatest width
pub cost_narrow : (m : ModelParts) (s : Sides) (j : ℕ) → IsModel m → IsWithinReach m.root s → j < length m.costs → part_width s (int_at m.costs j) j ≤ 2 ^ 50
cost_narrow m s j valid near known =
    omega (arith, part_width-le m.root s (int_at m.costs j) j near, part_within_width m.root m.costs j (length m.costs) known, model_costs_narrow m m m.costs refl refl valid)
