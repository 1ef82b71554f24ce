-- The test of a point says whether it is feasible.
use Rattle.std.proofs.Common.{◌≡◌, ℕ, zero, suc, ◌<◌, ◌≤◌, ◌⊎◌, inl, inr, Bool, true, false, ◌&&◌, nat_eq, List, length, get_or, ℤ, int_le, ◌≤ℤ◌, refl, arith}
use Rattle.std.specs.Bool.{Decides}
use Rattle.std.specs.List.{list_all}
use Rattle.std.proofs.lemmas.Bool.{cases_lt, false≢true}
use Rattle.std.proofs.lemmas.Bool.Decides.{nat_tests}
use Rattle.std.proofs.lemmas.Int.{ints}
use Rattle.std.proofs.lemmas.List.Sums.{AllPass-from_list_all, list_all-from_AllPass}
use Rattle.ip_core.specs.Numbers.{int_at}
use Rattle.ip_core.specs.Sides.{Sides, IsInside}
use Rattle.ip_core.specs.Rows.{IsMet}
use Rattle.ip_core.specs.Truth.{IsFeasible}
use Rattle.ip_core.specs.declared.model.ModelParts.{ModelParts}
use Rattle.ip_core.specs.declared.row.Row.{Row}
use Rattle.round_dive.specs.Feasible.{all_below, is_inside_at, is_met_at, is_feasible_at}

pub and_true : (a b : Bool) → (a && b) ≡ true → (a ≡ true) × (b ≡ true)
and_true true b h = (refl, h)
and_true false b h = absurd (false≢true h)

pub both_true : (a b : Bool) → a ≡ true → b ≡ true → (a && b) ≡ true
both_true a b first second = rw (first, second) refl

below_cases : (n j : ℕ) (test : ℕ → Bool) → (j < n → test j ≡ true) → test n ≡ true
    → (j < n) ⊎ (n ≤ j) → j < suc n → test j ≡ true
below_cases n j test before last (inl less) below = before less
below_cases n j test before last (inr here) below = let same : j ≡ n = omega arith in rw same last

all_below_each : (n : ℕ) (test : ℕ → Bool) → all_below n test ≡ true → (j : ℕ) → j < n
    → test j ≡ true
all_below_each zero test all j below = absurd (omega arith)
all_below_each (suc n) test all j below =
    let parts = and_true (all_below n test) (test n) all in
    below_cases n j test (all_below_each n test parts.0 j) parts.1 (cases_lt j n) below

all_below_from : (n : ℕ) (test : ℕ → Bool) → ((j : ℕ) → j < n → test j ≡ true)
    → all_below n test ≡ true
all_below_from zero test each = refl
all_below_from (suc n) test each =
    both_true (all_below n test) (test n)
    (all_below_from n test (λ j h. each j (omega arith))) (each n (omega arith))

le_from_test : (a b : ℤ) → int_le a b ≡ true → a ≤ℤ b
le_from_test a b h = grind (arith, ints)

test_from_le : (a b : ℤ) → a ≤ℤ b → int_le a b ≡ true
test_from_le a b h = grind (arith, ints)

met_from_test : (x : List ℤ) (row : Row) → is_met_at x row ≡ true → IsMet x row
met_from_test x row h = record { reached = le_from_test _ _ h }

test_from_met : (x : List ℤ) (row : Row) → IsMet x row → is_met_at x row ≡ true
test_from_met x row met = test_from_le _ _ met.reached

inside_from_test : (s : Sides) (x : List ℤ) → is_inside_at s x ≡ true → IsInside s x
inside_from_test s x h = record {
  above = λ j k. le_from_test _ _
      (and_true (int_le (int_at s.lows j) (int_at x j)) (int_le (int_at x j) (int_at s.highs j))
      (all_below_each (length x)
      (λ i. int_le (int_at s.lows i) (int_at x i) && int_le (int_at x i) (int_at s.highs i)) h j
      k)).0;
  below = λ j k. le_from_test _ _
      (and_true (int_le (int_at s.lows j) (int_at x j)) (int_le (int_at x j) (int_at s.highs j))
      (all_below_each (length x)
      (λ i. int_le (int_at s.lows i) (int_at x i) && int_le (int_at x i) (int_at s.highs i)) h j
      k)).1;
}

test_from_inside : (s : Sides) (x : List ℤ) → IsInside s x → is_inside_at s x ≡ true
test_from_inside s x inside =
    all_below_from (length x)
    (λ i. int_le (int_at s.lows i) (int_at x i) && int_le (int_at x i) (int_at s.highs i))
    (λ j k. both_true _ _ (test_from_le _ _ (inside.above j k))
    (test_from_le _ _ (inside.below j k)))

eq_from_test : (a b : ℕ) → nat_eq a b ≡ true → a ≡ b
eq_from_test a b h = grind (arith, nat_tests)

test_from_eq : (a b : ℕ) → a ≡ b → nat_eq a b ≡ true
test_from_eq a b h = grind (arith, nat_tests)

feasible_from_test : (m : ModelParts) (x : List ℤ) → is_feasible_at m x ≡ true → IsFeasible m x
feasible_from_test m x h =
    let parts = and_true (nat_eq (length x) (length m.cols) && is_inside_at m.root x)
    (list_all (is_met_at x) m.rows) h in
    let front = and_true (nat_eq (length x) (length m.cols)) (is_inside_at m.root x) parts.0 in
    record {
      one_each = eq_from_test _ _ front.0;
      inside = inside_from_test m.root x front.1;
      rows_met = record {
        each = λ k d within. met_from_test x (get_or m.rows k d)
            (AllPass-from_list_all (is_met_at x) m.rows parts.1 k d within);
      };
    }

test_from_feasible : (m : ModelParts) (x : List ℤ) → IsFeasible m x → is_feasible_at m x ≡ true
test_from_feasible m x feasible =
    both_true _ _
    (both_true _ _ (test_from_eq _ _ feasible.one_each) (test_from_inside m.root x feasible.inside))
    (list_all-from_AllPass (is_met_at x) m.rows
    (λ k d within. test_from_met x (get_or m.rows k d) (feasible.rows_met.each k d within)))

pub feasible_decides : (m : ModelParts) (x : List ℤ)
    → Decides (is_feasible_at m x) (IsFeasible m x)
feasible_decides m x = (feasible_from_test m x, test_from_feasible m x)
