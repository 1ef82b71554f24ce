use Rattle.std.proofs.Common.{◌≡◌, ℕ, zero, suc, ◌<◌, ◌≤◌, Bool, true, false, ◌⊎◌, inl, inr, length, ℤ, ◌≤ℤ◌, ◌<ℤ◌, int_lt, Some, None, arith, refl}
use Rattle.std.proofs.lemmas.Bool.{cases_lt}
use Rattle.std.proofs.lemmas.Int.{ints}
use Rattle.ip_core.specs.Numbers.{int_at}
use Rattle.ip_core.specs.Sides.{Sides, HasNoEmpty, IsFirstEmpty}
use Rattle.row_propagate.specs.Passes.{first_below, first_empty}

first_below_none : (n : ℕ) (test : ℕ → Bool) → ((k : ℕ) → k < n → test k ≡ false) → first_below n test ≡ None
first_below_none zero test fails = refl
first_below_none (suc n) test fails = rw (first_below_none n test (λ k h. fails k (omega arith)), fails n (omega arith)) refl

first_cases : (n : ℕ) (test : ℕ → Bool) (j : ℕ) → (j < n → first_below n test ≡ Some j) → test j ≡ true → ((k : ℕ) → k < j → test k ≡ false) → (j < n) ⊎ (j ≡ n) → first_below (suc n) test ≡ Some j
first_cases n test j before holds fails (inl below) = rw (before below) refl
first_cases n test j before holds fails (inr last) = rw (first_below_none n test (λ k h. fails k (omega (arith, last))), ← last, holds) refl

last_or : (n j : ℕ) → j < suc n → (j < n) ⊎ (n ≤ j) → (j < n) ⊎ (j ≡ n)
last_or n j known (inl below) = inl below
last_or n j known (inr above) = inr (omega arith)

first_below_at : (n : ℕ) (test : ℕ → Bool) (j : ℕ) → j < n → test j ≡ true → ((k : ℕ) → k < j → test k ≡ false) → first_below n test ≡ Some j
first_below_at zero test j known holds fails = absurd (omega (arith, known))
first_below_at (suc n) test j known holds fails = first_cases n test j (λ below. first_below_at n test j below holds fails) holds fails (last_or n j known (cases_lt j n))

open_test : (high low : ℤ) → low ≤ℤ high → int_lt high low ≡ false
open_test high low ordered = grind (arith, ints)

-- a box without empty columns has no first one
pub first_empty_none : (s : Sides) → HasNoEmpty s → first_empty s ≡ None
first_empty_none s solid = first_below_none (length s.lows) (λ j. int_lt (int_at s.highs j) (int_at s.lows j)) (λ k h. open_test (int_at s.highs k) (int_at s.lows k) (solid.all k h).ordered)

empty_test : (high low : ℤ) → high <ℤ low → int_lt high low ≡ true
empty_test high low crossed = grind (arith, ints)

-- the first empty column is found
pub first_empty_at : (s : Sides) (j : ℕ) → IsFirstEmpty s j → first_empty s ≡ Some j
first_empty_at s j first =
    first_below_at (length s.lows) (λ k. int_lt (int_at s.highs k) (int_at s.lows k)) j first.known (empty_test (int_at s.highs j) (int_at s.lows j) first.empty.crossed) (λ k h. open_test (int_at s.highs k) (int_at s.lows k) (first.before k h).ordered)
