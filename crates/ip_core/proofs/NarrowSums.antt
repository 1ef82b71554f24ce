use Rattle.std.proofs.Common.{◌≡◌, ◌∙◌, ℕ, ◌+◌, ◌<◌, ◌≤◌, ◌^◌, List, length, get_or, take, ℤ, ◌+ℤ◌, unsigned_abs, sum_by, FitsSigned, w64, to_z, of_z, sym, ap₂, le_trans, le_refl}
use Rattle.std.proofs.lemmas.List.Sums.{sum_by-take-le}
use Rattle.ip_core.specs.Numbers.{int_sum_by, int_sum_below}
use Rattle.ip_core.proofs.IntSums.{int_sum_by_more, int_sum_below_more, unsigned_abs-int_sum_by}
use Rattle.ip_core.proofs.RunningSums.{sum_fits, sum_is}
use Rattle.ip_core.proofs.Widths.{narrow_fits}

-- the sum so far and the part of the next item make the next sum
pub sum_next : {A : Type 0} (f : A → ℤ) (xs : List A) (i : ℕ) (d : A) (sum part : ℤ) → i < length xs → sum ≡ int_sum_by f (take i xs) → part ≡ f (get_or xs i d) → sum +ℤ part ≡ int_sum_by f (take (i + 1) xs)
sum_next f xs i d sum part within so_far here = ap₂ (λ a b. a +ℤ b) so_far here ∙ sym (int_sum_by_more f xs i d within)

-- a sum over a front of a list is no larger than the bounds on all terms together
pub front_small : {A : Type 0} (f : A → ℤ) (g : A → ℕ) (xs : List A) (i : ℕ) → ((x : A) → unsigned_abs (f x) ≤ g x) → unsigned_abs (int_sum_by f (take i xs)) ≤ sum_by g xs
front_small f g xs i each = le_trans (unsigned_abs-int_sum_by f g (take i xs) (λ k d h. each (get_or (take i xs) k d))) (sum_by-take-le g xs i)

-- the two goals of a loop of 64 bits over items whose parts are narrow
pub narrow_sum_fits : {A : Type 0} (f : A → ℤ) (g : A → ℕ) (xs : List A) (i : ℕ) (d : A) (sum part : ℤ) → ((x : A) → unsigned_abs (f x) ≤ g x) → sum_by g xs ≤ 2 ^ 50 → FitsSigned w64 part → i < length xs → sum ≡ int_sum_by f (take i xs) → part ≡ f (get_or xs i d) → FitsSigned w64 (sum +ℤ to_z w64 (of_z w64 part))
narrow_sum_fits f g xs i d sum part each narrow fits within so_far here =
    sum_fits w64 sum part (int_sum_by f (take (i + 1) xs)) fits (sum_next f xs i d sum part within so_far here) (narrow_fits (int_sum_by f (take (i + 1) xs)) (sum_by g xs) (front_small f g xs (i + 1) each) narrow)

pub narrow_sum_is : {A : Type 0} (f : A → ℤ) (g : A → ℕ) (xs : List A) (i : ℕ) (d : A) (sum part : ℤ) → ((x : A) → unsigned_abs (f x) ≤ g x) → sum_by g xs ≤ 2 ^ 50 → FitsSigned w64 part → i < length xs → sum ≡ int_sum_by f (take i xs) → part ≡ f (get_or xs i d) → to_z w64 (of_z w64 (sum +ℤ to_z w64 (of_z w64 part))) ≡ int_sum_by f (take (i + 1) xs)
narrow_sum_is f g xs i d sum part each narrow fits within so_far here =
    sum_is w64 sum part (int_sum_by f (take (i + 1) xs)) fits (sum_next f xs i d sum part within so_far here) (narrow_fits (int_sum_by f (take (i + 1) xs)) (sum_by g xs) (front_small f g xs (i + 1) each) narrow)

below_next : (f : ℕ → ℤ) (j : ℕ) (sum part : ℤ) → sum ≡ int_sum_below j f → part ≡ f j → sum +ℤ part ≡ int_sum_below (j + 1) f
below_next f j sum part so_far here = ap₂ (λ a b. a +ℤ b) so_far here ∙ sym (int_sum_below_more f j)

-- the same two goals of a loop over numbers
pub narrow_below_fits : (f : ℕ → ℤ) (j : ℕ) (sum part : ℤ) → unsigned_abs (int_sum_below (j + 1) f) ≤ 2 ^ 50 → FitsSigned w64 part → sum ≡ int_sum_below j f → part ≡ f j → FitsSigned w64 (sum +ℤ to_z w64 (of_z w64 part))
narrow_below_fits f j sum part small fits so_far here =
    sum_fits w64 sum part (int_sum_below (j + 1) f) fits (below_next f j sum part so_far here) (narrow_fits (int_sum_below (j + 1) f) (2 ^ 50) small (le_refl (2 ^ 50)))

pub narrow_below_is : (f : ℕ → ℤ) (j : ℕ) (sum part : ℤ) → unsigned_abs (int_sum_below (j + 1) f) ≤ 2 ^ 50 → FitsSigned w64 part → sum ≡ int_sum_below j f → part ≡ f j → to_z w64 (of_z w64 (sum +ℤ to_z w64 (of_z w64 part))) ≡ int_sum_below (j + 1) f
narrow_below_is f j sum part small fits so_far here =
    sum_is w64 sum part (int_sum_below (j + 1) f) fits (below_next f j sum part so_far here) (narrow_fits (int_sum_below (j + 1) f) (2 ^ 50) small (le_refl (2 ^ 50)))
