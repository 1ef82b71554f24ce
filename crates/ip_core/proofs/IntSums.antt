use Rattle.std.proofs.Common.{◌≡◌, ◌∙◌, ℕ, zero, suc, ◌+◌, ◌<◌, ◌≤◌, max, List, [], ◌∷◌, ◌++◌, length, get_or, take, ℤ, pos, ◌+ℤ◌, ◌≤ℤ◌, unsigned_abs, sum_by, All, ◌⊎◌, inl, inr, FitsSigned, w64, to_z, of_z, int_lt, false, refl, ap, arith, add-one}
use Rattle.std.proofs.lemmas.Int.{ints, to_z-of_z}
use Rattle.std.proofs.lemmas.List.{take_more}
use Rattle.std.proofs.lemmas.List.Sums.{sum_by-cons}
use Rattle.std.proofs.Math.Nat.{le-suc_iff}
use Rattle.ip_core.specs.Numbers.{int_sum_by, int_sum_below, sum_below}

-- the absolute value of a sum is at most the sum of the absolute values
pub unsigned_abs-add : (a b : ℤ) → unsigned_abs (a +ℤ b) ≤ unsigned_abs a + unsigned_abs b
unsigned_abs-add a b = omega (arith, ints)

-- the same, with bounds on the two
pub unsigned_abs-add_le : (a b : ℤ) (m n : ℕ) → unsigned_abs a ≤ m → unsigned_abs b ≤ n → unsigned_abs (a +ℤ b) ≤ m + n
unsigned_abs-add_le a b m n first second = omega (arith, unsigned_abs-add a b)

-- a sum over two lists, one after the other
pub int_sum_by-append : {A : Type 0} (f : A → ℤ) (xs ys : List A) → int_sum_by f (xs ++ ys) ≡ int_sum_by f xs +ℤ int_sum_by f ys
int_sum_by-append f [] ys = omega (arith, ints)
int_sum_by-append f (x ∷ xs) ys = omega (arith, ints, int_sum_by-append f xs ys)

add_nothing : (a b : ℤ) → a +ℤ (b +ℤ pos 0) ≡ a +ℤ b
add_nothing a b = omega (arith, ints)

-- one more item of a sum over a front of a list
pub int_sum_by_more : {A : Type 0} (f : A → ℤ) (xs : List A) (i : ℕ) (d : A) → i < length xs → int_sum_by f (take (i + 1) xs) ≡ int_sum_by f (take i xs) +ℤ f (get_or xs i d)
int_sum_by_more f xs i d within =
    ap (int_sum_by f) (take_more xs i d within) ∙ int_sum_by-append f (take i xs) (get_or xs i d ∷ []) ∙ add_nothing (int_sum_by f (take i xs)) (f (get_or xs i d))

-- one more number of a sum over the numbers below n
pub int_sum_below_more : (f : ℕ → ℤ) (n : ℕ) → int_sum_below (n + 1) f ≡ int_sum_below n f +ℤ f n
int_sum_below_more f n = rw add-one refl

-- what a comparison at 64 bits says where it fails
pub not_below : (a b : ℤ) → FitsSigned w64 a → FitsSigned w64 b → int_lt (to_z w64 (of_z w64 a)) (to_z w64 (of_z w64 b)) ≡ false → b ≤ℤ a
not_below a b first second fails =
    let plain : int_lt a b ≡ false = rw (to_z-of_z w64 a first, to_z-of_z w64 b second) at fails in
    grind (arith, ints)

-- a sum is at most as large as the sum of bounds on its terms
pub unsigned_abs-int_sum_by : {A : Type 0} (f : A → ℤ) (g : A → ℕ) (xs : List A) → All (λ x. unsigned_abs (f x) ≤ g x) xs → unsigned_abs (int_sum_by f xs) ≤ sum_by g xs
unsigned_abs-int_sum_by f g [] all = omega arith
unsigned_abs-int_sum_by f g (x ∷ xs) all =
    rw sum_by-cons (unsigned_abs-add_le (f x) (int_sum_by f xs) (g x) (sum_by g xs) (all 0 x (omega arith)) (unsigned_abs-int_sum_by f g xs (λ k d h. all (suc k) d (omega arith))))

-- the same of a sum over the numbers below n
pub unsigned_abs-int_sum_below : (n : ℕ) (f : ℕ → ℤ) (g : ℕ → ℕ) → ((j : ℕ) → j < n → unsigned_abs (f j) ≤ g j) → unsigned_abs (int_sum_below n f) ≤ sum_below n g
unsigned_abs-int_sum_below zero f g all = omega arith
unsigned_abs-int_sum_below (suc n) f g all =
    unsigned_abs-add_le (int_sum_below n f) (f n) (sum_below n g) (g n) (unsigned_abs-int_sum_below n f g (λ j h. all j (omega arith))) (all n (omega arith))

front_cases : (i n : ℕ) (g : ℕ → ℕ) → (i ≤ n → sum_below i g ≤ sum_below n g) → (i ≤ n) ⊎ (i ≡ suc n) → sum_below i g ≤ sum_below (suc n) g
front_cases i n g below (inl few) = omega (arith, below few)
front_cases i n g below (inr whole) = rw whole (omega arith)

-- a sum over fewer numbers is no greater
pub sum_below_front : (i n : ℕ) (g : ℕ → ℕ) → i ≤ n → sum_below i g ≤ sum_below n g
sum_below_front i zero g few = let none : i ≡ 0 = omega arith in rw none (omega arith)
sum_below_front i (suc n) g few = front_cases i n g (sum_below_front i n g) (le-suc_iff.0 few)

-- a value between two others reaches no further from 0 than the one of them that reaches furthest
pub unsigned_abs_between : (low x high : ℤ) → low ≤ℤ x → x ≤ℤ high → unsigned_abs x ≤ max (unsigned_abs low) (unsigned_abs high)
unsigned_abs_between low x high above below = omega (arith, ints)
