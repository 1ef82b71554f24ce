use Rattle.std.proofs.Common.{◌≡◌, ℕ, zero, suc, ◌+◌, ◌<◌, ◌≤◌, Bool, true, false, not, ◌==◌, ◌&&◌, if◌then◌else◌, List, [], ◌∷◌, length, get_or, set, ℤ, refl, arith, add-one}
use Rattle.std.proofs.lemmas.Bool.Decides.{nat_tests}
use Rattle.std.proofs.lemmas.List.{get_or-set_other}
use Rattle.std.proofs.lemmas.Slice.Eq.{bytes_eq-Decides}
use Rattle.dual_ascent.specs.Climbs.{after_row, after_rows, is_same}

-- before the first row the multipliers are as they were
pub after_rows_none : (worth : List ℕ → ℤ) (size : ℕ) (ys : List ℕ) → after_rows worth size ys 0 ≡ ys
unfolding after_rows
after_rows_none worth size ys = refl

-- one more row
pub after_rows_more : (worth : List ℕ → ℤ) (size : ℕ) (ys : List ℕ) (n : ℕ) → after_rows worth size ys (n + 1) ≡ after_row worth size (after_rows worth size ys n) n
unfolding after_rows
after_rows_more worth size ys n = rw add-one refl

-- a list is the same as itself
pub is_same-itself : (ys : List ℕ) → is_same ys ys ≡ true
is_same-itself ys = (bytes_eq-Decides ys ys).1 refl

head_first : (x z : ℕ) (s : Bool) → z ≡ x → (nat_test : Bool) → nat_test ≡ (x == z) → (y : ℕ) → ((x == y) && s) ≡ ((nat_test && s) && (y == x))
head_first x z s same test is y = grind (arith, nat_tests)

and_assoc : (a b c : Bool) → (a && (b && c)) ≡ ((a && b) && c)
and_assoc true b c = refl
and_assoc false b c = refl

-- a list of which one more place was set is the same where it was and the new number is the old one
pub is_same-set : (ys now : List ℕ) (i y : ℕ) → i < length ys → length now ≡ length ys → get_or now i 0 ≡ get_or ys i 0 → is_same ys (set now i y) ≡ (is_same ys now && (y == get_or ys i 0))
is_same-set [] now i y within long own = absurd (omega arith)
is_same-set (x ∷ ys) [] i y within long own = absurd (omega arith)
is_same-set (x ∷ ys) (z ∷ now) zero y within long own = head_first x z (is_same ys now) own (x == z) refl y
is_same-set (x ∷ ys) (z ∷ now) (suc i) y within long own = rw (is_same-set ys now i y (omega arith) (omega arith) own) (and_assoc (x == z) (is_same ys now) (y == get_or ys i 0))

flag_choice : (b s : Bool) (t own : ℕ) → b ≡ not (t == own) → (if b then false else s) ≡ (s && (t == own))
flag_choice true s t own e = grind (arith, nat_tests)
flag_choice false s t own e = grind (arith, nat_tests)

-- the flag after a row: lowered where the row changed its multiplier
pub flag_more : (ys now : List ℕ) (i t : ℕ) (changed flag : Bool) → i < length ys → length now ≡ length ys → get_or now i 0 ≡ get_or ys i 0 → changed ≡ not (t == get_or now i 0) → flag ≡ is_same ys now → (if changed then false else flag) ≡ is_same ys (set now i t)
flag_more ys now i t changed flag within long own is_changed is_flag =
    let here : changed ≡ not (t == get_or ys i 0) = rw own at is_changed in
    rw (is_same-set ys now i t within long own, is_flag) (flag_choice changed (is_same ys now) t (get_or ys i 0) here)

-- a row leaves the later multipliers
pub later_untouched : (now ys : List ℕ) (i t k : ℕ) → ((j : ℕ) → i ≤ j → get_or now j 0 ≡ get_or ys j 0) → i + 1 ≤ k → get_or (set now i t) k 0 ≡ get_or ys k 0
later_untouched now ys i t k before later = rw (get_or-set_other now i k t 0 (λ e. omega arith)) (before k (omega arith))
