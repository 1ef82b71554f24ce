use Rattle.std.proofs.Common.{◌≡◌, ◌≢◌, ◌∙◌, ℕ, zero, suc, ◌+◌, ◌*◌, ◌<◌, ◌≤◌, ◌^◌, ◌==◌, Bool, true, false, cond, eqb-true, List, [], ◌∷◌, ◌++◌, length, get_or, take, drop, set, ℤ, pos, ◌+ℤ◌, ◌-ℤ◌, ◌*ℤ◌, ◌≤ℤ◌, unsigned_abs, sum_by, All, eq-eqb, ne_eqb, refl, sym, ap, ap₂, subst, arith, length-set, le_trans, mul-le-mul_left}
use Rattle.std.specs.Int.{int_max}
use Rattle.std.proofs.lemmas.Int.{ints, clamps, unsigned_abs-mul}
use Rattle.std.proofs.lemmas.Bool.{false≢true}
use Rattle.std.proofs.lemmas.List.{take-append-drop, get_or-set_same, get_or-set_other}
use Rattle.std.proofs.lemmas.List.Sums.{sum_by-cons, sum_by-append}
use Rattle.ip_core.specs.Numbers.{int_at, int_sum_by}
use Rattle.ip_core.specs.Sides.{Sides, reach}
use Rattle.ip_core.specs.Boxes.{greatest_activity, greatest_part}
use Rattle.ip_core.specs.Rows.{term_width, row_width}
use Rattle.ip_core.specs.declared.row.Row.{Row}
use Rattle.ip_core.specs.declared.row.Term.{Term}
use Rattle.ip_core.proofs.IntSums.{int_sum_by-append}
use Rattle.row_propagate.specs.Kept.{coefs_at, greatest_product, moved_by, with_ends}
use Rattle.row_propagate.specs.Moves.{IsNarrowMove, AreNarrowMoves}
use Rattle.row_propagate.proofs.Transposing.{coefs_at-append}

-- how large a coefficient's product can be where the ends reach this far
abbrev pub part_size : ℕ → ℤ → ℕ
part_size r c = unsigned_abs c * r

-- the ends reach no further than this
pub record Reach (r : ℕ) (low high new_low new_high : ℤ) : Type 0 where
  pub to_low : unsigned_abs low ≤ r
  pub to_high : unsigned_abs high ≤ r
  pub to_new_low : unsigned_abs new_low ≤ r
  pub to_new_high : unsigned_abs new_high ≤ r

product_small : (r : ℕ) (c z : ℤ) → unsigned_abs z ≤ r → unsigned_abs (c *ℤ z) ≤ part_size r c
product_small r c z small = rw unsigned_abs-mul (mul-le-mul_left (unsigned_abs c) small)

-- a coefficient that is small together with the reach
pub narrow_move : (r : ℕ) (low high new_low new_high c : ℤ) → Reach r low high new_low new_high → part_size r c ≤ 2 ^ 50 → IsNarrowMove low high new_low new_high c
narrow_move r low high new_low new_high c ends small = record {
  by_low = le_trans (product_small r c low ends.to_low) small;
  by_high = le_trans (product_small r c high ends.to_high) small;
  by_new_low = le_trans (product_small r c new_low ends.to_new_low) small;
  by_new_high = le_trans (product_small r c new_high ends.to_new_high) small;
}

change_small : (a b c d : ℤ) (n : ℕ) → unsigned_abs a ≤ n → unsigned_abs b ≤ n → unsigned_abs c ≤ n → unsigned_abs d ≤ n → unsigned_abs (int_max a b -ℤ int_max c d) ≤ n + n
change_small a b c d n first second third fourth = grind (arith, ints, clamps)

add_small : (a b : ℤ) (m n : ℕ) → unsigned_abs a ≤ m + m → unsigned_abs b ≤ n + n → unsigned_abs (a +ℤ b) ≤ (m + n) + (m + n)
add_small a b m n first second = omega (arith, ints)

-- a change of an activity is at most twice the sizes of the parts
pub moved_small : (r : ℕ) (low high new_low new_high : ℤ) (cs : List ℤ) → Reach r low high new_low new_high → unsigned_abs (moved_by low high new_low new_high cs) ≤ sum_by (part_size r) cs + sum_by (part_size r) cs
moved_small r low high new_low new_high [] ends = omega arith
moved_small r low high new_low new_high (c ∷ cs) ends =
    rw (sum_by-cons (part_size r) c cs)
    (add_small _ (moved_by low high new_low new_high cs) (part_size r c) (sum_by (part_size r) cs)
    (change_small (c *ℤ new_low) (c *ℤ new_high) (c *ℤ low) (c *ℤ high) (part_size r c) (product_small r c new_low ends.to_new_low) (product_small r c new_high ends.to_new_high) (product_small r c low ends.to_low) (product_small r c high ends.to_high))
    (moved_small r low high new_low new_high cs ends))

-- a sum over the coefficients in a front of the terms is at most that over all
pub front_size : (r k i : ℕ) (xs : List Term) → sum_by (part_size r) (coefs_at k (take i xs)) ≤ sum_by (part_size r) (coefs_at k xs)
front_size r k i xs =
    let whole : coefs_at k xs ≡ coefs_at k (take i xs) ++ coefs_at k (drop i xs) = ap (coefs_at k) (sym (take-append-drop i xs)) ∙ coefs_at-append k (take i xs) (drop i xs) in
    omega (arith, ap (sum_by (part_size r)) whole, sum_by-append (part_size r) (coefs_at k (take i xs)) (coefs_at k (drop i xs)))

own_cases : (r : ℕ) (b : Bool) (c : ℤ) (rest : List ℤ) (width widths : ℕ) → (b ≡ true → part_size r c ≤ width) → sum_by (part_size r) rest ≤ widths → sum_by (part_size r) (cond b (c ∷ rest) rest) ≤ width + widths
own_cases r true c rest width widths own less = rw (sum_by-cons (part_size r) c rest) (omega (arith, own refl, less))
own_cases r false c rest width widths own less = omega (arith, less)

-- a row's coefficients at a column are part of its width
pub coefs_size : (s : Sides) (j : ℕ) (terms : List Term) → sum_by (part_size (reach s j)) (coefs_at j terms) ≤ sum_by (term_width s) terms
coefs_size s j [] = omega arith
coefs_size s j (t ∷ terms) =
    rw (sum_by-cons (term_width s) t terms)
    (own_cases (reach s j) (t.col == j) t.coef (coefs_at j terms) (term_width s t) (sum_by (term_width s) terms)
    (λ same. let at : t.col ≡ j = eqb-true t.col j same in subst (λ k. part_size (reach s k) t.coef ≤ term_width s t) at (omega arith))
    (coefs_size s j terms))

more_size : (r : ℕ) (b : Bool) (c : ℤ) (rest : List ℤ) (n : ℕ) → n ≤ sum_by (part_size r) rest → n ≤ sum_by (part_size r) (cond b (c ∷ rest) rest)
more_size r true c rest n less = rw (sum_by-cons (part_size r) c rest) (omega (arith, less))
more_size r false c rest n less = less

first_size : (r : ℕ) (b : Bool) (c : ℤ) (rest : List ℤ) → b ≡ true → part_size r c ≤ sum_by (part_size r) (cond b (c ∷ rest) rest)
first_size r true c rest same = rw (sum_by-cons (part_size r) c rest) (omega arith)
first_size r false c rest same = cc

-- an entry's part is at most the sum over those at its row
pub entry_size : (r : ℕ) (xs : List Term) (i : ℕ) (d : Term) → i < length xs → part_size r (get_or xs i d).coef ≤ sum_by (part_size r) (coefs_at (get_or xs i d).col xs)
entry_size r [] i d within = absurd (omega (arith, within))
entry_size r (t ∷ xs) zero d within = first_size r (t.col == t.col) t.coef (coefs_at t.col xs) (eq-eqb t.col t.col refl)
entry_size r (t ∷ xs) (suc i) d within =
    more_size r (t.col == (get_or xs i d).col) t.coef (coefs_at (get_or xs i d).col xs) (part_size r (get_or xs i d).coef) (entry_size r xs i d (omega (arith, within)))

moved_false : (a b c rest moved : ℤ) → rest ≡ c +ℤ moved → b ≡ a → (b +ℤ rest) ≡ (a +ℤ c) +ℤ moved
moved_false a b c rest moved same part = omega (arith, ints, same, part)

part_cases : (low high new_low new_high : ℤ) (b : Bool) (c : ℤ) (rest : List ℤ) (old_part new_part old_sum new_sum : ℤ) → (b ≡ true → (old_part ≡ greatest_product low high c) × (new_part ≡ greatest_product new_low new_high c)) → (b ≡ false → new_part ≡ old_part) → new_sum ≡ old_sum +ℤ moved_by low high new_low new_high rest → new_part +ℤ new_sum ≡ (old_part +ℤ old_sum) +ℤ moved_by low high new_low new_high (cond b (c ∷ rest) rest)
part_cases low high new_low new_high true c rest old_part new_part old_sum new_sum own other sums =
    omega (arith, ints, (own refl).0, (own refl).1, sums)
part_cases low high new_low new_high false c rest old_part new_part old_sum new_sum own other sums =
    moved_false old_part new_part old_sum new_sum (moved_by low high new_low new_high rest) sums (other refl)

-- the ends that were put in, and those of another column
ends_there : (s : Sides) (j : ℕ) (new_low new_high c : ℤ) → j < length s.lows → j < length s.highs → greatest_product (int_at (set s.lows j new_low) j) (int_at (set s.highs j new_high) j) c ≡ greatest_product new_low new_high c
ends_there s j new_low new_high c of_lows of_highs = ap₂ (λ a b. greatest_product a b c) (get_or-set_same s.lows j new_low (pos 0) of_lows) (get_or-set_same s.highs j new_high (pos 0) of_highs)

pub ends_apart : (s : Sides) (j : ℕ) (new_low new_high : ℤ) (t : Term) → t.col ≢ j → greatest_part (with_ends s j new_low new_high) t ≡ greatest_part s t
ends_apart s j new_low new_high t apart = ap₂ (λ a b. greatest_product a b t.coef) (get_or-set_other s.lows j t.col new_low (pos 0) apart) (get_or-set_other s.highs j t.col new_high (pos 0) apart)

-- the greatest activity over the box with other ends of a column
pub activity_moved : (s : Sides) (j : ℕ) (new_low new_high : ℤ) (terms : List Term) → j < length s.lows → j < length s.highs → greatest_activity (with_ends s j new_low new_high) terms ≡ greatest_activity s terms +ℤ moved_by (int_at s.lows j) (int_at s.highs j) new_low new_high (coefs_at j terms)
activity_moved s j new_low new_high [] of_lows of_highs = omega (arith, ints)
activity_moved s j new_low new_high (t ∷ terms) of_lows of_highs =
    let new_s = with_ends s j new_low new_high in
    part_cases (int_at s.lows j) (int_at s.highs j) new_low new_high (t.col == j) t.coef (coefs_at j terms) (greatest_part s t) (greatest_part new_s t) (greatest_activity s terms) (greatest_activity new_s terms)
    (λ same.
    let at : t.col ≡ j = eqb-true t.col j same in (
      ap (λ k. greatest_product (int_at s.lows k) (int_at s.highs k) t.coef) at,
      ap (λ k. greatest_product (int_at new_s.lows k) (int_at new_s.highs k) t.coef) at ∙ ends_there s j new_low new_high t.coef of_lows of_highs,
    ))
    (λ fails. ends_apart s j new_low new_high t (λ same. absurd (false≢true (sym fails ∙ eq-eqb t.col j same))))
    (activity_moved s j new_low new_high terms of_lows of_highs)
