use Rattle.std.proofs.Common.{ℕ, ◌≤◌, ℤ, ◌*ℤ◌, unsigned_abs, arith, mul-le-mul_left, le-mul_of_pos_right}
use Rattle.std.specs.Int.{int_max, int_min}
use Rattle.std.proofs.lemmas.Int.{ints, clamps, unsigned_abs-mul}
use Rattle.ip_core.specs.Numbers.{int_at}
use Rattle.ip_core.specs.Sides.{Sides, reach}
use Rattle.ip_core.specs.Rows.{part_width, term_width}
use Rattle.ip_core.specs.Boxes.{greatest_part, least_part}
use Rattle.ip_core.specs.declared.row.Term.{Term}

reached : (s : Sides) (c z : ℤ) (j : ℕ) → unsigned_abs z ≤ reach s j → unsigned_abs (c *ℤ z) ≤ part_width s c j
reached s c z j small = rw unsigned_abs-mul (mul-le-mul_left (unsigned_abs c) small)

-- a coefficient times either end of its column is no larger than its part of the width
pub low_product_small : (s : Sides) (t : Term) → unsigned_abs (t.coef *ℤ int_at s.lows t.col) ≤ term_width s t
low_product_small s t = reached s t.coef (int_at s.lows t.col) t.col (omega arith)

pub high_product_small : (s : Sides) (t : Term) → unsigned_abs (t.coef *ℤ int_at s.highs t.col) ≤ term_width s t
high_product_small s t = reached s t.coef (int_at s.highs t.col) t.col (omega arith)

greater_small : (a b : ℤ) (n : ℕ) → unsigned_abs a ≤ n → unsigned_abs b ≤ n → unsigned_abs (int_max a b) ≤ n
greater_small a b n first second = grind (arith, ints, clamps)

-- so is the most that a term adds
pub greatest_part_small : (s : Sides) (t : Term) → unsigned_abs (greatest_part s t) ≤ term_width s t
greatest_part_small s t = greater_small (t.coef *ℤ int_at s.lows t.col) (t.coef *ℤ int_at s.highs t.col) (term_width s t) (low_product_small s t) (high_product_small s t)

lesser_small : (a b : ℤ) (n : ℕ) → unsigned_abs a ≤ n → unsigned_abs b ≤ n → unsigned_abs (int_min a b) ≤ n
lesser_small a b n first second = grind (arith, ints, clamps)

-- and the least
pub least_part_small : (s : Sides) (t : Term) → unsigned_abs (least_part s t) ≤ term_width s t
least_part_small s t = lesser_small (t.coef *ℤ int_at s.lows t.col) (t.coef *ℤ int_at s.highs t.col) (term_width s t) (low_product_small s t) (high_product_small s t)

-- a coefficient is no larger than its part of the width
pub coefficient_small : (s : Sides) (t : Term) → unsigned_abs t.coef ≤ term_width s t
coefficient_small s t = le-mul_of_pos_right (unsigned_abs t.coef) (omega arith)
