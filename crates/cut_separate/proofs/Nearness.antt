-- Values within the reach of a box.
use Rattle.std.proofs.Common.{◌≡◌, ℕ, ◌<◌, ◌≤◌, ◌⊎◌, inl, inr, List, length, ℤ, pos, ◌*ℤ◌, unsigned_abs, arith, le_trans, mul-le-mul_left, mul-le-mul_right}
use Rattle.std.proofs.lemmas.Int.{unsigned_abs-mul}
use Rattle.std.proofs.lemmas.Bool.{cases_lt}
use Rattle.std.proofs.lemmas.List.{get_or_past}
use Rattle.ip_core.specs.Numbers.{int_at}
use Rattle.ip_core.specs.Sides.{Sides, IsInside, reach}
use Rattle.ip_core.specs.Rows.{term_width}
use Rattle.ip_core.specs.declared.row.Term.{Term}
use Rattle.ip_core.proofs.Widths.{value_within_reach}
use Rattle.cut_derive.specs.Premises.{AreNear}
use Rattle.cut_separate.specs.Violations.{rounded_part}
use Rattle.cut_derive.proofs.Sizes.{ceiling_small}

-- a coefficient times such a value is no larger than its part of the width
pub near_part : (s : Sides) (x : List ℤ) → AreNear s x → (t : Term) → unsigned_abs (t.coef *ℤ int_at x t.col) ≤ term_width s t
near_part s x near t = rw unsigned_abs-mul (mul-le-mul_left (unsigned_abs t.coef) (near.each t.col))

-- so is a coefficient that is divided and rounded up
pub near_rounded : (s : Sides) (x : List ℤ) (d : ℕ) → 0 < d → AreNear s x → (t : Term) → unsigned_abs (rounded_part d x t) ≤ term_width s t
near_rounded s x d above near t =
    rw unsigned_abs-mul (le_trans (mul-le-mul_left _ (near.each t.col)) (mul-le-mul_right (reach s t.col) (ceiling_small t.coef d above)))

inside_cases : (s : Sides) (x : List ℤ) (j : ℕ) → IsInside s x → (j < length x) ⊎ (length x ≤ j) → unsigned_abs (int_at x j) ≤ reach s j
inside_cases s x j inside (inl known) = value_within_reach s x j inside known
inside_cases s x j inside (inr past) = rw (get_or_past x j (pos 0) past) (omega arith)

-- a point of the box is near
pub inside_near : (s : Sides) (x : List ℤ) → length x ≡ length s.lows → IsInside s x → AreNear s x
inside_near s x long inside = record { columns = long; each = λ j. inside_cases s x j inside (cases_lt j (length x)) }
