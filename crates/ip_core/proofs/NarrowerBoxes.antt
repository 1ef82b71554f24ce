use Rattle.std.proofs.Common.{◌≡◌, ◌∙◌, ℕ, zero, suc, ◌<◌, ◌≤◌, List, [], ◌∷◌, length, set, ℤ, ◌≤ℤ◌, unsigned_abs, sum_by, All, length-set, refl, ap, arith, mul-le-mul_left}
use Rattle.std.specs.Int.{int_min, int_max}
use Rattle.std.proofs.lemmas.Int.{ints, clamps}
use Rattle.std.proofs.lemmas.List.Sums.{sum_by-cons}
use Rattle.ip_core.specs.Numbers.{int_at}
use Rattle.ip_core.specs.Sides.{Sides, HasNoEmpty, reach, with_low, with_high}
use Rattle.ip_core.specs.Rows.{IsTerm, AreTerms, term_width, row_width}
use Rattle.ip_core.specs.Boxes.{IsWithin}
use Rattle.ip_core.specs.declared.row.Row.{Row}
use Rattle.ip_core.specs.declared.row.Term.{Term}
use Rattle.ip_core.proofs.IntSums.{unsigned_abs_between}

-- after a number was set, what held of each still holds, if it holds of the new one at its place
pub set_keeps : (P : ℤ → Type 0) (xs : List ℤ) (i : ℕ) (v : ℤ) (j : ℕ) → P (int_at xs j) → (j ≡ i → P v) → P (int_at (set xs i v) j)
set_keeps P [] i v j before here = before
set_keeps P (x ∷ xs) zero v zero before here = here refl
set_keeps P (x ∷ xs) zero v (suc j) before here = before
set_keeps P (x ∷ xs) (suc i) v zero before here = before
set_keeps P (x ∷ xs) (suc i) v (suc j) before here = set_keeps P xs i v j before (λ e. here (ap suc e))

-- a box lies within itself
pub within_itself : (s : Sides) → IsWithin s s
within_itself s = record { as_many_lows = refl; as_many_highs = refl; lows = λ j h. omega (arith, ints); highs = λ j h. omega (arith, ints) }

-- and a box within a box within a third lies within that one
pub within_both : (a b c : Sides) → IsWithin a b → IsWithin b c → IsWithin a c
within_both a b c outer inner = record {
  as_many_lows = inner.as_many_lows ∙ outer.as_many_lows;
  as_many_highs = inner.as_many_highs ∙ outer.as_many_highs;
  lows = λ j h. omega (arith, ints, outer.lows j (omega (arith, inner.as_many_lows)), inner.lows j h);
  highs = λ j h. omega (arith, ints, outer.highs j (omega (arith, inner.as_many_lows)), inner.highs j h);
}

-- a box where a low is raised lies within the box
pub within_raised : (s : Sides) (col : ℕ) (low : ℤ) → IsWithin s (with_low s col low)
within_raised s col low = record {
  as_many_lows = length-set s.lows col (int_max (int_at s.lows col) low);
  as_many_highs = refl;
  lows = λ j h. set_keeps (λ z. int_at s.lows j ≤ℤ z) s.lows col (int_max (int_at s.lows col) low) j (omega (arith, ints)) (λ e. omega (arith, ints, clamps, ap (int_at s.lows) e));
  highs = λ j h. omega (arith, ints);
}

-- and so does one where a high is lowered
pub within_lowered : (s : Sides) (col : ℕ) (high : ℤ) → IsWithin s (with_high s col high)
within_lowered s col high = record {
  as_many_lows = refl;
  as_many_highs = length-set s.highs col (int_min (int_at s.highs col) high);
  lows = λ j h. omega (arith, ints);
  highs = λ j h. set_keeps (λ z. z ≤ℤ int_at s.highs j) s.highs col (int_min (int_at s.highs col) high) j (omega (arith, ints)) (λ e. omega (arith, ints, clamps, ap (int_at s.highs) e));
}

reach_between : (low a b high : ℤ) (n : ℕ) → low ≤ℤ a → a ≤ℤ b → b ≤ℤ high → unsigned_abs low ≤ n → unsigned_abs high ≤ n → (unsigned_abs a ≤ n) × (unsigned_abs b ≤ n)
reach_between low a b high n above ordered below first second =
    (omega (arith, unsigned_abs_between low a high above (omega (arith, ints))), omega (arith, unsigned_abs_between low b high (omega (arith, ints)) below))

-- a column of a box without empty columns reaches no further than in a box around it
pub reach_narrower : (outer s : Sides) (j : ℕ) → IsWithin outer s → HasNoEmpty s → j < length s.lows → reach s j ≤ reach outer j
reach_narrower outer s j within inhabited known =
    let ends = reach_between (int_at outer.lows j) (int_at s.lows j) (int_at s.highs j) (int_at outer.highs j) (reach outer j) (within.lows j known) (inhabited.all j known).ordered (within.highs j known) (omega arith) (omega arith) in
    omega (arith, ends.0, ends.1)

widths_narrower : (outer s : Sides) (terms : List Term) → IsWithin outer s → HasNoEmpty s → All (IsTerm (length s.lows)) terms → sum_by (term_width s) terms ≤ sum_by (term_width outer) terms
widths_narrower outer s [] within inhabited known = omega arith
widths_narrower outer s (t ∷ terms) within inhabited known =
    let here : term_width s t ≤ term_width outer t = mul-le-mul_left (unsigned_abs t.coef) (reach_narrower outer s t.col within inhabited (known 0 t (omega arith)).known) in
    rw (sum_by-cons (term_width s) t terms, sum_by-cons (term_width outer) t terms) (omega (arith, here, widths_narrower outer s terms within inhabited (λ k d h. known (suc k) d (omega arith))))

-- a row is no wider over a box without empty columns than over a box around it
pub row_width_narrower : (outer s : Sides) (row : Row) → IsWithin outer s → HasNoEmpty s → AreTerms (length s.lows) row.terms → row_width s row ≤ row_width outer row
row_width_narrower outer s row within inhabited known = omega (arith, widths_narrower outer s row.terms within inhabited known.each)
