use Rattle.std.proofs.Common.{◌≡◌, ℕ, suc, ◌<◌, ◌==◌, Bool, true, false, cond, eqb-true, List, [], ◌∷◌, length, ℤ, pos, ◌+ℤ◌, ◌*ℤ◌, ◌≤ℤ◌, int_lt, All, Option, Some, None, refl, ap, arith}
use Rattle.std.specs.Int.{int_min, int_max}
use Rattle.std.proofs.lemmas.Int.{ints, clamps}
use Rattle.ip_core.specs.Numbers.{int_at}
use Rattle.ip_core.specs.Sides.{Sides, IsInside, with_low, with_high}
use Rattle.ip_core.specs.Rows.{IsTerm, AreTerms, IsMet, activity}
use Rattle.ip_core.specs.Boxes.{greatest_part}
use Rattle.ip_core.specs.Quotients.{ceiling_quotient, floor_quotient}
use Rattle.ip_core.specs.declared.row.Row.{Row}
use Rattle.ip_core.specs.declared.row.Term.{Term}
use Rattle.ip_core.proofs.Activities.{part-le_greatest}
use Rattle.ip_core.proofs.NarrowerBoxes.{set_keeps}
use Rattle.ip_core.proofs.IntProducts.{add_mul}
use Rattle.ip_core.proofs.Quotients.{ceiling_quotient-le, le-floor_quotient_negative}
use Rattle.row_propagate.specs.declared.narrowing.Narrowing.{Narrowing}
use Rattle.row_propagate.specs.declared.narrowing.Narrowing.TheVariants.{Low, High}
use Rattle.ip_core.specs.Rows.{own_coefficient, coefficient}
use Rattle.row_propagate.specs.Rounding.{other_part, others_activity, remainder, narrower_low, narrower_high, rounded_bound, narrower_box_by, tight_box}
use Rattle.row_propagate.specs.Points.{HasRowPoints}

term_shared : (b : Bool) (c z most : ℤ) (x : ℤ) → (b ≡ true → z ≡ x) → (c *ℤ z) ≤ℤ most → (c *ℤ z) ≤ℤ (cond b (pos 0) most +ℤ (cond b c (pos 0) *ℤ x))
term_shared true c z most x same le = omega (arith, ints, ap (λ v. c *ℤ v) (same refl))
term_shared false c z most x same le = omega (arith, ints, le)

-- what a term adds is at most its part among the others and its own coefficient times the column's value
term-le_shared : (s : Sides) (x : List ℤ) (col : ℕ) (t : Term) → IsInside s x → t.col < length x → (t.coef *ℤ int_at x t.col) ≤ℤ (other_part s col t +ℤ (own_coefficient col t *ℤ int_at x col))
term-le_shared s x col t inside known =
    term_shared (t.col == col) t.coef (int_at x t.col) (greatest_part s t) (int_at x col) (λ e. ap (int_at x) (eqb-true t.col col e)) (part-le_greatest s x t inside known)

shares : (a b o p c d x : ℤ) → a ≤ℤ (o +ℤ (c *ℤ x)) → b ≤ℤ (p +ℤ (d *ℤ x)) → (a +ℤ b) ≤ℤ ((o +ℤ p) +ℤ ((c +ℤ d) *ℤ x))
shares a b o p c d x first second = rw (add_mul c d x) (omega (arith, ints, first, second))

-- an activity at a point of the box is at most what the other columns give and the column's coefficient times its value
pub activity-le_shared : (n : ℕ) (s : Sides) (x : List ℤ) (col : ℕ) (terms : List Term) → All (IsTerm n) terms → length x ≡ n → IsInside s x → activity x terms ≤ℤ (others_activity s terms col +ℤ (coefficient col terms *ℤ int_at x col))
activity-le_shared n s x col [] known long inside = omega (arith, ints)
activity-le_shared n s x col (t ∷ terms) known long inside =
    shares (t.coef *ℤ int_at x t.col) (activity x terms) (other_part s col t) (others_activity s terms col) (own_coefficient col t) (coefficient col terms) (int_at x col)
    (term-le_shared s x col t inside (omega (arith, long, (known 0 t (omega arith)).known)))
    (activity-le_shared n s x col terms (λ k d h. known (suc k) d (omega arith)) long inside)

-- so a column of a point that meets the row makes up what the row leaves to it
pub remainder-le : (n : ℕ) (s : Sides) (x : List ℤ) (row : Row) (col : ℕ) → AreTerms n row.terms → length x ≡ n → IsInside s x → IsMet x row → remainder s row col ≤ℤ (coefficient col row.terms *ℤ int_at x col)
remainder-le n s x row col known long inside met = omega (arith, ints, met.reached, activity-le_shared n s x col row.terms known.each long inside)

-- the box with a bound put in still holds the point
abbrev Keeps : Sides → List ℤ → ℕ → Option Narrowing → Type 0
Keeps s x col bound = IsInside (narrower_box_by s col bound) x

inside_raised : (s : Sides) (x : List ℤ) (col : ℕ) (low : ℤ) → IsInside s x → low ≤ℤ int_at x col → IsInside (with_low s col low) x
inside_raised s x col low inside le = record {
  above = λ j h. set_keeps (λ z. z ≤ℤ int_at x j) s.lows col (int_max (int_at s.lows col) low) j (inside.above j h) (λ e.
      omega (arith, ints, clamps, inside.above j h, le, ap (int_at s.lows) e, ap (int_at x) e));
  below = inside.below;
}

inside_lowered : (s : Sides) (x : List ℤ) (col : ℕ) (high : ℤ) → IsInside s x → int_at x col ≤ℤ high → IsInside (with_high s col high) x
inside_lowered s x col high inside le = record {
  above = inside.above;
  below = λ j h. set_keeps (λ z. int_at x j ≤ℤ z) s.highs col (int_min (int_at s.highs col) high) j (inside.below j h) (λ e.
      omega (arith, ints, clamps, inside.below j h, le, ap (int_at s.highs) e, ap (int_at x) e));
}

-- what holds of each choice by its test holds of the one chosen
pub either : {A : Type 0} (P : A → Type 0) (b : Bool) (first second : A) → (b ≡ true → P first) → (b ≡ false → P second) → P (cond b first second)
either P true first second one other = one refl
either P false first second one other = other refl

low_keeps : (s : Sides) (x : List ℤ) (col : ℕ) (low : ℤ) → IsInside s x → low ≤ℤ int_at x col → Keeps s x col (narrower_low s col low)
low_keeps s x col low inside le =
    either (Keeps s x col) (int_lt (int_at s.lows col) low) (Some (Low low)) None (λ e. inside_raised s x col low inside le) (λ e. inside)

high_keeps : (s : Sides) (x : List ℤ) (col : ℕ) (high : ℤ) → IsInside s x → int_at x col ≤ℤ high → Keeps s x col (narrower_high s col high)
high_keeps s x col high inside le =
    either (Keeps s x col) (int_lt high (int_at s.highs col)) (Some (High high)) None (λ e. inside_lowered s x col high inside le) (λ e. inside)

rounded_keeps : (s : Sides) (x : List ℤ) (col : ℕ) (left coef : ℤ) → IsInside s x → left ≤ℤ (coef *ℤ int_at x col) → Keeps s x col (rounded_bound s col left coef)
rounded_keeps s x col left coef inside le =
    either (Keeps s x col) (int_lt (pos 0) coef) (narrower_low s col (ceiling_quotient left coef)) _
    (λ e. low_keeps s x col (ceiling_quotient left coef) inside (ceiling_quotient-le left coef (int_at x col) (omega (arith, ints)) le))
    (λ e. either (Keeps s x col) (int_lt coef (pos 0)) (narrower_high s col (floor_quotient left coef)) None
    (λ f. high_keeps s x col (floor_quotient left coef) inside (le-floor_quotient_negative left coef (int_at x col) (omega (arith, ints)) le))
    (λ f. inside))

-- no point that meets the row is lost by its rounded bound
pub tight_box_keeps : (row : Row) (s : Sides) (col : ℕ) → AreTerms (length s.lows) row.terms → HasRowPoints row s (tight_box row s col)
tight_box_keeps row s col known = record {
  each = λ x long inside met. rounded_keeps s x col (remainder s row col) (coefficient col row.terms) inside (remainder-le (length s.lows) s x row col known long inside met);
}
