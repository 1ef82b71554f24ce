use Rattle.std.proofs.Common.{◌≡◌, ◌≢◌, ◌∙◌, ℕ, zero, suc, ◌+◌, ◌<◌, ◌==◌, Bool, true, false, cond, List, [], ◌∷◌, ◌++◌, length, get_or, set, map, ℤ, pos, ◌+ℤ◌, ◌-ℤ◌, ◌≤ℤ◌, int_lt, Option, Some, None, eq-eqb, refl, sym, ap, ap₂, subst, arith}
use Rattle.std.specs.Int.{int_min, int_max}
use Rattle.std.proofs.lemmas.Bool.{false≢true}
use Rattle.std.proofs.lemmas.Int.{ints}
use Rattle.std.proofs.lemmas.List.{get_or-set_same, get_or-set_other, set-get_or}
use Rattle.ip_core.specs.Numbers.{int_at, int_sum_by}
use Rattle.ip_core.specs.Sides.{Sides, HasNoEmpty, reach, with_low, with_high}
use Rattle.ip_core.specs.Boxes.{IsWithin, greatest_activity, greatest_part}
use Rattle.ip_core.specs.Rows.{coefficient}
use Rattle.ip_core.specs.declared.model.ModelParts.{ModelParts}
use Rattle.ip_core.specs.declared.row.Row.{Row}
use Rattle.ip_core.specs.declared.row.Term.{Term}
use Rattle.row_propagate.specs.declared.narrowing.Narrowing.{Narrowing}
use Rattle.row_propagate.specs.declared.narrowing.Narrowing.TheVariants.{Low, High}
use Rattle.row_propagate.specs.Rounding.{other_part, others_activity, remainder, rounded_bound, narrower_bound, narrower_box}
use Rattle.row_propagate.specs.Kept.{coefs_at, moved_by, with_ends}
use Rattle.row_propagate.specs.Quiet.{IsQuiet}
use Rattle.row_propagate.proofs.Moving.{activity_moved, ends_apart}

head_cases : (b : Bool) (c : ℤ) (rest : List ℤ) → cond b (c ∷ rest) rest ≡ [] → (b ≡ false) × (rest ≡ [])
head_cases true c rest none = cc
head_cases false c rest none = (refl, none)

-- where a column has no coefficient in terms, none of them stands at it
term_apart : (j : ℕ) (terms : List Term) (i : ℕ) (d : Term) → coefs_at j terms ≡ [] → i < length terms → (get_or terms i d).col ≢ j
term_apart j [] i d none known = absurd (omega (arith, known))
term_apart j (t ∷ terms) zero d none known =
    λ same. absurd (false≢true (sym (head_cases (t.col == j) t.coef (coefs_at j terms) none).0 ∙ eq-eqb t.col j same))
term_apart j (t ∷ terms) (suc i) d none known = term_apart j terms i d (head_cases (t.col == j) t.coef (coefs_at j terms) none).1 (omega (arith, known))

other_same : (s : Sides) (j : ℕ) (low high : ℤ) (col : ℕ) (t : Term) → t.col ≢ j → other_part (with_ends s j low high) col t ≡ other_part s col t
other_same s j low high col t apart = ap (λ z. cond (t.col == col) (pos 0) z) (ends_apart s j low high t apart)

others_same : (s : Sides) (j : ℕ) (low high : ℤ) (col : ℕ) (terms : List Term) → ((k : ℕ) (d : Term) → k < length terms → (get_or terms k d).col ≢ j) → others_activity (with_ends s j low high) terms col ≡ others_activity s terms col
others_same s j low high col [] apart = refl
others_same s j low high col (t ∷ terms) apart =
    ap₂ (λ a b. a +ℤ b) (other_same s j low high col t (apart 0 t (omega arith))) (others_same s j low high col terms (λ k d known. apart (suc k) d (omega (arith, known))))

-- a bound for another column depends on that column's ends
rounded_same : (s : Sides) (j : ℕ) (low high : ℤ) (col : ℕ) (left coef : ℤ) → col ≢ j → rounded_bound (with_ends s j low high) col left coef ≡ rounded_bound s col left coef
rounded_same s j low high col left coef apart =
    rw (get_or-set_other s.lows j col low (pos 0) apart, get_or-set_other s.highs j col high (pos 0) apart) refl

add_none : (a : ℤ) → a +ℤ pos 0 ≡ a
add_none a = omega (arith, ints)

-- a row in which a column doesn't stand is quiet as before where the column goes to other ends
pub quiet_apart : (s : Sides) (j : ℕ) (low high : ℤ) (row : Row) → j < length s.lows → j < length s.highs → coefs_at j row.terms ≡ [] → IsQuiet s row → IsQuiet (with_ends s j low high) row
quiet_apart s j low high row of_lows of_highs none quiet =
    let same : greatest_activity (with_ends s j low high) row.terms ≡ greatest_activity s row.terms = activity_moved s j low high row.terms of_lows of_highs ∙ ap (λ cs. greatest_activity s row.terms +ℤ moved_by (int_at s.lows j) (int_at s.highs j) low high cs) none ∙ add_none (greatest_activity s row.terms) in
    record {
      holds = ap (λ z. int_lt z row.least) same ∙ quiet.holds;
      none = λ i d known.
          let col = (get_or row.terms i d).col in
          ap (λ z. rounded_bound (with_ends s j low high) col (row.least -ℤ z) (coefficient col row.terms)) (others_same s j low high col row.terms (λ k e within. term_apart j row.terms k e none within))
          ∙ rounded_same s j low high col (remainder s row col) (coefficient col row.terms) (term_apart j row.terms i d none known)
          ∙ quiet.none i d known;
    }

sides_same : (lows lows' highs highs' : List ℤ) → lows ≡ lows' → highs ≡ highs' → (let s : Sides = record { lows = lows; highs = highs } in s) ≡ (let t : Sides = record { lows = lows'; highs = highs' } in t)
sides_same lows lows' highs highs' first second = ap₂ (λ a b. let s : Sides = record { lows = a; highs = b } in s) first second

-- a narrower bound gives a column other ends
pub narrower_box_ends : (s : Sides) (col : ℕ) (bound : Narrowing) → col < length s.lows → col < length s.highs → narrower_box s col bound ≡ with_ends s col (int_at (narrower_box s col bound).lows col) (int_at (narrower_box s col bound).highs col)
narrower_box_ends s col (Low low) of_lows of_highs =
    sides_same (set s.lows col (int_max (int_at s.lows col) low)) _ s.highs _
    (ap (set s.lows col) (sym (get_or-set_same s.lows col (int_max (int_at s.lows col) low) (pos 0) of_lows)))
    (sym (set-get_or s.highs col (pos 0)))
narrower_box_ends s col (High high) of_lows of_highs =
    sides_same s.lows _ (set s.highs col (int_min (int_at s.highs col) high)) _
    (sym (set-get_or s.lows col (pos 0)))
    (ap (set s.highs col) (sym (get_or-set_same s.highs col (int_min (int_at s.highs col) high) (pos 0) of_highs)))
