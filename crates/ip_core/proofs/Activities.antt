use Rattle.std.proofs.Common.{◌≡◌, ℕ, suc, ◌<◌, List, [], ◌∷◌, length, ℤ, ◌*ℤ◌, ◌≤ℤ◌, All, arith}
use Rattle.std.proofs.lemmas.Int.{ints}
use Rattle.ip_core.specs.Numbers.{int_at}
use Rattle.ip_core.specs.Sides.{Sides, IsInside}
use Rattle.ip_core.specs.Rows.{IsTerm, AreTerms, IsMet, activity}
use Rattle.ip_core.specs.Boxes.{IsConflict, greatest_part, greatest_activity}
use Rattle.ip_core.specs.declared.row.Row.{Row}
use Rattle.ip_core.specs.declared.row.Term.{Term}
use Rattle.ip_core.proofs.Products.{greatest_product, add-le_both}

-- what a term adds at a point of the box is at most its greatest part
pub part-le_greatest : (s : Sides) (x : List ℤ) (t : Term) → IsInside s x → t.col < length x → (t.coef *ℤ int_at x t.col) ≤ℤ greatest_part s t
part-le_greatest s x t inside known = greatest_product t.coef (int_at s.lows t.col) (int_at x t.col) (int_at s.highs t.col) (inside.above t.col known) (inside.below t.col known)

-- the activity of terms at a point of the box is at most the greatest activity
pub activity-le_greatest : (n : ℕ) (s : Sides) (x : List ℤ) (terms : List Term) → All (IsTerm n) terms → length x ≡ n → IsInside s x → activity x terms ≤ℤ greatest_activity s terms
activity-le_greatest n s x [] known long inside = omega (arith, ints)
activity-le_greatest n s x (t ∷ terms) known long inside =
    add-le_both (t.coef *ℤ int_at x t.col) (activity x terms) (greatest_part s t) (greatest_activity s terms)
    (part-le_greatest s x t inside (omega (arith, long, (known 0 t (omega arith)).known)))
    (activity-le_greatest n s x terms (λ k d h. known (suc k) d (omega arith)) long inside)

-- no point of the box meets a row that asks for more than its greatest activity
pub conflict_meets_none : (n : ℕ) (s : Sides) (row : Row) (x : List ℤ) → AreTerms n row.terms → length x ≡ n → IsInside s x → IsConflict s row → IsMet x row → ⊥
conflict_meets_none n s row x known long inside conflict met =
    omega (arith, ints, activity-le_greatest n s x row.terms known.each long inside, met.reached, conflict.below)
