use Rattle.std.proofs.Common.{◌≡◌, ◌∙◌, ℕ, zero, suc, ◌+◌, ◌*◌, ◌^◌, ◌<◌, ◌≤◌, List, [], ◌∷◌, length, get_or, set, ◌⊎◌, inl, inr, ℤ, pos, negsuc, ◌+ℤ◌, ◌-ℤ◌, ◌*ℤ◌, unsigned_abs, sum_by, All, refl, sym, ap, arith, mul-le-mul_left, length-append}
use Rattle.std.specs.Int.{int_min, int_max}
use Rattle.std.proofs.lemmas.Int.{ints, clamps, unsigned_abs-mul}
use Rattle.std.proofs.lemmas.Bool.{cases_eq, cases_lt}
use Rattle.std.proofs.lemmas.List.{get_or-set_same, get_or-set_other, get_or_past}
use Rattle.std.proofs.lemmas.List.Elements.{All-append, All-head, All-tail}
use Rattle.std.proofs.lemmas.List.Sums.{sum_by-cons}
use Rattle.std.proofs.Math.IntN.{*ℤ_comm}
use Rattle.ip_core.specs.Numbers.{int_at, int_sum_by}
use Rattle.ip_core.specs.Sides.{Sides, reach}
use Rattle.ip_core.specs.Rows.{IsTerm, AreTerms, IsRow, IsReady, term_width, own_coefficient, coefficient}
use Rattle.ip_core.specs.Models.{IsModel}
use Rattle.ip_core.specs.declared.model.ModelParts.{ModelParts}
use Rattle.ip_core.specs.declared.row.Row.{Row}
use Rattle.ip_core.specs.declared.row.Term.{Term}
use Rattle.ip_core.proofs.Reaching.{reach-le_limit, row_ready}
use Rattle.ip_core.proofs.IntSums.{unsigned_abs-int_sum_by}
use Rattle.ip_core.proofs.IntProducts.{mul_add}
use Rattle.safe_bound.specs.Bounds.{all_rows, row_of}
use Rattle.safe_bound.specs.Premises.{AreCuts, AreLightTerms}
use Rattle.ip_core.specs.Boxes.{IsWithinReach}
use Rattle.safe_bound.proofs.Smallness.{light_row}
use Rattle.safe_bound.proofs.Weighted.{own_here, own_elsewhere}
use Rattle.dual_ascent.specs.Ends.{least_end, end_at, end_activity, end_fall, spread}
use Rattle.dual_ascent.proofs.Changes.{mul_sub}
use Rattle.dual_ascent.proofs.EndMoves.{end_fall_is}

-- each row and cut is one of the model
pub row_valid : (m : ModelParts) (cuts : List Row) (k : ℕ) → IsModel m → AreCuts m cuts → k < length (all_rows m cuts) → IsRow (length m.cols) m.root (row_of m cuts k)
row_valid m cuts k valid are_cuts known = All-append (IsRow (length m.cols) m.root) m.rows cuts valid.rows.each are_cuts.rows.each k (record { terms = []; least = pos 0 }) known

-- its coefficients are light
pub row_light : (m : ModelParts) (cuts : List Row) (k : ℕ) → IsModel m → AreCuts m cuts → k < length (all_rows m cuts) → AreLightTerms (length m.cols) (row_of m cuts k).terms
row_light m cuts k valid are_cuts known = light_row (length m.cols) m.root (row_of m cuts k) (row_valid m cuts k valid are_cuts known)

-- the columns of the box are those of the model
pub box_columns : (m : ModelParts) (s : Sides) → IsModel m → IsWithinReach m.root s → length s.lows ≡ length m.cols
box_columns m s valid within = within.columns ∙ valid.bounds.box

-- a row is ready for a box within reach
row_ready_there : (m : ModelParts) (cuts : List Row) (s : Sides) (k : ℕ) → IsModel m → AreCuts m cuts → IsWithinReach m.root s → k < length (all_rows m cuts) → IsReady s (row_of m cuts k)
row_ready_there m cuts s k valid are_cuts within known = row_ready (length m.cols) m.root s (row_of m cuts k) valid.bounds.box within (row_valid m cuts k valid are_cuts known)

-- so its columns are those of the box
pub row_known : (m : ModelParts) (cuts : List Row) (s : Sides) (k : ℕ) → IsModel m → AreCuts m cuts → IsWithinReach m.root s → k < length (all_rows m cuts) → AreTerms (length s.lows) (row_of m cuts k).terms
row_known m cuts s k valid are_cuts within known = (row_ready_there m cuts s k valid are_cuts within known).terms

-- and it is narrow there
pub row_narrow : (m : ModelParts) (cuts : List Row) (s : Sides) (k : ℕ) → IsModel m → AreCuts m cuts → IsWithinReach m.root s → k < length (all_rows m cuts) → sum_by (term_width s) (row_of m cuts k).terms ≤ 2 ^ 50
row_narrow m cuts s k valid are_cuts within known = omega (arith, (row_ready_there m cuts s k valid are_cuts within known).narrow)

end_reached : (low high c : ℤ) (n : ℕ) → unsigned_abs low ≤ n → unsigned_abs high ≤ n → unsigned_abs (least_end low high c) ≤ n
end_reached low high (pos c) n first second = grind (arith, ints, clamps)
end_reached low high (negsuc c) n first second = grind (arith, ints, clamps)

-- what a term gives at an end is no larger than its width
pub end_term_small : (s : Sides) (costs : ℕ → ℤ) (t : Term) → unsigned_abs (t.coef *ℤ end_at s (costs t.col) t.col) ≤ term_width s t
end_term_small s costs t =
    rw unsigned_abs-mul (mul-le-mul_left (unsigned_abs t.coef) (end_reached (int_at s.lows t.col) (int_at s.highs t.col) (costs t.col) (reach s t.col) (omega arith) (omega arith)))

-- nor is an activity at ends larger than the width of its terms
pub end_activity_small : (s : Sides) (costs : ℕ → ℤ) (terms : List Term) → unsigned_abs (end_activity s costs terms) ≤ sum_by (term_width s) terms
end_activity_small s costs terms = unsigned_abs-int_sum_by (λ (t : Term). t.coef *ℤ end_at s (costs t.col) t.col) (term_width s) terms (λ k d h. end_term_small s costs (get_or terms k d))

spread_between : (low high : ℤ) (n : ℕ) → unsigned_abs low ≤ n → unsigned_abs high ≤ n → unsigned_abs (high -ℤ low) ≤ n + n
spread_between low high n first second = omega (arith, ints)

-- the ends of a column are at most 2^32 apart
pub spread_small : (m : ModelParts) (s : Sides) (j : ℕ) → IsModel m → IsWithinReach m.root s → j < length s.lows → spread s j ≤ 2 ^ 32
spread_small m s j valid within known =
    let far : reach m.root j ≤ 2 ^ 31 = reach-le_limit m.root j valid.bounds.limits in
    spread_between (int_at s.lows j) (int_at s.highs j) (2 ^ 31) (omega (arith, within.lows j, far)) (omega (arith, within.highs j, far))

term_moved : (coef fall e new own : ℤ) → e -ℤ new ≡ fall → own ≡ coef → coef *ℤ new ≡ (coef *ℤ e) -ℤ (fall *ℤ own)
term_moved coef fall e new own moved same =
    let there : new ≡ e -ℤ fall = omega (arith, ints) in
    rw (there, same) (omega (arith, ints, mul_sub coef e fall, *ℤ_comm coef fall))

moved_here : (s : Sides) (costs : List ℤ) (col : ℕ) (new coef own : ℤ) (j : ℕ) → col < length costs → j ≡ col → own ≡ coef → coef *ℤ end_at s (int_at (set costs col new) j) j ≡ (coef *ℤ end_at s (int_at costs j) j) -ℤ (end_fall (int_at costs col) new (spread s col) *ℤ own)
moved_here s costs col new coef own j known here same =
    rw (here, get_or-set_same costs col new (pos 0) known) (term_moved coef (end_fall (int_at costs col) new (spread s col)) (end_at s (int_at costs col) col) (end_at s new col) own (end_fall_is (int_at s.lows col) (int_at s.highs col) (int_at costs col) new) same)

nothing_moved : (a f : ℤ) → a ≡ a -ℤ (f *ℤ pos 0)
nothing_moved a f = omega (arith, ints, *ℤ_comm f (pos 0))

moved_cases : (s : Sides) (costs : List ℤ) (col : ℕ) (new : ℤ) (t : Term) → col < length costs → (t.col ≡ col) ⊎ (t.col ≡ col → ⊥) → t.coef *ℤ end_at s (int_at (set costs col new) t.col) t.col ≡ (t.coef *ℤ end_at s (int_at costs t.col) t.col) -ℤ (end_fall (int_at costs col) new (spread s col) *ℤ own_coefficient col t)
moved_cases s costs col new t known (inl here) = moved_here s costs col new t.coef (own_coefficient col t) t.col known here (own_here col t here)
moved_cases s costs col new t known (inr elsewhere) =
    rw (get_or-set_other costs col t.col new (pos 0) elsewhere, own_elsewhere col t elsewhere) (nothing_moved (t.coef *ℤ end_at s (int_at costs t.col) t.col) (end_fall (int_at costs col) new (spread s col)))

moved_joined : (a b x y f p q : ℤ) → a ≡ x -ℤ (f *ℤ p) → b ≡ y -ℤ (f *ℤ q) → a +ℤ b ≡ (x +ℤ y) -ℤ (f *ℤ (p +ℤ q))
moved_joined a b x y f p q first second = omega (arith, ints, mul_add f p q)

-- an activity at ends as one reduced cost changes
pub end_activity-set : (s : Sides) (costs : List ℤ) (col : ℕ) (new : ℤ) (terms : List Term) → col < length costs → end_activity s (int_at (set costs col new)) terms ≡ end_activity s (int_at costs) terms -ℤ (end_fall (int_at costs col) new (spread s col) *ℤ coefficient col terms)
end_activity-set s costs col new [] known = omega (arith, ints, *ℤ_comm (end_fall (int_at costs col) new (spread s col)) (pos 0))
end_activity-set s costs col new (t ∷ terms) known =
    moved_joined (t.coef *ℤ end_at s (int_at (set costs col new) t.col) t.col) (end_activity s (int_at (set costs col new)) terms) (t.coef *ℤ end_at s (int_at costs t.col) t.col) (end_activity s (int_at costs) terms) (end_fall (int_at costs col) new (spread s col)) (own_coefficient col t) (coefficient col terms) (moved_cases s costs col new t known (cases_eq t.col col)) (end_activity-set s costs col new terms known)
