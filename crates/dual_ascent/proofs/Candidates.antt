use Rattle.std.proofs.Common.{◌≡◌, ◌∙◌, ℕ, zero, suc, ◌+◌, ◌<◌, ◌≤◌, true, false, List, ◌∷◌, length, get_or, set, drop, ℤ, int_lt, refl, arith}
use Rattle.std.proofs.lemmas.List.{drop_more, length-set}
use Rattle.std.proofs.lemmas.List.Elements.{All-set}
use Rattle.ip_core.specs.declared.model.ModelParts.{ModelParts}
use Rattle.ip_core.specs.declared.row.Row.{Row}
use Rattle.safe_bound.specs.declared.limits.TheConstants.{MAX_MULTIPLIER}
use Rattle.safe_bound.specs.Premises.{AreMultipliers}
use Rattle.dual_ascent.specs.Climbs.{better, first_greatest, changes}

-- the better of two where the second is worth more, and where it isn't
pub better_second : (worth : ℕ → ℤ) (y z : ℕ) (a b : ℤ) → a ≡ worth y → b ≡ worth z → int_lt a b ≡ true → better worth y z ≡ z
better_second worth y z a b first second more = rw (← first, ← second, more) refl

pub better_first : (worth : ℕ → ℤ) (y z : ℕ) (a b : ℤ) → a ≡ worth y → b ≡ worth z → int_lt a b ≡ false → better worth y z ≡ y
better_first worth y z a b first second less = rw (← first, ← second, less) refl

-- after one more candidate the rest gives what the whole gave
pub candidate_tried : (worth : ℕ → ℤ) (best last : ℕ) (ys : List ℕ) (i : ℕ) → i < length ys → first_greatest worth best (drop i ys) ≡ last → first_greatest worth (better worth best (get_or ys i 0)) (drop (i + 1) ys) ≡ last
candidate_tried worth best last ys i within rest =
    let more : drop i ys ≡ get_or ys i 0 ∷ drop (i + 1) ys = drop_more ys i 0 within in
    rw more at rest

-- what a multiplier can change to is no more than the greatest multiplier
pub changes_small : (size y i : ℕ) → y ≤ MAX_MULTIPLIER → get_or (changes size y) i 0 ≤ MAX_MULTIPLIER
changes_small size y zero small = omega arith
changes_small size y (suc zero) small = omega arith
changes_small size y (suc (suc zero)) small = omega arith
changes_small size y (suc (suc (suc i))) small = omega arith

-- multipliers of which one was changed to a small one
pub multipliers_set : (m : ModelParts) (cuts : List Row) (ys : List ℕ) (i y : ℕ) → AreMultipliers m cuts ys → y ≤ MAX_MULTIPLIER → AreMultipliers m cuts (set ys i y)
multipliers_set m cuts ys i y valid small = record {
  one_each = length-set ys i y ∙ valid.one_each;
  small = record { each = All-set (λ z. z ≤ MAX_MULTIPLIER) ys i y small valid.small.each };
}
