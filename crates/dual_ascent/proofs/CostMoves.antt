use Rattle.std.proofs.Common.{◌≡◌, ◌∙◌, ℕ, ◌+◌, ◌*◌, ◌^◌, ◌<◌, ◌≤◌, List, [], length, get_or, set, take, ℤ, pos, negsuc, ◌≤ℤ◌, ◌+ℤ◌, ◌-ℤ◌, ◌*ℤ◌, unsigned_abs, sum_by, FitsSigned, w64, to_z, of_z, refl, sym, ap, arith}
use Rattle.std.specs.Int.{w128, int_max}
use Rattle.std.proofs.lemmas.Int.{ints, clamps, to_z-of_z, unsigned_abs-mul}
use Rattle.std.proofs.lemmas.List.{length-set}
use Rattle.std.proofs.lemmas.Nat.{mul-le}
use Rattle.ip_core.specs.Numbers.{int_at}
use Rattle.ip_core.specs.Sides.{Sides}
use Rattle.ip_core.specs.Rows.{coefficient, term_width}
use Rattle.ip_core.specs.Models.{IsModel}
use Rattle.ip_core.specs.declared.model.ModelParts.{ModelParts}
use Rattle.ip_core.specs.declared.row.Row.{Row}
use Rattle.ip_core.specs.declared.row.Term.{Term}
use Rattle.ip_core.proofs.IntSums.{int_sum_by_more}
use Rattle.ip_core.proofs.NarrowSums.{front_small}
use Rattle.safe_bound.specs.Bounds.{all_rows, row_of}
use Rattle.safe_bound.specs.Premises.{AreCuts, AreWithin}
use Rattle.ip_core.specs.Boxes.{IsWithinReach}
use Rattle.safe_bound.proofs.Sizes.{small_fits, unsigned_abs-sub_le, front_narrow}
use Rattle.dual_ascent.specs.declared.reduced.Reduced.{Reduced}
use Rattle.dual_ascent.specs.Ends.{end_at, end_activity, end_fall, spread}
use Rattle.dual_ascent.specs.Kept.{HasActivities, IsColumn, sizes}
use Rattle.dual_ascent.proofs.RowFacts.{end_activity-set, end_activity_small, end_term_small, row_narrow}

-- what a term gives at an end, in numbers of 64 and 128 bits
pub part_exact : (part : ℤ) (coef end cost : ℤ) (s : Sides) (col : ℕ) → FitsSigned w64 coef → FitsSigned w64 end → FitsSigned w128 cost → part ≡ to_z w64 (of_z w64 coef) *ℤ to_z w64 (of_z w64 end) → end ≡ end_at s (to_z w128 (of_z w128 cost)) col → part ≡ coef *ℤ end_at s cost col
part_exact part coef end cost s col first second third is_part is_end =
    let there : end ≡ end_at s cost col = rw (to_z-of_z w128 cost third) at is_end in
    rw (to_z-of_z w64 coef first, to_z-of_z w64 end second, there) at is_part

-- one more term of an activity at ends, and its size
pub end_activity_more : (s : Sides) (costs : ℕ → ℤ) (terms : List Term) (i : ℕ) (d : Term) (sum part : ℤ) → i < length terms → sum ≡ end_activity s costs (take i terms) → part ≡ (get_or terms i d).coef *ℤ end_at s (costs (get_or terms i d).col) (get_or terms i d).col → sum +ℤ part ≡ end_activity s costs (take (i + 1) terms)
end_activity_more s costs terms i d sum part within so_far is_part = rw (int_sum_by_more (λ (t : Term). t.coef *ℤ end_at s (costs t.col) t.col) terms i d within, so_far, is_part) refl

pub end_activity_fits : (s : Sides) (costs : ℕ → ℤ) (terms : List Term) (i : ℕ) → sum_by (term_width s) terms ≤ 2 ^ 50 → FitsSigned w128 (end_activity s costs (take i terms))
end_activity_fits s costs terms i narrow =
    small_fits (end_activity s costs (take i terms)) (2 ^ 50) (omega (arith, front_small (λ (t : Term). t.coef *ℤ end_at s (costs t.col) t.col) (term_width s) terms i (λ t. end_term_small s costs t))) (omega arith)

-- a number less a small number of times a front of coefficients
pub lowered_small : (old now by : ℤ) (k : ℕ) (terms : List Term) (i : ℕ) (most few wide : ℕ) → unsigned_abs old ≤ most → unsigned_abs by ≤ few → sizes terms ≤ wide → now ≡ old -ℤ (by *ℤ coefficient k (take i terms)) → unsigned_abs now ≤ most + few * wide
lowered_small old now by k terms i most few wide first second third same =
    let front : unsigned_abs (coefficient k (take i terms)) ≤ wide = omega (arith, front_narrow k terms i) in
    let part : unsigned_abs (by *ℤ coefficient k (take i terms)) ≤ few * wide = rw unsigned_abs-mul (mul-le (unsigned_abs by) (unsigned_abs (coefficient k (take i terms))) few wide second front) in
    rw same (unsigned_abs-sub_le old (by *ℤ coefficient k (take i terms)) most (few * wide) first part)

-- kept activities are small
pub activities_small : (m : ModelParts) (cuts : List Row) (s : Sides) (v : Reduced) → IsModel m → AreCuts m cuts → IsWithinReach m.root s → HasActivities m cuts s v → AreWithin (length v.active) (2 ^ 60) v.active
activities_small m cuts s v valid are_cuts within activities = record {
  each = λ k h.
      let known : k < length (all_rows m cuts) = omega (arith, activities.active_long) in
      rw (activities.active k known) (omega (arith, end_activity_small s (int_at v.costs) (row_of m cuts k).terms, row_narrow m cuts s k valid are_cuts within known));
}

active_moved : (m : ModelParts) (cuts : List Row) (s : Sides) (v : Reduced) (col : ℕ) (new fall : ℤ) (costs active : List ℤ) → HasActivities m cuts s v → col < length m.cols → costs ≡ set v.costs col new → fall ≡ end_fall (int_at v.costs col) new (spread s col) → ((k : ℕ) → k < length v.active → int_at active k ≡ int_at v.active k -ℤ (fall *ℤ coefficient k (get_or v.columns col []))) → (k : ℕ) → k < length (all_rows m cuts) → int_at active k ≡ end_activity s (int_at costs) (row_of m cuts k).terms
active_moved m cuts s v col new fall costs active before known is_costs is_fall values k within =
    let there : col < length v.costs = omega (arith, before.costs_long) in
    let now = values k (omega (arith, before.active_long)) in
    let same = (before.columns.each col known).same k in
    rw (is_costs, end_activity-set s v.costs col new (row_of m cuts k).terms there, ← is_fall, ← same, ← before.active k within) now

-- one reduced cost changed, and the activities of its column's rows with it
pub activities_moved : (m : ModelParts) (cuts : List Row) (s : Sides) (v : Reduced) (col : ℕ) (new fall : ℤ) (costs active : List ℤ) → HasActivities m cuts s v → col < length m.cols → costs ≡ set v.costs col new → fall ≡ end_fall (int_at v.costs col) new (spread s col) → length active ≡ length v.active → ((k : ℕ) → k < length v.active → int_at active k ≡ int_at v.active k -ℤ (fall *ℤ coefficient k (get_or v.columns col []))) → HasActivities m cuts s (record v { costs = costs; active = active })
activities_moved m cuts s v col new fall costs active before known is_costs is_fall long values = record {
  costs_long = ap length is_costs ∙ length-set v.costs col new ∙ before.costs_long;
  widths_long = before.widths_long;
  widths = before.widths;
  columns = before.columns;
  active_long = long ∙ before.active_long;
  active = active_moved m cuts s v col new fall costs active before known is_costs is_fall values;
}

-- the fall of an end, in numbers of 128 bits
pub fall_exact : (fall old new : ℤ) (width wide : ℕ) → FitsSigned w128 old → FitsSigned w128 new → fall ≡ end_fall (to_z w128 (of_z w128 old)) (to_z w128 (of_z w128 new)) width → width ≡ wide → fall ≡ end_fall old new wide
fall_exact fall old new width wide first second same is_wide = rw (to_z-of_z w128 old first, to_z-of_z w128 new second, is_wide) at same

-- the difference of two numbers of 128 bits
pub less_fits : (a b next : ℤ) → FitsSigned w128 a → FitsSigned w128 b → a -ℤ b ≡ next → FitsSigned w128 next → FitsSigned w128 (to_z w128 (of_z w128 a) -ℤ to_z w128 (of_z w128 b))
less_fits a b next first second same fits = rw (to_z-of_z w128 a first, to_z-of_z w128 b second, same) fits

pub less_is : (a b next : ℤ) → FitsSigned w128 a → FitsSigned w128 b → a -ℤ b ≡ next → FitsSigned w128 next → to_z w128 (of_z w128 (to_z w128 (of_z w128 a) -ℤ to_z w128 (of_z w128 b))) ≡ next
less_is a b next first second same fits = rw (to_z-of_z w128 a first, to_z-of_z w128 b second, same) (to_z-of_z w128 next fits)

-- a gain that no floor holds
pub gain_all : (a b c f g : ℤ) → g ≡ int_max f (a -ℤ b) → f ≤ℤ (a -ℤ b) → c ≡ b → c +ℤ g ≡ a
gain_all a b c f g is above same = omega (arith, ints, clamps)

pub above_least : (a b : ℤ) → unsigned_abs a < 2 ^ 123 → unsigned_abs b < 2 ^ 123 → negsuc 170141183460469231731687303715884105727 ≤ℤ (a -ℤ b)
above_least a b first second = omega (arith, ints)

-- activities don't hang on multipliers and numerator
pub moved_along : (m : ModelParts) (cuts : List Row) (s : Sides) (v : Reduced) (mults : List ℕ) (numerator : ℤ) → HasActivities m cuts s v → HasActivities m cuts s (record v { mults = mults; numerator = numerator })
moved_along m cuts s v mults numerator before = record {
  costs_long = before.costs_long;
  widths_long = before.widths_long;
  widths = before.widths;
  columns = before.columns;
  active_long = before.active_long;
  active = before.active;
}
