use Rattle.std.proofs.Common.{◌≡◌, ◌∙◌, ℕ, ◌+◌, ◌*◌, ◌^◌, ◌<◌, ◌≤◌, List, [], length, get_or, set, map, ℤ, pos, ◌+ℤ◌, ◌-ℤ◌, ◌*ℤ◌, unsigned_abs, All, refl, sym, ap, arith, length-append}
use Rattle.std.specs.List.Sorted.{IsStrictlyIncreasing}
use Rattle.std.specs.Int.{int_max}
use Rattle.std.proofs.lemmas.Int.{ints, clamps, unsigned_abs-mul}
use Rattle.std.proofs.lemmas.Nat.{mul-le}
use Rattle.ip_core.specs.Numbers.{int_at, sum_below}
use Rattle.ip_core.specs.Sides.{Sides}
use Rattle.ip_core.specs.Rows.{IsTerm}
use Rattle.ip_core.specs.Models.{IsModel}
use Rattle.ip_core.specs.declared.model.ModelParts.{ModelParts}
use Rattle.ip_core.specs.declared.row.Row.{Row}
use Rattle.ip_core.specs.declared.row.Term.{Term}
use Rattle.safe_bound.specs.declared.limits.TheConstants.{MAX_MULTIPLIER}
use Rattle.safe_bound.specs.Bounds.{all_rows, row_of, numerator}
use Rattle.safe_bound.specs.Premises.{AreCuts, AreMultipliers, AreWithin}
use Rattle.ip_core.specs.Boxes.{IsWithinReach}
use Rattle.safe_bound.proofs.Smallness.{numerator_is_small, reduced_cost_small, rows_few}
use Rattle.safe_bound.proofs.Sizes.{unsigned_abs-sub_le}
use Rattle.dual_ascent.specs.declared.reduced.Reduced.{Reduced}
use Rattle.dual_ascent.specs.Ends.{end_activity, loss}
use Rattle.dual_ascent.specs.Kept.{IsKept, lack}
use Rattle.dual_ascent.proofs.Candidates.{multipliers_set}
use Rattle.dual_ascent.proofs.Changes.{change, column_loss, losses_are, numerator-set, slope, slope_is}
use Rattle.dual_ascent.proofs.Multipliers.{small_at}
use Rattle.dual_ascent.proofs.RowFacts.{row_valid, row_narrow, end_activity_small}

gain_moved : (first last moved : ℤ) (l : ℕ) → last ≡ (first +ℤ moved) -ℤ pos l → moved -ℤ pos l ≡ last -ℤ first
gain_moved first last moved l same = omega (arith, ints)

loss_bounded : (first last moved : ℤ) (l : ℕ) → moved -ℤ pos l ≡ last -ℤ first → unsigned_abs first < 2 ^ 123 → unsigned_abs last < 2 ^ 123 → unsigned_abs moved ≤ 2 ^ 92 → l ≤ 2 ^ 125
loss_bounded first last moved l same a b c = omega (arith, ints)

between_multipliers : (a b : ℕ) → a ≤ 2 ^ 40 → b ≤ 2 ^ 40 → unsigned_abs (pos a -ℤ pos b) ≤ 2 ^ 40
between_multipliers a b first second = omega (arith, ints)

module _ (m : ModelParts) (cuts : List Row) (s : Sides) (v : Reduced) (i : ℕ) (valid : IsModel m) (are_cuts : AreCuts m cuts) (within : IsWithinReach m.root s) (kept : IsKept m cuts s v) (known : i < length (all_rows m cuts)) where
  many : i < length v.mults
  many = omega (arith, kept.mults.one_each, length-append m.rows cuts)

  known_terms : All (IsTerm (length m.costs)) (row_of m cuts i).terms
  known_terms = rw valid.bounds.costs (row_valid m cuts i valid are_cuts known).terms.each

  slope_kept : slope m cuts s v.mults i ≡ lack m cuts v i
  slope_kept =
      slope_is m cuts s v.mults i v.costs known_terms (λ j h. kept.costs j (rw (← valid.bounds.costs) h))
      ∙ ap (λ z. (row_of m cuts i).least -ℤ z) (sym (kept.activities.active i known))

  loss_kept : (u : ℕ) → sum_below (length m.costs) (column_loss m cuts s v.mults i u) ≡ loss (int_at v.costs) (λ j. get_or v.widths j 0) (change v.mults i u) (row_of m cuts i).terms
  loss_kept u =
      losses_are m cuts s v.mults i u v.costs v.widths known_terms (row_valid m cuts i valid are_cuts known).rising (λ j h. kept.costs j (rw (← valid.bounds.costs) h)) (λ j h. kept.activities.widths j (rw (← valid.bounds.costs) h))

  -- what a change of a multiplier gains is told by what is kept
  pub gain_kept : (u : ℕ) → (change v.mults i u *ℤ lack m cuts v i) -ℤ pos (loss (int_at v.costs) (λ j. get_or v.widths j 0) (change v.mults i u) (row_of m cuts i).terms) ≡ numerator m cuts s (set v.mults i u) -ℤ numerator m cuts s v.mults
  gain_kept u =
      gain_moved (numerator m cuts s v.mults) (numerator m cuts s (set v.mults i u)) (change v.mults i u *ℤ lack m cuts v i) (loss (int_at v.costs) (λ j. get_or v.widths j 0) (change v.mults i u) (row_of m cuts i).terms) (rw (← slope_kept, ← loss_kept u) (numerator-set m cuts s v.mults i u known many))

  pub own_multiplier_small : get_or v.mults i 0 ≤ MAX_MULTIPLIER
  own_multiplier_small = small_at v.mults i kept.mults.small

  pub change_small : (u : ℕ) → u ≤ MAX_MULTIPLIER → unsigned_abs (change v.mults i u) ≤ 2 ^ 40
  change_small u small = between_multipliers u (get_or v.mults i 0) small own_multiplier_small

  pub active_small : unsigned_abs (int_at v.active i) ≤ 2 ^ 50
  active_small = rw (kept.activities.active i known) (omega (arith, end_activity_small s (int_at v.costs) (row_of m cuts i).terms, row_narrow m cuts s i valid are_cuts within known))

  pub lack_small : unsigned_abs (lack m cuts v i) ≤ 2 ^ 52
  lack_small = omega (arith, unsigned_abs-sub_le (row_of m cuts i).least (int_at v.active i) (2 ^ 50) (2 ^ 50) (omega (arith, (row_valid m cuts i valid are_cuts known).narrow)) active_small)

  moved_small : (u : ℕ) → u ≤ MAX_MULTIPLIER → unsigned_abs (change v.mults i u *ℤ lack m cuts v i) ≤ 2 ^ 92
  moved_small u small = rw unsigned_abs-mul (omega (arith, mul-le (unsigned_abs (change v.mults i u)) (unsigned_abs (lack m cuts v i)) (2 ^ 40) (2 ^ 52) (change_small u small) lack_small))

  pub own_numerator_small : unsigned_abs (numerator m cuts s v.mults) < 2 ^ 123
  own_numerator_small = numerator_is_small m cuts s v.mults valid are_cuts.rows (omega (arith, rows_few m cuts valid are_cuts)) within kept.mults.small

  pub next_numerator_small : (u : ℕ) → u ≤ MAX_MULTIPLIER → unsigned_abs (numerator m cuts s (set v.mults i u)) < 2 ^ 123
  next_numerator_small u small =
      let next : AreMultipliers m cuts (set v.mults i u) = multipliers_set m cuts v.mults i u kept.mults small in
      numerator_is_small m cuts s (set v.mults i u) valid are_cuts.rows (omega (arith, rows_few m cuts valid are_cuts)) within next.small

  pub loss_small : (u : ℕ) → u ≤ MAX_MULTIPLIER → loss (int_at v.costs) (λ j. get_or v.widths j 0) (change v.mults i u) (row_of m cuts i).terms ≤ 2 ^ 125
  loss_small u small =
      loss_bounded (numerator m cuts s v.mults) (numerator m cuts s (set v.mults i u)) (change v.mults i u *ℤ lack m cuts v i) (loss (int_at v.costs) (λ j. get_or v.widths j 0) (change v.mults i u) (row_of m cuts i).terms) (gain_kept u) own_numerator_small (next_numerator_small u small) (moved_small u small)

-- kept reduced costs are small
pub kept_costs_small : (m : ModelParts) (cuts : List Row) (s : Sides) (v : Reduced) → IsModel m → AreCuts m cuts → IsKept m cuts s v → AreWithin (length v.costs) (2 ^ 122) v.costs
kept_costs_small m cuts s v valid are_cuts kept = record {
  each = λ j h.
      let col : j < length m.cols = omega (arith, kept.activities.costs_long) in
      let size = reduced_cost_small m cuts v.mults j valid are_cuts.rows kept.mults.small (omega (arith, valid.bounds.costs)) in
      rw (kept.costs j col) (omega (arith, size, rows_few m cuts valid are_cuts));
}
