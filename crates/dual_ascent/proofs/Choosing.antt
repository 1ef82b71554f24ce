use Rattle.std.proofs.Common.{◌≡◌, ◌≢◌, ◌∙◌, ℕ, ◌+◌, ◌-◌, ◌^◌, ◌<◌, ◌≤◌, min, List, length, get_or, set, ℤ, pos, ◌+ℤ◌, ◌-ℤ◌, ◌≤ℤ◌, ◌<ℤ◌, unsigned_abs, FitsSigned, to_z, of_z, int_lt, int_le, true, false, refl, sym, ap, subst, arith}
use Rattle.std.specs.Int.{w128, int_max}
use Rattle.std.proofs.lemmas.Int.{ints, clamps, to_z-of_z}
use Rattle.std.proofs.lemmas.List.{set-get_or}
use Rattle.ip_core.specs.Sides.{Sides}
use Rattle.ip_core.specs.Models.{IsModel}
use Rattle.ip_core.specs.declared.model.ModelParts.{ModelParts}
use Rattle.ip_core.specs.declared.row.Row.{Row}
use Rattle.ip_core.proofs.RunningSums.{both_fit, both_are}
use Rattle.safe_bound.specs.declared.limits.TheConstants.{MAX_MULTIPLIER}
use Rattle.safe_bound.specs.Bounds.{all_rows, numerator}
use Rattle.safe_bound.specs.Premises.{AreCuts, AreSmall}
use Rattle.ip_core.specs.Boxes.{IsWithinReach}
use Rattle.safe_bound.proofs.Sizes.{small_fits}
use Rattle.dual_ascent.specs.declared.climb.Choice.{Choice}
use Rattle.dual_ascent.specs.declared.reduced.Reduced.{Reduced}
use Rattle.dual_ascent.specs.Climbs.{next_multiplier}
use Rattle.dual_ascent.specs.Kept.{IsKept, lack}
use Rattle.dual_ascent.specs.KeptClimbs.{IsChoice}
use Rattle.dual_ascent.proofs.KeptGains.{next_numerator_small, own_numerator_small}
use Rattle.dual_ascent.proofs.Multipliers.{small_at}
use Rattle.dual_ascent.proofs.NextMultipliers.{gain_some, gain_reaches, more_some, row_rises, row_falls, row_drops}

worth_more_differs : (m : ModelParts) (cuts : List Row) (s : Sides) (ys : List ℕ) (i u : ℕ) → numerator m cuts s ys <ℤ numerator m cuts s (set ys i u) → u ≡ get_or ys i 0 → ⊥
worth_more_differs m cuts s ys i u more same =
    let equal : numerator m cuts s (set ys i u) ≡ numerator m cuts s ys = ap (λ y. numerator m cuts s (set ys i y)) same ∙ ap (numerator m cuts s) (set-get_or ys i 0) in
    omega (arith, ints, more, equal)

further : (g h : ℤ) → pos 0 <ℤ g → g <ℤ h → pos 0 <ℤ h
further g h some more = omega (arith, ints)

floor_off : (a b g h : ℤ) → h ≡ int_max g (a -ℤ b) → pos 0 <ℤ g → g <ℤ h → h ≡ int_max (pos 0) (a -ℤ b)
floor_off a b g h is some more = omega (arith, ints, clamps)

module _ (m : ModelParts) (cuts : List Row) (s : Sides) (v : Reduced) (i size : ℕ) (valid : IsModel m) (are_cuts : AreCuts m cuts) (within : IsWithinReach m.root s) (kept : IsKept m cuts s v) (known : i < length (all_rows m cuts)) where
  -- the numerator with another multiplier, as 128 bits hold it
  pub reached_fits : (u : ℕ) (f g n : ℤ) → u ≤ MAX_MULTIPLIER → n ≡ v.numerator → g ≡ int_max f (numerator m cuts s (set v.mults i u) -ℤ numerator m cuts s v.mults) → f <ℤ g → FitsSigned w128 g → FitsSigned w128 n → FitsSigned w128 (to_z w128 (of_z w128 n) +ℤ to_z w128 (of_z w128 g))
  reached_fits u f g n small is_own is_gain more g_fits n_fits =
      both_fit w128 n g (numerator m cuts s (set v.mults i u)) n_fits g_fits (gain_reaches (numerator m cuts s (set v.mults i u)) (numerator m cuts s v.mults) n f g is_gain more (is_own ∙ kept.sum)) (small_fits (numerator m cuts s (set v.mults i u)) (2 ^ 123) (omega (arith, next_numerator_small m cuts s v i valid are_cuts within kept known u small)) (omega arith))

  pub reached_is : (u : ℕ) (f g n : ℤ) → u ≤ MAX_MULTIPLIER → n ≡ v.numerator → g ≡ int_max f (numerator m cuts s (set v.mults i u) -ℤ numerator m cuts s v.mults) → f <ℤ g → FitsSigned w128 g → FitsSigned w128 n → to_z w128 (of_z w128 (to_z w128 (of_z w128 n) +ℤ to_z w128 (of_z w128 g))) ≡ numerator m cuts s (set v.mults i u)
  reached_is u f g n small is_own is_gain more g_fits n_fits =
      both_are w128 n g (numerator m cuts s (set v.mults i u)) n_fits g_fits (gain_reaches (numerator m cuts s (set v.mults i u)) (numerator m cuts s v.mults) n f g is_gain more (is_own ∙ kept.sum)) (small_fits (numerator m cuts s (set v.mults i u)) (2 ^ 123) (omega (arith, next_numerator_small m cuts s v i valid are_cuts within kept known u small)) (omega arith))

  pub own_fits : FitsSigned w128 v.numerator
  own_fits = rw kept.sum (small_fits (numerator m cuts s v.mults) (2 ^ 123) (omega (arith, own_numerator_small m cuts s v i valid are_cuts within kept known)) (omega arith))

  choice_of : (u : ℕ) (g : ℤ) (c : Choice) → c.mult ≡ u → u ≡ next_multiplier (numerator m cuts s) size v.mults i → c.numerator ≡ numerator m cuts s (set v.mults i u) → g ≡ int_max (pos 0) (numerator m cuts s (set v.mults i u) -ℤ numerator m cuts s v.mults) → pos 0 <ℤ g → u ≤ MAX_MULTIPLIER → IsChoice m cuts s size v i c
  choice_of u g c is_mult is_next is_numerator is_gain more small = record {
    mult = is_mult ∙ is_next;
    numerator = is_numerator ∙ ap (λ y. numerator m cuts s (set v.mults i y)) (sym is_mult);
    other = λ e. worth_more_differs m cuts s v.mults i u (gain_some (numerator m cuts s (set v.mults i u)) (numerator m cuts s v.mults) g is_gain more) (sym is_mult ∙ e);
    small = rw is_mult small;
  }

  pub rise_choice : (u : ℕ) (g : ℤ) (c : Choice) → pos 0 ≤ℤ lack m cuts v i → u ≡ min (get_or v.mults i 0 + size) MAX_MULTIPLIER → g ≡ int_max (pos 0) (numerator m cuts s (set v.mults i u) -ℤ numerator m cuts s v.mults) → pos 0 <ℤ g → c.mult ≡ u → c.numerator ≡ numerator m cuts s (set v.mults i u) → IsChoice m cuts s size v i c
  rise_choice u g c lacking is_up is_gain more is_mult is_numerator =
      choice_of u g c is_mult (is_up ∙ sym (row_rises m cuts s v i size valid are_cuts kept known g lacking (rw is_up at is_gain) more)) is_numerator is_gain more (omega (arith, is_up))

  pub fall_choice : (u : ℕ) (g : ℤ) (c : Choice) → lack m cuts v i ≤ℤ pos 0 → u ≡ get_or v.mults i 0 - size → u ≤ MAX_MULTIPLIER → g ≡ int_max (pos 0) (numerator m cuts s (set v.mults i u) -ℤ numerator m cuts s v.mults) → pos 0 <ℤ g → numerator m cuts s (set v.mults i 0) ≤ℤ numerator m cuts s (set v.mults i u) → c.mult ≡ u → c.numerator ≡ numerator m cuts s (set v.mults i u) → IsChoice m cuts s size v i c
  fall_choice u g c above is_down small is_gain more last is_mult is_numerator =
      choice_of u g c is_mult (is_down ∙ sym (row_falls m cuts s v i size valid are_cuts kept known g above (rw is_down at is_gain) more (rw is_down at last))) is_numerator is_gain more small

  pub drop_choice : (u : ℕ) (g h : ℤ) (c : Choice) → lack m cuts v i ≤ℤ pos 0 → u ≡ get_or v.mults i 0 - size → g ≡ int_max (pos 0) (numerator m cuts s (set v.mults i u) -ℤ numerator m cuts s v.mults) → pos 0 <ℤ g → h ≡ int_max g (numerator m cuts s (set v.mults i 0) -ℤ numerator m cuts s v.mults) → g <ℤ h → c.mult ≡ 0 → c.numerator ≡ numerator m cuts s (set v.mults i 0) → IsChoice m cuts s size v i c
  drop_choice u g h c above is_down is_gain some is_whole more is_mult is_numerator =
      choice_of 0 h c is_mult (sym (row_drops m cuts s v i size valid are_cuts kept known g h above (rw is_down at is_gain) some is_whole more)) is_numerator (floor_off (numerator m cuts s (set v.mults i 0)) (numerator m cuts s v.mults) g h is_whole some more) (further g h some more) (omega arith)

-- tests of signed numbers
pub test_less : (a b : ℤ) → int_lt a b ≡ true → a <ℤ b
test_less a b e = grind (arith, ints)

pub test_not_less : (a b : ℤ) → int_lt a b ≡ false → b ≤ℤ a
test_not_less a b e = grind (arith, ints)

pub test_at_most : (a b : ℤ) → int_le a b ≡ true → a ≤ℤ b
test_at_most a b e = grind (arith, ints)

pub test_more : (a b : ℤ) → int_le a b ≡ false → b <ℤ a
test_more a b e = grind (arith, ints)

-- a number that is neither above 0 nor below it
pub neither_even : (z : ℤ) → z ≤ℤ pos 0 → pos 0 ≤ℤ z → z ≡ pos 0
neither_even z high low = omega (arith, ints)

-- a gain at another name of the same multiplier
pub same_gain : (m : ModelParts) (cuts : List Row) (s : Sides) (ys : List ℕ) (i : ℕ) (f g : ℤ) (u w : ℕ) → u ≡ w → g ≡ int_max f (numerator m cuts s (set ys i u) -ℤ numerator m cuts s ys) → g ≡ int_max f (numerator m cuts s (set ys i w) -ℤ numerator m cuts s ys)
same_gain m cuts s ys i f g u w same is_gain = subst (λ y. g ≡ int_max f (numerator m cuts s (set ys i y) -ℤ numerator m cuts s ys)) same is_gain

-- a multiplier that is 0 is worth what 0 is
pub same_place : (m : ModelParts) (cuts : List Row) (s : Sides) (ys : List ℕ) (i u : ℕ) → u ≡ 0 → numerator m cuts s (set ys i 0) ≤ℤ numerator m cuts s (set ys i u)
same_place m cuts s ys i u none = rw none (omega (arith, ints))

-- a lowered multiplier is small
pub lowered_small : (ys : List ℕ) (i size u : ℕ) → AreSmall ys → u ≡ get_or ys i 0 - size → u ≤ MAX_MULTIPLIER
lowered_small ys i size u small down = omega (arith, small_at ys i small)
