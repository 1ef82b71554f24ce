use Rattle.std.proofs.Common.{◌≡◌, ◌∙◌, ℕ, ◌+◌, ◌-◌, ◌<◌, ◌≤◌, min, List, [], length, get_or, set, ℤ, pos, ◌+ℤ◌, ◌-ℤ◌, ◌≤ℤ◌, ◌<ℤ◌, All, refl, sym, ap, arith, length-append}
use Rattle.std.specs.Int.{int_max}
use Rattle.std.proofs.lemmas.Int.{ints, clamps}
use Rattle.std.proofs.lemmas.List.{set-get_or}
use Rattle.ip_core.specs.Numbers.{int_at}
use Rattle.ip_core.specs.Sides.{Sides}
use Rattle.ip_core.specs.Rows.{IsTerm}
use Rattle.ip_core.specs.Models.{IsModel}
use Rattle.ip_core.specs.declared.model.ModelParts.{ModelParts}
use Rattle.ip_core.specs.declared.row.Row.{Row}
use Rattle.safe_bound.specs.declared.limits.TheConstants.{MAX_MULTIPLIER}
use Rattle.safe_bound.specs.Bounds.{all_rows, row_of, numerator}
use Rattle.safe_bound.specs.Premises.{AreCuts}
use Rattle.dual_ascent.specs.declared.reduced.Reduced.{Reduced}
use Rattle.dual_ascent.specs.Climbs.{next_multiplier}
use Rattle.dual_ascent.specs.Kept.{IsKept, lack}
use Rattle.dual_ascent.proofs.Changes.{HasTangents, numerator_has_tangents, slope, slope_is}
use Rattle.dual_ascent.proofs.Concave.{stays, rises, falls, drops, no_rise, no_fall, no_drop}
use Rattle.dual_ascent.proofs.Multipliers.{small_at}
use Rattle.dual_ascent.proofs.RowFacts.{row_valid}

pub gain_none : (a b g : ℤ) → g ≡ int_max (pos 0) (a -ℤ b) → g ≤ℤ pos 0 → a ≤ℤ b
gain_none a b g is none = omega (arith, ints, clamps)

-- what a gain says of the two numerators
pub gain_some : (a b g : ℤ) → g ≡ int_max (pos 0) (a -ℤ b) → pos 0 <ℤ g → b <ℤ a
gain_some a b g is some = omega (arith, ints, clamps)

pub more_some : (a b c g h : ℤ) → g ≡ int_max (pos 0) (b -ℤ c) → pos 0 <ℤ g → h ≡ int_max g (a -ℤ c) → g <ℤ h → b <ℤ a
more_some a b c g h is some next more = omega (arith, ints, clamps)

more_none : (a b c g h : ℤ) → g ≡ int_max (pos 0) (b -ℤ c) → pos 0 <ℤ g → h ≡ int_max g (a -ℤ c) → h ≤ℤ g → a ≤ℤ b
more_none a b c g h is some next less = omega (arith, ints, clamps)

-- the numerator after a gain
pub gain_reaches : (a b c : ℤ) (f g : ℤ) → g ≡ int_max f (a -ℤ b) → f <ℤ g → c ≡ b → c +ℤ g ≡ a
gain_reaches a b c f g is more same = omega (arith, ints, clamps)

module _ (m : ModelParts) (cuts : List Row) (s : Sides) (v : Reduced) (i size : ℕ) (valid : IsModel m) (are_cuts : AreCuts m cuts) (kept : IsKept m cuts s v) (known : i < length (all_rows m cuts)) where
  many : i < length v.mults
  many = omega (arith, kept.mults.one_each, length-append m.rows cuts)

  own_worth : numerator m cuts s (set v.mults i (get_or v.mults i 0)) ≡ numerator m cuts s v.mults
  own_worth = ap (numerator m cuts s) (set-get_or v.mults i 0)

  abbrev tangents : HasTangents (λ y. numerator m cuts s (set v.mults i y))
  tangents = numerator_has_tangents m cuts s v.mults i known many

  known_terms : All (IsTerm (length m.costs)) (row_of m cuts i).terms
  known_terms = rw valid.bounds.costs (row_valid m cuts i valid are_cuts known).terms.each

  -- what is kept of a row's lack is the slope at its multiplier
  lack_is : slope m cuts s (set v.mults i (get_or v.mults i 0)) i ≡ lack m cuts v i
  lack_is =
      ap (λ ys. slope m cuts s ys i) (set-get_or v.mults i 0)
      ∙ slope_is m cuts s v.mults i v.costs known_terms (λ j h. kept.costs j (rw (← valid.bounds.costs) h))
      ∙ ap (λ z. (row_of m cuts i).least -ℤ z) (sym (kept.activities.active i known))

  no_rise_from : (u : ℕ) → lack m cuts v i ≤ℤ pos 0 → get_or v.mults i 0 ≤ u → numerator m cuts s (set v.mults i u) ≤ℤ numerator m cuts s (set v.mults i (get_or v.mults i 0))
  no_rise_from u below after = no_rise (λ y. numerator m cuts s (set v.mults i y)) tangents (get_or v.mults i 0) u (rw lack_is below) after

  no_fall_from : (u : ℕ) → pos 0 ≤ℤ lack m cuts v i → u ≤ get_or v.mults i 0 → numerator m cuts s (set v.mults i u) ≤ℤ numerator m cuts s (set v.mults i (get_or v.mults i 0))
  no_fall_from u above before = no_fall (λ y. numerator m cuts s (set v.mults i y)) tangents (get_or v.mults i 0) u (rw lack_is above) before

  own_small : get_or v.mults i 0 ≤ MAX_MULTIPLIER
  own_small = small_at v.mults i kept.mults.small

  -- a row that lacks something and whose raised multiplier gains takes that
  pub row_rises : (g : ℤ) → pos 0 ≤ℤ lack m cuts v i → g ≡ int_max (pos 0) (numerator m cuts s (set v.mults i (min (get_or v.mults i 0 + size) MAX_MULTIPLIER)) -ℤ numerator m cuts s v.mults) → pos 0 <ℤ g → next_multiplier (numerator m cuts s) size v.mults i ≡ min (get_or v.mults i 0 + size) MAX_MULTIPLIER
  row_rises g above is some =
      let y = get_or v.mults i 0 in
      let f : ℕ → ℤ = λ u. numerator m cuts s (set v.mults i u) in
      let more : f y <ℤ f (min (y + size) MAX_MULTIPLIER) = rw own_worth (gain_some (f (min (y + size) MAX_MULTIPLIER)) (numerator m cuts s v.mults) g is some) in
      rises f size y more (no_fall_from (y - size) above (omega arith)) (no_fall_from 0 above (omega arith))

  -- and keeps its own where that gains nothing
  pub row_stays_low : (g : ℤ) → pos 0 ≤ℤ lack m cuts v i → g ≡ int_max (pos 0) (numerator m cuts s (set v.mults i (min (get_or v.mults i 0 + size) MAX_MULTIPLIER)) -ℤ numerator m cuts s v.mults) → g ≤ℤ pos 0 → next_multiplier (numerator m cuts s) size v.mults i ≡ get_or v.mults i 0
  row_stays_low g above is none =
      let y = get_or v.mults i 0 in
      let f : ℕ → ℤ = λ u. numerator m cuts s (set v.mults i u) in
      let less : f (min (y + size) MAX_MULTIPLIER) ≤ℤ f y = rw own_worth (gain_none (f (min (y + size) MAX_MULTIPLIER)) (numerator m cuts s v.mults) g is none) in
      stays f size y less (no_fall_from (y - size) above (omega arith)) (no_fall_from 0 above (omega arith))

  -- a row that lacks just nothing keeps its own
  pub row_stays_even : lack m cuts v i ≡ pos 0 → next_multiplier (numerator m cuts s) size v.mults i ≡ get_or v.mults i 0
  row_stays_even even =
      let y = get_or v.mults i 0 in
      let f : ℕ → ℤ = λ u. numerator m cuts s (set v.mults i u) in
      let above : pos 0 ≤ℤ lack m cuts v i = omega (arith, ints, even) in
      let below : lack m cuts v i ≤ℤ pos 0 = omega (arith, ints, even) in
      let high : y ≤ min (y + size) MAX_MULTIPLIER = omega (arith, own_small) in
      stays f size y (no_rise_from (min (y + size) MAX_MULTIPLIER) below high) (no_fall_from (y - size) above (omega arith)) (no_fall_from 0 above (omega arith))

  raised_less : lack m cuts v i ≤ℤ pos 0 → numerator m cuts s (set v.mults i (min (get_or v.mults i 0 + size) MAX_MULTIPLIER)) ≤ℤ numerator m cuts s (set v.mults i (get_or v.mults i 0))
  raised_less below = no_rise_from (min (get_or v.mults i 0 + size) MAX_MULTIPLIER) below (omega (arith, own_small))

  -- a row that has more than it needs and whose lowered multiplier gains nothing keeps its own
  pub row_stays_high : (g : ℤ) → 0 < size → lack m cuts v i ≤ℤ pos 0 → g ≡ int_max (pos 0) (numerator m cuts s (set v.mults i (get_or v.mults i 0 - size)) -ℤ numerator m cuts s v.mults) → g ≤ℤ pos 0 → next_multiplier (numerator m cuts s) size v.mults i ≡ get_or v.mults i 0
  row_stays_high g some below is none =
      let y = get_or v.mults i 0 in
      let f : ℕ → ℤ = λ u. numerator m cuts s (set v.mults i u) in
      let less : f (y - size) ≤ℤ f y = rw own_worth (gain_none (f (y - size)) (numerator m cuts s v.mults) g is none) in
      stays f size y (raised_less below) less (no_drop f tangents size y some less)

  -- it takes the lowered one where that gains and 0 no more
  pub row_falls : (g : ℤ) → lack m cuts v i ≤ℤ pos 0 → g ≡ int_max (pos 0) (numerator m cuts s (set v.mults i (get_or v.mults i 0 - size)) -ℤ numerator m cuts s v.mults) → pos 0 <ℤ g → numerator m cuts s (set v.mults i 0) ≤ℤ numerator m cuts s (set v.mults i (get_or v.mults i 0 - size)) → next_multiplier (numerator m cuts s) size v.mults i ≡ get_or v.mults i 0 - size
  row_falls g below is some last =
      let y = get_or v.mults i 0 in
      let f : ℕ → ℤ = λ u. numerator m cuts s (set v.mults i u) in
      let more : f y <ℤ f (y - size) = rw own_worth (gain_some (f (y - size)) (numerator m cuts s v.mults) g is some) in
      falls f size y (raised_less below) more last

  -- and 0 where that gains more
  pub row_drops : (g h : ℤ) → lack m cuts v i ≤ℤ pos 0 → g ≡ int_max (pos 0) (numerator m cuts s (set v.mults i (get_or v.mults i 0 - size)) -ℤ numerator m cuts s v.mults) → pos 0 <ℤ g → h ≡ int_max g (numerator m cuts s (set v.mults i 0) -ℤ numerator m cuts s v.mults) → g <ℤ h → next_multiplier (numerator m cuts s) size v.mults i ≡ 0
  row_drops g h below is some next further =
      let y = get_or v.mults i 0 in
      let f : ℕ → ℤ = λ u. numerator m cuts s (set v.mults i u) in
      let more : f y <ℤ f (y - size) = rw own_worth (gain_some (f (y - size)) (numerator m cuts s v.mults) g is some) in
      let most : f (y - size) <ℤ f 0 = more_some (f 0) (f (y - size)) (numerator m cuts s v.mults) g h is some next further in
      drops f size y (raised_less below) more most

-- where 0 gains no more than the lowered multiplier it isn't worth more
pub zero_less : (zero_worth lowered_worth own_worth g h : ℤ) → g ≡ int_max (pos 0) (lowered_worth -ℤ own_worth) → pos 0 <ℤ g → h ≡ int_max g (zero_worth -ℤ own_worth) → h ≤ℤ g → zero_worth ≤ℤ lowered_worth
zero_less zero_worth lowered_worth own_worth g h is some next less = more_none zero_worth lowered_worth own_worth g h is some next less
