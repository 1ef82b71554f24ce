use Rattle.std.proofs.Common.{◌≡◌, ℕ, ◌^◌, List, length, replicate, ℤ, pos, neg_ℤ, ◌*ℤ◌, ◌≤ℤ◌, ◌<ℤ◌, unsigned_abs, FitsSigned, w64, ◌≤◌, arith}
use Rattle.std.proofs.lemmas.Int.{ints, fits_signed_from_abs}
use Rattle.ip_core.specs.Sides.{Sides}
use Rattle.ip_core.specs.Boxes.{least_value}
use Rattle.ip_core.specs.Models.{IsModel}
use Rattle.ip_core.specs.declared.model.ModelParts.{ModelParts}
use Rattle.ip_core.specs.declared.row.Row.{Row}
use Rattle.safe_bound.specs.Bounds.{all_rows, numerator}
use Rattle.ip_core.specs.Boxes.{IsWithinReach}
use Rattle.ip_core.proofs.Reaching.{least_shares_small}
use Rattle.safe_bound.proofs.LeastValues.{le-ceiling, numerator-none}
use Rattle.safe_bound.proofs.PointBoxes.{least_value_of_point}
use Rattle.dual_ascent.specs.Ascents.{ascent, first_climb}
use Rattle.dual_ascent.specs.Laws.{ascent_bound, BoundIsAboveLeast, BoundIsAboveLimit, BoundFits, PointIsReached}
use Rattle.dual_ascent.proofs.Climbing.{no_round_lowers}
use Rattle.dual_ascent.proofs.Rounds.{ascent_is}

-- the numerator of an ascent is no less than that of no multipliers
pub numerator_of_ascent : (m : ModelParts) (cuts : List Row) (s : Sides) → (pos 1024 *ℤ least_value m s) ≤ℤ numerator m cuts s (ascent m cuts s).mults
numerator_of_ascent m cuts s =
    rw (ascent_is m cuts s, ← numerator-none m cuts s (length (all_rows m cuts))) (no_round_lowers (numerator m cuts s) 64 (first_climb m cuts))

pub bound_is_above_least : BoundIsAboveLeast
bound_is_above_least m cuts s = le-ceiling (numerator m cuts s (ascent m cuts s).mults) (least_value m s) (numerator_of_ascent m cuts s)

above_limit : (a b : ℤ) → unsigned_abs a ≤ 2 ^ 50 → a ≤ℤ b → neg_ℤ (pos (2 ^ 50)) ≤ℤ b
above_limit a b small le = omega (arith, ints)

pub bound_is_above_limit : BoundIsAboveLimit
bound_is_above_limit m cuts s valid within = above_limit (least_value m s) (ascent_bound m cuts s) (least_shares_small m s (length m.costs) valid within (omega arith)) (bound_is_above_least m cuts s)

between_fits : (a cutoff : ℤ) → neg_ℤ (pos (2 ^ 50)) ≤ℤ a → a <ℤ cutoff → cutoff ≤ℤ pos (2 ^ 51) → FitsSigned w64 a
between_fits a cutoff above below few = fits_signed_from_abs w64 a (omega (arith, ints))

pub bound_fits : BoundFits
bound_fits m cuts s cutoff valid within below few = between_fits (ascent_bound m cuts s) cutoff (bound_is_above_limit m cuts s valid within) below few

pub point_is_reached : PointIsReached
point_is_reached m cuts s fixed = rw (← least_value_of_point m s fixed) (bound_is_above_least m cuts s)
