-- A climb over what is kept of its multipliers.
use Rattle.std.specs.Prelude.{ℕ, ◌≡◌, ◌≢◌, ◌≤◌, List, slice_index, slice_set}
use Rattle.ip_core.specs.Sides.{Sides}
use Rattle.ip_core.specs.declared.model.ModelParts.{ModelParts}
use Rattle.ip_core.specs.declared.row.Row.{Row}
use Rattle.safe_bound.specs.declared.limits.TheConstants.{MAX_MULTIPLIER}
use Rattle.safe_bound.specs.Bounds.{numerator}
use Rattle.dual_ascent.specs.declared.climb.Choice.{Choice}
use Rattle.dual_ascent.specs.declared.climb.KeptClimb.{KeptClimb}
use Rattle.dual_ascent.specs.declared.reduced.Reduced.{Reduced}
use Rattle.dual_ascent.specs.Climbs.{Climb, next_multiplier}

-- the climb of which something is kept
abbrev pub climb_of : KeptClimb → Climb
climb_of c = record { mults = c.kept.mults; step_size = c.step_size; rounds = c.rounds }

-- what row k takes in place of its multiplier, with the numerator that it brings
pub record IsChoice (m : ModelParts) (cuts : List Row) (s : Sides) (size : ℕ) (v : Reduced) (k : ℕ)
    (c : Choice) : Type 0 where
  pub mult : c.mult ≡ next_multiplier (numerator m cuts s) size v.mults k
  pub numerator : c.numerator ≡ numerator m cuts s (slice_set v.mults k c.mult)
  pub other : c.mult ≢ slice_index v.mults k
  pub small : c.mult ≤ MAX_MULTIPLIER
