-- The climb of a model's multipliers by the numerator of their bound.
use Rattle.std.specs.Prelude.{ℕ, ◌+◌, ◌*◌, min, max, List, [], ◌∷◌, length, replicate, ℤ, unsigned_abs}
use Rattle.ip_core.specs.Sides.{Sides}
use Rattle.ip_core.specs.Models.{term_count}
use Rattle.ip_core.specs.declared.model.ModelParts.{ModelParts}
use Rattle.ip_core.specs.declared.row.Row.{Row}
use Rattle.safe_bound.specs.declared.limits.TheConstants.{MAX_MULTIPLIER}
use Rattle.safe_bound.specs.Bounds.{all_rows, numerator}
use Rattle.dual_ascent.specs.Climbs.{Climb}
use Rattle.dual_ascent.specs.Climbs.{after_rounds}

-- the greatest absolute value of numbers, and 0 of none
abbrev pub greatest_size : List ℤ → ℕ
greatest_size [] = 0
greatest_size (z ∷ zs) = max (unsigned_abs z) (greatest_size zs)

-- the first step size: 1,024 times one more than the greatest absolute cost, and at most the greatest multiplier
abbrev pub first_step_size : List ℤ → ℕ
first_step_size costs = min MAX_MULTIPLIER (1024 * (greatest_size costs + 1))

-- the climb at its beginning: every multiplier is 0
abbrev pub first_climb : ModelParts → List Row → Climb
first_climb m cuts = record {
  mults = replicate (length (all_rows m cuts)) 0;
  step_size = first_step_size m.costs;
  rounds = 0;
}

-- the climb at its end, after at most 64 rounds
unfoldable pub ascent : ModelParts → List Row → Sides → Climb
ascent m cuts s = after_rounds (numerator m cuts s) 64 (first_climb m cuts)

-- the work of a round: one, and three for each term of the rows and cuts
abbrev pub round_work : ModelParts → List Row → ℕ
round_work m cuts = 3 * term_count (all_rows m cuts) + 1

-- the work of all rounds
abbrev pub ascent_work : ModelParts → List Row → Sides → ℕ
ascent_work m cuts s = (ascent m cuts s).rounds * round_work m cuts
