use Rattle.std.proofs.Common.{ℕ, ◌<◌}
use Rattle.ip_core.specs.Sides.{IsOpenAt}
use Rattle.ip_core.proofs.bounds.Bounds.first_empty.Given as goal

abbrev pub invariant-loop-at : goal.invariant-loop-at
invariant-loop-at l = (k : ℕ) → k < l.at → IsOpenAt (record { lows = l.lows; highs = l.highs }) k
