use Rattle.std.proofs.Common.{◌≡◌, max, drop}
use Rattle.dual_ascent.specs.Ascents.{greatest_size}
use Rattle.dual_ascent.proofs.climb.first_step_size.Given as goal

abbrev pub invariant-loop-cost : goal.invariant-loop-cost
invariant-loop-cost l = max l.greatest (greatest_size (drop l.cost-index l.costs)) ≡ greatest_size l.costs
