use Rattle.std.proofs.Common.{◌≡◌, take}
use Rattle.safe_bound.specs.Weights.{weighted_least}
use Rattle.safe_bound.proofs.costs.weighted_least.Given as goal

abbrev pub invariant-loop-i : goal.invariant-loop-i
invariant-loop-i l = l.sum ≡ weighted_least (take l.i l.rows) l.mults
