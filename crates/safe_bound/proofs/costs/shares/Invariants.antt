use Rattle.std.proofs.Common.{◌≡◌}
use Rattle.ip_core.specs.Numbers.{int_at, int_sum_below}
use Rattle.safe_bound.specs.Bounds.{share}
use Rattle.safe_bound.proofs.costs.shares.Given as goal

abbrev pub invariant-loop-j : goal.invariant-loop-j
invariant-loop-j l = l.sum ≡ int_sum_below l.j (λ j. share l.bounds (int_at l.costs j) j)
