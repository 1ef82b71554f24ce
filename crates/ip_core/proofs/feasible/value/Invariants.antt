use Rattle.std.proofs.Common.{◌≡◌, ◌*ℤ◌}
use Rattle.ip_core.specs.Numbers.{int_at, int_sum_below}
use Rattle.ip_core.proofs.feasible.value.Given as goal

abbrev pub invariant-loop-j : goal.invariant-loop-j
invariant-loop-j l = l.sum ≡ int_sum_below l.j (λ j. int_at l.costs j *ℤ int_at l.values j)
