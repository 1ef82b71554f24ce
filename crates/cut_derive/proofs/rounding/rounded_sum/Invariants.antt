use Rattle.std.proofs.Common.{◌≡◌, ◌*ℤ◌}
use Rattle.ip_core.specs.Numbers.{int_at, int_sum_below}
use Rattle.cut_derive.specs.Gomory.{rounded_coefficient}
use Rattle.cut_derive.proofs.rounding.rounded_sum.Given as goal

abbrev pub invariant-loop-j : goal.invariant-loop-j
invariant-loop-j l = l.sum ≡ int_sum_below l.j (λ j. rounded_coefficient (int_at l.coefs) l.divisor j *ℤ int_at l.values j)
