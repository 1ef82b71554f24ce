use Rattle.std.proofs.Common.{◌≡◌}
use Rattle.ip_core.specs.Numbers.{int_sum_below}
use Rattle.ip_core.specs.Boxes.{greatest_share}
use Rattle.ip_core.proofs.value_range.greatest_value.Given as goal

abbrev pub invariant-loop-j : goal.invariant-loop-j
invariant-loop-j l = l.sum ≡ int_sum_below l.j (greatest_share l.model l.bounds)
