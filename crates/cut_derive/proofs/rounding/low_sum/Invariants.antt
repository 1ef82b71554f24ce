use Rattle.std.proofs.Common.{◌≡◌}
use Rattle.ip_core.specs.Numbers.{int_at}
use Rattle.cut_derive.specs.Gomory.{low_sum}
use Rattle.cut_derive.proofs.rounding.low_sum.Given as goal

abbrev pub invariant-loop-j : goal.invariant-loop-j
invariant-loop-j l = l.sum ≡ low_sum l.j l.root (int_at l.coefs)
