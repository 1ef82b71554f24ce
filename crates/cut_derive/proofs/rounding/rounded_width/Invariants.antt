use Rattle.std.proofs.Common.{◌≡◌, ◌+◌, unsigned_abs}
use Rattle.ip_core.specs.Numbers.{int_at, sum_below}
use Rattle.ip_core.specs.Rows.{part_width}
use Rattle.cut_derive.specs.Gomory.{rounded_coefficient}
use Rattle.cut_derive.proofs.rounding.rounded_width.Given as goal

abbrev pub invariant-loop-j : goal.invariant-loop-j
invariant-loop-j l = l.width ≡ unsigned_abs l.least + sum_below l.j (λ j. part_width l.root (rounded_coefficient (int_at l.coefs) l.divisor j) j)
