use Rattle.std.proofs.Common.{◌≡◌, ◌≤◌, ◌+◌, ◌*◌, ◌^◌, unsigned_abs}
use Rattle.ip_core.specs.Numbers.{int_at, sum_below}
use Rattle.ip_core.specs.Rows.{part_width}
use Rattle.ip_core.proofs.width.objective_width.Given as goal

abbrev pub invariant-loop-j : goal.invariant-loop-j
invariant-loop-j l = record {
  summed : l.width ≡ unsigned_abs l.parts.constant + sum_below l.j (λ j. part_width l.parts.root (int_at l.costs j) j);
  small : l.width ≤ 2 ^ 64 + l.j * 2 ^ 95;
}
