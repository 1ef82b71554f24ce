use Rattle.std.proofs.Common.{◌≡◌, ℕ, ◌<◌, length}
use Rattle.ip_core.specs.Numbers.{int_at}
use Rattle.ip_core.specs.Boxes.{cheapest_end}
use Rattle.safe_bound.proofs.lagrangian.least_point.Given as goal

abbrev pub invariant-loop-j : goal.invariant-loop-j
invariant-loop-j l = record {
  long : length l.out ≡ length l.fn.out;
  ends : (k : ℕ) → k < l.j → int_at l.out k ≡ cheapest_end l.bounds (int_at l.scratch k) k;
}
