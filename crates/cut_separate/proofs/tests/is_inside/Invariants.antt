use Rattle.std.proofs.Common.{ℕ, ◌<◌, ◌≤ℤ◌}
use Rattle.ip_core.specs.Numbers.{int_at}
use Rattle.cut_separate.proofs.tests.is_inside.Given as goal

abbrev pub invariant-loop-j : goal.invariant-loop-j
invariant-loop-j l = record {
  above : (k : ℕ) → k < l.j → int_at l.lows k ≤ℤ int_at l.values k;
  below : (k : ℕ) → k < l.j → int_at l.values k ≤ℤ int_at l.highs k;
}
