use Rattle.std.proofs.Common.{◌≡◌, ℕ, ◌<◌, pos, ◌*ℤ◌}
use Rattle.ip_core.specs.Numbers.{int_at}
use Rattle.safe_bound.proofs.costs.scale.Given as goal

abbrev pub invariant-loop-j : goal.invariant-loop-j
invariant-loop-j l = (k : ℕ) → k < l.j → int_at l.scaled k ≡ pos 1024 *ℤ int_at l.costs k
