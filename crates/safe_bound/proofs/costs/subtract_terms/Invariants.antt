use Rattle.std.proofs.Common.{◌≡◌, ℕ, ◌<◌, take, pos, ◌-ℤ◌, ◌*ℤ◌}
use Rattle.ip_core.specs.Numbers.{int_at}
use Rattle.ip_core.specs.Rows.{coefficient}
use Rattle.safe_bound.proofs.costs.subtract_terms.Given as goal

abbrev pub invariant-loop-term : goal.invariant-loop-term
invariant-loop-term l = (j : ℕ) → j < l.columns → int_at l.costs j ≡ int_at l.initial.costs j -ℤ (pos l.mult *ℤ coefficient j (take l.term-index l.terms))
