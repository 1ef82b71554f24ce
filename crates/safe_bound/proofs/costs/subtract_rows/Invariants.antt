use Rattle.std.proofs.Common.{◌≡◌, ℕ, ◌<◌, take, ◌-ℤ◌}
use Rattle.ip_core.specs.Numbers.{int_at}
use Rattle.safe_bound.specs.Weights.{weighted_coefficient}
use Rattle.safe_bound.proofs.costs.subtract_rows.Given as goal

abbrev pub invariant-loop-i : goal.invariant-loop-i
invariant-loop-i l = (j : ℕ) → j < l.columns → int_at l.costs j ≡ int_at l.initial.costs j -ℤ weighted_coefficient j (take l.i l.rows) l.mults
