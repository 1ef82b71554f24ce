use Rattle.std.proofs.Common.{◌≡◌, ℕ, ◌<◌, length, take, pos, ◌+ℤ◌, ◌*ℤ◌}
use Rattle.ip_core.specs.Numbers.{int_at}
use Rattle.ip_core.specs.Rows.{coefficient}
use Rattle.cut_derive.proofs.sums.add_terms.Given as goal

abbrev pub invariant-loop-term : goal.invariant-loop-term
invariant-loop-term l = (j : ℕ) → j < length l.initial.coefs → int_at l.coefs j ≡ int_at l.initial.coefs j +ℤ (pos l.weight *ℤ coefficient j (take l.term-index l.terms))
