use Rattle.std.proofs.Common.{◌≡◌}
use Rattle.ip_core.specs.Numbers.{int_at}
use Rattle.cut_derive.specs.Gomory.{rounded_coefficient, terms_below}
use Rattle.cut_derive.proofs.rounding.rounded_terms.Given as goal

abbrev pub invariant-loop-j : goal.invariant-loop-j
invariant-loop-j l = l.terms ≡ terms_below l.j (rounded_coefficient (int_at l.coefs) l.divisor)
