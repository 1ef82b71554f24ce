use Rattle.std.proofs.Common.{◌≡◌, take}
use Rattle.width_admit.specs.Held.{held_terms, terms_under_sign}
use Rattle.width_admit.specs.Gathered.{exact}
use Rattle.width_admit.proofs.rows.whole_terms.Given as goal

abbrev pub invariant-loop-term : goal.invariant-loop-term
invariant-loop-term l = l.whole ≡ terms_under_sign l.negate (held_terms l.exponent (exact (take l.term-index l.terms)))
