use Rattle.std.proofs.Common.{map, take}
use Rattle.width_admit.specs.Held.{IsFinest}
use Rattle.width_admit.specs.Gathered.{exact}
use Rattle.width_admit.proofs.rows.term_decimals.Given as goal

abbrev pub invariant-loop-term : goal.invariant-loop-term
invariant-loop-term l = IsFinest (map (λ t. t.coef) (exact (take l.term-index l.terms))) l.most
