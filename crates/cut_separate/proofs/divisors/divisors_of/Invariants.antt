use Rattle.std.proofs.Common.{◌≡◌, drop}
use Rattle.cut_separate.specs.Candidates.{divisors_after, divisors_of}
use Rattle.cut_separate.proofs.divisors.divisors_of.Given as goal

abbrev pub invariant-loop-term : goal.invariant-loop-term
invariant-loop-term l = divisors_after l.found (drop l.term-index l.row.terms) ≡ divisors_of l.row
