use Rattle.std.proofs.Common.{◌≡◌, drop}
use Rattle.ip_core.specs.Rows.{coefficient}
use Rattle.leaf_truth.proofs.steps.coefficient.Given as goal

abbrev pub invariant-loop-term : goal.invariant-loop-term
invariant-loop-term l = coefficient l.col (drop l.term-index l.terms) ≡ coefficient l.col l.terms
