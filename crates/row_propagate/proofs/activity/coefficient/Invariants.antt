use Rattle.std.proofs.Common.{◌≡◌, take}
use Rattle.ip_core.specs.Rows.{coefficient}
use Rattle.row_propagate.proofs.activity.coefficient.Given as goal

abbrev pub invariant-loop-term : goal.invariant-loop-term
invariant-loop-term l = l.sum ≡ coefficient l.col (take l.term-index l.terms)
