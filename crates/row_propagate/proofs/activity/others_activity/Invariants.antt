use Rattle.std.proofs.Common.{◌≡◌, take}
use Rattle.row_propagate.specs.Rounding.{others_activity}
use Rattle.row_propagate.proofs.activity.others_activity.Given as goal

abbrev pub invariant-loop-term : goal.invariant-loop-term
invariant-loop-term l = l.sum ≡ others_activity l.bounds (take l.term-index l.terms) l.col
