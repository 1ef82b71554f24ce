use Rattle.std.proofs.Common.{◌≡◌, take}
use Rattle.ip_core.specs.Boxes.{greatest_activity}
use Rattle.ip_core.proofs.terms.greatest_activity.Given as goal

abbrev pub invariant-loop-term : goal.invariant-loop-term
invariant-loop-term l = l.sum ≡ greatest_activity l.bounds (take l.term-index l.row.terms)
