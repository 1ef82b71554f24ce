use Rattle.std.proofs.Common.{◌≡◌, take}
use Rattle.cut_separate.specs.Violations.{rounded_activity}
use Rattle.cut_separate.proofs.activity.rounded_activity.Given as goal

abbrev pub invariant-loop-term : goal.invariant-loop-term
invariant-loop-term l = l.sum ≡ rounded_activity l.divisor l.values (take l.term-index l.row.terms)
