use Rattle.std.proofs.Common.{◌≡◌, take}
use Rattle.ip_core.specs.Rows.{activity}
use Rattle.cut_separate.proofs.activity.activity.Given as goal

abbrev pub invariant-loop-term : goal.invariant-loop-term
invariant-loop-term l = l.sum ≡ activity l.values (take l.term-index l.row.terms)
