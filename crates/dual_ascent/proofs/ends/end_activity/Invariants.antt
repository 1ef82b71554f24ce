use Rattle.std.proofs.Common.{◌≡◌, take}
use Rattle.ip_core.specs.Numbers.{int_at}
use Rattle.dual_ascent.specs.Ends.{end_activity}
use Rattle.dual_ascent.proofs.ends.end_activity.Given as goal

abbrev pub invariant-loop-term : goal.invariant-loop-term
invariant-loop-term l = l.sum ≡ end_activity l.bounds (int_at l.costs) (take l.term-index l.terms)
