use Rattle.std.proofs.Common.{◌≡◌, ◌<◌, ℕ, length, take, ◌-ℤ◌, ◌*ℤ◌}
use Rattle.ip_core.specs.Numbers.{int_at}
use Rattle.ip_core.specs.Rows.{coefficient}
use Rattle.dual_ascent.specs.Kept.{HasActivities}
use Rattle.dual_ascent.proofs.reduced.Reduced.lower_costs.Given as goal

abbrev pub invariant-loop-term : goal.invariant-loop-term
invariant-loop-term l = record {
  activities : HasActivities l.model l.cuts l.bounds l.self;
  costs : (j : ℕ) → j < length l.model.cols → int_at l.self.costs j ≡ int_at l.initial.self.costs j -ℤ (l.by *ℤ coefficient j (take l.term-index l.terms));
  mults : l.self.mults ≡ l.initial.self.mults;
}
