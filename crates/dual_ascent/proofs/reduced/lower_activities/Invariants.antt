use Rattle.std.proofs.Common.{◌≡◌, ◌<◌, ℕ, length, take, ◌-ℤ◌, ◌*ℤ◌}
use Rattle.ip_core.specs.Numbers.{int_at}
use Rattle.ip_core.specs.Rows.{coefficient}
use Rattle.dual_ascent.proofs.reduced.lower_activities.Given as goal

abbrev pub invariant-loop-entry : goal.invariant-loop-entry
invariant-loop-entry l = record {
  long : length l.active ≡ length l.initial.active;
  values : (k : ℕ) → k < length l.initial.active → int_at l.active k ≡ int_at l.initial.active k -ℤ (l.fall *ℤ coefficient k (take l.entry-index l.entries));
}
