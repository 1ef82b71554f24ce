use Rattle.std.proofs.Common.{◌≡◌, ◌<◌, ℕ, length}
use Rattle.ip_core.specs.Numbers.{int_at}
use Rattle.safe_bound.specs.Bounds.{all_rows, row_of}
use Rattle.dual_ascent.specs.Ends.{end_activity}
use Rattle.dual_ascent.proofs.ends.end_activities.Given as goal

abbrev pub invariant-loop-row : goal.invariant-loop-row
invariant-loop-row l = record {
  long : length l.active.items ≡ length (all_rows l.model l.cuts);
  each : (k : ℕ) → k < l.row → int_at l.active.items k ≡ end_activity l.bounds (int_at l.costs) (row_of l.model l.cuts k).terms;
}
