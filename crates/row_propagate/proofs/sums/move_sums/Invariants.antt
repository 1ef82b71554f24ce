use Rattle.std.proofs.Common.{ℕ, ◌≡◌, ◌<◌, length, take, ◌+ℤ◌}
use Rattle.ip_core.specs.Numbers.{int_at}
use Rattle.row_propagate.specs.Kept.{coefs_at, moved_by}
use Rattle.row_propagate.proofs.sums.move_sums.Given as goal

abbrev pub invariant-loop-entry : goal.invariant-loop-entry
invariant-loop-entry l = record {
  len : length l.sums ≡ length l.initial.sums;
  each : (k : ℕ) → k < length l.initial.sums → int_at l.sums k ≡ int_at l.initial.sums k +ℤ moved_by l.old.0 l.old.1 l.new.0 l.new.1 (coefs_at k (take l.entry-index l.column));
}
