use Rattle.std.proofs.Common.{ℕ, ◌≡◌, [], length, get_or}
use Rattle.row_propagate.proofs.columns.empty_columns.Given as goal

abbrev pub invariant-loop-count : goal.invariant-loop-count
invariant-loop-count l = record {
  len : length l.columns ≡ l.count-index;
  none : (j : ℕ) → get_or l.columns j [] ≡ [];
}
