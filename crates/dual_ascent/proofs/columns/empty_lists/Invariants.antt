use Rattle.std.proofs.Common.{◌≡◌, ℕ, [], length, get_or}
use Rattle.dual_ascent.proofs.columns.empty_lists.Given as goal

abbrev pub invariant-loop-column : goal.invariant-loop-column
invariant-loop-column l = record {
  long : length l.lists.items ≡ l._column;
  empty : (j : ℕ) → get_or l.lists.items j [] ≡ [];
}
