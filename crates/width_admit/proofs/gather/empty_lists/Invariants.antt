use Rattle.std.proofs.Common.{◌≡◌, ◌<◌, ℕ, [], length, slice_index_or}
use Rattle.width_admit.proofs.gather.empty_lists.Given as goal

abbrev pub invariant-loop-row : goal.invariant-loop-row
invariant-loop-row l = record {
  as_many : length l.lists.items ≡ l._row;
  empty : (i : ℕ) → i < l._row → slice_index_or l.lists.items i [] ≡ [];
}
