use Rattle.std.proofs.Common.{ℕ, ◌<◌, ◌≤◌, ◌≡◌, length, slice_index}
use Rattle.clock_words.specs.Views.{greater_of}
use Rattle.clock_words.proofs.seating.keep_greater.Given as goal

abbrev pub invariant-loop-slot : goal.invariant-loop-slot
invariant-loop-slot l = record {
  size : length l.seen.items ≡ length l.other;
  same : greater_of l.seen.items l.other ≡ greater_of l.fn.seen.items l.other;
  below : (k : ℕ) → k < l.slot → slice_index l.other k ≤ slice_index l.seen.items k;
}
