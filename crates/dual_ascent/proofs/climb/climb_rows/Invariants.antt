use Rattle.std.proofs.Common.{◌≡◌, ◌≤◌, ℕ, slice_index}
use Rattle.safe_bound.specs.Bounds.{numerator}
use Rattle.dual_ascent.specs.Climbs.{after_rows, is_same}
use Rattle.dual_ascent.specs.Kept.{IsKept}
use Rattle.dual_ascent.proofs.climb.climb_rows.Given as goal

abbrev pub invariant-loop-row : goal.invariant-loop-row
invariant-loop-row l = record {
  multipliers_are : l.kept.mults ≡ after_rows (numerator l.model l.cuts l.bounds) l.step_size l.initial.kept.mults l.row;
  same : l.is_same ≡ is_same l.initial.kept.mults l.kept.mults;
  untouched : (k : ℕ) → l.row ≤ k → slice_index l.kept.mults k ≡ slice_index l.initial.kept.mults k;
  kept : IsKept l.model l.cuts l.bounds l.kept;
}
