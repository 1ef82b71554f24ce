use Rattle.dual_ascent.proofs.Transposing.{AreColumnsUpTo}
use Rattle.dual_ascent.proofs.columns.columns.Given as goal

abbrev pub invariant-loop-row : goal.invariant-loop-row
invariant-loop-row l = AreColumnsUpTo l.model l.cuts l.row l.lists.items
