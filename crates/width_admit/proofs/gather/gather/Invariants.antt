use Rattle.std.proofs.Common.{take}
use Rattle.width_admit.specs.Gathered.{AreGathered, AreGatheredUpTo}
use Rattle.width_admit.proofs.gather.gather.Given as goal

abbrev pub invariant-loop-entry : goal.invariant-loop-entry
invariant-loop-entry l = AreGatheredUpTo l.rows (take l.at l.cols) l.at (take l.entry-index l.entry-items) l.lists.items

abbrev pub invariant-loop-at : goal.invariant-loop-at
invariant-loop-at l = AreGathered l.rows (take l.at l.cols) l.lists.items
