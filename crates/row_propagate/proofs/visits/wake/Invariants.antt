use Rattle.std.proofs.Common.{take}
use Rattle.row_propagate.specs.Quiet.{HasQuietLeft}
use Rattle.row_propagate.proofs.visits.wake.Given as goal

abbrev pub invariant-loop-entry : goal.invariant-loop-entry
invariant-loop-entry l = HasQuietLeft (take l.entry-index l.column) l.initial.quiet l.quiet
