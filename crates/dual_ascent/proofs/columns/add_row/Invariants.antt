use Rattle.std.proofs.Common.{take}
use Rattle.dual_ascent.specs.Kept.{HasRowAdded}
use Rattle.dual_ascent.proofs.columns.add_row.Given as goal

abbrev pub invariant-loop-term : goal.invariant-loop-term
invariant-loop-term l = HasRowAdded l.row (take l.term-index l.terms) l.initial.lists.items l.lists.items
