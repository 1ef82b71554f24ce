use Rattle.std.proofs.Common.{◌≡◌, length, take}
use Rattle.row_propagate.specs.Kept.{HasRowAdded}
use Rattle.row_propagate.proofs.columns.add_row.Given as goal

abbrev pub invariant-loop-term : goal.invariant-loop-term
invariant-loop-term l = record {
  len : length l.columns ≡ length l.initial.columns;
  added : HasRowAdded l.number (take l.term-index l.terms) l.initial.columns l.columns;
}
