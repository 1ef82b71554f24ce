use Rattle.std.proofs.Common.{take}
use Rattle.xsearch_words.specs.Outputs.{AreWritten}
use Rattle.xsearch_words.proofs.output.write_all.Given as goal

abbrev pub invariant-loop-place : goal.invariant-loop-place
invariant-loop-place g l = AreWritten (take l.place l.outputs) (g.S.Shelf.state l.initial.shelf) (g.S.Shelf.state l.shelf)
