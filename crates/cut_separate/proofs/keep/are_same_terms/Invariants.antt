use Rattle.std.proofs.Common.{◌≡◌, drop}
use Rattle.cut_separate.specs.Separation.{are_same_terms}
use Rattle.cut_separate.proofs.keep.are_same_terms.Given as goal

abbrev pub invariant-loop-i : goal.invariant-loop-i
invariant-loop-i l = are_same_terms (drop l.i l.a) (drop l.i l.b) ≡ are_same_terms l.a l.b
