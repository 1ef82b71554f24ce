use Rattle.std.proofs.Common.{◌≡◌, drop}
use Rattle.cut_separate.specs.Separation.{is_among_cuts}
use Rattle.cut_separate.proofs.keep.is_among_cuts.Given as goal

abbrev pub invariant-loop-cut : goal.invariant-loop-cut
invariant-loop-cut l = is_among_cuts (drop l.cut-index l.kept) l.row ≡ is_among_cuts l.kept l.row
