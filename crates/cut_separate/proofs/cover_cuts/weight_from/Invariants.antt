use Rattle.std.proofs.Common.{◌≡◌, take}
use Rattle.cut_separate.specs.Thresholds.{weight_from}
use Rattle.cut_separate.proofs.cover_cuts.weight_from.Given as goal

abbrev pub invariant-loop-term : goal.invariant-loop-term
invariant-loop-term l = l.sum ≡ weight_from l.low (take l.term-index l.terms)
