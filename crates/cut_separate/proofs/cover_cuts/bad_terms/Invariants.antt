use Rattle.std.proofs.Common.{◌≡◌, take}
use Rattle.std.specs.List.{filter}
use Rattle.cut_separate.specs.Candidates.{is_bad}
use Rattle.cut_separate.proofs.cover_cuts.bad_terms.Given as goal

abbrev pub invariant-loop-term : goal.invariant-loop-term
invariant-loop-term l = l.bad ≡ filter (is_bad l.root l.point) (take l.term-index l.row.terms)
