use Rattle.std.proofs.Common.{◌≡◌, drop}
use Rattle.cut_separate.specs.Candidates.{by_rows, own_candidates}
use Rattle.cut_separate.specs.Separation.{kept_after}
use Rattle.cut_separate.proofs.own_cuts.keep_all_own.Given as goal

abbrev pub invariant-loop-place : goal.invariant-loop-place
invariant-loop-place l =
    kept_after l.model l.cuts l.point l.kept (by_rows own_candidates l.source l.place (drop l.place l.rows))
    ≡ kept_after l.model l.cuts l.point l.initial.kept (by_rows own_candidates l.source 0 l.rows)
