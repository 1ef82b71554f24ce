use Rattle.std.proofs.Common.{◌≡◌, ◌+◌, take, map, pos}
use Rattle.std.specs.List.{filter}
use Rattle.ip_core.specs.declared.row.Term.{Term}
use Rattle.cut_separate.specs.Thresholds.{weight_from, weight_at}
use Rattle.cut_separate.proofs.Taking.{takes}
use Rattle.cut_separate.proofs.cover_cuts.taken_columns.Given as goal

abbrev pub invariant-loop-term : goal.invariant-loop-term
invariant-loop-term l = record {
  cols : l.cols ≡ map (λ (t : Term). t.col) (filter (takes (pos l.left) l.bad) (take l.term-index l.bad));
  sum : l.sum ≡ weight_from (l.low + 1) l.bad + weight_at l.low (take l.term-index l.bad);
}
