use Rattle.std.proofs.Common.{◌≡◌, ◌+◌, [], length, drop}
use Rattle.safe_bound.specs.Premises.{AreCuts}
use Rattle.cert_check.specs.Verdicts.{cut_rows}
use Rattle.cert_check.proofs.cuts.cut_rows.Given as goal

abbrev pub invariant-loop-cut : goal.invariant-loop-cut
invariant-loop-cut l = record {
  line : l.line ≡ l.first_line + l.cut-index;
  count : length l.rows ≡ l.cut-index;
  rest : cut_rows l.model l.line l.rows (drop l.cut-index l.cuts) ≡ cut_rows l.model l.first_line [] l.cuts;
  rows : AreCuts l.model l.rows;
}
