use Rattle.std.proofs.Common.{◌≡◌, ◌≤◌, ◌+◌, ◌*◌, ◌^◌, take, sum_by, unsigned_abs}
use Rattle.ip_core.specs.Rows.{term_width}
use Rattle.ip_core.proofs.width.row_width.Given as goal

abbrev pub invariant-loop-term : goal.invariant-loop-term
invariant-loop-term l = record {
  summed : l.width ≡ unsigned_abs l.row.least + sum_by (term_width l.root) (take l.term-index l.row.terms);
  small : l.width ≤ 2 ^ 64 + l.term-index * 2 ^ 95;
}
