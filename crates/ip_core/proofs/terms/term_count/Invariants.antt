use Rattle.std.proofs.Common.{◌≡◌, ◌≤◌, ◌*◌, take}
use Rattle.ip_core.specs.Models.{term_count}
use Rattle.ip_core.proofs.terms.term_count.Given as goal

abbrev pub invariant-loop-row : goal.invariant-loop-row
invariant-loop-row l = record {
  counted : l.count ≡ term_count (take l.row-index l.rows);
  small : l.count ≤ l.row-index * 4096;
}
