use Rattle.std.proofs.Common.{◌≡◌, ◌+◌, take}
use Rattle.ip_core.specs.Models.{term_count}
use Rattle.ip_core.proofs.model.has_few_terms.Given as goal

abbrev pub invariant-loop-row : goal.invariant-loop-row
invariant-loop-row l = l.left + term_count (take l.row-index l.rows) ≡ 65536
