use Rattle.std.proofs.Common.{All, take}
use Rattle.ip_core.specs.Rows.{IsMet}
use Rattle.ip_core.proofs.feasible.are_met.Given as goal

abbrev pub invariant-loop-row : goal.invariant-loop-row
invariant-loop-row l = All (IsMet l.values) (take l.row-index l.rows)
