use Rattle.std.proofs.Common.{take}
use Rattle.width_admit.specs.Admission.{exact_costs}
use Rattle.width_admit.specs.Held.{IsFinest}
use Rattle.width_admit.proofs.objective.cost_decimals.Given as goal

abbrev pub invariant-loop-col : goal.invariant-loop-col
invariant-loop-col l = IsFinest (exact_costs (take l.col-index l.cols)) l.most
