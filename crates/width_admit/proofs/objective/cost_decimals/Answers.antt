use Rattle.std.proofs.Common.{subst}
use Rattle.std.proofs.lemmas.List.{take_all}
use Rattle.width_admit.specs.Admission.{exact_costs}
use Rattle.width_admit.specs.Held.{IsFinest}
use Rattle.width_admit.proofs.Decimals.{finest_none}
use Rattle.width_admit.proofs.ObjectiveNumbers.{finest_cost_more}
use Rattle.width_admit.proofs.objective.cost_decimals.Goals as goal

pub loop-col-init : goal.loop-col-init
loop-col-init c = finest_none

pub loop-col-preserved : goal.loop-col-preserved
loop-col-preserved c =
    rw c.max-most.ensures (finest_cost_more c.args.cols.now c.loop-col.col-index c.col-item.result c.loop-col.most c.decimals.result c.loop-col-test.true c.col-item.is c.loop-col.invariant c.decimals.ensures)

pub returns : goal.returns
returns c = subst (λ cols. IsFinest (exact_costs cols) c.loop-col.most) (take_all c.loop-col.col-index c.args.cols.now c.loop-col-test.false) c.loop-col.invariant
