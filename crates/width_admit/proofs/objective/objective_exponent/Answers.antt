use Rattle.std.proofs.Common.{◌∙◌, ◌++◌, ◌∷◌, [], max, sym}
use Rattle.width_admit.specs.Exact.{units}
use Rattle.width_admit.specs.Admission.{exact_costs}
use Rattle.width_admit.specs.Held.{IsFinest}
use Rattle.width_admit.proofs.Decimals.{exponent_is, finest_both}
use Rattle.width_admit.proofs.objective.objective_exponent.Goals as goal

pub returns-clause-value : goal.returns-clause-value
returns-clause-value c =
    let m = c.args.mps.now in
    let costs : IsFinest (exact_costs m.cols) c.cost_decimals.result = rw c.as_slice.ensures at c.cost_decimals.ensures in
    let both = finest_both (exact_costs m.cols) (units m.constant ∷ []) c.cost_decimals.result c.decimals.result costs c.decimals.ensures in
    c.max.ensures ∙ sym (exponent_is (exact_costs m.cols ++ units m.constant ∷ []) (max c.cost_decimals.result c.decimals.result) both)
