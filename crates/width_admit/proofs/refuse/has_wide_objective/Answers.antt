use Rattle.std.proofs.Common.{◌≡◌, ◌∙◌, ◌||◌, nat_lt, false, sym, ap, refl}
use Rattle.std.proofs.lemmas.Bool.{le-ltb}
use Rattle.ip_core.specs.declared.limits.TheConstants.{MAX_WIDTH, MAX_DECIMALS}
use Rattle.ip_core.specs.Models.{objective_width}
use Rattle.width_admit.specs.Columns.{root}
use Rattle.width_admit.specs.Admission.{objective_exponent, whole_costs, whole_constant}
use Rattle.width_admit.proofs.ObjectiveWidths.{objective_wide_is}
use Rattle.width_admit.proofs.refuse.has_wide_objective.Goals as goal

pub returns-else-exponent-gt-MAX_DECIMALS : goal.returns-else-exponent-gt-MAX_DECIMALS
returns-else-exponent-gt-MAX_DECIMALS c =
    let m = c.args.mps.now in
    let k = c.objective_exponent-exponent.result in
    let coarse : nat_lt MAX_DECIMALS (objective_exponent m) ≡ false = rw (sym c.objective_exponent-exponent.ensures.value) (le-ltb MAX_DECIMALS k c.if-exponent-gt-MAX_DECIMALS.false) in
    let wide = objective_wide_is c.args.root.now m.maximise k m.cols m.constant in
    ap (nat_lt MAX_WIDTH) c.objective_width.ensures ∙ wide
    ∙ rw (c.objective_exponent-exponent.ensures.value, c.requires.root) refl
    ∙ ap (λ b. b || nat_lt MAX_WIDTH (objective_width (root c.args.upper m.cols) (whole_costs m) (whole_constant m))) (sym coarse)
