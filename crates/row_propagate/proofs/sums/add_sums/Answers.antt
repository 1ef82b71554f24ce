use Rattle.std.proofs.Common.{◌∙◌, [], ◌∷◌, ◌++◌, FitsSigned, w64, sym, ap}
use Rattle.std.proofs.lemmas.Int.{to_z-of_z}
use Rattle.row_propagate.proofs.Summing.{sums_more, sums_start}
use Rattle.row_propagate.proofs.sums.add_sums.Goals as goal

pub loop-row-init : goal.loop-row-init
loop-row-init c = λ before kept. sums_start before c.args.rows.now c.args.bounds.now c.args.sums.now kept

pub loop-row-preserved : goal.loop-row-preserved
loop-row-preserved c =
    let fits : FitsSigned w64 c.greatest_activity.result = record { sfits = c.greatest_activity.type_inv } in
    let pushed = c.in_ok-push.ensures.ok ∙ ap (λ z. c.loop-row.sums ++ z ∷ []) (to_z-of_z w64 c.greatest_activity.result fits) in
    λ before kept. sums_more before c.args.rows.now c.loop-row.row-index c.row-item.result c.args.bounds.now c.loop-row.sums _ c.greatest_activity.result c.loop-row-test.true c.row-item.is c.greatest_activity.ensures.value pushed (c.loop-row.invariant before kept)
