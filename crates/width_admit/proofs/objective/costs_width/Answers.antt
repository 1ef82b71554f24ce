use Rattle.std.proofs.Common.{◌≡◌, ◌∙◌, ◌≤◌, ◌*◌, ◌^◌, get_or, unsigned_abs, ap, FitsSigned, w64, arith}
use Rattle.std.proofs.lemmas.Int.{to_z-of_z}
use Rattle.std.proofs.lemmas.List.{get_or_default}
use Rattle.ip_core.specs.Sides.{reach}
use Rattle.width_admit.specs.Exact.{units, whole}
use Rattle.width_admit.specs.Held.{held_whole, costs_width_from}
use Rattle.width_admit.proofs.Coefficients.{reach_small, part_small}
use Rattle.width_admit.proofs.ObjectiveNumbers.{cost_whole, costs_width_step, costs_width_end}
use Rattle.width_admit.proofs.objective.costs_width.Goals as goal

pub scaled_value-requires-clause-whole : goal.scaled_value-requires-clause-whole
scaled_value-requires-clause-whole c = cost_whole c.args.exponent c.args.cols.now c.loop-at.at c.index-cols-at.result c.loop-at-test.true c.requires.whole

pub loop-at-preserved : goal.loop-at-preserved
loop-at-preserved c =
    let k = c.args.exponent in
    let root = c.args.root.now in
    let cols = c.args.cols.now in
    let at = c.loop-at.at in
    let col = get_or cols at c.index-cols-at.result in
    let fits : FitsSigned w64 c.scaled_value.result = record { sfits = c.scaled_value.type_inv } in
    let size : c.from.result ≡ unsigned_abs (held_whole k col.cost) = c.from.ensures ∙ c.unsigned_abs-size.ensures.value ∙ ap unsigned_abs (to_z-of_z w64 c.scaled_value.result fits ∙ c.scaled_value.ensures) in
    let far : c.from-in-loop-at.result ≡ reach root at = c.from-in-loop-at.ensures ∙ c.reach.ensures in
    let part : unsigned_abs (held_whole k col.cost) * reach root at ≤ 2 ^ 83 = part_small (whole k (units col.cost)) (reach root at) (reach_small root at c.requires.limits) in
    rw (size, far) (record {
      summed = costs_width_step root k cols at col c.loop-at.width (costs_width_from root k 0 cols) c.loop-at-test.true (get_or_default cols at c.index-cols-at.result col c.loop-at-test.true) c.loop-at.invariant.summed;
      small = omega (arith, c.loop-at.invariant.small, part);
    })

pub returns : goal.returns
returns c = record {
  value = costs_width_end c.args.root.now c.args.exponent c.args.cols.now c.loop-at.at c.loop-at.width _ c.loop-at-test.false c.loop-at.invariant.summed;
  small = omega (arith, c.loop-at.invariant.small, c.requires.short, c.loop-at.auto);
}
