use Rattle.std.proofs.Common.{◌≡◌, ◌∙◌, ◌+◌, ◌≤◌, ◌^◌, length, ◌+ℤ◌, ◌*ℤ◌, FitsSigned, w64, to_z, ap, rules, arith}
use Rattle.std.proofs.lemmas.Int.{to_z-of_z}
use Rattle.ip_core.specs.Numbers.{int_at, int_sum_below}
use Rattle.ip_core.specs.Sides.{IsInside}
use Rattle.ip_core.specs.Rows.{part_width}
use Rattle.ip_core.proofs.IntSums.{int_sum_below_more}
use Rattle.ip_core.proofs.RunningSums.{sum_fits, sum_is}
use Rattle.ip_core.proofs.Widths.{narrow_fits, costs_within_width, part_within_width, model_costs_narrow}
use Rattle.ip_core.proofs.feasible.value.Goals as goal

part_narrow : (c : goal.After-product-arg-1) → part_width c.parts-parts.result.now.root (int_at c.as_slice-costs.result.now c.loop-j.j) c.loop-j.j ≤ 2 ^ 50
part_narrow c =
    let costs = c.as_slice-costs.result.now in
    let wide = part_within_width c.parts-parts.result.now.root costs c.loop-j.j (length costs) c.loop-j-test.true in
    omega (arith, wide, model_costs_narrow c.args.model.now c.parts-parts.result.now costs c.parts-parts.ensures.value c.as_slice-costs.ensures c.parts-parts.ensures.limits)

pub product-sum-requires-clause-narrow : goal.product-sum-requires-clause-narrow
product-sum-requires-clause-narrow c =
    let fits : FitsSigned w64 (int_at c.as_slice-costs.result.now c.loop-j.j) = search rules in
    rw (to_z-of_z w64 (int_at c.as_slice-costs.result.now c.loop-j.j) fits) (part_narrow c)

next_fits : (c : goal.After-product-sum) → FitsSigned w64 (int_sum_below (c.loop-j.j + 1) (λ k. int_at c.as_slice-costs.result.now k *ℤ int_at c.values-values.result.now k))
next_fits c =
    let parts = c.parts-parts.result.now in
    let costs = c.as_slice-costs.result.now in
    let x = c.values-values.result.now in
    let same_parts = c.parts-parts.ensures.value in
    let inside : IsInside parts.root x = rw (same_parts, c.values-values.ensures) c.requires.inside in
    let long : length costs ≤ length x = rw (c.as_slice-costs.ensures, same_parts, c.values-values.ensures) (omega (arith, c.requires.one_each, c.parts-parts.ensures.limits.bounds.costs)) in
    narrow_fits _ _ (costs_within_width parts.root x costs (c.loop-j.j + 1) (length costs) inside (omega (arith, c.loop-j-test.true)) long) (model_costs_narrow c.args.model.now parts costs same_parts c.as_slice-costs.ensures c.parts-parts.ensures.limits)

next_is : (c : goal.After-product-sum) → to_z w64 c.loop-j.sum-bits +ℤ c.product-sum.result ≡ int_sum_below (c.loop-j.j + 1) (λ k. int_at c.as_slice-costs.result.now k *ℤ int_at c.values-values.result.now k)
next_is c =
    let costs = c.as_slice-costs.result.now in
    let x = c.values-values.result.now in
    let j = c.loop-j.j in
    let fits : FitsSigned w64 (int_at costs j) = search rules in
    let part : c.product-sum.result ≡ int_at costs j *ℤ int_at x j = c.product-sum.ensures ∙ ap (λ z. z *ℤ int_at x j) (to_z-of_z w64 (int_at costs j) fits) in
    rw (int_sum_below_more (λ k. int_at costs k *ℤ int_at x k) j, part) (ap (λ z. z +ℤ (int_at costs j *ℤ int_at x j)) c.loop-j.invariant)

pub overflow_add-sum : goal.overflow_add-sum
overflow_add-sum c = sum_fits w64 (to_z w64 c.loop-j.sum-bits) c.product-sum.result _ (record { sfits = c.product-sum.type_inv }) (next_is c) (next_fits c)

pub loop-j-preserved : goal.loop-j-preserved
loop-j-preserved c = sum_is w64 (to_z w64 c.loop-j.sum-bits) c.product-sum.result _ (record { sfits = c.product-sum.type_inv }) (next_is c) (next_fits c)
