use Rattle.std.proofs.Common.{◌≡◌, ◌∙◌, ◌+◌, ◌<◌, ◌≤◌, ◌^◌, List, length, ℤ, unsigned_abs, w64, to_z, ap, arith}
use Rattle.ip_core.specs.Numbers.{int_at, int_sum_below}
use Rattle.ip_core.specs.Boxes.{least_part, least_share}
use Rattle.ip_core.specs.declared.model.ModelParts.{ModelParts}
use Rattle.ip_core.specs.declared.row.Term.{Term}
use Rattle.ip_core.proofs.NarrowSums.{narrow_below_fits, narrow_below_is}
use Rattle.ip_core.proofs.Reaching.{cost_narrow, least_shares_small}
use Rattle.ip_core.proofs.value_range.least_value.Goals as goal

same_costs : (m parts : ModelParts) (costs : List ℤ) → costs ≡ parts.costs → parts ≡ m → costs ≡ m.costs
same_costs m parts costs first second = first ∙ ap (λ (p : ModelParts). p.costs) second

pub least_part-sum-requires-clause-narrow : goal.least_part-sum-requires-clause-narrow
least_part-sum-requires-clause-narrow c =
    let m = c.args.model.now in
    let costs : c.as_slice-costs.result.now ≡ m.costs = same_costs m _ _ c.as_slice-costs.ensures c.parts-parts.ensures.value in
    let known : c.loop-j.j < length m.costs = rw (← costs) c.loop-j-test.true in
    rw (c.cost_term-term.ensures, costs) (cost_narrow m c.args.bounds.now c.loop-j.j c.parts-parts.ensures.limits c.requires known)

share_is : (c : goal.After-least_part-sum) → c.least_part-sum.result ≡ least_share c.args.model.now c.args.bounds.now c.loop-j.j
share_is c =
    let s = c.args.bounds.now in
    let costs : c.as_slice-costs.result.now ≡ c.args.model.now.costs = same_costs c.args.model.now _ _ c.as_slice-costs.ensures c.parts-parts.ensures.value in
    let term : c.cost_term-term.result ≡ record { col = c.loop-j.j; coef = int_at c.args.model.now.costs c.loop-j.j } = c.cost_term-term.ensures ∙ ap (λ xs. record { col = c.loop-j.j; coef = int_at xs c.loop-j.j }) costs in
    c.least_part-sum.ensures ∙ ap (λ (t : Term). least_part s t) term

next_small : (c : goal.After-least_part-sum) → unsigned_abs (int_sum_below (c.loop-j.j + 1) (least_share c.args.model.now c.args.bounds.now)) ≤ 2 ^ 50
next_small c =
    let m = c.args.model.now in
    let costs : c.as_slice-costs.result.now ≡ m.costs = same_costs m _ _ c.as_slice-costs.ensures c.parts-parts.ensures.value in
    let below : c.loop-j.j + 1 ≤ length m.costs = rw (← costs) (omega (arith, c.loop-j-test.true)) in
    least_shares_small m c.args.bounds.now (c.loop-j.j + 1) c.parts-parts.ensures.limits c.requires below

pub overflow_add-sum : goal.overflow_add-sum
overflow_add-sum c = narrow_below_fits (least_share c.args.model.now c.args.bounds.now) c.loop-j.j (to_z w64 c.loop-j.sum-bits) c.least_part-sum.result (next_small c) (record { sfits = c.least_part-sum.type_inv }) c.loop-j.invariant (share_is c)

pub loop-j-preserved : goal.loop-j-preserved
loop-j-preserved c = narrow_below_is (least_share c.args.model.now c.args.bounds.now) c.loop-j.j (to_z w64 c.loop-j.sum-bits) c.least_part-sum.result (next_small c) (record { sfits = c.least_part-sum.type_inv }) c.loop-j.invariant (share_is c)

pub returns-clause-small : goal.returns-clause-small
returns-clause-small c =
    let m = c.args.model.now in
    let costs : c.as_slice-costs.result.now ≡ m.costs = same_costs m _ _ c.as_slice-costs.ensures c.parts-parts.ensures.value in
    let below : c.loop-j.j ≤ length m.costs = rw (← costs) c.loop-j.auto.j-end in
    rw c.loop-j.invariant (least_shares_small m c.args.bounds.now c.loop-j.j c.parts-parts.ensures.limits c.requires below)
