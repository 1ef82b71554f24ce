use Rattle.std.proofs.Common.{◌≡◌, ◌∙◌, ◌+◌, ◌≤◌, ◌^◌, ◌+ℤ◌, unsigned_abs, refl, arith}
use Rattle.std.specs.Int.{w128}
use Rattle.ip_core.proofs.IntSums.{unsigned_abs-add_le}
use Rattle.safe_bound.specs.Bounds.{numerator}
use Rattle.ip_core.proofs.RunningSums.{both_fit, both_are}
use Rattle.safe_bound.proofs.Sizes.{small_fits}
use Rattle.safe_bound.proofs.Smallness.{rows_few, scratch_shares, scratch_width}
use Rattle.safe_bound.proofs.lagrangian.numerator.Goals as goal

pub shares-requires-clause-narrow : goal.shares-requires-clause-narrow
shares-requires-clause-narrow c =
    let m = c.args.model.now in
    let width = scratch_width m c.args.cuts.now c.args.bounds.now c.args.mults.now c.reduce.new.costs c.parts-limits.ensures.limits c.requires.cuts.rows c.requires.within c.requires.multipliers.small c.reduce.ensures in
    omega (arith, width, rows_few m c.args.cuts.now c.parts-limits.ensures.limits c.requires.cuts)

sum_small : (c : goal.After-shares) → unsigned_abs (c.least.result +ℤ c.shares.result) ≤ 2 ^ 122 + 2 ^ 121
sum_small c =
    let m = c.args.model.now in
    let width = scratch_width m c.args.cuts.now c.args.bounds.now c.args.mults.now c.reduce.new.costs c.parts-limits.ensures.limits c.requires.cuts.rows c.requires.within c.requires.multipliers.small c.reduce.ensures in
    let small : unsigned_abs c.shares.result ≤ 2 ^ 121 = omega (arith, width, c.shares.ensures.small, rows_few m c.args.cuts.now c.parts-limits.ensures.limits c.requires.cuts) in
    unsigned_abs-add_le c.least.result c.shares.result (2 ^ 122) (2 ^ 121) c.least.ensures.small small

value : (c : goal.After-shares) → c.least.result +ℤ c.shares.result ≡ numerator c.args.model.now c.args.cuts.now c.args.bounds.now c.args.mults.now
unfolding numerator
value c =
    let m = c.args.model.now in
    let shares = c.shares.ensures.value ∙ scratch_shares m c.args.cuts.now c.args.bounds.now c.args.mults.now c.reduce.new.costs c.parts-limits.ensures.limits c.requires.within c.reduce.ensures in
    rw (c.least.ensures.value, shares) refl

pub overflow_add-result : goal.overflow_add-result
overflow_add-result c =
    both_fit w128 c.least.result c.shares.result _ (record { sfits = c.least.type_inv }) (record { sfits = c.shares.type_inv }) refl (small_fits (c.least.result +ℤ c.shares.result) (2 ^ 122 + 2 ^ 121) (sum_small c) (omega arith))

pub returns-clause-value : goal.returns-clause-value
returns-clause-value c =
    both_are w128 c.least.result c.shares.result _ (record { sfits = c.least.type_inv }) (record { sfits = c.shares.type_inv }) (value c) (rw (← value c) (small_fits (c.least.result +ℤ c.shares.result) (2 ^ 122 + 2 ^ 121) (sum_small c) (omega arith)))

pub returns-clause-small : goal.returns-clause-small
returns-clause-small c =
    rw (both_are w128 c.least.result c.shares.result (c.least.result +ℤ c.shares.result) (record { sfits = c.least.type_inv }) (record { sfits = c.shares.type_inv }) refl (small_fits (c.least.result +ℤ c.shares.result) (2 ^ 122 + 2 ^ 121) (sum_small c) (omega arith))) (omega (arith, sum_small c))
