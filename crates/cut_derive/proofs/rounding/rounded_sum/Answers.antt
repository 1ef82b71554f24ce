use Rattle.std.proofs.Common.{◌+◌, ◌≤◌, ◌^◌, length, ◌*ℤ◌, unsigned_abs, arith, le_trans}
use Rattle.ip_core.specs.Numbers.{int_at, int_sum_below}
use Rattle.cut_derive.specs.Gomory.{rounded_coefficient}
use Rattle.cut_derive.proofs.Sizes.{value_sum_small, rounded_small, wide_below_fits, wide_below_is}
use Rattle.cut_derive.proofs.rounding.rounded_sum.Goals as goal

next_small : (c : goal.After-rounded_part-sum) → unsigned_abs (int_sum_below (c.loop-j.j + 1) (λ j. rounded_coefficient (int_at c.args.coefs.now) c.args.divisor j *ℤ int_at c.args.values.now j)) ≤ 2 ^ 98
next_small c =
    let few : c.loop-j.j + 1 ≤ length c.args.root.now.lows = rw (← c.lows-j-end.ensures.value) (omega (arith, c.loop-j-test.true)) in
    le_trans (value_sum_small c.args.root.now c.args.coefs.now c.args.values.now (rounded_coefficient (int_at c.args.coefs.now) c.args.divisor) (c.loop-j.j + 1) c.requires.near.each (λ j. rounded_small (int_at c.args.coefs.now) c.args.divisor j c.requires.above) few) c.requires.narrow

pub overflow_add-sum : goal.overflow_add-sum
overflow_add-sum c = wide_below_fits (λ j. rounded_coefficient (int_at c.args.coefs.now) c.args.divisor j *ℤ int_at c.args.values.now j) c.loop-j.j (2 ^ 98) _ c.rounded_part-sum.result (next_small c) (omega arith) (record { sfits = c.rounded_part-sum.type_inv }) c.loop-j.invariant c.rounded_part-sum.ensures

pub loop-j-preserved : goal.loop-j-preserved
loop-j-preserved c = wide_below_is (λ j. rounded_coefficient (int_at c.args.coefs.now) c.args.divisor j *ℤ int_at c.args.values.now j) c.loop-j.j (2 ^ 98) _ c.rounded_part-sum.result (next_small c) (omega arith) (record { sfits = c.rounded_part-sum.type_inv }) c.loop-j.invariant c.rounded_part-sum.ensures

pub returns-clause-small : goal.returns-clause-small
returns-clause-small c =
    let few : c.loop-j.j ≤ length c.args.root.now.lows = rw (← c.lows-j-end.ensures.value) c.loop-j.auto.j-end in
    rw c.loop-j.invariant (le_trans (value_sum_small c.args.root.now c.args.coefs.now c.args.values.now (rounded_coefficient (int_at c.args.coefs.now) c.args.divisor) c.loop-j.j c.requires.near.each (λ j. rounded_small (int_at c.args.coefs.now) c.args.divisor j c.requires.above) few) c.requires.narrow)
