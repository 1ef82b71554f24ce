use Rattle.std.proofs.Common.{◌+◌, ◌≤◌, ◌^◌, length, ◌*ℤ◌, unsigned_abs, arith, le_refl, le_trans}
use Rattle.ip_core.specs.Numbers.{int_at}
use Rattle.cut_derive.specs.Gomory.{low_sum}
use Rattle.cut_derive.proofs.Sizes.{low_sum_small, wide_below_fits, wide_below_is}
use Rattle.cut_derive.proofs.rounding.low_sum.Goals as goal

next_small : (c : goal.After-low_part-sum) → unsigned_abs (low_sum (c.loop-j.j + 1) c.args.root.now (int_at c.args.coefs.now)) ≤ 2 ^ 98
next_small c =
    let few : c.loop-j.j + 1 ≤ length c.args.root.now.lows = rw (← c.lows-j-end.ensures.value) (omega (arith, c.loop-j-test.true)) in
    le_trans (low_sum_small c.args.root.now c.args.coefs.now (int_at c.args.coefs.now) (c.loop-j.j + 1) (λ j. le_refl (unsigned_abs (int_at c.args.coefs.now j))) few) c.requires.narrow

pub overflow_add-sum : goal.overflow_add-sum
overflow_add-sum c = wide_below_fits (λ j. int_at c.args.coefs.now j *ℤ int_at c.args.root.now.lows j) c.loop-j.j (2 ^ 98) _ c.low_part-sum.result (next_small c) (omega arith) (record { sfits = c.low_part-sum.type_inv }) c.loop-j.invariant c.low_part-sum.ensures

pub loop-j-preserved : goal.loop-j-preserved
loop-j-preserved c = wide_below_is (λ j. int_at c.args.coefs.now j *ℤ int_at c.args.root.now.lows j) c.loop-j.j (2 ^ 98) _ c.low_part-sum.result (next_small c) (omega arith) (record { sfits = c.low_part-sum.type_inv }) c.loop-j.invariant c.low_part-sum.ensures

pub returns-clause-small : goal.returns-clause-small
returns-clause-small c =
    let few : c.loop-j.j ≤ length c.args.root.now.lows = rw (← c.lows-j-end.ensures.value) c.loop-j.auto.j-end in
    rw c.loop-j.invariant (le_trans (low_sum_small c.args.root.now c.args.coefs.now (int_at c.args.coefs.now) c.loop-j.j (λ j. le_refl (unsigned_abs (int_at c.args.coefs.now j))) few) c.requires.narrow)
