use Rattle.std.proofs.Common.{◌≤◌, ◌+◌, ◌^◌, length, arith}
use Rattle.std.specs.Int.{w128}
use Rattle.std.proofs.lemmas.Int.{to_z-of_z}
use Rattle.ip_core.specs.Numbers.{int_at}
use Rattle.cut_derive.specs.Gomory.{rounded_coefficient}
use Rattle.cut_derive.proofs.Sizes.{widths_small, rounded_small}
use Rattle.cut_derive.proofs.rounding.rounded_width.Goals as goal

pub overflow_add-width : goal.overflow_add-width
overflow_add-width c =
    let so_far : c.loop-j.width ≤ 2 ^ 100 + 2 ^ 98 =
    (let few : c.loop-j.j ≤ length c.args.root.now.lows = rw (← c.lows-j-end.ensures.value) c.loop-j.auto.j-end in
    rw (c.loop-j.invariant, to_z-of_z w128 c.args.least c.ranges.least) (omega (arith, c.requires.least, c.requires.narrow, widths_small c.args.root.now c.args.coefs.now (rounded_coefficient (int_at c.args.coefs.now) c.args.divisor) c.loop-j.j (λ j. rounded_small (int_at c.args.coefs.now) c.args.divisor j c.requires.above) few)))
    in
    record { fits = omega (arith, so_far, c.rounded_part_width-width.ensures.small) }
