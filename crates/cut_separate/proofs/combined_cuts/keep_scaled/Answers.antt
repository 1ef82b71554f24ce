use Rattle.std.proofs.Common.{◌≡◌, ◌∙◌, ◌*ℤ◌, length, false, int_lt, sym}
use Rattle.std.specs.Int.{w128}
use Rattle.std.proofs.lemmas.Int.{to_z-of_z}
use Rattle.ip_core.specs.Numbers.{int_at, int_sum_below}
use Rattle.cut_derive.specs.Gomory.{rounded_coefficient, rounded_least}
use Rattle.cut_separate.proofs.Violating.{quiet_sums}
use Rattle.cut_separate.proofs.combined_cuts.keep_scaled.Goals as goal

pub violates_sums-requires-clause-narrow : goal.violates_sums-requires-clause-narrow
violates_sums-requires-clause-narrow c = rw (to_z-of_z w128 c.args.least c.ranges.least, c.root.ensures) c.requires.narrow

pub violates_sums-requires-clause-near : goal.violates_sums-requires-clause-near
violates_sums-requires-clause-near c =
    rw c.root.ensures c.requires.near

pub returns-then-not-violates_sums : goal.returns-then-not-violates_sums
returns-then-not-violates_sums c =
    let s = c.args.model.now.root in
    let met : int_lt (int_sum_below (length s.lows) (λ j. rounded_coefficient (int_at c.args.coefs.now) c.args.divisor j *ℤ int_at c.args.point.now j)) (rounded_least (length s.lows) s (int_at c.args.coefs.now) c.args.least c.args.divisor) ≡ false = sym (rw (to_z-of_z w128 c.args.least c.ranges.least, c.root.ensures) at c.if-not-violates_sums.ensures) in
    sym (quiet_sums c.args.model.now c.args.cuts.now c.args.point.now c.args.kept.now c.args.pairs.now c.args.divisor c.args.coefs.now c.args.least c.requires.sums c.requires.least c.parts-limits.ensures.limits.bounds.box met)
