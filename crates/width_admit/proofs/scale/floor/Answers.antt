use Rattle.std.proofs.Common.{arith}
use Rattle.std.proofs.Math.Nat.{pow-le-pow_right}
use Rattle.width_admit.proofs.Decimals.{ten_pow_pos, negated_exponent}
use Rattle.width_admit.proofs.scale.floor.Goals as goal

pub quotient_down-requires-clause-positive : goal.quotient_down-requires-clause-positive
quotient_down-requires-clause-positive c = rw c.pow.ensures (ten_pow_pos _)

pub quotient_down-requires-clause-small : goal.quotient_down-requires-clause-small
quotient_down-requires-clause-small c =
    rw c.pow.ensures (pow-le-pow_right (omega arith) (negated_exponent c.args.value c.exponent-exponent.result c.exponent-exponent.ensures.value c.exponent-exponent.ensures.reduced c.if-exponent-lt0.true))
