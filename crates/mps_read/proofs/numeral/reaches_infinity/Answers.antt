use Rattle.std.proofs.Common.{sym, arith}
use Rattle.std.proofs.lemmas.Int.{ints}
use Rattle.mps_read.proofs.Infinities.{below_zero, fraction_below, many_zeros}
use Rattle.mps_read.proofs.numeral.reaches_infinity.Goals as goal

pub returns-then-mantissa-le0 : goal.returns-then-mantissa-le0
returns-then-mantissa-le0 c = sym (below_zero c.args.mantissa c.args.exponent (omega (arith, ints, c.if-mantissa-le0.true)))

pub returns-then-exponent-lt0 : goal.returns-then-exponent-lt0
returns-then-exponent-lt0 c = sym (fraction_below c.args.mantissa c.args.exponent c.requires (omega (arith, ints, c.if-exponent-lt0.true)))

pub returns-then-exponent-ge20 : goal.returns-then-exponent-ge20
returns-then-exponent-ge20 c = sym (many_zeros c.args.mantissa c.args.exponent (omega (arith, ints, c.if-mantissa-le0.false)) (omega (arith, ints, c.if-exponent-ge20.true)))
