use Rattle.width_admit.proofs.Decimals.{finest_negated, finest_unsigned}
use Rattle.width_admit.proofs.scale.decimals.Goals as goal

pub returns-then-exponent-lt0 : goal.returns-then-exponent-lt0
returns-then-exponent-lt0 c = finest_negated c.args.value c.exponent-exponent.result c.exponent-exponent.ensures.value c.exponent-exponent.ensures.reduced c.if-exponent-lt0.true

pub returns-else-exponent-lt0 : goal.returns-else-exponent-lt0
returns-else-exponent-lt0 c = finest_unsigned c.args.value c.exponent-exponent.result c.exponent-exponent.ensures.value c.exponent-exponent.ensures.reduced c.if-exponent-lt0.false
