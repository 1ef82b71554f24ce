use Rattle.std.proofs.Common.{subst}
use Rattle.std.proofs.lemmas.List.{take_all}
use Rattle.width_admit.specs.Held.{IsFinest}
use Rattle.width_admit.specs.Gathered.{exact}
use Rattle.width_admit.proofs.Decimals.{finest_none}
use Rattle.width_admit.proofs.Coefficients.{finest_more, numbers}
use Rattle.width_admit.proofs.rows.term_decimals.Goals as goal

pub loop-term-init : goal.loop-term-init
loop-term-init c = finest_none

pub loop-term-preserved : goal.loop-term-preserved
loop-term-preserved c =
    rw c.max-most.ensures (finest_more c.args.terms.now c.loop-term.term-index c.term-item.result c.loop-term.most c.decimals.result c.loop-term-test.true c.term-item.is c.loop-term.invariant c.decimals.ensures)

pub returns : goal.returns
returns c = subst (λ ts. IsFinest (numbers (exact ts)) c.loop-term.most) (take_all c.loop-term.term-index c.args.terms.now c.loop-term-test.false) c.loop-term.invariant
