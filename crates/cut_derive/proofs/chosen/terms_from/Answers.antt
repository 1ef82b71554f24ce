use Rattle.std.proofs.Common.{pos, arith}
use Rattle.ip_core.specs.declared.row.Term.{Term}
use Rattle.cut_derive.proofs.Walking.{rest_rises, passed_term}
use Rattle.cut_derive.proofs.chosen.terms_from.Goals as goal

pub loop-at-preserved : goal.loop-at-preserved
loop-at-preserved c =
    let d : Term = record { col = 0; coef = pos 0 } in
    let terms = c.args.terms.now in
    record {
      rising = rest_rises terms c.loop-at.at d c.loop-at.invariant.rising c.loop-at-test.true;
      same = λ k le. passed_term terms terms c.loop-at.at k d c.loop-at-test.true (omega (arith, le, c.if-col-terms.false)) (c.loop-at.invariant.same k le);
    }
