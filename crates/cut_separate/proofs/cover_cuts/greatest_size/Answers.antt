use Rattle.std.proofs.Common.{◌≡◌, ◌≤◌, ◌^◌, get_or, max, pos, unsigned_abs, w64, FitsSigned, rules, arith}
use Rattle.std.proofs.lemmas.Int.{to_z-of_z}
use Rattle.ip_core.specs.declared.row.Term.{Term}
use Rattle.cut_separate.proofs.Taking.{none_more, one_of_all}
use Rattle.cut_separate.proofs.cover_cuts.greatest_size.Goals as goal

pub loop-term-preserved : goal.loop-term-preserved
loop-term-preserved c =
    let terms = c.args.terms.now in
    let i = c.loop-term.term-index in
    let d : Term = record { col = 0; coef = pos 0 } in
    let t : Term = get_or terms i d in
    let fits : FitsSigned w64 t.coef = search rules in
    let size : c.unsigned_abs.result ≡ unsigned_abs t.coef = rw (to_z-of_z w64 t.coef fits) at c.unsigned_abs.ensures.value in
    let greater : c.max-most.result ≡ max c.loop-term.most c.unsigned_abs.result = search rules in
    let few : unsigned_abs t.coef ≤ 2 ^ 50 = omega (arith, one_of_all terms i d c.loop-term-test.true, c.requires) in
    record {
      none = none_more terms i c.loop-term.most c.max-most.result d c.loop-term-test.true c.loop-term.invariant.none (omega (arith, greater)) (omega (arith, greater, size));
      small = omega (arith, greater, size, few, c.loop-term.invariant.small);
    }
