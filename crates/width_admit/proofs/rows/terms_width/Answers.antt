use Rattle.std.proofs.Common.{◌≡◌, ◌∙◌, ◌≤◌, ◌+◌, ◌*◌, ◌^◌, sum_by, unsigned_abs, sym, ap, FitsSigned, w64, arith}
use Rattle.std.proofs.lemmas.Int.{to_z-of_z}
use Rattle.std.proofs.lemmas.List.{take_all}
use Rattle.ip_core.specs.Sides.{reach}
use Rattle.ip_core.specs.Rows.{term_width}
use Rattle.width_admit.specs.Exact.{units, whole}
use Rattle.width_admit.specs.Held.{held_terms, held_whole}
use Rattle.width_admit.specs.Gathered.{exact}
use Rattle.width_admit.proofs.Coefficients.{coefficient_whole, column_known, width_more, reach_small, part_small}
use Rattle.width_admit.proofs.rows.terms_width.Goals as goal

pub scaled_value-requires-clause-whole : goal.scaled_value-requires-clause-whole
scaled_value-requires-clause-whole c = rw c.term-item.is (coefficient_whole c.args.exponent c.args.terms.now c.loop-term.term-index c.term-item.result c.loop-term-test.true c.requires.whole)

pub reach-requires : goal.reach-requires
reach-requires c = rw c.term-item.is (column_known _ c.args.terms.now c.loop-term.term-index c.term-item.result c.loop-term-test.true c.requires.known)

pub loop-term-preserved : goal.loop-term-preserved
loop-term-preserved c =
    let k = c.args.exponent in
    let root = c.args.root.now in
    let terms = c.args.terms.now in
    let t = c.term-item.result in
    let fits : FitsSigned w64 c.scaled_value.result = record { sfits = c.scaled_value.type_inv } in
    let size : c.from.result ≡ unsigned_abs (held_whole k t.value) = c.from.ensures ∙ c.unsigned_abs-size.ensures.value ∙ ap unsigned_abs (to_z-of_z w64 c.scaled_value.result fits ∙ c.scaled_value.ensures) in
    let far : c.from-in-loop-term.result ≡ reach root t.col = c.from-in-loop-term.ensures ∙ c.reach.ensures in
    let part : unsigned_abs (held_whole k t.value) * reach root t.col ≤ 2 ^ 83 = part_small (whole k (units t.value)) (reach root t.col) (reach_small root t.col c.requires.limits) in
    rw (size, far) (record {
      summed = ap (λ n. n + unsigned_abs (held_whole k t.value) * reach root t.col) c.loop-term.invariant.summed ∙ sym (width_more root k terms c.loop-term.term-index t c.loop-term-test.true c.term-item.is);
      small = omega (arith, c.loop-term.invariant.small, part);
    })

pub returns : goal.returns
returns c =
    record {
      value = c.loop-term.invariant.summed ∙ ap (λ ts. sum_by (term_width c.args.root.now) (held_terms c.args.exponent (exact ts))) (take_all c.loop-term.term-index c.args.terms.now c.loop-term-test.false);
      small = omega (arith, c.loop-term.invariant.small, c.requires.short, c.loop-term.auto);
    }
