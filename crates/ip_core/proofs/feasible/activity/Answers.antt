use Rattle.std.proofs.Common.{◌≡◌, ◌∙◌, ◌+◌, get_or, take, pos, ◌+ℤ◌, ◌*ℤ◌, FitsSigned, w64, to_z, ap, sym, rules}
use Rattle.std.proofs.lemmas.Int.{to_z-of_z}
use Rattle.ip_core.specs.Numbers.{int_at}
use Rattle.ip_core.specs.Rows.{activity}
use Rattle.ip_core.specs.declared.row.Term.{Term}
use Rattle.ip_core.proofs.IntSums.{int_sum_by_more}
use Rattle.ip_core.proofs.RunningSums.{sum_fits, sum_is}
use Rattle.ip_core.proofs.Widths.{narrow_fits, front_within_width}
use Rattle.ip_core.proofs.feasible.activity.Goals as goal

next_fits : (c : goal.After-product-sum) → FitsSigned w64 (activity c.args.values.now (take (c.loop-term.term-index + 1) c.args.row.now.terms))
next_fits c =
    let row = c.args.row.now in
    narrow_fits _ _ (front_within_width c.args.root.now c.args.values.now row _ (c.loop-term.term-index + 1) c.requires.inside c.requires.one_each c.requires.row) c.requires.row.narrow

next_is : (c : goal.After-product-sum) → to_z w64 c.loop-term.sum-bits +ℤ c.product-sum.result ≡ activity c.args.values.now (take (c.loop-term.term-index + 1) c.args.row.now.terms)
next_is c =
    let x = c.args.values.now in
    let terms = c.as_slice-term-items.result.now in
    let i = c.loop-term.term-index in
    let term : Term = get_or terms i (record { col = 0; coef = pos 0 }) in
    let fits : FitsSigned w64 term.coef = search rules in
    let part : c.product-sum.result ≡ term.coef *ℤ int_at x term.col = c.product-sum.ensures ∙ ap (λ z. z *ℤ int_at x term.col) (to_z-of_z w64 term.coef fits) in
    let more = int_sum_by_more (λ (t : Term). t.coef *ℤ int_at x t.col) terms i (record { col = 0; coef = pos 0 }) c.loop-term-test.true in
    rw (← c.as_slice-term-items.ensures, more, part) (ap (λ z. z +ℤ (term.coef *ℤ int_at x term.col)) (c.loop-term.invariant ∙ ap (λ ts. activity x (take i ts)) (sym c.as_slice-term-items.ensures)))

pub overflow_add-sum : goal.overflow_add-sum
overflow_add-sum c = sum_fits w64 (to_z w64 c.loop-term.sum-bits) c.product-sum.result _ (record { sfits = c.product-sum.type_inv }) (next_is c) (next_fits c)

pub loop-term-preserved : goal.loop-term-preserved
loop-term-preserved c = sum_is w64 (to_z w64 c.loop-term.sum-bits) c.product-sum.result _ (record { sfits = c.product-sum.type_inv }) (next_is c) (next_fits c)
