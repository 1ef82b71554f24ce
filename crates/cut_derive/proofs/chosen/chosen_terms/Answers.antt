use Rattle.std.proofs.Common.{◌≡◌, ◌∙◌, get_or, le_refl, rules, arith}
use Rattle.ip_core.specs.Rows.{coefficient}
use Rattle.cut_derive.proofs.Fronts.{cols_of}
use Rattle.cut_derive.proofs.Walking.{rise_at, rise_lower, chosen_more}
use Rattle.cut_derive.proofs.chosen.chosen_terms.Goals as goal

pub loop-col-preserved : goal.loop-col-preserved
loop-col-preserved c =
    let terms = c.args.terms.now in
    let cols = c.args.cols.now in
    let i = c.loop-col.col-index in
    let col = get_or cols i 0 in
    let here : c.first_coefficient.result ≡ coefficient col terms = c.first_coefficient.ensures ∙ c.terms_from-rest.ensures.same col (le_refl col) ∙ c.loop-col.invariant.same i (le_refl i) c.loop-col-test.true in
    record {
      chosen = chosen_more terms cols c.loop-col.chosen c.push.new.self i c.first_coefficient.result c.loop-col-test.true c.loop-col.invariant.chosen here (search rules);
      rising = rise_lower 0 col (cols_of c.terms_from-rest.result.now) (omega arith) c.terms_from-rest.ensures.rising;
      same = λ k le within.
          c.terms_from-rest.ensures.same (get_or cols k 0) (omega (arith, rise_at cols i k c.requires.cols (omega (arith, le)) within)) ∙ c.loop-col.invariant.same k (omega (arith, le)) within;
    }
