use Rattle.std.proofs.Common.{◌≡◌, ◌∙◌, [], length, refl, sym, ap, subst, arith}
use Rattle.row_propagate.specs.Kept.{AreColumns}
use Rattle.row_propagate.specs.Moves.{HaveTerms}
use Rattle.row_propagate.proofs.Transposing.{columns_both}
use Rattle.row_propagate.proofs.columns.columns_of.Goals as goal

pub add_rows-requires-clause-terms : goal.add_rows-requires-clause-terms
add_rows-requires-clause-terms c =
    let count : length c.in_ok-columns.columns ≡ c.args.count = c.in_ok-columns.ensures.one_each ∙ ap length c.as_slice.ensures.value ∙ c.in_ok-counts.ensures in
    rw count c.requires.rows

pub add_rows-requires-2-clause-terms : goal.add_rows-requires-2-clause-terms
add_rows-requires-2-clause-terms c =
    let count : length c.in_ok-columns.columns ≡ c.args.count = c.in_ok-columns.ensures.one_each ∙ ap length c.as_slice.ensures.value ∙ c.in_ok-counts.ensures in
    rw (c.in_ok-add_rows.ensures.len, count) c.requires.cuts

pub returns : goal.returns
returns c =
    let count : length c.as_slice.result.now ≡ c.args.count = ap length c.as_slice.ensures.value ∙ c.in_ok-counts.ensures in
    let none : AreColumns c.args.count [] c.in_ok-columns.columns = subst (λ n. AreColumns n [] c.in_ok-columns.columns) count c.in_ok-columns.ensures in
    columns_both c.args.count c.args.rows.now c.args.cuts.now _ _ _ _ none c.in_ok-add_rows.ensures.ok c.in_ok-add_rows.ensures.len refl c.in_ok-add_rows-2.ensures.ok
