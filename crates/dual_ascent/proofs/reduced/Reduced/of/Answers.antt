use Rattle.std.proofs.Common.{◌≡◌, ◌∙◌, ◌+◌, ◌<◌, length, replicate, rules, ap, arith, length-append}
use Rattle.std.specs.Int.{w128}
use Rattle.std.proofs.lemmas.Int.{to_z-of_z}
use Rattle.std.proofs.lemmas.List.{with_items_is}
use Rattle.ip_core.specs.Numbers.{int_at}
use Rattle.safe_bound.specs.Bounds.{all_rows, row_of, numerator, reduced_cost}
use Rattle.safe_bound.specs.Premises.{AreMultipliers}
use Rattle.dual_ascent.specs.Ends.{end_activity}
use Rattle.dual_ascent.proofs.Multipliers.{no_multipliers}
use Rattle.dual_ascent.proofs.RowFacts.{box_columns}
use Rattle.dual_ascent.proofs.reduced.Reduced.of.Goals as goal

made : (c : goal.In_ok-columns) → c.in_ok-vec.field-0.items ≡ replicate (c.len.result + length c.args.cuts.now) 0
made c = search rules

costs_are : (c : goal.In_ok-columns) → c.of-costs.result ≡ c.numerator-numerator.new.scratch
costs_are c =
    let long : length c.numerator-numerator.new.scratch ≡ c.in_ok-costs.costs.len = omega (arith, c.numerator-numerator.ensures.long, c.deref_mut.ensures.len, c.in_ok-costs.costs.ok.0) in
    c.of-costs.ensures ∙ with_items_is c.in_ok-costs.costs c.numerator-numerator.new.scratch long

costs_long : (c : goal.In_ok-columns) → length c.numerator-numerator.new.scratch ≡ length c.args.model.now.cols
costs_long c = search rules

pub returns-clause-kept : goal.returns-clause-kept
returns-clause-kept c =
    let m = c.args.model.now in
    let cuts = c.args.cuts.now in
    let s = c.args.bounds.now in
    let rows : c.len.result ≡ length m.rows = c.len.ensures ∙ ap (λ p. length p.rows) c.parts.ensures.value in
    let count : c.len.result + length cuts ≡ length (all_rows m cuts) = omega (arith, length-append m.rows cuts, rows) in
    let mults : c.of-mults.result ≡ replicate (length (all_rows m cuts)) 0 = c.of-mults.ensures ∙ made c ∙ ap (λ n. replicate n 0) count in
    let valid : AreMultipliers m cuts c.of-mults.result = rw mults (no_multipliers m cuts) in
    let exact = to_z-of_z w128 c.numerator-numerator.result (record { sfits = c.numerator-numerator.type_inv }) in
    let box = box_columns m s c.parts.ensures.limits c.requires.within in
    record {
      mults = valid;
      sum = exact ∙ c.numerator-numerator.ensures.value ∙ ap (numerator m cuts s) c.as_slice.ensures;
      costs = λ j h. ap (λ xs. int_at xs j) (costs_are c) ∙ c.numerator-numerator.ensures.reduced j h ∙ ap (λ ys. reduced_cost m cuts ys j) c.as_slice.ensures;
      activities = record {
        costs_long = ap length (costs_are c) ∙ costs_long c;
        widths_long = c.in_ok-widths.ensures.long ∙ box;
        widths = λ j h. c.in_ok-widths.ensures.each j (rw box h);
        columns = c.in_ok-columns.ensures;
        active_long = c.in_ok-active.ensures.long;
        active = λ k h. c.in_ok-active.ensures.each k h ∙ ap (λ xs. end_activity s (int_at xs) (row_of m cuts k).terms) c.as_slice-2.ensures;
      };
    }
