use Rattle.std.proofs.Common.{◌≡◌, ◌∙◌, ◌+◌, [], ◌∷◌, ◌++◌, length, get_or, ap, arith, length-append}
use Rattle.row_propagate.proofs.Transposing.{push_empty, columns_none}
use Rattle.row_propagate.proofs.columns.empty_columns.Goals as goal

pub loop-count-preserved : goal.loop-count-preserved
loop-count-preserved c =
    let pushed : c.push.new.self ≡ c.loop-count.columns ++ [] ∷ [] = c.in_ok-push.ensures.ok ∙ ap (λ x. c.loop-count.columns ++ x ∷ []) (c.of.ensures ∙ c.in_ok-with_capacity.ensures.items) in
    record {
      len = ap length pushed ∙ length-append c.loop-count.columns ([] ∷ []) ∙ ap (λ n. n + 1) c.loop-count.invariant.len;
      none = λ j. ap (λ cs. get_or cs j []) pushed ∙ push_empty c.loop-count.columns c.loop-count.invariant.none j;
    }

pub returns : goal.returns
returns c = columns_none (length c.args.counts.now) c.loop-count.columns (omega (arith, c.loop-count.invariant.len, c.loop-count-test.false, c.loop-count.auto.count-index-end)) c.loop-count.invariant.none
