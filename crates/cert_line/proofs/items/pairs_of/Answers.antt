use Rattle.std.proofs.Common.{◌∙◌, ◌+◌, Some, ap, sym, arith}
use Rattle.cert_line.specs.Words.{left_words}
use Rattle.cert_line.specs.Items.{pairs_of}
use Rattle.cert_line.proofs.ItemRuns.{after_some, one_more, none_yet}
use Rattle.cert_line.proofs.items.pairs_of.Goals as goal

pub loop-pair-init : goal.loop-pair-init
loop-pair-init c = record {
  found = ap (λ v. after_some (Some v) 0 (pairs_of (left_words c.args.words))) c.new.ensures
      ∙ none_yet (pairs_of (left_words c.args.words));
  few = omega arith;
}

pub loop-pair-preserved : goal.loop-pair-preserved
loop-pair-preserved c =
    let items = pairs_of (left_words c.in-Some.more) in
    record {
      found = ap (λ v. after_some v (c.loop-pair.count + 1) items) c.in_ok-values.ensures
          ∙ one_more c.loop-pair.values c.loop-pair.count c.in-Some.pair items
          ∙ ap (after_some c.loop-pair.values c.loop-pair.count) (sym c.in-Some.ensures.0)
          ∙ c.loop-pair.invariant.found;
      few = omega (arith, c.in-Some.ensures.1, c.loop-pair.invariant.few);
    }
