use Rattle.std.proofs.Common.{◌∙◌, ◌+◌, Some, ap, sym, arith}
use Rattle.cert_line.specs.Words.{left_words}
use Rattle.cert_line.specs.Items.{steps_of}
use Rattle.cert_line.proofs.ItemRuns.{after_some, one_more, none_yet}
use Rattle.cert_line.proofs.items.steps_of.Goals as goal

pub loop-step-init : goal.loop-step-init
loop-step-init c = record {
  found = ap (λ v. after_some (Some v) 0 (steps_of (left_words c.args.words))) c.new.ensures
      ∙ none_yet (steps_of (left_words c.args.words));
  few = omega arith;
}

pub loop-step-preserved : goal.loop-step-preserved
loop-step-preserved c =
    let items = steps_of (left_words c.in-Some.more) in
    record {
      found = ap (λ v. after_some v (c.loop-step.count + 1) items) c.in_ok-values.ensures
          ∙ one_more c.loop-step.values c.loop-step.count c.in-Some.step items
          ∙ ap (after_some c.loop-step.values c.loop-step.count) (sym c.in-Some.ensures.0)
          ∙ c.loop-step.invariant.found;
      few = omega (arith, c.in-Some.ensures.1, c.loop-step.invariant.few);
    }
