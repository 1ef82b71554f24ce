use Rattle.leaf_truth.proofs.multipliers.clear.Goals as goal

pub returns : goal.returns
returns c = c.fill.ensures.after (λ y same. same)
