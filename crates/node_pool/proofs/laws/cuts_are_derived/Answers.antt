use Rattle.node_pool.specs.Lemmas.Cuts.{cuts_are_derived}
use Rattle.node_pool.proofs.laws.cuts_are_derived.Goals as goal

pub returns : goal.returns
returns c = cuts_are_derived
