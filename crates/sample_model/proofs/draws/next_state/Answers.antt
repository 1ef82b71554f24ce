use Rattle.std.proofs.Common.{arith}
use Rattle.sample_model.specs.Draws.{next}
use Rattle.sample_model.proofs.draws.next_state.Goals as goal

pub returns : goal.returns
unfolding next
returns c = omega arith
