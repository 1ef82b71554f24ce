use Rattle.xsearch.proofs.Running.{with_cause}
use Rattle.xsearch.proofs.sample.sample_command.Goals as goal

pub returns : goal.returns
returns g c = with_cause _ c.sample-found.result _ _ _ c.sample-found.ensures c.finish.ensures
