use Rattle.xsearch.proofs.Running.{with_cause}
use Rattle.xsearch.proofs.generate.gen_command.Goals as goal

pub returns : goal.returns
returns g c = with_cause _ c.show_sample-found.result _ _ _ c.show_sample-found.ensures c.finish.ensures
