use Rattle.xsearch.proofs.Running.{with_cause}
use Rattle.xsearch.proofs.show.show_command.Goals as goal

pub returns : goal.returns
returns g c = with_cause _ c.show_file-found.result _ _ _ c.show_file-found.ensures c.finish.ensures
