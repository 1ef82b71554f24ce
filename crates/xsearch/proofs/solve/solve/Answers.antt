use Rattle.xsearch.proofs.Running.{with_cause}
use Rattle.xsearch.proofs.solve.solve.Goals as goal

pub returns : goal.returns
returns g c = with_cause _ c.write_files-ended.result _ _ _ (record {
  between = _;
  found = c.solve_file-found.result;
  solved = c.solve_file-found.ensures;
  written = c.write_files-ended.ensures;
}) c.finish.ensures
