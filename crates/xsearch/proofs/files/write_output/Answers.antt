use Rattle.xsearch.proofs.Running.{not_written}
use Rattle.xsearch.proofs.files.write_output.Goals as goal

-- src/files.rt:24:1
pub returns-in-Err : goal.returns-in-Err
returns-in-Err g c =
    not_written c.args.output _ _ c.in-Err.error c.write_failure.result _ _ c.write_all.ensures c.as_slice.ensures c.in-Err.is c.write_failure.ensures
