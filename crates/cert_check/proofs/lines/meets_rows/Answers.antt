use Rattle.cert_check.proofs.Faultless.{rows_tested}
use Rattle.cert_check.proofs.lines.meets_rows.Goals as goal

pub returns : goal.returns
returns c = rows_tested c.args.model.now c.args.point.now c.is_feasible.result c.requires c.is_feasible.ensures
