use Rattle.round_dive.proofs.FixedColumns.{fixed_decides}
use Rattle.round_dive.proofs.fixing.is_fixed.Goals as goal

pub returns-clause-value : goal.returns-clause-value
returns-clause-value c = fixed_decides c.args.bounds.now c.is_fixed.result c.is_fixed.ensures
