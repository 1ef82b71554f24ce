use Rattle.round_dive.proofs.FreeColumns.{step_fixes_column}
use Rattle.round_dive.proofs.laws.step_fixes_column.Goals as goal

pub returns : goal.returns
returns c = step_fixes_column
