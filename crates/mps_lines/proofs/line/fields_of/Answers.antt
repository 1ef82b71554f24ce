use Rattle.std.proofs.Common.{sym, subst}
use Rattle.mps_lines.specs.FieldWords.{AreFields}
use Rattle.mps_lines.proofs.Visible.{line-fields}
use Rattle.mps_lines.proofs.line.fields_of.Goals as goal

pub returns-clause-fields : goal.returns-clause-fields
returns-clause-fields c = subst AreFields (sym c.split_fields.ensures) (line-fields c.args.line.now c.requires.short c.requires.bytes)
