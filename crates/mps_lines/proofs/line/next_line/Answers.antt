use Rattle.std.proofs.Common.{sym}
use Rattle.mps_lines.proofs.Cutting.{lines-at, lines-end}
use Rattle.mps_lines.proofs.line.next_line.Goals as goal

pub returns-in-Some : goal.returns-in-Some
returns-in-Some c = lines-at c.args.bytes.now c.in-Some.line.now c.in-Some.rest.now c.in-Some.ensures

pub returns-in-None : goal.returns-in-None
returns-in-None c = lines-end c.args.bytes.now (sym c.if-is_empty.ensures) c.in-None.ensures
