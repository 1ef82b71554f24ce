use Rattle.std.proofs.Common.{sym}
use Rattle.mps_lines.proofs.Cutting.{pieces-at, pieces-whole}
use Rattle.mps_lines.proofs.line.cut_piece.Goals as goal

pub returns-then-is_separator : goal.returns-then-is_separator
returns-then-is_separator c = pieces-at c.args.line.now c.loop-place.place c.loop-place-test.true c.loop-place.invariant (sym c.if-is_separator.ensures)

pub returns : goal.returns
returns c = pieces-whole c.args.line.now c.loop-place.place c.loop-place-test.false c.loop-place.invariant
