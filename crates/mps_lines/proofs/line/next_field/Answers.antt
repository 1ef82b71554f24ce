use Rattle.std.proofs.Common.{◌∙◌, sym}
use Rattle.mps_lines.proofs.Cutting.{fields-filled, fields-empty, fields-last, fields-none}
use Rattle.mps_lines.proofs.line.next_field.Goals as goal

pub returns-then-not-is_empty : goal.returns-then-not-is_empty
returns-then-not-is_empty c = sym c.loop-piece.invariant ∙ fields-filled c.loop-piece.rest.now c.in-Some.piece.now c.in-Some.after.now c.in-Some.ensures.0 (sym c.if-not-is_empty.ensures)

pub loop-piece-preserved : goal.loop-piece-preserved
loop-piece-preserved c = sym (fields-empty c.loop-piece.rest.now c.in-Some.piece.now c.in-Some.after.now c.in-Some.ensures.0 (sym c.if-not-is_empty.ensures)) ∙ c.loop-piece.invariant

pub returns-then-is_empty : goal.returns-then-is_empty
returns-then-is_empty c = sym c.loop-piece.invariant ∙ fields-none c.loop-piece.rest.now c.in_default.ensures (sym c.if-is_empty.ensures)

pub returns : goal.returns
returns c = sym c.loop-piece.invariant ∙ fields-last c.loop-piece.rest.now c.in_default.ensures (sym c.if-is_empty.ensures)
