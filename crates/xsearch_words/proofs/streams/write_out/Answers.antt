use Rattle.xsearch_words.proofs.PieceWrites.{next_piece, written_before_error, written_before_none}
use Rattle.xsearch_words.proofs.streams.write_out.Goals as goal

pub returns-in_default-clause-front : goal.returns-in_default-clause-front
returns-in_default-clause-front g c = written_before_error _ _ _ _ _ c.loop-rest.invariant c.in_default.ensures.bytes

pub returns-then-count-eq0-clause-front : goal.returns-then-count-eq0-clause-front
returns-then-count-eq0-clause-front g c = written_before_none _ _ _ _ _ c.in-Ok.count c.loop-rest.invariant c.in-Ok.ensures.bytes c.if-count-eq0.true

pub loop-rest-preserved : goal.loop-rest-preserved
loop-rest-preserved g c = next_piece _ _ _ _ _ c.in-Ok.count c.loop-rest.invariant c.in-Ok.ensures.bytes
