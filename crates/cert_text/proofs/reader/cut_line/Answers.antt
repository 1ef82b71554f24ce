use Rattle.cert_text.proofs.Pieces.{pieces-at, pieces-whole}
use Rattle.cert_text.proofs.reader.cut_line.Goals as goal

pub returns-then-byte-eq10 : goal.returns-then-byte-eq10
returns-then-byte-eq10 c =
    pieces-at c.args.bytes.now c.loop-place.place c.loop-place-test.true c.loop-place.invariant c.if-byte-eq10.true

pub returns : goal.returns
returns c = pieces-whole c.args.bytes.now c.loop-place.place c.loop-place-test.false c.loop-place.invariant
