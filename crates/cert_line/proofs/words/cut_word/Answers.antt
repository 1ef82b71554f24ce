use Rattle.cert_line.proofs.Parting.{pieces-at, pieces-whole}
use Rattle.cert_line.proofs.words.cut_word.Goals as goal

pub returns-then-byte-eq32 : goal.returns-then-byte-eq32
returns-then-byte-eq32 c = pieces-at c.args.bytes.now c.loop-place.place c.loop-place-test.true c.loop-place.invariant c.if-byte-eq32.true

pub returns : goal.returns
returns c = pieces-whole c.args.bytes.now c.loop-place.place c.loop-place-test.false c.loop-place.invariant
