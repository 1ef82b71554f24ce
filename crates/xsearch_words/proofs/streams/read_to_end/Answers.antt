use Rattle.std.proofs.Common.{◌<◌, length, ap, arith}
use Rattle.xsearch_words.proofs.WholeReads.{whole_read}
use Rattle.xsearch_words.proofs.streams.read_to_end.Goals as goal

pub returns-in-Ok-clause-whole : goal.returns-in-Ok-clause-whole
returns-in-Ok-clause-whole g c =
    let few : length c.read_to_end.new.buf.items < c.take.result.limit =
    omega (arith, c.if-len-most.true, c.len.ensures, c.take.ensures.limit, c.saturating_add.ensures, c.read_to_end.new.buf.small, c.read_to_end.new.buf.ok) in
    rw c.of.ensures (whole_read c.take.result.limit _ _ _ _ c.in-Ok.ensures.bytes c.new-bytes.ensures.items (ap g.F.Read.remaining c.take.ensures.inner) few)
