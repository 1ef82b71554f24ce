use Rattle.std.proofs.Common.{arith}
use Rattle.sample_model.proofs.NameLaws.{numbered_is}
use Rattle.sample_model.proofs.whole.numbered_name.Goals as goal

pub unreachable-requires : goal.unreachable-requires
unreachable-requires c =
    let name = numbered_is c.args.letter c.args.number c.requires.low c.requires.high (omega (arith, c.ranges.number.fits)) in
    c.in-None.ensures (rw (c.in_ok-extend.ensures.ok, c.in_ok-push.ensures.ok, c.new-text.ensures, c.as_bytes.ensures.value, c.format.ensures.text) name)
