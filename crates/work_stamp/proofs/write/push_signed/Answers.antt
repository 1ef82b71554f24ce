use Rattle.std.proofs.Common.{arith, pos, append_assoc}
use Rattle.std.proofs.lemmas.List.{take_more}
use Rattle.work_stamp.proofs.Lists.{signed_words-append}
use Rattle.work_stamp.proofs.write.push_signed.Goals as goal

pub loop-value-preserved : goal.loop-value-preserved
loop-value-preserved c =
    let more = take_more c.args.values.now c.loop-value.value-index (pos 0) (omega arith) in
    rw (more, signed_words-append) (grind (arith, append_assoc, c.loop-value.invariant, c.in_ok-push.ensures.ok, c.cast_unsigned.ensures))
