use Rattle.std.proofs.Common.{get_or, arith, ◌<◌, ◌^◌}
use Rattle.work_stamp.proofs.Lists.{signed_numbers_more}
use Rattle.work_stamp.proofs.read.signed_numbers.Goals as goal

pub loop-word-preserved : goal.loop-word-preserved
loop-word-preserved c =
    let fits : get_or c.args.words.now c.loop-word.word-index 0 < 2 ^ 64 = omega (arith, c.type_inv.words c.loop-word.word-index) in
    signed_numbers_more c.args.words.now c.loop-word.word-index c.loop-word.values c.push.new.self c.cast_signed.result (omega arith) fits c.cast_signed.ensures c.loop-word.invariant c.in_ok-push.ensures.ok
