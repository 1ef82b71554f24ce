use Rattle.std.proofs.Common.{arith}
use Rattle.ip_core.specs.declared.row_ref.RowRef.TheVariants.{Model}
use Rattle.work_stamp.proofs.Lists.{pair_words_more}
use Rattle.work_stamp.proofs.write.push_pairs.Goals as goal

pub loop-pair-preserved : goal.loop-pair-preserved
loop-pair-preserved c =
    pair_words_more c.args.pairs.now c.loop-pair.pair-index (record { row = Model 0; weight = 0 }) c.args.out.now c.loop-pair.out c.push.new.self c.push-in-loop-pair.new.self c.row_word.result (omega arith) c.row_word.ensures c.loop-pair.invariant c.in_ok-push.ensures.ok c.in_ok-push-2.ensures.ok
