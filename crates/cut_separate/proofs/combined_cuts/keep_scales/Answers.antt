use Rattle.cut_separate.proofs.Trying.{scales_chain}
use Rattle.cut_separate.proofs.combined_cuts.keep_scales.Goals as goal

pub returns : goal.returns
returns c =
    scales_chain c.args.model.now c.args.cuts.now c.args.point.now c.args.pairs.now c.args.kept.now c.keep_scaled.new.kept c.keep_scaled-2.new.kept c.keep_scaled-3.new.kept c.keep_scaled-4.new.kept c.keep_scaled-5.new.kept
    c.in_ok-keep_scaled.ensures c.in_ok-keep_scaled-2.ensures c.in_ok-keep_scaled-3.ensures c.in_ok-keep_scaled-4.ensures c.in_ok-keep_scaled-5.ensures
