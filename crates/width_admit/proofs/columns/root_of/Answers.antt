use Rattle.std.proofs.Common.{◌≡◌, ◌∙◌, refl}
use Rattle.width_admit.specs.Columns.{root}
use Rattle.width_admit.proofs.Boxes.{same_lows, same_highs}
use Rattle.width_admit.proofs.columns.root_of.Goals as goal

pub returns : goal.returns
returns c =
    let low : c.in_ok-lows.lows ≡ (root c.args.upper c.args.cols.now).lows = c.in_ok-lows.ensures ∙ same_lows c.args.upper 0 c.args.cols.now c.requires.bounds in
    let high : c.in_ok-highs.highs ≡ (root c.args.upper c.args.cols.now).highs = c.in_ok-highs.ensures ∙ same_highs c.args.upper 0 c.args.cols.now c.requires.bounds in
    c.box_of.ensures ∙ rw (low, high) refl
