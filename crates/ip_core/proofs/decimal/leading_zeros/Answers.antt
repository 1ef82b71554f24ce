use Rattle.std.proofs.Common.{◌∙◌, ◌++◌, sym, ap, arith}
use Rattle.std.proofs.lemmas.Bool.{ne_eqb}
use Rattle.std.proofs.lemmas.List.{length-append}
use Rattle.std.proofs.lemmas.List.Sums.{prefix_len-drop_all, prefix_len-drop_no, prefix_len-drop_yes}
use Rattle.ip_core.specs.Decimals.{is_zero}
use Rattle.ip_core.proofs.decimal.leading_zeros.Goals as goal

pub loop-count-init : goal.loop-count-init
loop-count-init c = record { front = omega arith; within = omega arith }

pub loop-count-preserved : goal.loop-count-preserved
loop-count-preserved c =
    let all = c.args.whole.now ++ c.args.fraction.now in
    let sum = length-append c.args.whole.now c.args.fraction.now in
    let before = c.loop-count-test.true in
    let more = prefix_len-drop_yes is_zero all c.loop-count.count 0 (omega arith) (ap is_zero (sym c.digit_at.ensures ∙ c.if-digit_at-eq48.true)) in
    let front = c.loop-count.invariant.front in
    record { front = omega arith; within = omega arith }

pub returns-else-digit_at-eq48-clause-value : goal.returns-else-digit_at-eq48-clause-value
returns-else-digit_at-eq48-clause-value c =
    let all = c.args.whole.now ++ c.args.fraction.now in
    let sum = length-append c.args.whole.now c.args.fraction.now in
    let before = c.loop-count-test.true in
    let stop = prefix_len-drop_no is_zero all c.loop-count.count 0 (omega arith) (ap is_zero (sym c.digit_at.ensures) ∙ ne_eqb _ _ c.if-digit_at-eq48.false) in
    let front = c.loop-count.invariant.front in
    omega arith

pub returns-after-loop-count-clause-value : goal.returns-after-loop-count-clause-value
returns-after-loop-count-clause-value c =
    let all = c.args.whole.now ++ c.args.fraction.now in
    let sum = length-append c.args.whole.now c.args.fraction.now in
    let after = c.loop-count-test.false in
    let stop = prefix_len-drop_all is_zero all c.loop-count.count (omega arith) in
    let front = c.loop-count.invariant.front in
    omega arith
