use Rattle.std.proofs.Common.{◌∙◌, sym, arith}
use Rattle.std.proofs.lemmas.List.Sums.{prefix_len-drop_all, prefix_len-drop_no, prefix_len-drop_yes}
use Rattle.ip_core.specs.Decimals.{is_digit}
use Rattle.ip_core.proofs.numeral.count_digits.Goals as goal

pub loop-count-init : goal.loop-count-init
loop-count-init c = record { front = omega arith; within = omega arith }

pub loop-count-preserved : goal.loop-count-preserved
loop-count-preserved c =
    let more = prefix_len-drop_yes is_digit c.args.bytes.now c.loop-count.count 0 c.loop-count-test.true (sym c.is_digit.ensures ∙ c.if-is_digit.true) in
    let front = c.loop-count.invariant.front in
    let before = c.loop-count-test.true in
    record { front = omega arith; within = omega arith }

pub returns-else-is_digit-clause-value : goal.returns-else-is_digit-clause-value
returns-else-is_digit-clause-value c =
    let stop = prefix_len-drop_no is_digit c.args.bytes.now c.loop-count.count 0 c.loop-count-test.true (sym c.is_digit.ensures ∙ c.if-is_digit.false) in
    let front = c.loop-count.invariant.front in
    omega arith

pub returns-after-loop-count-clause-value : goal.returns-after-loop-count-clause-value
returns-after-loop-count-clause-value c =
    let stop = prefix_len-drop_all is_digit c.args.bytes.now c.loop-count.count (omega arith) in
    let front = c.loop-count.invariant.front in
    omega arith

pub returns-after-loop-count-clause-within : goal.returns-after-loop-count-clause-within
returns-after-loop-count-clause-within c = c.loop-count.invariant.within
