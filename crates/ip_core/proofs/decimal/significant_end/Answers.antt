use Rattle.std.proofs.Common.{◌∙◌, ◌++◌, take, sym, ap, arith}
use Rattle.std.proofs.lemmas.Bool.{ne_eqb}
use Rattle.std.proofs.lemmas.List.{length-append, length-take-le}
use Rattle.std.proofs.lemmas.List.Sums.{suffix_len-le-length, suffix_len-take_no, suffix_len-take_yes}
use Rattle.std.proofs.Math.Seq.{take-length}
use Rattle.ip_core.specs.Decimals.{is_zero, trailing_zeros}
use Rattle.ip_core.proofs.decimal.significant_end.Goals as goal

pub loop-end-init : goal.loop-end-init
loop-end-init c =
    let all = c.args.whole.now ++ c.args.fraction.now in
    let sum = length-append c.args.whole.now c.args.fraction.now in
    let taken = ap (λ n. trailing_zeros (take n all)) (sym sum) ∙ ap trailing_zeros (take-length all) in
    record { back = omega arith; within = omega arith }

pub digit_at-requires : goal.digit_at-requires
digit_at-requires c =
    let before = c.loop-end-test.true in
    let within = c.loop-end.invariant.within in
    record { known = omega arith }

pub loop-end-preserved : goal.loop-end-preserved
loop-end-preserved c =
    let all = c.args.whole.now ++ c.args.fraction.now in
    let before = c.loop-end-test.true in
    let within = c.loop-end.invariant.within in
    let more = suffix_len-take_yes is_zero all c.loop-end.end 0 before within (ap is_zero (sym c.digit_at.ensures ∙ c.if-digit_at-eq48.true)) in
    let back = c.loop-end.invariant.back in
    record { back = omega arith; within = omega arith }

pub returns-else-digit_at-eq48-clause-value : goal.returns-else-digit_at-eq48-clause-value
returns-else-digit_at-eq48-clause-value c =
    let all = c.args.whole.now ++ c.args.fraction.now in
    let before = c.loop-end-test.true in
    let within = c.loop-end.invariant.within in
    let stop = suffix_len-take_no is_zero all c.loop-end.end 0 before within (ap is_zero (sym c.digit_at.ensures) ∙ ne_eqb _ _ c.if-digit_at-eq48.false) in
    let back = c.loop-end.invariant.back in
    omega arith

pub returns-else-digit_at-eq48-clause-within : goal.returns-else-digit_at-eq48-clause-within
returns-else-digit_at-eq48-clause-within c = c.loop-end.invariant.within

pub returns-after-loop-end-clause-value : goal.returns-after-loop-end-clause-value
returns-after-loop-end-clause-value c =
    let all = c.args.whole.now ++ c.args.fraction.now in
    let after = c.loop-end-test.false in
    let within = c.loop-end.invariant.within in
    let few = suffix_len-le-length is_zero (take c.loop-end.end all) in
    let short = length-take-le c.loop-end.end all within in
    let back = c.loop-end.invariant.back in
    omega arith

pub returns-after-loop-end-clause-within : goal.returns-after-loop-end-clause-within
returns-after-loop-end-clause-within c = c.loop-end.invariant.within
