use Rattle.std.proofs.Common.{◌≡◌, ◌∙◌}
use Rattle.cut_separate.specs.Candidates.{divisors_of}
use Rattle.cut_separate.proofs.Violating.{divisor_above}
use Rattle.cut_separate.proofs.own_cuts.keep_own.Goals as goal

pub keep_alone-requires-clause-above : goal.keep_alone-requires-clause-above
keep_alone-requires-clause-above c =
    let items : c.as_slice-divisor-items.result.now ≡ divisors_of c.args.row.now = c.as_slice-divisor-items.ensures ∙ c.in_ok-divisors.ensures in
    rw items (divisor_above c.args.row.now c.loop-divisor.divisor-index 0 (rw items at c.loop-divisor-test.true))
