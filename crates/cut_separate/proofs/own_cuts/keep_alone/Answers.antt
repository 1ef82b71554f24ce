use Rattle.std.proofs.Common.{◌≡◌, ◌∙◌, false, int_lt, sym}
use Rattle.cut_separate.specs.Violations.{rounded_activity, rounded_row_least}
use Rattle.cut_separate.proofs.Violating.{quiet_alone}
use Rattle.cut_separate.proofs.own_cuts.keep_alone.Goals as goal

pub violates_rounded-requires-clause-row : goal.violates_rounded-requires-clause-row
violates_rounded-requires-clause-row c =
    rw c.root.ensures (record { terms = rw c.parts-limits.ensures.limits.bounds.box c.requires.row.terms; narrow = c.requires.row.narrow })

pub violates_rounded-requires-clause-near : goal.violates_rounded-requires-clause-near
violates_rounded-requires-clause-near c =
    rw c.root.ensures c.requires.near

pub returns-then-not-violates_rounded : goal.returns-then-not-violates_rounded
returns-then-not-violates_rounded c =
    let met : int_lt (rounded_activity c.args.divisor c.args.point.now c.args.row.now.terms) (rounded_row_least c.args.model.now.root c.args.row.now c.args.divisor) ≡ false = sym (rw c.root.ensures at c.if-not-violates_rounded.ensures) in
    sym (quiet_alone c.args.model.now c.args.cuts.now c.args.point.now c.args.kept.now c.args.name c.args.row.now c.args.divisor c.requires.named c.requires.row met)
