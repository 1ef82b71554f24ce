use Rattle.std.proofs.Common.{w64, FitsSigned, rules, arith}
use Rattle.std.proofs.lemmas.Int.{to_z-of_z}
use Rattle.ip_core.specs.Numbers.{int_at}
use Rattle.cut_separate.proofs.Nearness.{near_part}
use Rattle.cut_separate.proofs.activity.value_part.Goals as goal

pub product-requires : goal.product-requires
product-requires c =
    let x = int_at c.args.values.now c.args.term.now.col in
    let first : FitsSigned w64 c.args.term.now.coef = search rules in
    let second : FitsSigned w64 x = search rules in
    rw (to_z-of_z w64 c.args.term.now.coef first, to_z-of_z w64 x second) (omega (arith, c.requires.narrow, near_part c.args.root.now c.args.values.now c.requires.near c.args.term.now))
