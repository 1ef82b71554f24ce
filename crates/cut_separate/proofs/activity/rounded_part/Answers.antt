use Rattle.std.proofs.Common.{◌≡◌, pos, w64, FitsSigned, rules, arith}
use Rattle.std.proofs.lemmas.Int.{to_z-of_z}
use Rattle.ip_core.specs.Numbers.{int_at}
use Rattle.ip_core.specs.Quotients.{ceiling_quotient}
use Rattle.cut_separate.proofs.Nearness.{near_rounded}
use Rattle.cut_separate.proofs.activity.rounded_part.Goals as goal

pub product-requires : goal.product-requires
product-requires c =
    let t = c.args.term.now in
    let x = int_at c.args.values.now t.col in
    let first : FitsSigned w64 t.coef = search rules in
    let second : FitsSigned w64 x = search rules in
    let value : c.round_up.result ≡ ceiling_quotient t.coef (pos c.args.divisor) = rw (to_z-of_z w64 t.coef first) at c.round_up.ensures.value in
    rw (to_z-of_z w64 c.round_up.result (record { sfits = c.round_up.type_inv }), to_z-of_z w64 x second, value)
    (omega (arith, c.requires.narrow, near_rounded c.args.root.now c.args.values.now c.args.divisor c.requires.above c.requires.near t))
