use Rattle.std.proofs.Common.{◌∙◌, sym, refl, w64, w16, FitsSigned}
use Rattle.std.proofs.lemmas.Int.{to_z-of_z}
use Rattle.width_admit.proofs.Decimals.{above_of_whole}
use Rattle.width_admit.proofs.HeldNumbers.{scaled_is}
use Rattle.width_admit.proofs.scale.scaled_value.Goals as goal

pub power-power-requires-clause-sum : goal.power-power-requires-clause-sum
power-power-requires-clause-sum c =
    let fits : FitsSigned w16 c.exponent.result = record { sfits = c.exponent.type_inv } in
    rw (to_z-of_z w16 c.exponent.result fits, c.exponent.ensures.value) (above_of_whole c.args.value c.args.exponent c.exponent.ensures.reduced c.requires.whole)

pub returns : goal.returns
returns c =
    let fits : FitsSigned w64 c.signed_size.result = record { sfits = c.signed_size.type_inv } in
    let mantissa : FitsSigned w64 c.mantissa-mantissa.result = record { sfits = c.mantissa-mantissa.type_inv } in
    let exponent : FitsSigned w16 c.exponent.result = record { sfits = c.exponent.type_inv } in
    let whole = scaled_is c.args.value c.args.exponent c.requires.small c.exponent.ensures.reduced c.requires.whole in
    to_z-of_z w64 c.signed_size.result fits ∙ c.signed_size.ensures
    ∙ rw (c.held_size.ensures, c.unsigned_abs.ensures.value, c.power-power.ensures, to_z-of_z w64 c.mantissa-mantissa.result mantissa, to_z-of_z w16 c.exponent.result exponent, c.mantissa-mantissa.ensures, c.exponent.ensures.value) refl
    ∙ sym whole
