use Rattle.std.proofs.Common.{◌≡◌, ◌∙◌, ◌+◌, ◌-◌, ◌<◌, ◌≤◌, min, get_or, ℤ, pos, ◌≤ℤ◌, ◌<ℤ◌, FitsSigned, to_z, of_z, refl, sym, ap, arith}
use Rattle.std.specs.Int.{w128}
use Rattle.std.proofs.lemmas.Int.{ints, to_z-of_z}
use Rattle.safe_bound.specs.declared.limits.TheConstants.{MAX_MULTIPLIER}
use Rattle.dual_ascent.proofs.Choosing.{reached_fits, reached_is, own_fits, rise_choice, test_less, test_not_less, same_gain}
use Rattle.dual_ascent.proofs.NextMultipliers.{row_stays_low}
use Rattle.dual_ascent.proofs.climb.choice_above.Goals as goal

pub overflow_add-result : goal.overflow_add-result
overflow_add-result c =
    let m = c.args.model.now in
    let cuts = c.args.cuts.now in
    let s = c.args.bounds.now in
    let v = c.args.kept.now in
    let small : c.raised-up.result ≤ MAX_MULTIPLIER = omega (arith, c.raised-up.ensures) in
    let gain_fits : FitsSigned w128 c.gain-gain.result = record { sfits = c.gain-gain.type_inv } in
    let more = test_less _ _ (rw (to_z-of_z w128 c.gain-gain.result gain_fits) at c.if-gain-gt0.true) in
    reached_fits m cuts s v c.args.row c.args.step_size c.parts-limits.ensures.limits c.requires.cuts c.requires.within c.requires.kept c.requires.known c.raised-up.result (pos 0) c.gain-gain.result c.numerator.result small c.numerator.ensures c.gain-gain.ensures more gain_fits (record { sfits = c.numerator.type_inv })

pub returns-then-gain-gt0 : goal.returns-then-gain-gt0
returns-then-gain-gt0 c =
    let m = c.args.model.now in
    let cuts = c.args.cuts.now in
    let s = c.args.bounds.now in
    let v = c.args.kept.now in
    let small : c.raised-up.result ≤ MAX_MULTIPLIER = omega (arith, c.raised-up.ensures) in
    let gain_fits : FitsSigned w128 c.gain-gain.result = record { sfits = c.gain-gain.type_inv } in
    let more = test_less _ _ (rw (to_z-of_z w128 c.gain-gain.result gain_fits) at c.if-gain-gt0.true) in
    let up : c.raised-up.result ≡ min (get_or v.mults c.args.row 0 + c.args.step_size) MAX_MULTIPLIER = c.raised-up.ensures ∙ ap (λ ys. min (get_or ys c.args.row 0 + c.args.step_size) MAX_MULTIPLIER) c.mults.ensures in
    let sum = reached_is m cuts s v c.args.row c.args.step_size c.parts-limits.ensures.limits c.requires.cuts c.requires.within c.requires.kept c.requires.known c.raised-up.result (pos 0) c.gain-gain.result c.numerator.result small c.numerator.ensures c.gain-gain.ensures more gain_fits (record { sfits = c.numerator.type_inv }) in
    rise_choice m cuts s v c.args.row c.args.step_size c.parts-limits.ensures.limits c.requires.cuts c.requires.within c.requires.kept c.requires.known c.raised-up.result c.gain-gain.result _ c.requires.lacking up c.gain-gain.ensures more refl sum

pub returns-else-gain-gt0 : goal.returns-else-gain-gt0
returns-else-gain-gt0 c =
    let m = c.args.model.now in
    let cuts = c.args.cuts.now in
    let s = c.args.bounds.now in
    let v = c.args.kept.now in
    let gain_fits : FitsSigned w128 c.gain-gain.result = record { sfits = c.gain-gain.type_inv } in
    let none = test_not_less _ _ (rw (to_z-of_z w128 c.gain-gain.result gain_fits) at c.if-gain-gt0.false) in
    let up : c.raised-up.result ≡ min (get_or v.mults c.args.row 0 + c.args.step_size) MAX_MULTIPLIER = c.raised-up.ensures ∙ ap (λ ys. min (get_or ys c.args.row 0 + c.args.step_size) MAX_MULTIPLIER) c.mults.ensures in
    row_stays_low m cuts s v c.args.row c.args.step_size c.parts-limits.ensures.limits c.requires.cuts c.requires.kept c.requires.known c.gain-gain.result c.requires.lacking (same_gain m cuts s v.mults c.args.row (pos 0) c.gain-gain.result c.raised-up.result _ up c.gain-gain.ensures) none
