use Rattle.std.proofs.Common.{◌≡◌, ◌∙◌, ◌+◌, ◌-◌, ◌<◌, ◌≤◌, min, get_or, set, ℤ, pos, ◌≤ℤ◌, ◌<ℤ◌, FitsSigned, to_z, of_z, refl, sym, ap, arith}
use Rattle.std.specs.Int.{w128}
use Rattle.std.proofs.lemmas.Int.{ints, to_z-of_z}
use Rattle.safe_bound.specs.declared.limits.TheConstants.{MAX_MULTIPLIER}
use Rattle.safe_bound.specs.Bounds.{numerator}
use Rattle.dual_ascent.proofs.Choosing.{reached_fits, reached_is, fall_choice, drop_choice, test_less, test_not_less, test_at_most, test_more, same_gain, same_place, lowered_small}
use Rattle.dual_ascent.proofs.NextMultipliers.{row_stays_high, zero_less}
use Rattle.dual_ascent.proofs.climb.choice_below.Goals.{then-down-gt0+else-whole-gain, else-down-gt0}
use Rattle.dual_ascent.proofs.climb.choice_below.Goals as goal

pub returns-then-gain-le0 : goal.returns-then-gain-le0
returns-then-gain-le0 c =
    let m = c.args.model.now in
    let cuts = c.args.cuts.now in
    let s = c.args.bounds.now in
    let v = c.args.kept.now in
    let none = test_at_most _ _ (rw (to_z-of_z w128 c.gain-gain.result (record { sfits = c.gain-gain.type_inv })) at c.if-gain-le0.true) in
    let down : c.saturating_sub-down.result ≡ get_or v.mults c.args.row 0 - c.args.step_size = c.saturating_sub-down.ensures ∙ ap (λ ys. get_or ys c.args.row 0 - c.args.step_size) c.mults.ensures in
    row_stays_high m cuts s v c.args.row c.args.step_size c.parts-limits.ensures.limits c.requires.cuts c.requires.kept c.requires.known c.gain-gain.result c.requires.step c.requires.above (same_gain m cuts s v.mults c.args.row (pos 0) c.gain-gain.result c.saturating_sub-down.result _ down c.gain-gain.ensures) none

pub overflow_add-result : goal.overflow_add-result
overflow_add-result c =
    let m = c.args.model.now in
    let cuts = c.args.cuts.now in
    let s = c.args.bounds.now in
    let v = c.args.kept.now in
    let gain = to_z-of_z w128 c.gain-gain.result (record { sfits = c.gain-gain.type_inv }) in
    let whole_fits : FitsSigned w128 c.gain-whole.result = record { sfits = c.gain-whole.type_inv } in
    let more = test_less _ _ (rw (gain, to_z-of_z w128 c.gain-whole.result whole_fits) at c.if-whole-gain.true) in
    reached_fits m cuts s v c.args.row c.args.step_size c.parts-limits.ensures.limits c.requires.cuts c.requires.within c.requires.kept c.requires.known 0 c.gain-gain.result c.gain-whole.result c.numerator.result (omega arith) c.numerator.ensures (rw gain at c.gain-whole.ensures) more whole_fits (record { sfits = c.numerator.type_inv })

pub returns-then-whole-gain : goal.returns-then-whole-gain
returns-then-whole-gain c =
    let m = c.args.model.now in
    let cuts = c.args.cuts.now in
    let s = c.args.bounds.now in
    let v = c.args.kept.now in
    let gain = to_z-of_z w128 c.gain-gain.result (record { sfits = c.gain-gain.type_inv }) in
    let whole_fits : FitsSigned w128 c.gain-whole.result = record { sfits = c.gain-whole.type_inv } in
    let some = test_more _ _ (rw gain at c.if-gain-le0.false) in
    let more = test_less _ _ (rw (gain, to_z-of_z w128 c.gain-whole.result whole_fits) at c.if-whole-gain.true) in
    let down : c.saturating_sub-down.result ≡ get_or v.mults c.args.row 0 - c.args.step_size = c.saturating_sub-down.ensures ∙ ap (λ ys. get_or ys c.args.row 0 - c.args.step_size) c.mults.ensures in
    let whole = rw gain at c.gain-whole.ensures in
    let sum = reached_is m cuts s v c.args.row c.args.step_size c.parts-limits.ensures.limits c.requires.cuts c.requires.within c.requires.kept c.requires.known 0 c.gain-gain.result c.gain-whole.result c.numerator.result (omega arith) c.numerator.ensures whole more whole_fits (record { sfits = c.numerator.type_inv }) in
    drop_choice m cuts s v c.args.row c.args.step_size c.parts-limits.ensures.limits c.requires.cuts c.requires.within c.requires.kept c.requires.known c.saturating_sub-down.result c.gain-gain.result c.gain-whole.result _ c.requires.above down c.gain-gain.ensures some whole more refl sum

pub overflow_add-result-2 : goal.overflow_add-result-2
overflow_add-result-2 c =
    let m = c.args.model.now in
    let cuts = c.args.cuts.now in
    let s = c.args.bounds.now in
    let v = c.args.kept.now in
    let gain_fits : FitsSigned w128 c.gain-gain.result = record { sfits = c.gain-gain.type_inv } in
    let some = test_more _ _ (rw (to_z-of_z w128 c.gain-gain.result gain_fits) at c.if-gain-le0.false) in
    let down : c.saturating_sub-down.result ≡ get_or v.mults c.args.row 0 - c.args.step_size = c.saturating_sub-down.ensures ∙ ap (λ ys. get_or ys c.args.row 0 - c.args.step_size) c.mults.ensures in
    reached_fits m cuts s v c.args.row c.args.step_size c.parts-limits.ensures.limits c.requires.cuts c.requires.within c.requires.kept c.requires.known c.saturating_sub-down.result (pos 0) c.gain-gain.result c.numerator-2.result (lowered_small v.mults c.args.row c.args.step_size c.saturating_sub-down.result c.requires.kept.mults.small down) c.numerator-2.ensures c.gain-gain.ensures some gain_fits (record { sfits = c.numerator-2.type_inv })

pub returns : goal.returns
returns c =
    let m = c.args.model.now in
    let cuts = c.args.cuts.now in
    let s = c.args.bounds.now in
    let v = c.args.kept.now in
    let gain_fits : FitsSigned w128 c.gain-gain.result = record { sfits = c.gain-gain.type_inv } in
    let gain = to_z-of_z w128 c.gain-gain.result gain_fits in
    let some = test_more _ _ (rw gain at c.if-gain-le0.false) in
    let down : c.saturating_sub-down.result ≡ get_or v.mults c.args.row 0 - c.args.step_size = c.saturating_sub-down.ensures ∙ ap (λ ys. get_or ys c.args.row 0 - c.args.step_size) c.mults.ensures in
    let small = lowered_small v.mults c.args.row c.args.step_size c.saturating_sub-down.result c.requires.kept.mults.small down in
    let sum = reached_is m cuts s v c.args.row c.args.step_size c.parts-limits.ensures.limits c.requires.cuts c.requires.within c.requires.kept c.requires.known c.saturating_sub-down.result (pos 0) c.gain-gain.result c.numerator-2.result small c.numerator-2.ensures c.gain-gain.ensures some gain_fits (record { sfits = c.numerator-2.type_inv }) in
    let last : numerator m cuts s (set v.mults c.args.row 0) ≤ℤ numerator m cuts s (set v.mults c.args.row c.saturating_sub-down.result) =
    elim c.if-down-gt0.branch [
      | then-down-gt0+else-whole-gain w ↦
          (let less = test_not_less _ _ (rw (gain, to_z-of_z w128 w.gain-whole.result (record { sfits = w.gain-whole.type_inv })) at w.if-whole-gain.false) in
          zero_less (numerator m cuts s (set v.mults c.args.row 0)) (numerator m cuts s (set v.mults c.args.row c.saturating_sub-down.result)) (numerator m cuts s v.mults) c.gain-gain.result w.gain-whole.result c.gain-gain.ensures some (rw gain at w.gain-whole.ensures) less)
      | else-down-gt0 w ↦ same_place m cuts s v.mults c.args.row c.saturating_sub-down.result (omega (arith, w.if-down-gt0.false))
    ] in
    fall_choice m cuts s v c.args.row c.args.step_size c.parts-limits.ensures.limits c.requires.cuts c.requires.within c.requires.kept c.requires.known c.saturating_sub-down.result c.gain-gain.result _ c.requires.above down small c.gain-gain.ensures some last refl sum
