use Rattle.std.proofs.Common.{◌≡◌, ◌∙◌, ◌+◌, ◌-◌, ◌<◌, ◌≤◌, min, get_or, ℤ, pos, ◌≤ℤ◌, ◌<ℤ◌, FitsSigned, to_z, of_z, refl, sym, ap, arith}
use Rattle.std.specs.Int.{w128}
use Rattle.std.proofs.lemmas.Int.{ints, to_z-of_z}
use Rattle.safe_bound.specs.declared.limits.TheConstants.{MAX_MULTIPLIER}
use Rattle.dual_ascent.specs.Kept.{lack}
use Rattle.dual_ascent.proofs.Choosing.{neither_even, test_not_less}
use Rattle.dual_ascent.proofs.NextMultipliers.{row_stays_even}
use Rattle.dual_ascent.proofs.climb.choice_at.Goals as goal

pub returns-else-lack-lt0 : goal.returns-else-lack-lt0
returns-else-lack-lt0 c =
    let exact = to_z-of_z w128 c.lack-lack.result (record { sfits = c.lack-lack.type_inv }) in
    let high = test_not_less _ _ (rw exact at c.if-lack-gt0.false) in
    let low = test_not_less _ _ (rw exact at c.if-lack-lt0.false) in
    let even : lack c.args.model.now c.args.cuts.now c.args.kept.now c.args.row ≡ pos 0 = sym c.lack-lack.ensures ∙ neither_even c.lack-lack.result high low in
    row_stays_even c.args.model.now c.args.cuts.now c.args.bounds.now c.args.kept.now c.args.row c.args.step_size c.parts-limits.ensures.limits c.requires.cuts c.requires.kept c.requires.known even
