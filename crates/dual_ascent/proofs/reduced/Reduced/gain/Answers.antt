use Rattle.std.proofs.Common.{◌≡◌, ◌∙◌, ◌<◌, ◌≤◌, ◌^◌, length, get_or, set, ℤ, pos, ◌-ℤ◌, ◌*ℤ◌, unsigned_abs, FitsSigned, w64, to_z, of_z, sym, ap, arith}
use Rattle.std.specs.Int.{w128, int_max}
use Rattle.std.proofs.lemmas.Int.{to_z-of_z}
use Rattle.ip_core.specs.Numbers.{int_at}
use Rattle.ip_core.specs.declared.row.Row.{Row}
use Rattle.safe_bound.specs.Bounds.{row_of, numerator}
use Rattle.dual_ascent.specs.Kept.{lack}
use Rattle.dual_ascent.proofs.Changes.{change}
use Rattle.dual_ascent.proofs.GainSums.{gain_exact}
use Rattle.dual_ascent.proofs.KeptGains.{change_small, gain_kept, kept_costs_small, lack_small, loss_small}
use Rattle.dual_ascent.proofs.RowFacts.{row_light}
use Rattle.dual_ascent.proofs.reduced.Reduced.gain.Goals as goal

module _ (c : goal.After-as_slice-4) where
  is_by : c.multiplier_change-by.result ≡ change c.args.self.now.mults c.args.row c.args.mult
  is_by = c.multiplier_change-by.ensures ∙ ap (λ xs. pos c.args.mult -ℤ pos (get_or xs c.args.row 0)) c.as_slice.ensures

  by_exact : to_z w64 (of_z w64 c.multiplier_change-by.result) ≡ change c.args.self.now.mults c.args.row c.args.mult
  by_exact = to_z-of_z w64 c.multiplier_change-by.result (record { sfits = c.multiplier_change-by.type_inv }) ∙ is_by

  lack_exact : to_z w128 (of_z w128 c.lack-lack.result) ≡ lack c.args.model.now c.args.cuts.now c.args.self.now c.args.row
  lack_exact = to_z-of_z w128 c.lack-lack.result (record { sfits = c.lack-lack.type_inv }) ∙ c.lack-lack.ensures

  is_terms : c.as_slice-2.result.now ≡ (row_of c.args.model.now c.args.cuts.now c.args.row).terms
  is_terms = c.as_slice-2.ensures ∙ ap (λ (r : Row). r.terms) c.row_at.ensures

pub gain_above-requires-clause-terms : goal.gain_above-requires-clause-terms
gain_above-requires-clause-terms c =
    rw (c.as_slice-3.ensures, is_terms c, c.requires.kept.activities.costs_long) (row_light c.args.model.now c.args.cuts.now c.args.row c.parts-limits.ensures.limits c.requires.cuts c.requires.known)

pub gain_above-requires-clause-costs : goal.gain_above-requires-clause-costs
gain_above-requires-clause-costs c =
    rw c.as_slice-3.ensures (kept_costs_small c.args.model.now c.args.cuts.now c.args.bounds.now c.args.self.now c.parts-limits.ensures.limits c.requires.cuts c.requires.kept)

pub gain_above-requires-clause-small : goal.gain_above-requires-clause-small
gain_above-requires-clause-small c =
    rw (by_exact c) (change_small c.args.model.now c.args.cuts.now c.args.bounds.now c.args.self.now c.args.row c.parts-limits.ensures.limits c.requires.cuts c.requires.within c.requires.kept c.requires.known c.args.mult c.requires.small)

pub gain_above-requires-clause-lack : goal.gain_above-requires-clause-lack
gain_above-requires-clause-lack c =
    rw (lack_exact c) (lack_small c.args.model.now c.args.cuts.now c.args.bounds.now c.args.self.now c.args.row c.parts-limits.ensures.limits c.requires.cuts c.requires.within c.requires.kept c.requires.known)

pub gain_above-requires-clause-loss : goal.gain_above-requires-clause-loss
gain_above-requires-clause-loss c =
    rw (c.as_slice-3.ensures, c.as_slice-4.ensures, is_terms c, by_exact c) (loss_small c.args.model.now c.args.cuts.now c.args.bounds.now c.args.self.now c.args.row c.parts-limits.ensures.limits c.requires.cuts c.requires.within c.requires.kept c.requires.known c.args.mult c.requires.small)

pub returns : goal.returns
returns c =
    let by_is : c.multiplier_change-by.result ≡ change c.args.self.now.mults c.args.row c.args.mult = c.multiplier_change-by.ensures ∙ ap (λ xs. pos c.args.mult -ℤ pos (get_or xs c.args.row 0)) c.as_slice.ensures in
    let by : to_z w64 (of_z w64 c.multiplier_change-by.result) ≡ change c.args.self.now.mults c.args.row c.args.mult = to_z-of_z w64 c.multiplier_change-by.result (record { sfits = c.multiplier_change-by.type_inv }) ∙ by_is in
    let short : to_z w128 (of_z w128 c.lack-lack.result) ≡ lack c.args.model.now c.args.cuts.now c.args.self.now c.args.row = to_z-of_z w128 c.lack-lack.result (record { sfits = c.lack-lack.type_inv }) ∙ c.lack-lack.ensures in
    let terms : c.as_slice-2.result.now ≡ (row_of c.args.model.now c.args.cuts.now c.args.row).terms = c.as_slice-2.ensures ∙ ap (λ (r : Row). r.terms) c.row_at.ensures in
    let exact = to_z-of_z w128 c.gain_above.result (record { sfits = c.gain_above.type_inv }) in
    let held = rw (to_z-of_z w128 c.args.floor c.ranges.floor) at c.gain_above.ensures in
    let value = gain_exact c.gain_above.result c.args.floor _ _ _ _ _ _ _ _ _ _ c.as_slice-3.ensures c.as_slice-4.ensures terms by short held in
    let kept = gain_kept c.args.model.now c.args.cuts.now c.args.bounds.now c.args.self.now c.args.row c.parts-limits.ensures.limits c.requires.cuts c.requires.within c.requires.kept c.requires.known c.args.mult in
    exact ∙ value ∙ ap (int_max c.args.floor) kept
