use Rattle.std.proofs.Common.{◌≡◌, ◌∙◌, ◌<◌, ◌≤◌, ◌^◌, length, get_or, set, ℤ, pos, ◌-ℤ◌, ◌*ℤ◌, unsigned_abs, FitsSigned, w64, to_z, of_z, sym, ap, arith, length-append}
use Rattle.std.specs.Int.{w128}
use Rattle.std.proofs.lemmas.Int.{to_z-of_z}
use Rattle.ip_core.specs.Numbers.{int_at}
use Rattle.ip_core.specs.Rows.{coefficient}
use Rattle.ip_core.specs.declared.row.Row.{Row}
use Rattle.safe_bound.specs.Bounds.{row_of, numerator}
use Rattle.dual_ascent.proofs.Candidates.{multipliers_set}
use Rattle.dual_ascent.proofs.Changes.{change, reduced_cost-set}
use Rattle.dual_ascent.proofs.CostMoves.{moved_along}
use Rattle.dual_ascent.proofs.KeptGains.{change_small, kept_costs_small}
use Rattle.dual_ascent.proofs.RowFacts.{row_light}
use Rattle.dual_ascent.proofs.reduced.Reduced.change.Goals as goal

pub lower_costs-requires : goal.lower_costs-requires
lower_costs-requires c =
    let m = c.args.model.now in
    let cuts = c.args.cuts.now in
    let s = c.args.bounds.now in
    let v = c.args.self.now in
    let valid = c.parts-limits.ensures.limits in
    let terms : c.as_slice-2.result.now ≡ (row_of m cuts c.args.row).terms = c.as_slice-2.ensures ∙ ap (λ (r : Row). r.terms) c.row_at.ensures in
    let light = row_light m cuts c.args.row valid c.requires.cuts c.requires.known in
    let by : c.multiplier_change-by.result ≡ change v.mults c.args.row c.args.mult = c.multiplier_change-by.ensures ∙ ap (λ xs. pos c.args.mult -ℤ pos (get_or xs c.args.row 0)) c.as_slice.ensures in
    let exact = to_z-of_z w64 c.multiplier_change-by.result (record { sfits = c.multiplier_change-by.type_inv }) ∙ by in
    record {
      cuts = c.requires.cuts;
      within = c.requires.within;
      activities = c.requires.kept.activities;
      known = rw terms light.known;
      light = rw terms light.narrow;
      costs = kept_costs_small m cuts s v valid c.requires.cuts c.requires.kept;
      small = rw exact (change_small m cuts s v c.args.row valid c.requires.cuts c.requires.within c.requires.kept c.requires.known c.args.mult c.requires.small);
    }

pub returns-clause-kept : goal.returns-clause-kept
returns-clause-kept c =
    let m = c.args.model.now in
    let cuts = c.args.cuts.now in
    let v = c.args.self.now in
    let valid = c.parts-limits.ensures.limits in
    let many : c.args.row < length v.mults = omega (arith, c.requires.kept.mults.one_each, length-append m.rows cuts, c.requires.known) in
    let mults : c.set.new.self ≡ set v.mults c.args.row c.args.mult = c.set.ensures ∙ ap (λ ys. set ys c.args.row c.args.mult) c.lower_costs.ensures.mults in
    let terms : c.as_slice-2.result.now ≡ (row_of m cuts c.args.row).terms = c.as_slice-2.ensures ∙ ap (λ (r : Row). r.terms) c.row_at.ensures in
    let by : c.multiplier_change-by.result ≡ change v.mults c.args.row c.args.mult = c.multiplier_change-by.ensures ∙ ap (λ xs. pos c.args.mult -ℤ pos (get_or xs c.args.row 0)) c.as_slice.ensures in
    let exact = to_z-of_z w64 c.multiplier_change-by.result (record { sfits = c.multiplier_change-by.type_inv }) ∙ by in
    record {
      mults = rw mults (multipliers_set m cuts v.mults c.args.row c.args.mult c.requires.kept.mults c.requires.small);
      sum = rw mults (to_z-of_z w128 c.args.numerator c.ranges.numerator ∙ c.requires.value);
      costs = λ j h.
          let now = rw (exact, terms) at (c.lower_costs.ensures.costs j h) in
          rw (mults, reduced_cost-set m cuts v.mults c.args.row c.args.mult j c.requires.known many, ← c.requires.kept.costs j h) now;
      activities = moved_along m cuts c.args.bounds.now c.lower_costs.new.self c.set.new.self (to_z w128 (of_z w128 c.args.numerator)) c.lower_costs.ensures.activities;
    }
