use Rattle.std.proofs.Common.{◌≡◌, ◌∙◌, ◌^◌, ◌≤◌, get_or, ℤ, pos, ◌-ℤ◌, unsigned_abs, FitsSigned, w64, to_z, of_z, rules, refl, ap, arith}
use Rattle.std.specs.Int.{w128}
use Rattle.std.proofs.lemmas.Int.{to_z-of_z}
use Rattle.ip_core.specs.Numbers.{int_at}
use Rattle.ip_core.specs.declared.row.Row.{Row}
use Rattle.safe_bound.specs.Bounds.{row_of}
use Rattle.safe_bound.proofs.Sizes.{small_fits}
use Rattle.dual_ascent.specs.Kept.{lack}
use Rattle.dual_ascent.proofs.CostMoves.{less_fits, less_is}
use Rattle.dual_ascent.proofs.KeptGains.{lack_small, active_small}
use Rattle.dual_ascent.proofs.reduced.Reduced.lack.Goals as goal

-- the row's `least` and its activity, less each other
module _ (c : goal.After-result-1) where
  least_fits : FitsSigned w64 c.row_at.result.now.least
  least_fits = search rules

  is_least : c.from.result ≡ (row_of c.args.model.now c.args.cuts.now c.args.row).least
  is_least = c.from.ensures ∙ to_z-of_z w64 c.row_at.result.now.least least_fits ∙ ap (λ (r : Row). r.least) c.row_at.ensures

  is_active : get_or c.as_slice.result.now c.args.row (pos 0) ≡ int_at c.args.self.now.active c.args.row
  is_active = ap (λ xs. get_or xs c.args.row (pos 0)) c.as_slice.ensures

  active_fits : FitsSigned w128 (get_or c.as_slice.result.now c.args.row (pos 0))
  active_fits = rw is_active (small_fits (int_at c.args.self.now.active c.args.row) (2 ^ 50) (active_small c.args.model.now c.args.cuts.now c.args.bounds.now c.args.self.now c.args.row c.parts-limits.ensures.limits c.requires.cuts c.requires.within c.requires.kept c.requires.known) (omega arith))

  is_lack : c.from.result -ℤ get_or c.as_slice.result.now c.args.row (pos 0) ≡ lack c.args.model.now c.args.cuts.now c.args.self.now c.args.row
  is_lack = rw (is_least, is_active) refl

  lack_fits : FitsSigned w128 (lack c.args.model.now c.args.cuts.now c.args.self.now c.args.row)
  lack_fits = small_fits (lack c.args.model.now c.args.cuts.now c.args.self.now c.args.row) (2 ^ 52) (lack_small c.args.model.now c.args.cuts.now c.args.bounds.now c.args.self.now c.args.row c.parts-limits.ensures.limits c.requires.cuts c.requires.within c.requires.kept c.requires.known) (omega arith)

pub overflow_sub-result : goal.overflow_sub-result
overflow_sub-result c = less_fits c.from.result _ _ (record { sfits = c.from.type_inv }) (active_fits c) (is_lack c) (lack_fits c)

pub returns : goal.returns
returns c = less_is c.from.result _ _ (record { sfits = c.from.type_inv }) (active_fits c) (is_lack c) (lack_fits c)
