use Rattle.std.proofs.Common.{◌≡◌, ◌<◌, ◌≤◌, ◌^◌, set, ℤ, ◌+ℤ◌, unsigned_abs, FitsSigned, arith}
use Rattle.std.specs.Int.{w128}
use Rattle.ip_core.proofs.RunningSums.{both_fit, both_are}
use Rattle.safe_bound.specs.Bounds.{numerator}
use Rattle.safe_bound.proofs.Sizes.{small_fits}
use Rattle.dual_ascent.proofs.CostMoves.{gain_all, above_least}
use Rattle.dual_ascent.proofs.KeptGains.{own_numerator_small, next_numerator_small}
use Rattle.dual_ascent.proofs.reduced.Reduced.trial.Goals as goal

module _ (c : goal.After-gain) where
  own_small : unsigned_abs (numerator c.args.model.now c.args.cuts.now c.args.bounds.now c.args.self.now.mults) < 2 ^ 123
  own_small = own_numerator_small c.args.model.now c.args.cuts.now c.args.bounds.now c.args.self.now c.args.row c.parts-limits.ensures.limits c.requires.cuts c.requires.within c.requires.kept c.requires.known

  next_small : unsigned_abs (numerator c.args.model.now c.args.cuts.now c.args.bounds.now (set c.args.self.now.mults c.args.row c.args.mult)) < 2 ^ 123
  next_small = next_numerator_small c.args.model.now c.args.cuts.now c.args.bounds.now c.args.self.now c.args.row c.parts-limits.ensures.limits c.requires.cuts c.requires.within c.requires.kept c.requires.known c.args.mult c.requires.small

  own_fits : FitsSigned w128 c.args.self.now.numerator
  own_fits = rw c.requires.kept.sum (small_fits (numerator c.args.model.now c.args.cuts.now c.args.bounds.now c.args.self.now.mults) (2 ^ 123) (omega (arith, own_small)) (omega arith))

  sum : c.args.self.now.numerator +ℤ c.gain.result ≡ numerator c.args.model.now c.args.cuts.now c.args.bounds.now (set c.args.self.now.mults c.args.row c.args.mult)
  sum = gain_all (numerator c.args.model.now c.args.cuts.now c.args.bounds.now (set c.args.self.now.mults c.args.row c.args.mult)) (numerator c.args.model.now c.args.cuts.now c.args.bounds.now c.args.self.now.mults) c.args.self.now.numerator _ c.gain.result c.gain.ensures (above_least (numerator c.args.model.now c.args.cuts.now c.args.bounds.now (set c.args.self.now.mults c.args.row c.args.mult)) (numerator c.args.model.now c.args.cuts.now c.args.bounds.now c.args.self.now.mults) next_small own_small) c.requires.kept.sum

  next_fits : FitsSigned w128 (numerator c.args.model.now c.args.cuts.now c.args.bounds.now (set c.args.self.now.mults c.args.row c.args.mult))
  next_fits = small_fits (numerator c.args.model.now c.args.cuts.now c.args.bounds.now (set c.args.self.now.mults c.args.row c.args.mult)) (2 ^ 123) (omega (arith, next_small)) (omega arith)

pub overflow_add-result : goal.overflow_add-result
overflow_add-result c = both_fit w128 c.args.self.now.numerator c.gain.result _ (own_fits c) (record { sfits = c.gain.type_inv }) (sum c) (next_fits c)

pub returns : goal.returns
returns c = both_are w128 c.args.self.now.numerator c.gain.result _ (own_fits c) (record { sfits = c.gain.type_inv }) (sum c) (next_fits c)
