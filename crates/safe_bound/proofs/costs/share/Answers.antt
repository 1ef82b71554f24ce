use Rattle.std.proofs.Common.{◌≤◌, unsigned_abs, arith}
use Rattle.ip_core.specs.Numbers.{int_at}
use Rattle.ip_core.specs.Sides.{reach}
use Rattle.safe_bound.proofs.Shares.{reached_product_within}
use Rattle.safe_bound.proofs.costs.share.Goals as goal

pub product-low-requires-clause-narrow : goal.product-low-requires-clause-narrow
product-low-requires-clause-narrow c =
    let s = c.args.bounds.now in
    let small : unsigned_abs (int_at s.lows c.args.col) ≤ reach s c.args.col = omega arith in
    rw c.lows.ensures.value (omega (arith, reached_product_within s c.args.costs.now (int_at s.lows c.args.col) c.args.col c.requires.known small))

pub product-high-requires-clause-narrow : goal.product-high-requires-clause-narrow
product-high-requires-clause-narrow c =
    let s = c.args.bounds.now in
    let small : unsigned_abs (int_at s.highs c.args.col) ≤ reach s c.args.col = omega arith in
    rw c.highs.ensures.value (omega (arith, reached_product_within s c.args.costs.now (int_at s.highs c.args.col) c.args.col c.requires.known small))
