use Rattle.std.proofs.Common.{◌-◌, arith}
use Rattle.node_pool.proofs.Paths.{one_made}
use Rattle.node_pool.proofs.bound_change.apply_all.Goals as goal

pub loop-left-preserved : goal.loop-left-preserved
loop-left-preserved c = record {
  within = omega (arith, c.loop-left.invariant.within);
  same = one_made c.args.changes.now (c.loop-left.left - 1) c.loop-left.left _ c.loop-left.bounds
      c.apply.new.bounds _ (omega (arith, c.loop-left-test.true))
      (omega (arith, c.loop-left-test.true, c.loop-left.invariant.within)) c.apply.ensures
      c.loop-left.invariant.same;
}
