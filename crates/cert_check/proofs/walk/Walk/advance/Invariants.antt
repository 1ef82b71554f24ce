use Rattle.std.proofs.Common.{◌≡◌}
use Rattle.cert_check.proofs.walk.Walk.advance.Given as goal

abbrev pub invariant-loop-branch : goal.invariant-loop-branch
invariant-loop-branch l = l.self.later ≡ l.fn.self.later

abbrev pub decreases-loop-branch : goal.decreases-loop-branch
decreases-loop-branch l = l.self.depth
