use Rattle.std.proofs.Common.{rules, sym}
use Rattle.cert_check.proofs.Walking.{high_child}
use Rattle.cert_check.proofs.walk.Walk.enter_high.Goals as goal

pub returns : goal.returns
returns c =
    high_child (record { lows = c.self.inside.lows; highs = c.self.inside.highs }) c.args.self.now c.set.new.self c.self.inside.path.items c.push.new.self.items c.args.col c.args.next (sym c.self.view_is) (search rules) (search rules)
