use Rattle.std.proofs.Common.{sym, subst, IfSome}
use Rattle.version_store.specs.Gathers.{AreEnded}
use Rattle.carrier_tests.proofs.drive.driven_history.Goals as goal

pub drive-requires-clause-board : goal.drive-requires-clause-board
drive-requires-clause-board g c κs within = c.in_ok-board.ensures.board

pub returns : goal.returns
returns g c =
    let run = AreEnded c.in_ok-board.board c.args.tasker.now c.args.limits.now in
    let ended = subst (λ o. IfSome o (λ over. run over.items)) c.in-Some.is
    c.in_ok-carriers-2.ensures in
    c.in_ok-gather.ensures c.args.tasker.now c.args.limits.now
    (subst (λ l. run l) (sym c.of.ensures) ended)
